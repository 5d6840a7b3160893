use Rattle.std.proofs.Common.{ap, sym}
use Rattle.quotas.specs.Fault.{quota_fault_number}
use Rattle.quotas.proofs.faults.QuotaFault.number.Goals as goal

pub returns-in-Grants : goal.returns-in-Grants
returns-in-Grants c = ap quota_fault_number (sym c.in-Grants.is)
