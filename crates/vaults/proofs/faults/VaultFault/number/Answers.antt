use Rattle.std.proofs.Common.{sym, ap}
use Rattle.vaults.specs.Fault.{vault_fault_number}
use Rattle.vaults.proofs.faults.VaultFault.number.Goals as goal

pub returns-in-GrantSelf : goal.returns-in-GrantSelf
returns-in-GrantSelf c = sym (ap vault_fault_number c.in-GrantSelf.is)
