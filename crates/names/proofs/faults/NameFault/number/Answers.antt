use Rattle.std.proofs.Common.{ap, sym}
use Rattle.names.specs.Fault.{name_fault_number}
use Rattle.names.proofs.faults.NameFault.number.Goals as goal

pub returns-in-Byte : goal.returns-in-Byte
returns-in-Byte c = ap name_fault_number (sym c.in-Byte.is)
