-- The number of each fault.
use Rattle.std.specs.Prelude.{ℕ}
use Rattle.names.specs.Fault.{name_fault_number}
use Rattle.credential_text.specs.declared.faults.CredFault.{CredFault}
use Rattle.credential_text.specs.declared.faults.CredFault.TheVariants.{Long, NoArrow, Head, BodyEmpty, Dots, LinkBase, Parts, Name, Memory}

-- the number of each fault
abbrev pub cred_fault_number : CredFault → ℕ
cred_fault_number NoArrow = 21
cred_fault_number Head = 22
cred_fault_number BodyEmpty = 23
cred_fault_number Dots = 24
cred_fault_number LinkBase = 25
cred_fault_number Parts = 26
cred_fault_number Long = 27
cred_fault_number (Name fault) = name_fault_number fault
cred_fault_number Memory = 90
