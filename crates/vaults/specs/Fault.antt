-- The number of each fault.
use Rattle.std.specs.Prelude.{ℕ}
use Rattle.vaults.specs.declared.faults.VaultFault.{VaultFault}
use Rattle.vaults.specs.declared.faults.VaultFault.TheVariants.{NotIssuer, AlreadyHeld, NotHeld}
use Rattle.vaults.specs.declared.faults.VaultFault.TheVariants.{AlreadyGranted, NotGranted, GrantSelf, Memory}

-- the number of each fault of the journal
abbrev pub vault_fault_number : VaultFault → ℕ
vault_fault_number NotIssuer = 31
vault_fault_number AlreadyHeld = 32
vault_fault_number NotHeld = 33
vault_fault_number AlreadyGranted = 34
vault_fault_number NotGranted = 35
vault_fault_number GrantSelf = 36
vault_fault_number Memory = 90
