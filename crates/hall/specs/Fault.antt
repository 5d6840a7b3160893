-- The number of each fault, and the faults of the lower layers.
use Rattle.std.specs.Prelude.{ℕ}
use Rattle.hall.specs.declared.faults.Fault.{Fault}
use Rattle.hall.specs.declared.faults.Fault.TheVariants as fault
use Rattle.vaults.specs.declared.faults.VaultFault.{VaultFault}
use Rattle.vaults.specs.declared.faults.VaultFault.TheVariants as vault
use Rattle.quotas.specs.declared.faults.QuotaFault.{QuotaFault}
use Rattle.quotas.specs.declared.faults.QuotaFault.TheVariants as quota
use Rattle.proof_trees.specs.declared.faults.ProofFault.{ProofFault}
use Rattle.proof_trees.specs.declared.faults.ProofFault.TheVariants as proof

-- the number of each fault
abbrev pub fault_number : Fault → ℕ
fault_number fault.NotIssuer = 31
fault_number fault.AlreadyHeld = 32
fault_number fault.NotHeld = 33
fault_number fault.AlreadyGranted = 34
fault_number fault.NotGranted = 35
fault_number fault.GrantSelf = 36
fault_number fault.Creds = 41
fault_number fault.Grants = 42
fault_number fault.Searches = 43
fault_number fault.Changes = 44
fault_number fault.Opens = 45
fault_number fault.NoSuchSearch = 51
fault_number fault.NotDone = 52
fault_number fault.NoProof = 53
fault_number fault.NoTenant = 62
fault_number fault.Memory = 90

-- a refusal of the journal
abbrev pub vault_fault : VaultFault → Fault
vault_fault vault.NotIssuer = fault.NotIssuer
vault_fault vault.AlreadyHeld = fault.AlreadyHeld
vault_fault vault.NotHeld = fault.NotHeld
vault_fault vault.AlreadyGranted = fault.AlreadyGranted
vault_fault vault.NotGranted = fault.NotGranted
vault_fault vault.GrantSelf = fault.GrantSelf
vault_fault vault.Memory = fault.Memory

-- a limit that is reached
abbrev pub quota_fault : QuotaFault → Fault
quota_fault quota.Creds = fault.Creds
quota_fault quota.Grants = fault.Grants
quota_fault quota.Searches = fault.Searches
quota_fault quota.Changes = fault.Changes
quota_fault quota.Opens = fault.Opens

-- a search that gives no proof
abbrev pub proof_fault : ProofFault → Fault
proof_fault proof.NotDone = fault.NotDone
proof_fault proof.NoProof = fault.NoProof
proof_fault proof.Memory = fault.Memory
