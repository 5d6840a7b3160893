-- The number of each fault.
use Rattle.std.specs.Prelude.{ℕ}
use Rattle.quotas.specs.declared.faults.QuotaFault.{QuotaFault}
use Rattle.quotas.specs.declared.faults.QuotaFault.TheVariants.{Creds, Grants, Searches, Changes, Opens}

-- the number of each limit's fault
abbrev pub quota_fault_number : QuotaFault → ℕ
quota_fault_number Creds = 41
quota_fault_number Grants = 42
quota_fault_number Searches = 43
quota_fault_number Changes = 44
quota_fault_number Opens = 45
