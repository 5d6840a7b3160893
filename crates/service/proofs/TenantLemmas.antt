-- Lemmas on the tenants of a roster.
use Rattle.std.proofs.Common.{◌≡◌, ℕ, List, map}
use Rattle.std.proofs.lemmas.Simd.{map-map}
use Rattle.quotas.specs.Quota.{Quota}
use Rattle.service.specs.Roster.{RosterLine, names_of, tenant_of}

-- the names of what a hall is made of are the rows' names
pub names_of_tenants : (rows : List RosterLine) → map (λ (t : List ℕ × Quota). t.0) (map tenant_of rows) ≡ names_of rows
names_of_tenants rows = map-map (λ (t : List ℕ × Quota). t.0) tenant_of rows
