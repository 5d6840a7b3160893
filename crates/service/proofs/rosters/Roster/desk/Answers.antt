-- The desk's tenants are the names of the rows.
use Rattle.std.proofs.Common.{◌≡◌, ◌∙◌, ap, subst, ℕ, List, map, IfOk}
use Rattle.quotas.specs.Quota.{Quota}
use Rattle.service.proofs.TenantLemmas.{names_of_tenants}
use Rattle.service.proofs.rosters.Roster.desk.Goals as goal

pub returns-clause-tenants : goal.returns-clause-tenants
returns-clause-tenants g c =
    subst (λ (names : List (List ℕ)). IfOk c.make.result (λ made. made.0 ≡ names))
    (ap (map (λ (t : List ℕ × Quota). t.0)) c.in_ok-tenants.ensures.items ∙ names_of_tenants c.args.self.now) c.make.ensures.tenants
