use Rattle.std.proofs.Common.{◌≡◌, ◌∙◌, ℕ, List, map, ap, sym, subst}
use Rattle.std.specs.FinMap.{from_entries}
use Rattle.names.specs.Name.{name_order}
use Rattle.quotas.specs.Quota.{Quota}
use Rattle.search.specs.Search.{settled_of}
use Rattle.search.specs.Ending.{Nothing}
use Rattle.hall.specs.Hall.{new_tenant, new_hall}
use Rattle.hall.specs.Kept.{Lists, IsIndexed}
use Rattle.hall.proofs.Reached.{hall_of}
use Rattle.hall.proofs.laws.HallChanges.{new_each}
use Rattle.hall.proofs.laws.HallSound.{new_sound}
use Rattle.hall.proofs.halls.Hall.make.Goals as goal
use Rattle.hall.proofs.halls.Hall.make.Goals.{In_ok-new}

made : (c : In_ok-new) → hall_of c.new.result c.in_ok-new.field-0 ≡ new_hall c.args.roster.items
made c =
    let seated =
    c.in_ok-new.ensures ∙ ap (λ (rows : List (List ℕ × Quota)). from_entries {R = name_order} (map (λ row. (row.0, new_tenant row.1)) rows)) c.deref.ensures.value in
    λ i. record { journal = c.new.ensures i; tenants = seated i }

pub invariant_of-result : goal.invariant_of-result
invariant_of-result c =
    subst (IsIndexed c.new-3.result) (sym (made (goal.at.invariant_of-result c).In_ok-new)) (record {
      sound = new_sound c.args.roster.items;
      listed = new_each (λ name t k r. settled_of r.search ≡ Nothing → Lists c.new-3.result name k) c.args.roster.items;
    })

pub returns-clause-hall : goal.returns-clause-hall
returns-clause-hall c = made (goal.at.returns-clause-hall c).In_ok-new
