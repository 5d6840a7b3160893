use Rattle.std.proofs.Common.{ℕ, List, Ok, ◌≡◌, ◌∙◌, sym, ap, subst, remove}
use Rattle.std.specs.List.Sorted.{IsStrictlySortedBy}
use Rattle.names.specs.Name.{name_order}
use Rattle.vaults.specs.InOrder.{without, IsPlace}
use Rattle.vaults.proofs.Orders.{names_exact}
use Rattle.vaults.proofs.Elements.{sorted-without}
use Rattle.vaults.proofs.Places.{removed_there, gone_already}
use Rattle.vaults.proofs.name_sets.NameSet.remove.Goals as goal

taken : (xs ys zs : List (List ℕ)) (x : List ℕ) (i : ℕ) → IsStrictlySortedBy name_order xs → ys ≡ xs → IsPlace name_order ys x (Ok i) → zs ≡ remove xs i → IsStrictlySortedBy name_order zs
taken xs ys zs x i sorted same place after =
    subst (IsStrictlySortedBy name_order) (sym (removed_there names_exact xs ys zs x i sorted same place after)) (sorted-without names_exact xs x sorted)

pub invariant_of-self : goal.invariant_of-self
invariant_of-self c = taken c.self.inside.names.items c.deref.result.now _ c.args.name.now c.in-Ok.place c.self.invariant c.deref.ensures.value c.in-Ok.ensures c.remove.ensures.items

pub returns-in-Ok : goal.returns-in-Ok
returns-in-Ok c =
    removed_there names_exact c.self.inside.names.items c.deref.result.now _ c.args.name.now c.in-Ok.place c.self.invariant c.deref.ensures.value c.in-Ok.ensures c.remove.ensures.items
    ∙ ap (without name_order c.args.name.now) c.self.view_is

pub returns-in_default : goal.returns-in_default
returns-in_default c = gone_already names_exact c.args.self.now c.deref.result.now c.args.name.now c.in_default.field-0 (c.deref.ensures.value ∙ c.self.view_is) c.in_default.ensures
