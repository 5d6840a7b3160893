use Rattle.std.proofs.Common.{ℕ, List, Result, Ok, Err, OnErr, ◌∙◌, sym, ap, subst, refl}
use Rattle.std.specs.BTreeSet.{insert_key}
use Rattle.std.specs.List.Sorted.{IsStrictlySortedBy}
use Rattle.names.specs.Name.{name_order}
use Rattle.vaults.proofs.Orders.{names_exact}
use Rattle.vaults.proofs.Elements.{sorted-insert_key}
use Rattle.vaults.proofs.Places.{has_searched, inserted_there, there_already}
use Rattle.vaults.proofs.name_sets.NameSet.add.Goals as goal

pub invariant_of-self : goal.invariant_of-self
invariant_of-self c =
    subst (IsStrictlySortedBy name_order)
    (sym (inserted_there names_exact c.self.inside.names.items c.deref.result.now _ c.args.name.now _ c.in-Err.place c.deref.ensures.value c.in-Err.ensures refl c.in_ok-insert.ensures.items))
    (sorted-insert_key names_exact c.self.inside.names.items c.args.name.now c.self.invariant)

pub returns-in_ok-insert-clause-added : goal.returns-in_ok-insert-clause-added
returns-in_ok-insert-clause-added c =
    inserted_there names_exact c.self.inside.names.items c.deref.result.now _ c.args.name.now _ c.in-Err.place c.deref.ensures.value c.in-Err.ensures refl c.in_ok-insert.ensures.items
    ∙ ap (λ (l : List (List ℕ)). insert_key name_order l c.args.name.now) c.self.view_is

pub returns-in_default-clause-added : goal.returns-in_default-clause-added
returns-in_default-clause-added c =
    there_already names_exact c.args.self.now c.deref.result.now c.args.name.now c.in_default.field-0 (subst (IsStrictlySortedBy name_order) c.self.view_is c.self.invariant)
    (c.deref.ensures.value ∙ c.self.view_is) c.in_default.ensures

-- what holds anyway holds on an error
on_err_anyway : {T E P : Type 0} (r : Result T E) → P → OnErr r P
on_err_anyway (Ok x) p = tt
on_err_anyway (Err e) p = p

pub returns-in_err-insert-clause-growth : goal.returns-in_err-insert-clause-growth
returns-in_err-insert-clause-growth c =
    on_err_anyway _
    (sym (has_searched names_exact c.args.self.now c.deref.result.now c.args.name.now (Err c.in-Err.place) (c.deref.ensures.value ∙ c.self.view_is) c.in-Err.ensures))
