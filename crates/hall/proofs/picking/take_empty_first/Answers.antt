use Rattle.std.proofs.Common.{◌∙◌, List, None, ℕ, ap, subst, sym}
use Rattle.std.proofs.lemmas.Option.{same_Some}
use Rattle.indexmap.specs.IndexMap.{Updates}
use Rattle.names.specs.Name.{is_same}
use Rattle.hall.proofs.Unsettled.{left_empty, nothing_new}
use Rattle.hall.proofs.picking.take_empty_first.Goals as goal
use Rattle.hall.proofs.picking.take_empty_first.Goals.{In_ok-_first-2}

-- the tenant whose set was looked at is taken out
drops : (c : In_ok-_first-2) → Updates is_same c.args.busy.now c.swap_remove_index.new.self c.in_ok-_first._first.now None
drops c =
    subst (λ (who : List ℕ). Updates is_same c.args.busy.now c.swap_remove_index.new.self who None)
    (ap (λ e. e.0) (same_Some _ _ (c.in_ok-_first-2.ensures.entry ∙ sym c.in_ok-_first.ensures.entry))) c.in_ok-_first-2.ensures.updates

pub returns-clause-kept : goal.returns-clause-kept
returns-clause-kept c =
    left_empty c.args.busy.now c.swap_remove_index.new.self c.in_ok-_first._first.now c.in_ok-_first.numbers.now c.in_ok-_first.ensures.value
    (c.is_empty.ensures.0 c.if-not-is_empty.false) (drops c)

pub returns-clause-same : goal.returns-clause-same
returns-clause-same c = nothing_new c.args.busy.now c.swap_remove_index.new.self c.in_ok-_first._first.now (drops c)
