use Rattle.std.proofs.Common.{Bool, [], None, ◌∙◌, sym, ap, cond}
use Rattle.std.proofs.lemmas.Option.{slice_get_past}
use Rattle.vaults.specs.Blocks.{rows_in}
use Rattle.snapshots.proofs.Views.{placed_rows, rows_there, sorted_rows_of}
use Rattle.snapshots.proofs.snapshots.rows_at.Goals as goal

pub returns-in_default-clause-rows : goal.returns-in_default-clause-rows
returns-in_default-clause-rows c =
    ap rows_in c.none.ensures ∙ placed_rows c.args.owner.now c.args.vaults.now c.args.place None c.requires.ordered c.requires.place (slice_get_past c.args.vaults.now c.args.place c.in_default.ensures.lookup.3)

pub returns-in_default-clause-sorted : goal.returns-in_default-clause-sorted
returns-in_default-clause-sorted c = sorted_rows_of c.args.owner.now c.args.vaults.now c.requires.ordered

pub returns-then-eq-clause-rows : goal.returns-then-eq-clause-rows
returns-then-eq-clause-rows c =
    rows_there c.args.owner.now c.args.vaults.now c.args.place c.in-Some.holding.now c.owner.result c.eq.result (rows_in c.rows.result) c.requires.ordered c.requires.place
    c.in-Some.ensures.lookup.3.0 c.in-Some.ensures.lookup.1 c.owner.ensures c.eq.ensures
    (c.rows.ensures.rows ∙ ap (λ (b : Bool). cond b c.in-Some.holding.now.rows []) (sym c.if-eq.true))

pub returns-then-eq-clause-sorted : goal.returns-then-eq-clause-sorted
returns-then-eq-clause-sorted c = sorted_rows_of c.args.owner.now c.args.vaults.now c.requires.ordered

pub returns-else-eq-clause-rows : goal.returns-else-eq-clause-rows
returns-else-eq-clause-rows c =
    ap rows_in c.none-else-eq.ensures
    ∙ rows_there c.args.owner.now c.args.vaults.now c.args.place c.in-Some.holding.now c.owner.result c.eq.result [] c.requires.ordered c.requires.place
    c.in-Some.ensures.lookup.3.0 c.in-Some.ensures.lookup.1 c.owner.ensures c.eq.ensures
    (ap (λ (b : Bool). cond b c.in-Some.holding.now.rows []) (sym c.if-eq.false))

pub returns-else-eq-clause-sorted : goal.returns-else-eq-clause-sorted
returns-else-eq-clause-sorted c = sorted_rows_of c.args.owner.now c.args.vaults.now c.requires.ordered
