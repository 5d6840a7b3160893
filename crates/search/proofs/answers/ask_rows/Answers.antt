-- One more row's body was asked, and then all.
use Rattle.std.proofs.Common.{ap, arith}
use Rattle.cred_graph.specs.declared.listeners.Port.TheVariants as port
use Rattle.snapshots.specs.declared.spans.Span.{Span}
use Rattle.snapshots.specs.Span.{role_rows}
use Rattle.search.specs.Answers.{row_asks}
use Rattle.search.proofs.Asked.{asks_next, asks_all, row_ask_at, row_asks_count, span_length}
use Rattle.search.proofs.answers.ask_rows.Goals as goal

pub overflow_sub-count : goal.overflow_sub-count
overflow_sub-count c =
    let lo = ap (λ (s : Span). s.lo) c.requires.1 in
    let hi = ap (λ (s : Span). s.hi) c.requires.1 in
    omega (arith, lo, hi, span_length c.args.snapshot.now.vaults c.requires.0)

pub loop-place-preserved : goal.loop-place-preserved
loop-place-preserved c = λ role is.
    let rows = role_rows c.args.snapshot.now.vaults role in
    let at = c.row-row.ensures role is in
    asks_next (row_asks rows) c.loop-place.place c.args.found.now c.loop-place.found c.ask.new.found c.row-row.result.now.body port.Body (c.loop-place.invariant role is) (row_ask_at rows c.loop-place.place c.row-row.result.now at) (rw c.body-in-loop-place.ensures at c.in_ok-ask.ensures)

pub returns : goal.returns
returns c = λ role is.
    let rows = role_rows c.args.snapshot.now.vaults role in
    let lo = ap (λ (s : Span). s.lo) is in
    let hi = ap (λ (s : Span). s.hi) is in
    asks_all (row_asks rows) c.loop-place.place c.args.found.now c.loop-place.found (omega (arith, lo, hi, span_length c.args.snapshot.now.vaults role, row_asks_count rows)) (c.loop-place.invariant role is)
