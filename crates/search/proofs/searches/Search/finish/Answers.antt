-- A held letter is finished with a hint that is right for it, and waits again with another.
use Rattle.std.proofs.Common.{Some, option_copied, ◌∙◌, ◌≡◌, ◌↔◌, ◌<◌, length, IsTrue, Option, false, sym, ap, subst}
use Rattle.std.proofs.lemmas.Bool.{false≢true, true_from_ne_false}
use Rattle.std.proofs.lemmas.Option.{none-some}
use Rattle.credential_text.specs.declared.exprs.Expr.{Expr}
use Rattle.cred_graph.specs.Graph.{GraphState, IsNode}
use Rattle.snapshots.specs.declared.spans.Span.{Span}
use Rattle.snapshots.specs.Snapshot.{SnapshotState}
use Rattle.search.specs.declared.outcomes.Finished.TheVariants as finished
use Rattle.search.specs.Stage.{held_in, letter_in, stage_marked}
use Rattle.search.specs.Search.{SearchState}
use Rattle.search.specs.Finish.{IsSpanFor, need_of, right_hint, IsRightly, Finishes}
use Rattle.search.specs.contracts.searches.Search.{the_view}
use Rattle.search.proofs.Receive.{node_in}
use Rattle.search.proofs.Searching.{held_awaits}
use Rattle.search.proofs.Finishing.{held_letter_is, finishes_rightly, rightly, span_for, wrongly}
use Rattle.search.proofs.searches.Search.finish.Goals as goal
use Rattle.search.proofs.searches.Search.finish.Goals.{After-hint_is_right}

-- the hint is right just where it is so of what the search has found
right_here : (c : After-hint_is_right) → IsTrue c.hint_is_right.result ↔ ((e : Expr) → IsNode c.self.inside.found.graph c.in-Some.held.to e → c.args.hint ≡ right_hint c.deref.result.now.vaults (need_of e c.in-Some.held.load))
right_here c =
    subst (λ (g : GraphState). IsTrue c.hint_is_right.result ↔ ((e : Expr) → IsNode g c.in-Some.held.to e → c.args.hint ≡ right_hint c.deref.result.now.vaults (need_of e c.in-Some.held.load))) c.graph.ensures.graph c.hint_is_right.ensures

pub hint_is_right-requires : goal.hint_is_right-requires
hint_is_right-requires c =
    subst (λ (g : GraphState). c.in-Some.held.to < length g.nodes) (sym c.graph.ensures.graph)
    (node_in (held_awaits (the_view c.self.inside) c.self.invariant.rules c.args.letter c.in-Some.held c.in-Some.ensures))

pub returns-else-hint_is_right-clause-finishes : goal.returns-else-hint_is_right-clause-finishes
returns-else-hint_is_right-clause-finishes c =
    let s = the_view c.self.inside in
    let held = c.in-Some.ensures in
    let there = subst (λ (x : SearchState). held_in x.stage c.args.letter ≡ Some (letter_in c.in-Some.held)) c.self.view_is (held_letter_is s.stage c.args.letter c.in-Some.held held) in
    let waits = c.put_back.ensures.waits (true_from_ne_false c.put_back.result (λ no. none-some _ (sym (c.put_back.ensures.held no) ∙ there))) in
    subst (λ (x : SearchState). Finishes c.args.self.now x c.args.letter c.args.hint finished.BadHint) (sym waits.1)
    (subst (λ (x : SearchState). Finishes x (record x { stage = stage_marked c.args.letter false x.stage }) c.args.letter c.args.hint finished.BadHint) c.self.view_is
    (wrongly s c.args.letter c.args.hint c.in-Some.held c.deref.result.now c.deref.ensures held
    (node_in (held_awaits s c.self.invariant.rules c.args.letter c.in-Some.held held))
    (λ right. false≢true (sym c.if-hint_is_right.false ∙ (right_here (goal.at.returns-else-hint_is_right-clause-finishes c).After-hint_is_right).1 right))))

pub receive_held-requires-clause-span : goal.receive_held-requires-clause-span
receive_held-requires-clause-span c =
    subst (λ (x : SearchState). (e : Expr) → IsNode x.graph c.in-Some.held.to e → IsSpanFor x.snapshot.vaults e (option_copied c.span.result)) c.self.view_is
    (λ e at. subst (λ (o : Option Span). IsSpanFor (the_view c.self.inside).snapshot.vaults e o) (sym c.span.ensures)
    (span_for (the_view c.self.inside).snapshot.vaults e c.in-Some.held.load c.args.hint
    ((right_here (goal.at.receive_held-requires-clause-span c).After-hint_is_right).0 c.if-hint_is_right.true e at ∙ ap (λ (v : SnapshotState). right_hint v.vaults (need_of e c.in-Some.held.load)) c.deref.ensures)))

pub returns-then-hint_is_right-clause-finishes : goal.returns-then-hint_is_right-clause-finishes
returns-then-hint_is_right-clause-finishes c =
    let s = the_view c.self.inside in
    let right = rightly s c.args.letter c.args.hint c.in-Some.held c.deref.result.now c.deref.ensures c.in-Some.ensures ((right_here (goal.at.returns-then-hint_is_right-clause-finishes c).After-hint_is_right).0 c.if-hint_is_right.true) in
    finishes_rightly c.args.self.now c.receive_held.new.self c.args.letter c.args.hint (letter_in c.in-Some.held)
    (subst (λ (x : SearchState). IsRightly x c.args.letter c.args.hint (letter_in c.in-Some.held)) c.self.view_is right) c.receive_held.result c.receive_held.ensures.receives
