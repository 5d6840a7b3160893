-- One more part was asked, and then all.
use Rattle.std.proofs.Common.{◌≡◌, refl, subst, Some, length, slice_get, arith}
use Rattle.std.proofs.lemmas.Option.{slice_get_read}
use Rattle.credential_text.specs.declared.exprs.Expr.{Expr}
use Rattle.credential_text.specs.Expr.{part_expr}
use Rattle.cred_graph.specs.declared.listeners.Port.TheVariants as port
use Rattle.search.specs.Answers.{AsksFor, part_asks}
use Rattle.search.proofs.Asked.{asks_next, asks_all, part_ask_at, part_asks_count}
use Rattle.search.proofs.answers.ask_parts.Goals as goal

pub loop-place-preserved : goal.loop-place-preserved
loop-place-preserved c =
    let parts = c.args.parts.now in
    let part = c.index-parts-place.result in
    let at : slice_get parts c.loop-place.place ≡ Some part = slice_get_read parts (length parts) c.loop-place.place part refl c.loop-place-test.true c.index-parts-place.is in
    asks_next (part_asks 0 parts) c.loop-place.place c.args.found.now c.loop-place.found c.ask.new.found (part_expr part) (port.Part c.loop-place.place) c.loop-place.invariant (part_ask_at parts c.loop-place.place part at)
    (subst (λ (e : Expr). AsksFor c.loop-place.found c.ask.new.found e (port.Part c.loop-place.place)) c.expr.ensures c.in_ok-ask.ensures)

pub returns : goal.returns
returns c =
    asks_all (part_asks 0 c.args.parts.now) c.loop-place.place c.args.found.now c.loop-place.found (omega (arith, part_asks_count c.args.parts.now)) c.loop-place.invariant
