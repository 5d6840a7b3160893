use Rattle.std.proofs.Common.{◌∙◌, ◌+◌, List, ap, sym, subst₂, subst, arith}
use mathlib.Core.List.{IsPrefix}
use Rattle.pool.specs.declared.turns.Item.{Item}
use Rattle.pool.specs.Histories.{HasStop, Reaches}
use Rattle.pool.specs.Rooms.{RoomState}
use Rattle.pool.proofs.rooms.Room.leave.Goals as goal

pub invariant_of-self : goal.invariant_of-self
invariant_of-self g c = (
  c.audit.ensures.total ∙ c.self.invariant.0,
  omega (arith, c.self.invariant.1, c.self.invariant.4, c.given_up-share.ensures.part),
  omega (arith, c.self.invariant.2),
  c.audit.ensures.amount ∙ c.merge.ensures.amount ∙ ap (λ k. k + c.given_up-share.result.0.amount) c.self.invariant.3
      ∙ ap (λ k. c.self.inside.left + k) (c.given_up-share.ensures.amount ∙ sym c.given_up-share.ensures.told),
  c.self.invariant.4,
  subst (λ (l : List Item). Reaches g.L.Naming.roster l c.self.inside.hall) (sym c.take_back.ensures.same) c.self.invariant.5,
  (λ is. subst HasStop (sym c.take_back.ensures.same) (c.self.invariant.6 is)),
)

pub returns-clause-left : goal.returns-clause-left
returns-clause-left g c =
    ap (λ (r : RoomState). r.left + c.given_up-share.result.1) c.self.view_is ∙ ap (λ k. c.args.self.now.left + k) c.given_up-share.ensures.told

pub returns-clause-seen : goal.returns-clause-seen
returns-clause-seen g c =
    subst₂ (λ (xs ys : List Item). IsPrefix xs ys) c.given_up-share.ensures.seen (ap (λ (r : RoomState). r.told) c.self.view_is) c.take_back.ensures.began
