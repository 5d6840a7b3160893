use Rattle.std.proofs.Common.{◌∙◌, ap, sym}
use Rattle.rt0_rules.specs.Facts.{is_same_role}
use Rattle.rt0_rules.specs.Asked.{body_asks}
use Rattle.rt0_rules.proofs.Elements.{appends_next, appends_where, appends_nothing, appends_all}
use Rattle.rt0_rules.proofs.asks.push_bodies.Goals as goal
use Rattle.rt0_rules.proofs.asks.push_bodies.Goals.{then-eq+in_ok-try_clone+in_ok-push, else-eq}

pub loop-credential-preserved : goal.loop-credential-preserved
loop-credential-preserved c =
    appends_next (body_asks c.args.role.now) c.args.credentials.now c.loop-credential.credential-index c.credential-item.result c.args.asks.now.items
    c.loop-credential.asks.items c.if-eq.asks.items c.loop-credential-test.true c.credential-item.is c.loop-credential.invariant
    (elim c.if-eq.branch [
      | then-eq+in_ok-try_clone+in_ok-push w ↦ ap (λ v. v.items) w.asks-is
          ∙ appends_where (is_same_role c.credential-item.result.head c.args.role.now) _ c.loop-credential.asks.items _
          (sym c.eq.ensures ∙ w.if-eq.true)
          (rw w.in_ok-try_clone.ensures.same at w.in_ok-push.ensures.items)
      | else-eq w ↦ appends_nothing (is_same_role c.credential-item.result.head c.args.role.now) _ c.loop-credential.asks.items _
          (sym c.eq.ensures ∙ w.if-eq.false) (ap (λ v. v.items) w.asks-is)
    ])

pub returns : goal.returns
returns c =
    appends_all (body_asks c.args.role.now) c.args.credentials.now c.loop-credential.credential-index c.args.asks.now.items
    c.loop-credential.asks.items c.loop-credential-test.false c.loop-credential.invariant
