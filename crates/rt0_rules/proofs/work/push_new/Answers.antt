use Rattle.std.proofs.Common.{◌≡◌, Contains, true, false, inr, sym, subst}
use Rattle.rt0_rules.proofs.work.push_new.Goals as goal

pub returns-in_ok-push : goal.returns-in_ok-push
returns-in_ok-push c =
    let absent : c.is_among.result ≡ false = cc in
    inr (
      λ has.
          let found : c.is_among.result ≡ true =
          c.is_among.ensures.1 (subst (λ l. Contains l c.args.ask) (sym c.deref.ensures.value) has) in
          cc,
      c.in_ok-push.ensures.items,
    )
