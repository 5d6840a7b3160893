use Rattle.std.specs.Prelude.{nat_lt}
use Rattle.std.proofs.Common.{ℕ, ◌≡◌, ap, length, arith}
use Rattle.rt0_rules.proofs.Asking.{asked_first, asked_next, asked_within}
use Rattle.rt0_rules.proofs.work.ask_all.Goals as goal
use Rattle.rt0_rules.proofs.work.ask_all.Goals.{then-loop-next-test+else-len-limit, else-loop-next-test}

pub loop-next-init : goal.loop-next-init
loop-next-init c =
    asked_first c.args.credentials.now c.args.facts.now c.args.everyone.now c.args.role.now c.in_ok-first.first.items c.args.asks.now.items
    c.push_all_new.new.asks.items c.requires.sound c.in_ok-first.ensures c.requires.empty c.in_ok-push_all_new.ensures

pub loop-next-preserved : goal.loop-next-preserved
loop-next-preserved c =
    asked_next c.args.credentials.now c.args.facts.now c.args.everyone.now c.args.role.now c.in_ok-more.more.items c.loop-next.asks.items
    c.push_all_new-in-loop-next.new.asks.items c.loop-next.next c.index.result.now c.requires.sound (omega arith)
    c.index.ensures c.in_ok-more.ensures
    c.loop-next.invariant c.in_ok-push_all_new-2.ensures

pub returns : goal.returns
returns c =
    let len : c.len-2.result ≡ length c.loop-next.asks.items = omega arith in
    asked_within c.args.credentials.now c.args.facts.now c.args.everyone.now c.args.role.now c.loop-next.asks.items
    c.loop-next.next c.args.limit
    _ (ap (λ (n : ℕ). nat_lt n c.args.limit) len) c.requires.closed c.requires.everyone c.loop-next.invariant
    (λ below. elim c.loop-next-test.branch [
      | then-loop-next-test+else-len-limit w ↦ omega arith
      | else-loop-next-test w ↦ omega arith
    ])
