use Rattle.std.proofs.Common.{Bool, true, subst}
use Rattle.rt0_rules.specs.Asked.{IsAskedWithin}
use Rattle.rt0_rules.proofs.Counted.{counted_within, count_alike}
use Rattle.rt0_rules.proofs.work.work_plain.Goals as goal

pub returns-then-not-branch : goal.returns-then-not-branch
returns-then-not-branch c =
    subst (λ (all : Bool). IsAskedWithin c.args.credentials.now c.args.role.now c.args.limit all c.ask_all.new.asks.items)
    c.if-not-branch.true
    c.in_ok-ask_all.ensures

pub returns : goal.returns
returns c =
    let facts = c.in_ok-facts.facts.items in
    let everyone = c.in_ok-everyone.everyone.items in
    let asks = c.ask_all.new.asks.items in
    let asked : IsAskedWithin c.args.credentials.now c.args.role.now c.args.limit true asks =
    subst (λ (all : Bool). IsAskedWithin c.args.credentials.now c.args.role.now c.args.limit all asks)
    c.if-not-branch.false c.in_ok-ask_all.ensures in
    counted_within c.args.credentials.now facts everyone c.args.role.now asks c.args.limit c.work_of.result
    c.in_ok-facts.ensures.sound c.in_ok-facts.ensures.closed c.in_ok-everyone.ensures asked.0
    (count_alike c.deref-3.result.now facts c.deref-4.result.now everyone c.deref-5.result.now asks c.args.limit c.work_of.result
    c.deref-3.ensures.value c.deref-4.ensures.value c.deref-5.ensures.value c.work_of.ensures)
