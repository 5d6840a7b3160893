use Rattle.std.proofs.Common.{ap, sym, ◌∙◌}
use Rattle.std.specs.BTreeSet.{contains}
use Rattle.names.specs.Name.{name_order}
use Rattle.rt0_rules.proofs.Listed.{put_step, skip_step}
use Rattle.rt0_rules.proofs.members.members_known.Goals as goal
use Rattle.rt0_rules.proofs.members.members_known.Goals.{then-eq+in_ok-insert, else-eq}

pub loop-fact-preserved : goal.loop-fact-preserved
loop-fact-preserved c =
    elim c.if-eq.branch [
      | then-eq+in_ok-insert w ↦ λ d.
          put_step c.args.facts.now c.loop-fact.fact-index c.fact-item.result c.args.role.now d (contains name_order c.loop-fact.members d) (contains name_order c.if-eq.members d)
          c.loop-fact-test.true c.fact-item.is (sym c.eq.ensures ∙ w.if-eq.true) (c.loop-fact.invariant d)
          (ap (λ m. contains name_order m d) w.members-is ∙ w.in_ok-insert.ensures.updates.0 d)
      | else-eq w ↦ λ d.
          ap (λ m. contains name_order m d) w.members-is
          ∙ skip_step c.args.facts.now c.loop-fact.fact-index c.fact-item.result c.args.role.now d (contains name_order c.loop-fact.members d)
          c.loop-fact-test.true c.fact-item.is (sym c.eq.ensures ∙ w.if-eq.false) (c.loop-fact.invariant d)
    ]
