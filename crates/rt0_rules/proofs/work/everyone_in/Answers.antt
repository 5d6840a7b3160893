use Rattle.std.proofs.Common.{ℕ, List, [], Contains, subst, ◌∙◌}
use Rattle.rt0_rules.specs.Work.{ListsAll}
use Rattle.rt0_rules.proofs.Adding.{adds_next, all_from_adds}
use Rattle.rt0_rules.proofs.work.everyone_in.Goals as goal

pub loop-entity-preserved : goal.loop-entity-preserved
loop-entity-preserved c =
    adds_next _ [] c.loop-entity.everyone.items c.push_new_entity.new.everyone.items c.loop-entity.entity-index c.entity-item.result
    c.loop-entity-test.true c.entity-item.is c.loop-entity.invariant c.in_ok-push_new_entity.ensures

pub returns : goal.returns
returns c =
    subst (λ (es : List (List ℕ)). ListsAll (Contains es) c.loop-entity.everyone.items)
    (c.deref-entity-items.ensures.value ∙ c.in_ok-entities.ensures)
    (all_from_adds _ c.loop-entity.everyone.items c.loop-entity.entity-index c.loop-entity-test.false c.loop-entity.invariant)
