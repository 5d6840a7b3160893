use Rattle.std.proofs.Common.{ℕ, List, [], ◌≡◌, ◌∙◌, refl, sym, ap, ◌++◌, append-nil}
use Rattle.credential_text.specs.declared.intersections.Part.{Part}
use Rattle.credential_text.specs.declared.intersections.Part.TheVariants as part
use Rattle.rt0_rules.specs.Facts.{entities_in_part}
use Rattle.rt0_rules.proofs.Elements.{appends_next, appends_all}
use Rattle.rt0_rules.proofs.members.push_part_entities.Goals as goal
use Rattle.rt0_rules.proofs.members.push_part_entities.Goals.{in-Ent+in_ok-push, in_default}

no_entity : (p : Part) → ((e : List ℕ) → p ≡ part.Ent e → ⊥) → entities_in_part p ≡ []
no_entity (part.Ent e) not = absurd (not e refl)
no_entity (part.Rol r) not = refl
no_entity (part.Link base n) not = refl

pub loop-part-preserved : goal.loop-part-preserved
loop-part-preserved c =
    appends_next entities_in_part c.args.parts.now c.loop-part.part-index c.part-item.result c.args.entities.now.items
    c.loop-part.entities.items c.match-part.entities.items c.loop-part-test.true c.part-item.is c.loop-part.invariant
    (elim c.match-part.branch [
      | in-Ent+in_ok-push w ↦ ap (λ v. v.items) w.entities-is ∙ w.in_ok-push.ensures.items ∙ ap (λ p. c.loop-part.entities.items ++ entities_in_part p) (sym w.in-Ent.is)
      | in_default w ↦ ap (λ v. v.items) w.entities-is ∙ sym (append-nil c.loop-part.entities.items)
          ∙ ap (λ l. c.loop-part.entities.items ++ l) (sym (no_entity c.part-item.result w.in_default.not-Ent))
    ])

pub returns : goal.returns
returns c =
    appends_all entities_in_part c.args.parts.now c.loop-part.part-index c.args.entities.now.items
    c.loop-part.entities.items c.loop-part-test.false c.loop-part.invariant
