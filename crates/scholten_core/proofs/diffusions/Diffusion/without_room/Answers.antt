use Rattle.std.proofs.Common.{◌≡◌, ◌∙◌, List, [], ◌∷◌, length, sym, refl, arith}
use Rattle.scholten_core.specs.Computation.{outstanding}
use Rattle.scholten_core.specs.Kept.{held_in}
use Rattle.scholten_core.proofs.Fields.{emptied_is, emptied_kept}
use Rattle.scholten_core.proofs.diffusions.Diffusion.without_room.Goals as goal

none_of : {X : Type 0} (xs : List X) → length xs ≡ 0 → xs ≡ []
none_of [] none = refl
none_of (x ∷ xs) none = absurd (omega arith)

pub invariant_of-result : goal.invariant_of-result
invariant_of-result g c =
    let s = c.self.inside in
    let quiet : outstanding (held_in s.letters s.signals.items s.nodes.items) ≡ 0 = rw (← c.self.view_is) at c.requires in
    emptied_kept s.letters c.without_room.result s.signals.items c.new.result.items s.environment s.nodes.items c.new-2.result.items
    (c.without_room.ensures.letters ∙ sym (none_of s.letters.letters (omega (arith, quiet)))) c.without_room.ensures.sent
    (c.new.ensures.items ∙ sym (none_of s.signals.items (omega (arith, quiet)))) c.new-2.ensures.items quiet c.self.invariant

pub returns : goal.returns
returns g c =
    let s = c.self.inside in
    let quiet : outstanding (held_in s.letters s.signals.items s.nodes.items) ≡ 0 = rw (← c.self.view_is) at c.requires in
    emptied_is s.letters c.without_room.result s.signals.items c.new.result.items s.environment s.nodes.items c.new-2.result.items
    (c.without_room.ensures.letters ∙ sym (none_of s.letters.letters (omega (arith, quiet)))) c.without_room.ensures.sent
    (c.new.ensures.items ∙ sym (none_of s.signals.items (omega (arith, quiet)))) c.new-2.ensures.items quiet ∙ c.self.view_is
