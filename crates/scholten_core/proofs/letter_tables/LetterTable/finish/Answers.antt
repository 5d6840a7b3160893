use Rattle.std.proofs.Common.{◌≡◌, ◌+◌, ◌==◌, Some, None, not, filter, ℕ, refl, sym, subst, ap, ◌∙◌, arith}
use Rattle.std.specs.List.{slice_get}
use Rattle.std.specs.Map.{keys_of}
use Rattle.std.proofs.lemmas.Option.{same_Some}
use Rattle.scholten_core.specs.LetterTable.{set_value_at, IsTable, standing}
use Rattle.scholten_core.proofs.Standing.{HoldsAt, entry_of_key, holds_at, key_within, length-numbered_le, standing-hole}
use Rattle.scholten_core.proofs.Tables.{holes-le-sent, left_hole}
use Rattle.scholten_core.proofs.letter_tables.LetterTable.finish.Given.{Over}
use Rattle.scholten_core.proofs.letter_tables.LetterTable.finish.Goals as goal
use Rattle.scholten_core.proofs.letter_tables.LetterTable.finish.Goals.{After-self}

-- the number stands at the place
key : (g : Over) (c : After-self g) → slice_get (keys_of c.self.inside.letters.items) c.args.at ≡ Some c.requires.0
key g c = rw (← c.self.view_is) at c.requires.1

-- its letter is held
slot : (g : Over) (c : After-self g) → HoldsAt c.self.inside.letters.items c.requires.0 c.args.at (entry_of_key c.self.inside.letters.items c.args.at c.requires.0 (key g c)).0
slot g c =
    let held = rw (← c.self.view_is) at c.requires.2 in
    let entry = entry_of_key c.self.inside.letters.items c.args.at c.requires.0 (key g c) in
    holds_at c.self.inside.sent c.self.inside.letters.items c.self.invariant.numbers c.requires.0 c.args.at c.requires.0 entry.0 held (key g c) entry.1

pub overflow_add-self : goal.overflow_add-self
overflow_add-self g c =
    let one = slot g (goal.at.overflow_add-self g c).After-self in
    omega (arith, holes-le-sent _ _ _ _ _ _ (left_hole _ _ _ _ _ _ c.self.invariant c.args.at c.requires.0 one.letter one.there one.held), c.self.ranges)

pub overflow_add-behind : goal.overflow_add-behind
overflow_add-behind g c =
    let within = key_within c.requires.0 c.self.inside.letters.items c.args.at (key g (goal.at.overflow_add-behind g c).After-self) in
    omega (arith, within, length-numbered_le 0 c.self.inside.letters.items c.self.inside.sent c.self.invariant.numbers, c.self.ranges)

-- the table with the hole
holed : (g : Over) (c : After-self g) → IsTable c.self.inside.sent c.self.inside.waits (c.self.inside.holes + 1) c.self.inside.first c.self.inside.last (set_value_at c.self.inside.letters.items c.args.at None)
holed g c =
    let one = slot g c in
    left_hole _ _ _ _ _ _ c.self.invariant c.args.at c.requires.0 one.letter one.there one.held

-- the letter of each number that stands there is gone, and no other
gone : (g : Over) (c : After-self g) → (number : ℕ) → slice_get (keys_of c.self.inside.letters.items) c.args.at ≡ Some number → standing (set_value_at c.self.inside.letters.items c.args.at None) ≡ filter (λ x. not (x.0 == number)) (standing c.self.inside.letters.items)
gone g c number there =
    let one = slot g c in
    let same : number ≡ c.requires.0 = same_Some _ _ (sym there ∙ key g c) in
    subst (λ (n : ℕ). standing (set_value_at c.self.inside.letters.items c.args.at None) ≡ filter (λ x. not (x.0 == n)) (standing c.self.inside.letters.items)) (sym same) (standing-hole 0 c.self.inside.letters.items c.self.inside.sent c.args.at c.requires.0 one.letter c.self.invariant.numbers one.there)

pub invariant_of-self : goal.invariant_of-self
invariant_of-self g c = rw c.leave_hole.ensures.hole (holed g (goal.at.invariant_of-self g c).After-self)

pub invariant_of-self-else-behind-len : goal.invariant_of-self-else-behind-len
invariant_of-self-else-behind-len g c = rw c.leave_hole.ensures.hole (holed g (goal.at.invariant_of-self-else-behind-len g c).After-self)

pub returns-then-behind-len : goal.returns-then-behind-len
returns-then-behind-len g c =
    rw (← c.self.view_is) (record {
      letters = λ number stands. c.pop_holes.ensures.letters ∙ ap standing c.leave_hole.ensures.hole ∙ gone g (goal.at.returns-then-behind-len g c).After-self number stands;
      sent = c.pop_holes.ensures.sent;
      room = omega (arith, c.pop_holes.ensures.room, c.leave_hole.ensures.len, c.leave_hole.ensures.capacity);
    })

pub returns-else-behind-len : goal.returns-else-behind-len
returns-else-behind-len g c =
    rw (← c.self.view_is) (record {
      letters = λ number stands. ap standing c.leave_hole.ensures.hole ∙ gone g (goal.at.returns-else-behind-len g c).After-self number stands;
      sent = refl;
      room = omega (arith, c.leave_hole.ensures.len, c.leave_hole.ensures.capacity);
    })

pub leave_hole-requires : goal.leave_hole-requires
leave_hole-requires g c = key_within c.requires.0 c.self.inside.letters.items c.args.at (key g (goal.at.leave_hole-requires g c).After-self)
