use Rattle.std.proofs.Common.{◌≡◌, Some, false, option_map, refl, ap, ◌∙◌, arith}
use Rattle.scholten_core.specs.declared.letters.Letter.{Letter}
use Rattle.scholten_core.specs.LetterTable.{standing, set_value_at}
use Rattle.scholten_core.proofs.Standing.{HoldsAt, holds_at, key_within, length-numbered_le, number_found, standing-change}
use Rattle.scholten_core.proofs.Tables.{put_back, waits-le-sent}
use Rattle.scholten_core.proofs.letter_tables.LetterTable.put_back.Given.{Over}
use Rattle.scholten_core.proofs.letter_tables.LetterTable.put_back.Goals as goal
use Rattle.scholten_core.proofs.letter_tables.LetterTable.put_back.Goals.{After-hold}

pub unwrap-at-requires : goal.unwrap-at-requires
unwrap-at-requires g c =
    let held = rw (← c.self.view_is) at c.requires in
    number_found c.self.inside.sent c.self.inside.letters.items c.self.invariant.numbers c.args.number held c.place_of.result c.place_of.ensures

pub overflow_add-at : goal.overflow_add-at
overflow_add-at g c =
    let within = key_within c.args.number c.self.inside.letters.items c.unwrap-at.result (rw c.unwrap-at.ensures at c.place_of.ensures) in
    omega (arith, within, length-numbered_le 0 c.self.inside.letters.items c.self.inside.sent c.self.invariant.numbers, c.self.ranges)

-- the held letter of the number
slot : (g : Over) (c : After-hold g) → HoldsAt c.self.inside.letters.items c.args.number c.unwrap-at.result c.hold.ensures.0
slot g c =
    let held = rw (← c.self.view_is) at c.requires in
    holds_at c.self.inside.sent c.self.inside.letters.items c.self.invariant.numbers c.args.number c.unwrap-at.result c.hold.result c.hold.ensures.0 held (rw c.unwrap-at.ensures at c.place_of.ensures) c.hold.ensures.1

-- what is written there
written : (g : Over) (c : After-hold g) → c.hold.new.letters.items ≡ set_value_at c.self.inside.letters.items c.unwrap-at.result (Some (record (slot g c).letter { held = false }))
written g c =
    c.hold.ensures.2 ∙ ap (λ o. set_value_at c.self.inside.letters.items c.unwrap-at.result (option_map (λ (l : Letter _). record l { held = false }) o)) (slot g c).value

pub overflow_add-self : goal.overflow_add-self
overflow_add-self g c =
    let after = (goal.at.overflow_add-self g c).After-hold in
    let one = slot g after in
    omega (arith, waits-le-sent _ _ _ _ _ _ (put_back _ _ _ _ _ _ c.self.invariant c.unwrap-at.result c.args.number one.letter one.there one.held), c.self.ranges)

pub invariant_of-self : goal.invariant_of-self
invariant_of-self g c =
    let after = (goal.at.invariant_of-self g c).After-hold in
    let one = slot g after in
    rw (written g after, c.min-self-inside.ensures, c.max-self-inside.ensures) (put_back _ _ _ _ _ _ c.self.invariant c.unwrap-at.result c.args.number one.letter one.there one.held)

pub returns : goal.returns
returns g c =
    let after = (goal.at.returns g c).After-hold in
    let one = slot g after in
    let entries = c.self.inside.letters.items in
    rw (← c.self.view_is) (record {
      letters = ap standing (written g after) ∙ standing-change (λ x. record x { held = false }) 0 entries c.self.inside.sent c.unwrap-at.result c.args.number one.letter c.self.invariant.numbers one.there;
      sent = refl;
    })

pub hold-requires : goal.hold-requires
hold-requires g c = key_within c.args.number c.self.inside.letters.items c.unwrap-at.result (rw c.unwrap-at.ensures at c.place_of.ensures)
