use Rattle.std.proofs.Common.{◌≡◌, ◌+◌, ◌++◌, ◌∷◌, [], Some, false, refl, ap, ◌∙◌, arith}
use Rattle.scholten_core.specs.declared.letters.Letter.{Letter}
use Rattle.scholten_core.specs.LetterTable.{standing}
use Rattle.scholten_core.proofs.Standing.{standing-append}
use Rattle.scholten_core.proofs.Tables.{pushed, waits-le-sent}
use Rattle.scholten_core.proofs.letter_tables.LetterTable.push.Given.{Over}
use Rattle.scholten_core.proofs.letter_tables.LetterTable.push.Goals as goal
use Rattle.scholten_core.proofs.letter_tables.LetterTable.push.Goals.{After-push_reserved}

pub overflow_add-self-2 : goal.overflow_add-self-2
overflow_add-self-2 g c =
    let numbers = rw (← c.self.view_is) at c.requires.numbers in
    omega (arith, numbers, waits-le-sent _ _ _ _ _ _ c.self.invariant)

-- the letter stands at the end
abbrev letter : (g : Over) (c : After-push_reserved g) → Letter g.row.P.Denot
letter g c = record { from = c.args.from; to = c.args.to; held = false; load = c.args.load }

added : (g : Over) (c : After-push_reserved g) → c.push_reserved.new.self.items ≡ c.self.inside.letters.items ++ (c.self.inside.sent + 1, Some (letter g c)) ∷ []
added g c =
    c.push_reserved.ensures.items
    ∙ ap (λ o. c.self.inside.letters.items ++ (c.self.inside.sent + 1, o) ∷ []) c.full.ensures

pub invariant_of-self : goal.invariant_of-self
invariant_of-self g c =
    let after = (goal.at.invariant_of-self g c).After-push_reserved in
    rw (c.len-self-inside.ensures ∙ c.push_reserved.new.self.ok.0, added g after) (pushed _ _ _ _ _ _ c.self.invariant (Some (letter g after)) refl)

pub returns : goal.returns
returns g c =
    let after = (goal.at.returns g c).After-push_reserved in
    rw (← c.self.view_is) (record {
      letters = ap standing (added g after) ∙ standing-append c.self.inside.letters.items ((c.self.inside.sent + 1, Some (letter g after)) ∷ []);
      sent = refl;
      room = omega (arith, c.push_reserved.ensures.len, c.push_reserved.ensures.capacity);
    })

pub full-requires : goal.full-requires
full-requires g c = c.requires.from

pub push_reserved-requires : goal.push_reserved-requires
push_reserved-requires g c =
    let room = rw (← c.self.view_is) at c.requires.room in
    omega (arith, room)

pub overflow_add-self : goal.overflow_add-self
overflow_add-self g c =
    let numbers = rw (← c.self.view_is) at c.requires.numbers in
    omega (arith, numbers)
