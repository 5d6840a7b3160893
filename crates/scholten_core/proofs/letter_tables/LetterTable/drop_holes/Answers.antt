use Rattle.std.proofs.Common.{◌≡◌, ◌∙◌, filter, is_some, refl, rules}
use Rattle.std.proofs.lemmas.Fn.{filter_same}
use Rattle.scholten_core.proofs.Standing.{standing-full}
use Rattle.scholten_core.proofs.Tables.{dropped}
use Rattle.scholten_core.proofs.letter_tables.LetterTable.drop_holes.Given.{Over}
use Rattle.scholten_core.proofs.letter_tables.LetterTable.drop_holes.Goals as goal
use Rattle.scholten_core.proofs.letter_tables.LetterTable.drop_holes.Goals.{After-retain}

kept : (g : Over) (c : After-retain g) → c.retain.new.self.items ≡ filter (λ e. is_some e.1) c.self.inside.letters.items
kept g c = filter_same _ _ _ (λ x b f call. search rules) _ _ c.retain.ensures.filtered

pub invariant_of-self : goal.invariant_of-self
invariant_of-self g c =
    let after = (goal.at.invariant_of-self g c).After-retain in
    rw (c.len-self-inside.ensures ∙ c.retain.new.self.ok.0, kept g after) (dropped _ _ _ _ _ _ c.self.invariant)

pub returns : goal.returns
returns g c =
    let after = (goal.at.returns g c).After-retain in
    rw (kept g after, ← c.self.view_is) (record { letters = standing-full c.self.inside.letters.items; sent = refl })
