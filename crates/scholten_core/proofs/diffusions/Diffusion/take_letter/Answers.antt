use Rattle.std.proofs.Common.{is_some, ap}
use Rattle.scholten_core.specs.Kept.{held_in}
use Rattle.scholten_core.specs.Step.{TakesLetter}
use Rattle.scholten_core.proofs.Fields.{taken_kept, takes_letter}
use Rattle.scholten_core.proofs.diffusions.Diffusion.take_letter.Given.{Over}
use Rattle.scholten_core.proofs.diffusions.Diffusion.take_letter.Goals as goal
use Rattle.scholten_core.proofs.diffusions.Diffusion.take_letter.Goals.{After-take-number}

-- the letter is taken
takes : (g : Over) (c : After-take-number g) → TakesLetter (held_in c.self.inside.letters c.self.inside.signals.items c.self.inside.nodes.items) c.args.place c.take-number.result.0 (held_in c.take-number.new.self c.self.inside.signals.items c.self.inside.nodes.items)
takes g c =
    takes_letter c.self.inside.letters c.take-number.new.self c.self.inside.signals.items c.self.inside.environment c.self.inside.nodes.items c.self.invariant c.args.place c.take-number.result.0 c.take-number.ensures.letters c.take-number.ensures.sent c.take-number.ensures.waited

pub letter_there-letter-requires : goal.letter_there-letter-requires
letter_there-letter-requires g c =
    (c.take-number.result.0, c.take-number.ensures.stands, ap is_some (takes g (goal.at.letter_there-letter-requires g c).After-take-number).taken)

pub invariant_of-self : goal.invariant_of-self
invariant_of-self g c =
    taken_kept c.self.inside.letters c.take-number.new.self c.self.inside.signals.items c.self.inside.environment c.self.inside.nodes.items c.self.invariant c.args.place c.take-number.result.0 c.take-number.ensures.letters c.take-number.ensures.sent

pub returns : goal.returns
returns g c = record {
  takes = rw (← c.self.view_is) (takes g (goal.at.returns g c).After-take-number);
  letter = c.letter_there-letter.ensures c.take-number.result.0 c.take-number.ensures.stands;
}
