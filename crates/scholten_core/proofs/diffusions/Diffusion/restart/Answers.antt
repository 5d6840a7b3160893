use Rattle.std.proofs.Common.{◌≡◌, ◌+◌, ◌++◌, [], ◌∷◌, false, sym, ap, ◌∙◌, subst, refl, arith}
use Rattle.scholten_core.specs.declared.parents.Parent.TheVariants.{Environment}
use Rattle.scholten_core.specs.Kept.{IsKept, engaged_from, held_in}
use Rattle.scholten_core.specs.Step.{started}
use Rattle.scholten_core.proofs.Fields.{started_kept, unchanged_kept}
use Rattle.scholten_core.proofs.diffusions.Diffusion.restart.Given.{Over}
use Rattle.scholten_core.proofs.diffusions.Diffusion.restart.Goals as goal
use Rattle.scholten_core.proofs.diffusions.Diffusion.restart.Goals.{After-push}

pub returns-in_err-reserve-clause-sound : goal.returns-in_err-reserve-clause-sound
returns-in_err-reserve-clause-sound g c =
    (unchanged_kept c.self.inside.letters c.reserve.new.self c.self.inside.signals.items c.self.inside.signals.items c.self.inside.environment c.self.inside.nodes.items c.self.inside.nodes.items c.reserve.ensures.letters c.reserve.ensures.sent refl refl c.self.invariant).sound

-- the first letter is all that there is
first : (g : Over) (c : After-push g) → held_in c.push.new.self c.clear.new.self.items c.clear-2.new.self.items ≡ started c.args.root c.args.load
first g c =
    let sent = c.restart.ensures.sent in
    let letters = c.restart.ensures.letters in
    λ i. record {
      sent = (c.push.ensures.sent ∙ ap (λ n. n + 1) sent) i;
      letters = (c.push.ensures.letters ∙ (λ j. letters j ++ (sent j + 1, record { from = Environment; to = c.args.root; held = false; load = c.args.load }) ∷ [])) i;
      signals = c.clear.ensures.items i;
      engaged = engaged_from 0 (c.clear-2.ensures.items i);
    }

pub invariant_of-self-2 : goal.invariant_of-self-2
invariant_of-self-2 g c =
    subst (λ d. IsKept d 1 c.clear-2.new.self.items) (sym (first g (goal.at.invariant_of-self-2 g c).After-push)) (started_kept c.args.root c.args.load c.clear-2.new.self.items c.clear-2.ensures.items)

pub push-requires : goal.push-requires
push-requires g c = record { room = c.restart.ensures.room (omega (arith, c.in_ok-reserve.ensures.room)); numbers = omega (arith, c.restart.ensures.sent); from = refl }

pub returns : goal.returns
returns g c = record { started = first g c; unchanged = tt; sound = (invariant_of-self-2 g c).sound }
