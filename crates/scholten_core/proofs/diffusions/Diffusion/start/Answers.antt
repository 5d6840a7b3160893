use Rattle.std.proofs.Common.{◌≡◌, ◌+◌, ◌++◌, [], ◌∷◌, false, sym, ap, ◌∙◌, subst}
use Rattle.scholten_core.specs.declared.parents.Parent.TheVariants.{Environment}
use Rattle.scholten_core.specs.Kept.{IsKept, engaged_from, held_in}
use Rattle.scholten_core.specs.Step.{started}
use Rattle.scholten_core.proofs.Fields.{started_kept}
use Rattle.scholten_core.proofs.diffusions.Diffusion.start.Given.{Over}
use Rattle.scholten_core.proofs.diffusions.Diffusion.start.Goals as goal
use Rattle.scholten_core.proofs.diffusions.Diffusion.start.Goals.{After-new-3}

first : (g : Over) (c : After-new-3 g) → held_in c.push.new.self c.new-2.result.items c.new-3.result.items ≡ started c.args.root c.args.load
first g c =
    let sent = c.in_ok-letters.ensures.sent in
    let letters = c.in_ok-letters.ensures.letters in
    λ i. record {
      sent = (c.push.ensures.sent ∙ ap (λ n. n + 1) sent) i;
      letters = (c.push.ensures.letters ∙ (λ j. letters j ++ (sent j + 1, record { from = Environment; to = c.args.root; held = false; load = c.args.load }) ∷ [])) i;
      signals = c.new-2.ensures.items i;
      engaged = engaged_from 0 (c.new-3.ensures.items i);
    }

pub invariant_of-result : goal.invariant_of-result
invariant_of-result g c =
    subst (λ d. IsKept d 1 c.new-3.result.items) (sym (first g c)) (started_kept c.args.root c.args.load c.new-3.result.items c.new-3.ensures.items)

pub returns : goal.returns
returns g c = record { started = first g c; sound = (invariant_of-result g c).sound }
