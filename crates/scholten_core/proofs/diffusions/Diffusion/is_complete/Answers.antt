use Rattle.std.proofs.Common.{eq-eqb, sym, ◌∙◌}
use Rattle.std.proofs.lemmas.Map.Views.{exact_unsigned_eq}
use Rattle.scholten_core.specs.declared.parents.Parent.TheVariants.{Environment}
use Rattle.scholten_core.proofs.Complete.{complete, ended, never_stuck}
use Rattle.scholten_core.proofs.diffusions.Diffusion.is_complete.Goals as goal

pub returns : goal.returns
returns g c =
    let sound = c.self.invariant.sound in
    let counts = c.self.invariant.counts Environment in
    let none = exact_unsigned_eq c.self.inside.environment 0 in
    let yes = eq-eqb c.self.inside.environment 0 in
    rw (← c.self.view_is) (record {
      environment = (λ h. sym counts ∙ none h, λ e. yes (counts ∙ e));
      complete = (λ h. complete _ sound (sym counts ∙ none h), λ e. yes (counts ∙ ended _ sound e));
      never_stuck = λ no_letters no_signals. yes (counts ∙ ended _ sound (never_stuck _ sound no_letters no_signals));
      sound = sound;
    })
