use Rattle.std.proofs.Common.{option_map, unwrap_or, sym, ap, ◌∙◌}
use Rattle.scholten_core.specs.declared.parents.Parent.TheVariants.{Neutral}
use Rattle.scholten_core.specs.declared.engagement.Engagement.{Engagement}
use Rattle.scholten_core.proofs.Fields.{get-engagements}
use Rattle.scholten_core.proofs.diffusions.Diffusion.parent.Goals as goal

pub returns-in-Some : goal.returns-in-Some
returns-in-Some g c =
    let parent = get-engagements c.self.inside.nodes.items c.args.node ∙ ap (option_map (λ (e : Engagement). e.parent)) (sym c.in-Some.ensures) in
    rw (← c.self.view_is) (sym (ap (λ o. unwrap_or o Neutral) parent))

pub returns-in-None : goal.returns-in-None
returns-in-None g c =
    let parent = get-engagements c.self.inside.nodes.items c.args.node ∙ ap (option_map (λ (e : Engagement). e.parent)) (sym c.in-None.ensures) in
    rw (← c.self.view_is) (sym (ap (λ o. unwrap_or o Neutral) parent))
