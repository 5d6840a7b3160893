use Rattle.std.proofs.Common.{◌∙◌}
use Rattle.std.proofs.lemmas.List.Elements.{same_from_all_zip}
use Rattle.credential_text.proofs.intersections.Parts.try_clone.Goals as goal

pub returns : goal.returns
returns c = same_from_all_zip _ _ _ c.in_ok-parts.ensures.cases.0 (λ x y same. same) ∙ c.self.view_is
