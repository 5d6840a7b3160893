use Rattle.std.proofs.Common.{ℕ, ◌∙◌}
use Rattle.std.proofs.lemmas.List.Elements.{All-nil}
use Rattle.search.specs.Net.{Said, IsLoad}
use Rattle.search.proofs.findings.Findings.give_back.Goals as goal

pub invariant_of-self : goal.invariant_of-self
invariant_of-self c =
    rw (c.give_back.ensures.unchanged, c.shrink_to_fit.ensures.items ∙ c.clear.ensures.items, c.shrink_to.ensures.items)
    (record { once = c.self.invariant.once; loads = All-nil (λ (o : ℕ × Said). IsLoad c.self.inside.graph.nodes o.1); monitors = c.self.invariant.monitors; ports = c.self.invariant.ports })
