use Rattle.std.proofs.Common.{◌∙◌, arith, refl}
use Rattle.cred_graph.proofs.tables.Tables.clear.Goals as goal

pub invariant_of-self : goal.invariant_of-self
invariant_of-self c =
    rw (c.shrink_to.ensures.items ∙ c.clear.ensures.items, c.shrink_to-2.ensures.keys ∙ c.clear-2.ensures.empty, c.shrink_to-3.ensures.entries ∙ c.clear-3.ensures.empty)
    (λ n l. (λ here. absurd (omega (arith, here.1)), λ here. absurd (omega (arith, here.1))), λ n. refl)

pub returns : goal.returns
returns c = rw (c.shrink_to.ensures.items ∙ c.clear.ensures.items, c.shrink_to-3.ensures.entries ∙ c.clear-3.ensures.empty)
