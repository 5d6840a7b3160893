-- Proofs that say nothing twice and nothing in vain.
use Rattle.std.specs.Prelude.{ℕ, ◌+◌, ◌<◌, ◌≡◌, List, [], ◌∷◌, Some, Contains, length, slice_get}
use Rattle.proof_trees.specs.declared.steps.Step.{Step}
use Rattle.proof_trees.specs.declared.steps.Rule.{Rule}
use Rattle.proof_trees.specs.declared.steps.Rule.TheVariants.{Leaf, Cred, Link, Parts}

-- the steps that a rule cites
abbrev pub cited : Rule → List ℕ
cited Leaf = []
cited (Cred place) = place ∷ []
cited (Link base role) = base ∷ role ∷ []
cited (Parts places) = places

-- a later step cites this one
abbrev pub IsCitedLater : List Step → ℕ → Type 0
IsCitedLater steps i = (j : ℕ) × (t : Step) × (i < j) × (slice_get steps j ≡ Some t) × Contains (cited t.rule) i

-- no two steps claim the same entity in the same expression
abbrev pub AreApart : List Step → Type 0
AreApart steps =
    (i j : ℕ) (s t : Step) → slice_get steps i ≡ Some s → slice_get steps j ≡ Some t →
    s.who ≡ t.who → s.claim ≡ t.claim → i ≡ j

-- the same, and each step but the last is cited by a later one
pub record IsLean (steps : List Step) : Type 0 where
  pub apart : AreApart steps
  pub used : (i : ℕ) → i + 1 < length steps → IsCitedLater steps i
