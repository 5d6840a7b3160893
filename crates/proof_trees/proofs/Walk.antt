-- The solutions that a walk over the reasons still needs, each a premise of the one before it.
use Rattle.std.proofs.Common.{ℕ, ◌+◌, ◌-◌, ◌*◌, ◌<◌, ◌≡◌, ◌⊎◌, List, [], ◌∷◌, ◌++◌, Some, Contains, length, slice_get}
use Rattle.credential_text.specs.declared.exprs.Expr.{Expr}
use Rattle.cred_graph.specs.Graph.{GraphState, IsNode}
use Rattle.proof_trees.specs.declared.placed_solutions.PlacedSolution.{PlacedSolution}
use Rattle.proof_trees.specs.declared.steps.Step.{Step}
use Rattle.proof_trees.specs.Lean.{IsCitedLater}
use Rattle.proof_trees.specs.PlacedSolution.{Stands, IsPremise}
use Rattle.proof_trees.specs.Draft.{DraftState, IsDraft}

-- the second stands in the graph as a premise of the first, found earlier
pub record Supports (g : GraphState) (f p : PlacedSolution) : Type 0 where
  pub stands : Stands g p
  pub earlier : p.place < f.place
  pub expr : Expr
  pub node : IsNode g p.solution.node expr
  pub premise : IsPremise g f.solution p.solution.who expr

-- each is a premise of the one before it, and the first of this one
abbrev pub IsPath : GraphState → PlacedSolution → List PlacedSolution → Type 0
IsPath g f [] = Unit {0}
IsPath g f (p ∷ ps) = Supports g f p × IsPath g p ps

-- a path from the asked solution is needed; or nothing, and the last step claims that one
abbrev pub IsNeeded : GraphState → PlacedSolution → List ℕ → List PlacedSolution → Type 0
IsNeeded g asked places [] = (front : List ℕ) × (places ≡ front ++ asked.place ∷ [])
IsNeeded g asked places (f ∷ fs) = (f ≡ asked) × IsPath g f fs

-- what the step claims is a premise of one that is needed
abbrev pub IsAwaited : GraphState → List PlacedSolution → Step → Type 0
IsAwaited g needed s = (f : PlacedSolution) × Contains needed f × IsPremise g f.solution s.who s.claim

-- a step has a use: it is cited, or awaited, or the last
abbrev pub IsOfUse : GraphState → List Step → List PlacedSolution → ℕ → Step → Type 0
IsOfUse g steps needed i s = IsCitedLater steps i ⊎ (IsAwaited g needed s ⊎ ((needed ≡ []) × (i + 1 ≡ length steps)))

pub record IsWalk (g : GraphState) (asked : PlacedSolution) (d : DraftState) (needed : List PlacedSolution) : Type 0 where
  pub draft : IsDraft g d
  pub needed_is : IsNeeded g asked d.places needed
  pub absent : (f : PlacedSolution) → Contains needed f → Contains d.places f.place → ⊥
  pub of_use : (i : ℕ) (s : Step) → slice_get d.steps i ≡ Some s → IsOfUse g d.steps needed i s

-- the place of the solution that is needed first, the last of these
abbrev pub first_need : List PlacedSolution → ℕ
first_need [] = 0
first_need (f ∷ []) = f.place
first_need (f ∷ p ∷ ps) = first_need (p ∷ ps)

-- how far the walk is from its end
abbrev pub walk_left : GraphState → DraftState → List PlacedSolution → ℕ
walk_left g d needed = (length g.solutions - length d.places) * (length g.solutions + 1) + first_need needed
