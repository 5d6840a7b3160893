-- A proof in the making.
use Rattle.std.specs.Prelude.{ℕ, ◌≡◌, List, [], ◌∷◌, ◌++◌, Some, Contains, slice_get}
use Rattle.std.specs.List.{AllZip}
use Rattle.names.specs.declared.roles.Role.{Role}
use Rattle.credential_text.specs.declared.credentials.Credential.{Credential}
use Rattle.credential_text.specs.declared.intersections.Part.{Part}
use Rattle.credential_text.specs.declared.exprs.Expr.{Expr}
use Rattle.credential_text.specs.declared.exprs.Expr.TheVariants as expr
use Rattle.credential_text.specs.Expr.{part_expr}
use Rattle.rt0_rules.specs.Work.{AreDistinct}
use Rattle.cred_graph.specs.declared.solutions.Reason.{Reason}
use Rattle.cred_graph.specs.declared.solutions.Reason.TheVariants as reason
use Rattle.cred_graph.specs.declared.solutions.Solution.{Solution}
use Rattle.cred_graph.specs.Graph.{GraphState, IsNode, IsGraph}
use Rattle.proof_trees.specs.declared.placed_solutions.PlacedSolution.{PlacedSolution}
use Rattle.proof_trees.specs.declared.steps.Step.{Step}
use Rattle.proof_trees.specs.declared.steps.Rule.{Rule}
use Rattle.proof_trees.specs.declared.steps.Rule.TheVariants as rule
use Rattle.proof_trees.specs.Proof.{Claims, ClaimsEach, AreByRules}
use Rattle.proof_trees.specs.PlacedSolution.{Stands, AreByRows, IsPremise}

-- the steps so far, and where the solutions that they claim stand in the graph
pub record DraftState : Type 0 where
  pub places : List ℕ
  pub steps : List Step

-- the step claims the solution at the place
pub record IsStepOf (g : GraphState) (place : ℕ) (s : Step) : Type 0 where
  pub node : ℕ
  pub reason : Reason ℕ (List ℕ)
  pub solution : slice_get g.solutions place ≡ Some (record { node = node; who = s.who; reason = reason })
  pub claim : IsNode g node s.claim

-- each step claims its solution, no two the same, and is by its rule wherever the solutions are by the rows
pub record IsDraft (g : GraphState) (d : DraftState) : Type 0 where
  pub graph : IsGraph g
  pub claims : AllZip (IsStepOf g) d.places d.steps
  pub distinct : AreDistinct d.places
  pub by_rules : (rows : List Credential) → AreByRows rows g → AreByRules rows d.steps

-- it was found of the entity, and no step claims it
pub record IsMissing (g : GraphState) (d : DraftState) (who : List ℕ) (f : PlacedSolution) : Type 0 where
  pub stands : Stands g f
  pub entity : f.solution.who ≡ who
  pub absent : Contains d.places f.place → ⊥

-- it was found of the entity in one of the parts, and no step claims it
pub record IsMissingPart (g : GraphState) (d : DraftState) (parts : List Part) (who : List ℕ) (f : PlacedSolution) : Type 0 where
  pub part : Part
  pub among : Contains parts part
  pub node : IsNode g f.solution.node (part_expr part)
  pub missing : IsMissing g d who f

-- it is a premise of the solution, and no step claims it
pub record IsMissingPremise (g : GraphState) (d : DraftState) (s : Solution) (f : PlacedSolution) : Type 0 where
  pub expr : Expr
  pub node : IsNode g f.solution.node expr
  pub premise : IsPremise g s f.solution.who expr
  pub stands : Stands g f
  pub absent : Contains d.places f.place → ⊥

-- the rule gives the solution of the node n, for its reason, from these steps
abbrev pub IsByReason : GraphState → List Step → ℕ → List ℕ → Reason ℕ (List ℕ) → Rule → Type 0
IsByReason g steps n who reason.Leaf rule.Leaf = IsNode g n (expr.Ent who)
IsByReason g steps n who (reason.Body m) (rule.Cred place) = (e : Expr) × IsNode g m e × Claims steps place who e
IsByReason g steps n who (reason.Via b) (rule.Link base_place role_place) =
    (base : Role) × (name : List ℕ) × IsNode g n (expr.Link base name)
    × Claims steps base_place b (expr.Rol base) × Claims steps role_place who (expr.Rol (record { owner = b; name = name }))
IsByReason g steps n who reason.Parts (rule.Parts places) =
    (part : Part) × (parts : List Part) × IsNode g n (expr.Meet (part ∷ parts)) × ClaimsEach steps places who (part ∷ parts)
IsByReason g steps n who _ _ = ⊥

-- the draft has one step more, which claims the solution by the rule
pub record IsStepped (g : GraphState) (old new : DraftState) (f : PlacedSolution) (by : Rule) : Type 0 where
  pub claim : Expr
  pub node : IsNode g f.solution.node claim
  pub after : new ≡ record {
    places = old.places ++ f.place ∷ [];
    steps = old.steps ++ record { who = f.solution.who; claim = claim; rule = by } ∷ [];
  }
