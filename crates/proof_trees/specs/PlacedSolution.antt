-- What a search found, by the order of finding, and the premises that it was found by.
use Rattle.std.specs.Prelude.{ℕ, ◌≡◌, ◌⊎◌, List, Some, Contains, slice_get}
use Rattle.names.specs.declared.roles.Role.{Role}
use Rattle.credential_text.specs.declared.credentials.Credential.{Credential}
use Rattle.credential_text.specs.declared.intersections.Part.{Part}
use Rattle.credential_text.specs.declared.exprs.Expr.{Expr}
use Rattle.credential_text.specs.declared.exprs.Expr.TheVariants.{Rol, Link, Meet}
use Rattle.credential_text.specs.Expr.{part_expr}
use Rattle.cred_graph.specs.declared.solutions.Reason.{Reason}
use Rattle.cred_graph.specs.declared.solutions.Reason.TheVariants as reason
use Rattle.cred_graph.specs.declared.solutions.Solution.{Solution}
use Rattle.cred_graph.specs.Graph.{GraphState, IsNode}
use Rattle.search.specs.Net.{ByRow}
use Rattle.proof_trees.specs.declared.placed_solutions.PlacedSolution.{PlacedSolution}

-- the solution stands at its place
abbrev pub Stands : GraphState → PlacedSolution → Type 0
Stands g f = slice_get g.solutions f.place ≡ Some f.solution

-- each solution that a body gave is by one of these credentials
abbrev pub AreByRows : List Credential → GraphState → Type 0
AreByRows rows g = (s : Solution) → Contains g.solutions s → ByRow rows g s.node s.reason

-- a solution of the node n is found for the reason once it is known that the entity d is in the expression
abbrev pub IsPremiseOf : GraphState → ℕ → List ℕ → Reason ℕ (List ℕ) → List ℕ → Expr → Type 0
IsPremiseOf g n who reason.Leaf d e = ⊥
IsPremiseOf g n who (reason.Body m) d e = (d ≡ who) × IsNode g m e
IsPremiseOf g n who (reason.Via b) d e =
    (base : Role) × (name : List ℕ) × IsNode g n (Link base name)
    × (((d ≡ b) × (e ≡ Rol base)) ⊎ ((d ≡ who) × (e ≡ Rol (record { owner = b; name = name }))))
IsPremiseOf g n who reason.Parts d e =
    (parts : List Part) × (part : Part) × IsNode g n (Meet parts) × Contains parts part × (d ≡ who) × (e ≡ part_expr part)

-- the same of a whole solution
abbrev pub IsPremise : GraphState → Solution → List ℕ → Expr → Type 0
IsPremise g s d e = IsPremiseOf g s.node s.who s.reason d e
