-- What a graph is seen as, what every graph keeps, and what its calls add
use Rattle.std.specs.Prelude.{ℕ, List, [], ◌∷◌, ◌++◌, ◌≡◌, ◌==◌, Some, Contains, slice_get, slice_set, take, filter, map, All, ◌<◌, Bool}
use Rattle.std.specs.Prelude.{true, false, length}
use Rattle.names.specs.declared.roles.Role.{Role}
use Rattle.credential_text.specs.declared.exprs.Expr.{Expr}
use Rattle.credential_text.specs.declared.exprs.Expr.TheVariants.{Ent, Rol, Link, Meet}
use Rattle.credential_text.specs.declared.intersections.Part.{Part}
use Rattle.credential_text.specs.Expr.{part_expr, HasPartsInRange}
use Rattle.cred_graph.specs.declared.listeners.Listening.{Listening}
use Rattle.cred_graph.specs.declared.solutions.Reason.{Reason}
use Rattle.cred_graph.specs.declared.solutions.Solution.{Solution}
use Rattle.cred_graph.specs.NodeLists.{list_at, IsOnce}
use Rattle.cred_graph.specs.declared.solutions.Reason.TheVariants as reason

-- the expressions and the lists of listeners by node number, and the solutions of all nodes; each list in order of adding
pub record GraphState : Type 0 where
  pub nodes : List Expr
  pub listeners : List (List Listening)
  pub solutions : List Solution

abbrev pub empty_graph : GraphState
empty_graph = record { nodes = []; listeners = []; solutions = [] }

-- n is the node of the expression
abbrev pub IsNode : GraphState → ℕ → Expr → Type 0
IsNode g n e = slice_get g.nodes n ≡ Some e

-- the entity is a solution of the node, for some reason
abbrev pub IsSolution : GraphState → ℕ → List ℕ → Type 0
IsSolution g n who = (reason : Reason ℕ (List ℕ)) × Contains g.solutions (record { node = n; who = who; reason = reason })

-- the entity is a solution of the node of the expression
abbrev pub Known : GraphState → List ℕ → Expr → Type 0
Known g who e = (n : ℕ) × IsNode g n e × IsSolution g n who

-- the node's listeners, in order of adding
abbrev pub listeners_of : GraphState → ℕ → List Listening
listeners_of g n = list_at g.listeners n

-- the listener is one of the node's
abbrev pub Listens : GraphState → ℕ → Listening → Type 0
Listens g n l = Contains (listeners_of g n) l

-- the node's solutions, in order of adding
abbrev pub members_of : GraphState → ℕ → List (List ℕ)
members_of g n = map (λ s. s.who) (filter (λ s. s.node == n) g.solutions)

-- the graph with its first k solutions alone
abbrev pub before : ℕ → GraphState → GraphState
before k g = record g { solutions = take k g.solutions }

-- the reason fits the node, and its premises are solutions
abbrev pub Fits : GraphState → ℕ → List ℕ → Reason ℕ (List ℕ) → Type 0
Fits g n who reason.Leaf = IsNode g n (Ent who)
Fits g n who (reason.Body m) = (r : Role) × (e : Expr) × IsNode g n (Rol r) × IsNode g m e × IsSolution g m who
Fits g n who (reason.Via b) =
    (r : Role) × (t : List ℕ) × IsNode g n (Link r t) × Known g b (Rol r) × Known g who (Rol (record { owner = b; name = t }))
Fits g n who reason.Parts = (parts : List Part) × IsNode g n (Meet parts) × All (λ p. Known g who (part_expr p)) parts

-- each expression and solution stands once, and so does each listener of a node; listeners are nodes of the graph; each
-- solution's premises were found before it
pub record IsGraph (g : GraphState) : Type 0 where
  pub one_node : IsOnce g.nodes
  pub parts_in_range : (n : ℕ) (e : Expr) → IsNode g n e → HasPartsInRange e
  pub one_list_each : length g.listeners ≡ length g.nodes
  pub askers_in_range : (n : ℕ) (l : Listening) → Listens g n l → l.asker < length g.nodes
  pub one_listening : (n : ℕ) → IsOnce (listeners_of g n)
  pub one_solution : (i j : ℕ) (s t : Solution) → slice_get g.solutions i ≡ Some s → slice_get g.solutions j ≡ Some t →
      s.node ≡ t.node → s.who ≡ t.who → i ≡ j
  pub justified : (i : ℕ) (s : Solution) → slice_get g.solutions i ≡ Some s → Fits (before i g) s.node s.who s.reason

-- the expression has the number n now, and b says whether it is new
abbrev pub NodeGiven : GraphState → GraphState → Expr → ℕ → Bool → Type 0
NodeGiven g h e n true =
    (Contains g.nodes e → ⊥) × HasPartsInRange e × (n ≡ length g.nodes) ×
    (h ≡ record g { nodes = g.nodes ++ e ∷ []; listeners = g.listeners ++ [] ∷ [] })
NodeGiven g h e n false = IsNode g n e × (h ≡ g)

-- the node n has the listener now, and b says whether it is new
abbrev pub ListenerGiven : GraphState → GraphState → ℕ → Listening → Bool → Type 0
ListenerGiven g h n l true = (Listens g n l → ⊥) × (h ≡ record g { listeners = slice_set g.listeners n (listeners_of g n ++ l ∷ []) })
ListenerGiven g h n l false = Listens g n l × (h ≡ g)

-- the entity is a solution of the node now, and b says whether it is new
abbrev pub SolutionGiven : GraphState → GraphState → Solution → Bool → Type 0
SolutionGiven g h s true = (IsSolution g s.node s.who → ⊥) × (h ≡ record g { solutions = g.solutions ++ s ∷ [] })
SolutionGiven g h s false = IsSolution g s.node s.who × (h ≡ g)
