-- What the tables of a graph keep
use Rattle.std.specs.Prelude.{ℕ, zero, suc, List, [], ◌∷◌, ◌++◌, ◌≡◌, ◌↔◌, ◌⊎◌, Bool, true, false, Some, Contains, drop, length, map}
use Rattle.std.specs.Prelude.{slice_get, ◌==◌, filter, ◌≤◌, ◌^◌}
use Rattle.credential_text.specs.declared.exprs.Expr.{Expr}
use Rattle.credential_text.specs.declared.exprs.Expr.TheVariants.{Ent}
use Rattle.cred_graph.specs.declared.listeners.Port.{Port}
use Rattle.cred_graph.specs.declared.listeners.Port.TheVariants as port
use Rattle.cred_graph.specs.declared.listeners.Listening.{Listening}
use Rattle.cred_graph.specs.declared.listeners.KeptListening.{KeptListening}
use Rattle.cred_graph.specs.declared.listeners.KeptPort.{KeptPort}
use Rattle.cred_graph.specs.declared.listeners.KeptPort.TheVariants as kept
use Rattle.cred_graph.specs.Numbers.{entity_at, reason_at, IsEntity, IsReason}
use Rattle.cred_graph.specs.NodeLists.{list_at, AddsAt, AreSame, IsOnce}
use Rattle.cred_graph.specs.declared.solutions.Reason.{Reason}
use Rattle.cred_graph.specs.declared.solutions.Solution.{Solution}
use Rattle.cred_graph.specs.Graph.{GraphState, IsGraph}

-- the port that this one stands for
abbrev pub kept_as : List Expr → List Expr → KeptPort → Port (List ℕ)
kept_as nodes strangers kept.Body = port.Body
kept_as nodes strangers kept.Base = port.Base
kept_as nodes strangers (kept.Via k) = port.Via (entity_at nodes k)
kept_as nodes strangers (kept.Stranger j) = port.Via (entity_at strangers j)
kept_as nodes strangers (kept.Part i) = port.Part i

-- its number is that of an entity that is no stranger, or of a stranger
abbrev pub IsKept : List Expr → List Expr → KeptPort → Type 0
IsKept nodes strangers (kept.Via k) = (who : List ℕ) × (slice_get nodes k ≡ Some (Ent who)) × (Contains strangers (Ent who) → ⊥)
IsKept nodes strangers (kept.Stranger j) = IsEntity strangers j
IsKept nodes strangers _ = Unit {0}

-- the strangers stay, and may be joined by one more, who has no node
abbrev pub Joins : List Expr → List Expr → List Expr → Type 0
Joins nodes old new = (new ≡ old)
    ⊎ ((who : List ℕ) × (Contains nodes (Ent who) → ⊥) × (Contains old (Ent who) → ⊥) × (new ≡ old ++ Ent who ∷ []))

-- the listener that this one stands for
abbrev pub listening_as : List Expr → List Expr → KeptListening → Listening
listening_as nodes strangers l = record { asker = l.asker; port = kept_as nodes strangers l.port }

-- the listeners of k nodes from the node n on
abbrev pub lists_from : List Expr → List Expr → ℕ → ℕ → List (List KeptListening) → List (List Listening)
lists_from nodes strangers n zero lists = []
lists_from nodes strangers n (suc k) lists =
    map (listening_as nodes strangers) (list_at lists n) ∷ lists_from nodes strangers (suc n) k lists

-- a table has the listeners of each node beyond the first 8
abbrev pub AreFar : List (List KeptListening) → List (ℕ × KeptListening) → Type 0
AreFar lists rows = (n : ℕ) (l : KeptListening) → Contains rows (n, l) ↔ Contains (drop 8 (list_at lists n)) l

-- the list of this number has the listener now, and b says whether it is new
abbrev pub HearsOf : List (List KeptListening) → List (List KeptListening) → ℕ → KeptListening → Bool → Type 0
HearsOf old new n l true = (Contains (list_at old n) l → ⊥) × AddsAt old new n l
HearsOf old new n l false = Contains (list_at old n) l × AreSame old new

-- the solution that an entry of the table stands for
abbrev pub solution_as : List Expr → (ℕ × ℕ) × Reason ℕ ℕ → Solution
solution_as nodes e = record { node = e.0.0; who = entity_at nodes e.0.1; reason = reason_at nodes e.1 }

-- the table has an entry of this key
abbrev pub HasKey : List ((ℕ × ℕ) × Reason ℕ ℕ) → ℕ × ℕ → Type 0
HasKey entries key = (r : Reason ℕ ℕ) × Contains entries (key, r)

-- the entities that have an entry at the node, in order
abbrev pub members_by : ℕ → List ((ℕ × ℕ) × Reason ℕ ℕ) → List ℕ
members_by n entries = map (λ e. e.0.1) (filter (λ e. e.0.0 == n) entries)

-- the table has an entry of this key now, and b says whether it is new: an entry that is there keeps its reason
abbrev pub Solves : List ((ℕ × ℕ) × Reason ℕ ℕ) → List ((ℕ × ℕ) × Reason ℕ ℕ) → ℕ × ℕ → Reason ℕ ℕ → Bool → Type 0
Solves old new key r true = (HasKey old key → ⊥) × (new ≡ old ++ (key, r) ∷ [])
Solves old new key r false = HasKey old key × (new ≡ old)

-- the graph that the tables stand for
abbrev pub graph_as : List Expr → List Expr → List (List KeptListening) → List ((ℕ × ℕ) × Reason ℕ ℕ) → GraphState
graph_as nodes strangers lists entries =
    record { nodes = nodes; listeners = lists_from nodes strangers 0 (length nodes) lists; solutions = map (solution_as nodes) entries }

-- they are a graph, who is listened to is a node, and each number is one of an entity
pub record IsStored (nodes strangers : List Expr) (lists : List (List KeptListening)) (entries : List ((ℕ × ℕ) × Reason ℕ ℕ)) : Type 0 where
  pub graph : IsGraph (graph_as nodes strangers lists entries)
  pub short : length nodes ≤ 2 ^ 32
  pub once : IsOnce strangers
  pub asked : (n : ℕ) → length nodes ≤ n → list_at lists n ≡ []
  pub ports : (n : ℕ) (l : KeptListening) → Contains (list_at lists n) l → IsKept nodes strangers l.port
  pub members : (j : ℕ) (e : (ℕ × ℕ) × Reason ℕ ℕ) → slice_get entries j ≡ Some e → IsEntity nodes e.0.1
  pub reasons : (j : ℕ) (e : (ℕ × ℕ) × Reason ℕ ℕ) → slice_get entries j ≡ Some e → IsReason nodes e.1
