-- How a node answers a letter: what it finds, and what it sends; and when it may.
use Rattle.std.specs.Prelude.{ℕ, ◌+◌, ◌<◌, Bool, true, false, List, [], ◌∷◌, ◌++◌, ◌≡◌, ◌⊎◌, Some}
use Rattle.std.specs.Prelude.{Contains, if◌then◌else◌, length, map, slice_get, slice_set}
use Rattle.std.specs.FinSet as set
use Rattle.names.specs.declared.roles.Role.{Role}
use Rattle.credential_text.specs.declared.credentials.Credential.{Credential}
use Rattle.credential_text.specs.declared.intersections.Part.{Part}
use Rattle.credential_text.specs.declared.exprs.Expr.{Expr}
use Rattle.credential_text.specs.declared.exprs.Expr.TheVariants.{Ent, Rol, Link, Meet}
use Rattle.credential_text.specs.Expr.{part_expr}
use Rattle.cred_graph.specs.declared.listeners.Port.{Port}
use Rattle.cred_graph.specs.declared.listeners.Port.TheVariants as port
use Rattle.cred_graph.specs.declared.solutions.Reason.{Reason}
use Rattle.cred_graph.specs.declared.solutions.Reason.TheVariants as reason
use Rattle.cred_graph.specs.Graph.{Fits, GraphState, IsNode, ListenerGiven, NodeGiven, SolutionGiven, listeners_of, members_of}
use Rattle.monitors.specs.LinkMonitor.{AddsKey}
use Rattle.monitors.specs.MeetMonitor.{MeetTold, HearsPart, AllTold, with_tell}
use Rattle.scholten_core.specs.declared.parents.Parent.{Parent}
use Rattle.scholten_core.specs.declared.parents.Parent.TheVariants.{Environment, Node}
use Rattle.vaults.specs.Journal.{Vault}
use Rattle.snapshots.specs.Span.{role_rows}
use Rattle.search.specs.declared.letters.Load.TheVariants as load
use Rattle.search.specs.declared.findings.Monitor.{Monitor}
use Rattle.search.specs.declared.findings.Monitor.TheVariants as monitor
use Rattle.search.specs.Net.{Words, Net, Sent, sent_by, IsSteady}

-- what was found while a node answers a letter, and what it sends
pub record Progress : Type 0 where
  pub graph : GraphState
  pub monitors : List Monitor
  pub outs : List (ℕ × Words)

abbrev pub progress : GraphState → List Monitor → List (ℕ × Words) → Progress
progress g ms outs = record { graph = g; monitors = ms; outs = outs }

-- the search while a node answers a letter: the other letters, and those that it sends
abbrev pub net_at : Progress → List Sent → ℕ → Net
net_at s rest node = record { graph = s.graph; monitors = s.monitors; pending = rest ++ sent_by node s.outs }

-- what a new node remembers: nothing was told yet
abbrev pub new_monitor : Expr → Monitor
new_monitor (Link r t) = monitor.Link []
new_monitor (Meet parts) = monitor.Meet (record { parts = length parts; told = set.empty })
new_monitor _ = monitor.Plain

-- an Ask goes to the node of the expression, which is added with its monitor where there is none
abbrev pub AsksFor : Progress → Progress → Expr → Port (List ℕ) → Type 0
AsksFor s t e p =
    (to : ℕ) × (new : Bool) × NodeGiven s.graph t.graph e to new × (t.outs ≡ s.outs ++ (to, load.Ask p) ∷ [])
    × (t.monitors ≡ (if new then s.monitors ++ new_monitor e ∷ [] else s.monitors))

-- these expressions are asked in turn
abbrev pub AsksEach : Progress → List (Expr × Port (List ℕ)) → Progress → Type 0
AsksEach s [] t = t ≡ s
AsksEach s (w ∷ ws) t = (mid : Progress) × AsksFor s mid w.0 w.1 × AsksEach mid ws t

-- the entity is a solution of the node now; where it is new, every listener is told
abbrev pub Solves : Progress → Progress → ℕ → List ℕ → Reason ℕ (List ℕ) → Type 0
Solves s t n who why =
    (new : Bool) × SolutionGiven s.graph t.graph (record { node = n; who = who; reason = why }) new × (t.monitors ≡ s.monitors)
    × (t.outs ≡ (if new then s.outs ++ map (λ l. (l.asker, load.Tell l.port who)) (listeners_of s.graph n) else s.outs))

-- the node m listens to the node n now; where that is new, it is told each solution that the node has
abbrev pub HearsAsk : Progress → Progress → ℕ → ℕ → Port (List ℕ) → Type 0
HearsAsk s t n m p =
    (new : Bool) × ListenerGiven s.graph t.graph n (record { asker = m; port = p }) new × (t.monitors ≡ s.monitors)
    × (t.outs ≡ (if new then s.outs ++ map (λ who. (m, load.Tell p who)) (members_of s.graph n) else s.outs))

-- a linked role is told a member of its base, which its monitor hears: where it is new, the member's role is asked
abbrev pub TellsBase : Progress → Progress → ℕ → List ℕ → Type 0
TellsBase s t node base =
    (r : Role) × (name : List ℕ) × IsNode s.graph node (Link r name)
    × ((new : Bool) × (ms : List Monitor)
    × ((x y : List (List ℕ)) × (slice_get s.monitors node ≡ Some (monitor.Link x)) × AddsKey x y base new
    × (ms ≡ slice_set s.monitors node (monitor.Link y)))
    × (((new ≡ false) × (t ≡ record s { monitors = ms }))
    ⊎ ((new ≡ true) × AsksFor (record s { monitors = ms }) t (Rol (record { owner = base; name = name })) (port.Via base))))

-- an intersection is told an entity by its part i, which its monitor hears: with the last part it is a solution
abbrev pub TellsPart : Progress → Progress → ℕ → ℕ → List ℕ → Type 0
TellsPart s t node i who =
    (last : Bool) × (ms : List Monitor)
    × ((x y : MeetTold) × (slice_get s.monitors node ≡ Some (monitor.Meet x)) × HearsPart x y i who last
    × (ms ≡ slice_set s.monitors node (monitor.Meet y)))
    × (((last ≡ false) × (t ≡ record s { monitors = ms }))
    ⊎ ((last ≡ true) × Solves (record s { monitors = ms }) t node who reason.Parts))

-- a node takes in what the node m told it on a port
abbrev pub TakesIn : Progress → Progress → ℕ → ℕ → Port (List ℕ) → List ℕ → Type 0
TakesIn s t n m port.Body who = Solves s t n who (reason.Body m)
TakesIn s t n m port.Base who = TellsBase s t n who
TakesIn s t n m (port.Via b) who = Solves s t n who (reason.Via b)
TakesIn s t n m (port.Part i) who = TellsPart s t n i who

-- where with this tell the last part has told the entity, it is known of each part
abbrev pub TellsLast : GraphState → List Monitor → ℕ → ℕ → List ℕ → Type 0
TellsLast g ms n i who =
    (x : MeetTold) → slice_get ms n ≡ Some (monitor.Meet x) → AllTold (with_tell x i who) who → Fits g n who reason.Parts

-- the node is one that the node m may tell this
abbrev pub MayTakeIn : GraphState → List Monitor → ℕ → ℕ → Port (List ℕ) → List ℕ → Type 0
MayTakeIn g ms n m port.Body who = Fits g n who (reason.Body m)
MayTakeIn g ms n m port.Base who =
    ((r : Role) × (name : List ℕ) × IsNode g n (Link r name)) × ((x : List (List ℕ)) × (slice_get ms n ≡ Some (monitor.Link x)))
MayTakeIn g ms n m (port.Via b) who = Fits g n who (reason.Via b)
MayTakeIn g ms n m (port.Part i) who =
    ((x : MeetTold) × (slice_get ms n ≡ Some (monitor.Meet x)) × (i < x.parts)) × TellsLast g ms n i who

-- the asks of a role: the body of each of its rows
abbrev pub row_asks : List Credential → List (Expr × Port (List ℕ))
row_asks rows = map (λ c. (c.body, port.Body)) rows

-- the asks of an intersection, from its part i on
abbrev pub part_asks : ℕ → List Part → List (Expr × Port (List ℕ))
part_asks i [] = []
part_asks i (p ∷ ps) = (part_expr p, port.Part i) ∷ part_asks (i + 1) ps

-- the node of the expression opens, where these are the rows of its role: an entity is its own solution, any other asks
abbrev pub Opens : List Credential → Progress → Progress → ℕ → Expr → Type 0
Opens rows s t n (Ent d) = Solves s t n d reason.Leaf
Opens rows s t n (Rol r) = AsksEach s (row_asks rows) t
Opens rows s t n (Link r name) = AsksEach s ((Rol r, port.Base) ∷ []) t
Opens rows s t n (Meet parts) = AsksEach s (part_asks 0 parts) t

-- the node was asked before: the asked role's by the environment, any other by a listener
abbrev pub IsOpenAt : GraphState → ℕ → Type 0
IsOpenAt g n = (n ≡ 0) ⊎ (0 < length (listeners_of g n))

-- the rows that the expression asks, where it is a role
abbrev pub own_rows : List Vault → Expr → List Credential
own_rows view (Rol r) = role_rows view r
own_rows view _ = []

-- a node is asked on a port by the node m: at its first Ask it opens, and then it hears the asker
abbrev pub AnswersAsk : List Vault → Progress → Progress → ℕ → ℕ → Port (List ℕ) → Type 0
AnswersAsk view s t n m p =
    (mid : Progress)
    × ((IsOpenAt s.graph n × (mid ≡ s))
    ⊎ ((IsOpenAt s.graph n → ⊥) × ((e : Expr) → IsNode s.graph n e → Opens (own_rows view e) s mid n e)))
    × HearsAsk mid t n m p

-- how a node answers a letter from this sender: the environment's opens it
abbrev pub Answers : List Vault → Progress → Progress → Parent → ℕ → Words → Type 0
Answers view s t Environment to load.Start = (e : Expr) → IsNode s.graph to e → Opens (own_rows view e) s t to e
Answers view s t (Node m) to (load.Ask p) = AnswersAsk view s t to m p
Answers view s t (Node m) to (load.Tell p who) = TakesIn s t to m p who
Answers view s t _ to _ = ⊥

-- a letter among those under way is to be received: the environment's is the only one
pub record Awaits (rows : List Credential) (asked : Role) (g : GraphState) (ms : List Monitor) (rest : List Sent)
    (from : Parent) (to : ℕ) (l : Words) : Type 0 where
  pub there : Contains rest (record { from = from; to = to; load = l })
  pub alone : (l ≡ load.Start → ⊥) → (n : ℕ) → Contains rest (record { from = Environment; to = n; load = load.Start }) → ⊥
  pub steady : IsSteady rows asked (net_at (progress g ms []) rest to)
