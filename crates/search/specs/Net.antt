-- What a search has found, what is under way, and how the two stand to the rules at each moment
use Rattle.std.specs.Prelude.{ℕ, List, ◌≡◌, ◌⊎◌, Some, Contains, map, slice_get, ◌<◌, length}
use Rattle.std.specs.List.{AllZip}
use Rattle.names.specs.declared.roles.Role.{Role}
use Rattle.credential_text.specs.declared.credentials.Credential.{Credential}
use Rattle.credential_text.specs.declared.intersections.Part.{Part}
use Rattle.credential_text.specs.declared.exprs.Expr.{Expr}
use Rattle.credential_text.specs.declared.exprs.Expr.TheVariants.{Ent, Rol, Link, Meet}
use Rattle.credential_text.specs.Expr.{part_expr}
use Rattle.rt0_rules.specs.Derivation.{Derives}
use Rattle.rt0_rules.specs.Asks.{Why, Asks, for_body, for_base, for_via, for_part, Demanded}
use Rattle.rt0_rules.specs.FixedPoint.{RulesAreOwed}
use Rattle.cred_graph.specs.declared.listeners.Port.{Port}
use Rattle.cred_graph.specs.declared.listeners.Port.TheVariants as port
use Rattle.cred_graph.specs.declared.solutions.Reason.{Reason}
use Rattle.cred_graph.specs.declared.solutions.Reason.TheVariants as reason
use Rattle.cred_graph.specs.declared.solutions.Solution.{Solution}
use Rattle.cred_graph.specs.Numbers.{IsEntity, IsPort, entity_at, port_at}
use Rattle.cred_graph.specs.Graph.{GraphState, IsNode, IsSolution, Known, Listens, IsGraph}
use Rattle.monitors.specs.MeetMonitor.{MeetTold, HasTold}
use Rattle.scholten_core.specs.declared.parents.Parent.{Parent}
use Rattle.scholten_core.specs.declared.parents.Parent.TheVariants.{Environment, Node}
use Rattle.scholten_core.specs.declared.letters.Letter.{Letter}
use Rattle.search.specs.declared.letters.Load.{Load}
use Rattle.search.specs.declared.letters.Load.TheVariants as load
use Rattle.search.specs.declared.findings.Monitor.{Monitor}
use Rattle.search.specs.declared.findings.Monitor.TheVariants as monitor

-- what a letter says, of entities by number
abbrev pub Said : Type 0
Said = Load ℕ

-- the same in words, of entities by name
abbrev pub Words : Type 0
Words = Load (List ℕ)

-- what a letter says in words, where its numbers are those of entities among these nodes
abbrev pub load_at : List Expr → Said → Words
load_at nodes load.Start = load.Start
load_at nodes (load.Ask p) = load.Ask (port_at nodes p)
load_at nodes (load.Tell p k) = load.Tell (port_at nodes p) (entity_at nodes k)

-- its numbers are entities'
abbrev pub IsLoad : List Expr → Said → Type 0
IsLoad nodes load.Start = Unit {0}
IsLoad nodes (load.Ask p) = IsPort nodes p
IsLoad nodes (load.Tell p k) = IsPort nodes p × IsEntity nodes k

-- a letter that is waiting or held, in words and without its number
pub record Sent : Type 0 where
  pub from : Parent
  pub to : ℕ
  pub load : Words

-- what a search has found, and what is under way
pub record Net : Type 0 where
  pub graph : GraphState
  pub monitors : List Monitor
  pub pending : List Sent

-- a letter in words
abbrev pub in_words : List Expr → Letter Said → Sent
in_words nodes l = record { from = l.from; to = l.to; load = load_at nodes l.load }

-- the letters of a diffusing computation, whether held or waiting
abbrev pub sent_of : List Expr → List (ℕ × Letter Said) → List Sent
sent_of nodes letters = map (λ l. in_words nodes l.1) letters

-- what a node answers, in words
abbrev pub outs_at : List Expr → List (ℕ × Said) → List (ℕ × Words)
outs_at nodes outs = map (λ o. (o.0, load_at nodes o.1)) outs

-- what a node sends in one receipt
abbrev pub sent_by : ℕ → List (ℕ × Words) → List Sent
sent_by node outs = map (λ out. record { from = Node node; to = out.0; load = out.1 }) outs

-- the reason for which a port listens
abbrev pub why_of : Port (List ℕ) → Why
why_of port.Body = for_body
why_of port.Base = for_base
why_of (port.Via b) = for_via b
why_of (port.Part i) = for_part i

-- the node m listens to the node n
abbrev pub HasListener : Net → ℕ → ℕ → Port (List ℕ) → Type 0
HasListener net n m p = Listens net.graph n (record { asker = m; port = p })

-- the environment's letter is under way
abbrev pub IsPendingStart : Net → Type 0
IsPendingStart net = (n : ℕ) × Contains net.pending (record { from = Environment; to = n; load = load.Start })

-- the linked role at m was told this member of its base
abbrev pub IsBaseTold : Net → ℕ → List ℕ → Type 0
IsBaseTold net m b = (bases : List (List ℕ)) × (slice_get net.monitors m ≡ Some (monitor.Link bases)) × Contains bases b

-- the intersection at m was told this entity by its part i
abbrev pub IsPartTold : Net → ℕ → ℕ → List ℕ → Type 0
IsPartTold net m i who = (x : MeetTold) × (slice_get net.monitors m ≡ Some (monitor.Meet x)) × HasTold x i who

-- the node was asked: a node listens to it, or it is the asked role's and the environment's letter was received
abbrev pub IsOpen : Net → ℕ → Type 0
IsOpen net n = ((m : ℕ) × (p : Port (List ℕ)) × HasListener net n m p) ⊎ ((n ≡ 0) × (IsPendingStart net → ⊥))

-- m listens to the node of the expression, or its Ask is under way
abbrev pub IsAsked : Net → ℕ → Port (List ℕ) → Expr → Type 0
IsAsked net m p f =
    (n : ℕ) × IsNode net.graph n f
    × (HasListener net n m p ⊎ Contains net.pending (record { from = Node m; to = n; load = load.Ask p }))

-- m has taken in what it was told on this port
abbrev pub IsTaken : Net → ℕ → Port (List ℕ) → List ℕ → Type 0
IsTaken net m port.Base who = IsBaseTold net m who
IsTaken net m (port.Part i) who = IsPartTold net m i who
IsTaken net m _ who = IsSolution net.graph m who

-- m may ask n on this port
abbrev pub AskFits : List Credential → Net → ℕ → Port (List ℕ) → ℕ → Type 0
AskFits rows net m p n = (e f : Expr) × IsNode net.graph m e × IsNode net.graph n f × Asks rows (Known net.graph) e (why_of p) f

-- the letter may be sent: the environment's goes to the asked role's node, an Ask stands to reason, a Tell is of a
-- listener and a solution
abbrev pub LetterFits : List Credential → Net → Parent → ℕ → Words → Type 0
LetterFits rows net Environment to load.Start = to ≡ 0
LetterFits rows net (Node m) to (load.Ask p) = AskFits rows net m p to
LetterFits rows net (Node n) to (load.Tell p who) = HasListener net n to p × IsSolution net.graph n who
LetterFits rows net _ to _ = ⊥

-- a role's solution by the body at m is by a credential with that body
abbrev pub ByRow : List Credential → GraphState → ℕ → Reason ℕ (List ℕ) → Type 0
ByRow rows g n (reason.Body m) = (c : Credential) × Contains rows c × IsNode g n (Rol c.head) × IsNode g m c.body
ByRow rows g n _ = Unit {0}

-- a solution is derivable, and by a row where a body gave it
pub record SolutionFits (rows : List Credential) (g : GraphState) (s : Solution) : Type 0 where
  pub expr : Expr
  pub node : IsNode g s.node expr
  pub derives : Derives rows s.who expr
  pub by_row : ByRow rows g s.node s.reason

-- what a part told is a solution of that part
pub record PartFits (net : Net) (m i : ℕ) (who : List ℕ) : Type 0 where
  pub parts : List Part
  pub part : Part
  pub node : IsNode net.graph m (Meet parts)
  pub at : slice_get parts i ≡ Some part
  pub known : Known net.graph who (part_expr part)

-- what the node of an expression owes once it is open
abbrev pub OpenedPaid : List Credential → Net → ℕ → Expr → Type 0
OpenedPaid rows net m (Ent d) = IsSolution net.graph m d
OpenedPaid rows net m (Rol r) = (c : Credential) → Contains rows c → c.head ≡ r → IsAsked net m port.Body c.body
OpenedPaid rows net m (Link r t) = IsAsked net m port.Base (Rol r)
OpenedPaid rows net m (Meet parts) = (i : ℕ) (p : Part) → slice_get parts i ≡ Some p → IsAsked net m (port.Part i) (part_expr p)

-- the same by expressions: one listens to another, and a letter between two is under way
abbrev pub ListensFor : Net → Expr → Why → Expr → Type 0
ListensFor net e why f =
    (m n : ℕ) × (p : Port (List ℕ)) × IsNode net.graph m e × IsNode net.graph n f × (why_of p ≡ why) × HasListener net n m p

abbrev pub IsPendingBetween : Net → Expr → Expr → Type 0
IsPendingBetween net e f =
    (m n : ℕ) × IsNode net.graph m e × IsNode net.graph n f
    × ((l : Words)
    × (Contains net.pending (record { from = Node m; to = n; load = l })
    ⊎ Contains net.pending (record { from = Node n; to = m; load = l })))

-- each node has the monitor of its expression
abbrev pub MonitorFits : Expr → Monitor → Type 0
MonitorFits (Ent d) monitor.Plain = Unit {0}
MonitorFits (Rol r) monitor.Plain = Unit {0}
MonitorFits (Link r t) (monitor.Link x) = Unit {0}
MonitorFits (Meet parts) (monitor.Meet x) = x.parts ≡ length parts
MonitorFits _ _ = ⊥

-- what was found is right: the asked role's node is the first, each solution is derivable and by a row where a body gave
-- it, and its premises were found before it
pub record IsJustified (rows : List Credential) (asked : Role) (g : GraphState) : Type 0 where
  pub graph : IsGraph g
  pub root_node : IsNode g 0 (Rol asked)
  pub solutions_fit : (s : Solution) → Contains g.solutions s → SolutionFits rows g s

-- what is found and sent is right. No clause names what isn't there yet, so whatever is added keeps what stood
pub record IsRight (rows : List Credential) (asked : Role) (net : Net) : Type 0 where
  pub found : IsJustified rows asked net.graph
  pub fit : AllZip MonitorFits net.graph.nodes net.monitors
  pub demanded : (n : ℕ) (e : Expr) → IsNode net.graph n e → Demanded rows asked e
  pub listeners_fit : (n m : ℕ) (p : Port (List ℕ)) → HasListener net n m p → AskFits rows net m p n
  pub letters_fit : (x : Sent) → Contains net.pending x → LetterFits rows net x.from x.to x.load
  pub parts_fit : (m i : ℕ) (who : List ℕ) → IsPartTold net m i who → PartFits net m i who

-- each rule is applied, or owed by a letter that is under way
pub record IsPaid (rows : List Credential) (net : Net) : Type 0 where
  -- the asked role is open, or the environment's letter is under way
  pub root : IsOpen net 0 ⊎ IsPendingStart net
  -- an open expression has asked, and an open entity is its own solution
  pub opened : (m : ℕ) (e : Expr) → IsNode net.graph m e → IsOpen net m → OpenedPaid rows net m e
  -- a linked role has asked the role of each member of its base that it was told
  pub via : (m : ℕ) (r : Role) (t b : List ℕ) → IsNode net.graph m (Link r t) → IsBaseTold net m b →
      IsAsked net m (port.Via b) (Rol (record { owner = b; name = t }))
  -- a listener has taken in each solution, or its Tell is under way
  pub told : (n m : ℕ) (p : Port (List ℕ)) (who : List ℕ) → HasListener net n m p → IsSolution net.graph n who →
      Contains net.pending (record { from = Node n; to = m; load = load.Tell p who }) ⊎ IsTaken net m p who
  -- who was told by each part of an intersection is its solution
  pub met : (m : ℕ) (parts : List Part) (who : List ℕ) → IsNode net.graph m (Meet parts) →
      ((i : ℕ) → i < length parts → IsPartTold net m i who) → IsSolution net.graph m who

pub record IsSteady (rows : List Credential) (asked : Role) (net : Net) : Type 0 where
  pub right : IsRight rows asked net
  pub paid : IsPaid rows net

-- the same, as the rules that a running search owes
abbrev pub OwesRules : List Credential → Role → Net → Type 0
OwesRules rows asked net =
    RulesAreOwed rows asked (ListensFor net) (λ e. (n : ℕ) × IsNode net.graph n e × IsOpen net n) (Known net.graph)
    (IsPendingStart net) (IsPendingBetween net)
