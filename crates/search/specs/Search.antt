-- A search, by its parts: what it has come to, how many letters it has sent, and what it keeps while it runs
use Rattle.std.specs.Prelude.{All, ◌==◌, if◌then◌else◌, ℕ, suc, List, [], ◌∷◌, ◌++◌, ◌≡◌, Contains, map, ◌≤◌, length}
use Rattle.std.specs.List.{list_any, flat_map}
use Rattle.names.specs.Name.{is_same, name_order}
use Rattle.names.specs.declared.roles.Role.{Role}
use Rattle.credential_text.specs.declared.credentials.Credential.{Credential}
use Rattle.credential_text.specs.declared.exprs.Expr.TheVariants.{Rol}
use Rattle.rt0_rules.specs.Asks.{Why, for_via}
use Rattle.rt0_rules.specs.Work.{AreDistinct, WorkExceeds}
use Rattle.rt0_rules.specs.Letters.{NodeAsk, letters_sent}
use Rattle.vaults.specs.InOrder.{in_order}
use Rattle.vaults.specs.Journal.{credentials}
use Rattle.snapshots.specs.Snapshot.{SnapshotState}
use Rattle.cred_graph.specs.Graph.{GraphState, members_of}
use Rattle.cred_graph.specs.declared.listeners.Listening.{Listening}
use Rattle.scholten_core.specs.Computation.{outstanding, Computation}
use Rattle.scholten_core.specs.declared.parents.Parent.{Parent}
use Rattle.scholten_core.specs.declared.parents.Parent.TheVariants.{Node}
use Rattle.scholten_core.specs.Sound.{IsSound}
use Rattle.scholten_core.specs.Step.{started}
use Rattle.search.specs.declared.queries.Query.{Query}
use Rattle.search.specs.declared.queries.Query.TheVariants.{Ask, Who}
use Rattle.search.specs.declared.outcomes.Status.{Status}
use Rattle.search.specs.declared.outcomes.Status.TheVariants as status
use Rattle.search.specs.declared.stages.Stage.{Stage}
use Rattle.search.specs.declared.stages.Stage.TheVariants as stage
use Rattle.search.specs.Ending.{Settled, Nothing, Yes, No, Members, Spent, Broken, MaySettle}
use Rattle.search.specs.declared.letters.Load.TheVariants as load
use Rattle.search.specs.Net.{Said, Words, IsLoad, Net, Sent, IsBaseTold, IsOpen, why_of, IsPendingStart, sent_of, IsSteady}
use Rattle.search.specs.declared.findings.Monitor.{Monitor}
use Rattle.search.specs.declared.findings.Monitor.TheVariants as monitor
pub use Rattle.search.specs.Ending.{asked_role}

-- a search: what it asks, its limit of work, what it reads, what it has found and what its nodes remember, and where it stands
pub record SearchState : Type 0 where
  pub query : Query
  pub work : ℕ
  pub snapshot : SnapshotState
  pub graph : GraphState
  pub monitors : List Monitor
  pub stage : Stage

-- the credentials that the search reads
abbrev pub rows_of : SearchState → List Credential
rows_of s = credentials s.snapshot.vaults

-- something of the search is outstanding
abbrev pub IsOutstanding : Stage → Type 0
IsOutstanding (stage.Running c) = outstanding c ≡ 0 → ⊥
IsOutstanding _ = ⊥

-- the search ran until nothing was outstanding
abbrev pub IsCompleted : Stage → Type 0
IsCompleted (stage.Running c) = outstanding c ≡ 0
IsCompleted _ = ⊥

-- where a search runs, its computation keeps the laws of a diffusing computation
abbrev pub IsSoundStage : Stage → Type 0
IsSoundStage (stage.Running c) = IsSound c
IsSoundStage _ = Unit {0}

-- the answer of a completed search, by what it found of the asked role's node
abbrev pub found : GraphState → Query → Settled
found g (Ask role who) = if list_any (is_same who) (members_of g 0) then Yes else No
found g (Who role) = Members (in_order name_order (members_of g 0))

-- what a search has come to, by where it stands: nothing while anything is outstanding
abbrev pub come_to : Stage → GraphState → Query → Settled
come_to (stage.Running c) g query = if outstanding c == 0 then found g query else Nothing
come_to stage.Spent g query = Spent
come_to stage.Broken g query = Broken

-- what the search has come to
unfoldable pub settled_of : SearchState → Settled
settled_of s = come_to s.stage s.graph s.query

-- the status of what a search has come to
abbrev pub status_of : Settled → Status
status_of Nothing = status.Working
status_of Yes = status.Yes
status_of No = status.No
status_of (Members names) = status.Members
status_of Spent = status.Spent
status_of Broken = status.Broken

-- a status that answers the query
abbrev pub IsAnswered : Status → Type 0
IsAnswered status.Yes = Unit {0}
IsAnswered status.No = Unit {0}
IsAnswered status.Members = Unit {0}
IsAnswered _ = ⊥

-- a search over the snapshot, which may send so many letters: one letter, to the asked role, waits
unfoldable pub new_search : Query → ℕ → SnapshotState → SearchState
new_search query work snapshot = record {
  query = query;
  work = work;
  snapshot = snapshot;
  graph = record { nodes = Rol (asked_role query) ∷ []; listeners = [] ∷ []; solutions = [] };
  monitors = monitor.Plain ∷ [];
  stage = stage.Running (started 0 load.Start);
}

abbrev pub net_of : GraphState → List Monitor → Computation Said → Net
net_of g ms c = record { graph = g; monitors = ms; pending = sent_of g.nodes c.letters }

-- what a listener of the node asked
abbrev pub heard_of : ℕ → Listening → NodeAsk
heard_of n l = record { asker = l.asker; why = why_of l.port; asked = n }

-- the asks that the nodes from n on heard
abbrev pub heard_from : ℕ → List (List Listening) → List NodeAsk
heard_from n [] = []
heard_from n (ls ∷ lists) = map (heard_of n) ls ++ heard_from (suc n) lists

abbrev pub heard : GraphState → List NodeAsk
heard g = heard_from 0 g.listeners

-- what a letter of a node asks
abbrev pub ask_from : Parent → ℕ → Words → List NodeAsk
ask_from (Node m) n (load.Ask p) = record { asker = m; why = why_of p; asked = n } ∷ []
ask_from _ n _ = []

-- the asks among the letters
abbrev pub asks_in : List Sent → List NodeAsk
asks_in letters = flat_map (λ x. ask_from x.from x.to x.load) letters

-- an open node may ask for itself, and a linked role for the members of its base that it was told
abbrev pub MayAskFor : Net → ℕ → Why → Type 0
MayAskFor net m (for_via b) = IsBaseTold net m b
MayAskFor net m _ = IsOpen net m

-- each ask stands once, by one that may ask it, and so many letters were sent as that and what was found make
pub record IsCountedBy (may_ask : NodeAsk → Type 0) (members : ℕ → List (List ℕ)) (listeners pending : List NodeAsk)
    (sent : ℕ) : Type 0 where
  pub distinct : AreDistinct (listeners ++ pending)
  pub askers : (a : NodeAsk) → Contains (listeners ++ pending) a → may_ask a
  pub total : sent ≡ letters_sent members listeners pending

-- the same of a search
abbrev pub IsCounted : Net → ℕ → Type 0
IsCounted net sent =
    IsCountedBy (λ a. MayAskFor net a.asker a.why) (members_of net.graph) (heard net.graph) (asks_in net.pending) sent

-- its letters are counted by what was asked and found, and while the environment's letter is there it was the only one
pub record IsTallied (g : GraphState) (ms : List Monitor) (c : Computation Said) : Type 0 where
  pub first : IsPendingStart (net_of g ms c) → c.sent ≡ 1
  pub counted : IsCounted (net_of g ms c) c.sent

-- what a running search keeps: each rule is applied or owed, while the environment's letter is there it is the only one,
-- no more letters were sent than it may send, the numbers in its letters are entities', and its letters are counted
pub record KeptBy (rows : List Credential) (asked : Role) (work : ℕ) (g : GraphState) (ms : List Monitor)
    (c : Computation Said) : Type 0 where
  pub steady : IsSteady rows asked (net_of g ms c)
  pub starts : IsPendingStart (net_of g ms c) → length c.letters ≡ 1
  pub within : c.sent ≤ work
  pub loads : All (λ l. IsLoad g.nodes l.1.load) c.letters
  pub tallied : IsTallied g ms c

-- what a search keeps; where it is spent, its work is greater than its limit
pub record IsKept (s : SearchState) : Type 0 where
  pub rules : (c : Computation Said) → s.stage ≡ stage.Running c
      → KeptBy (rows_of s) (asked_role s.query) s.work s.graph s.monitors c
  pub limit : s.stage ≡ stage.Spent → WorkExceeds (rows_of s) (asked_role s.query) s.work

-- one question
pub record SameQuestion (s t : SearchState) : Type 0 where
  pub query : t.query ≡ s.query
  pub work : t.work ≡ s.work
  pub snapshot : t.snapshot ≡ s.snapshot

-- a search settles once, and with what it may come to
abbrev pub Settles : SearchState → SearchState → Type 0
Settles s t = MaySettle s.work (rows_of s) s.query (settled_of s) (settled_of t)
