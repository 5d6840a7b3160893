-- What a letter needs, what the calls of a search do to it, and how it is carried on by itself
use Rattle.std.specs.Prelude.{List, ◌≡◌, Option, Some, None, ℕ, ◌+◌, ◌<◌, ◌≤◌, true, false, [], length}
use Rattle.names.specs.declared.roles.Role.{Role}
use Rattle.credential_text.specs.declared.exprs.Expr.{Expr}
use Rattle.credential_text.specs.declared.exprs.Expr.TheVariants.{Rol}
use Rattle.vaults.specs.Journal.{Vault}
use Rattle.snapshots.specs.declared.spans.Span.{Span}
use Rattle.snapshots.specs.Span.{span_of}
use Rattle.cred_graph.specs.Graph.{IsNode}
use Rattle.scholten_core.specs.declared.letters.Letter.{Letter}
use Rattle.scholten_core.specs.Computation.{Computation}
use Rattle.scholten_core.specs.Step.{FinishesLetter}
use Rattle.search.specs.Net.{Said, load_at, outs_at}
use Rattle.search.specs.declared.letters.Load.TheVariants as load
use Rattle.search.specs.declared.queries.Need.{Need}
use Rattle.search.specs.declared.queries.Need.TheVariants as need
use Rattle.search.specs.declared.queries.Hint.{Hint}
use Rattle.search.specs.declared.queries.Hint.TheVariants as hint
use Rattle.search.specs.declared.letters.Held.{Held}
use Rattle.search.specs.declared.outcomes.Finished.{Finished}
use Rattle.search.specs.declared.outcomes.Finished.TheVariants as finished
use Rattle.search.specs.declared.stages.Stage.TheVariants as stage
use Rattle.search.specs.Answers.{Progress, progress, Answers}
use Rattle.search.specs.Stage.{HoldsLetter, Holds, held_in, stage_marked, signals_in, Delivers}
use Rattle.search.specs.Search.{SearchState, SameQuestion, Settles}

abbrev pub rows_for : Expr → Need
rows_for (Rol r) = need.Rows r
rows_for _ = need.Nothing

-- where a role is named, its rows are needed
abbrev pub need_for : Option Role → Need
need_for (Some role) = need.Rows role
need_for None = need.Nothing

-- rows are needed by a letter that asks a role, and by no other
abbrev pub need_of : Expr → Said → Need
need_of e load.Start = rows_for e
need_of e (load.Ask p) = rows_for e
need_of e (load.Tell p who) = need.Nothing

-- the hint that a need asks for
abbrev pub right_hint : List Vault → Need → Hint
right_hint view (need.Rows role) = hint.Rows (span_of view role)
right_hint view need.Nothing = hint.Nothing

-- where the rows stand that a hint says
abbrev pub span_in : Hint → Option Span
span_in (hint.Rows span) = Some span
span_in hint.Nothing = None

-- where a span was looked up for a role, it is that of its rows
abbrev pub IsSpanFor : List Vault → Expr → Option Span → Type 0
IsSpanFor view e None = Unit {0}
IsSpanFor view (Rol r) (Some span) = span ≡ span_of view r
IsSpanFor view _ (Some span) = Unit {0}

-- the letter needs this to be finished
abbrev pub Needs : SearchState → Letter Said → Need → Type 0
Needs s l need = (e : Expr) × IsNode s.graph l.to e × (need ≡ need_of e l.load)

-- the waiting letter at a place has this number, is the held letter of it from now on, and needs this; nothing else changes
pub record Takes (s t : SearchState) (place number : ℕ) (need : Need) : Type 0 where
  pub letter : Letter Said
  pub holds : Holds s.stage t.stage place number letter
  pub needs : Needs s letter need
  pub after : t ≡ record s { stage = t.stage }

-- the same, with the letter in hand
abbrev pub TakesHeld : SearchState → SearchState → ℕ → ℕ → Held Said → Type 0
TakesHeld s t place number h = (need : Need) × Takes s t place number need × HoldsLetter t.stage number h

-- a letter was received: it is gone, and its receiver's answers wait
pub record Received (s t : SearchState) (number : ℕ) (l : Letter Said) : Type 0 where
  pub before : Computation Said
  pub after : Computation Said
  pub outs : List (ℕ × Said)
  pub ran : s.stage ≡ stage.Running before
  pub runs : t.stage ≡ stage.Running after
  pub finishes : FinishesLetter before number outs after
  pub within : before.sent + length outs ≤ s.work
  pub row : Answers s.snapshot.vaults (progress s.graph s.monitors [])
      (progress t.graph t.monitors (outs_at t.graph.nodes outs)) l.from l.to (load_at s.graph.nodes l.load)

-- the letters sent, with those that its receiver answers, would exceed the work limit
pub record Exceeds (s : SearchState) (l : Letter Said) : Type 0 where
  pub before : Computation Said
  pub reached : Progress
  pub ran : s.stage ≡ stage.Running before
  pub row : Answers s.snapshot.vaults (progress s.graph s.monitors []) reached l.from l.to (load_at s.graph.nodes l.load)
  pub over : s.work < before.sent + length reached.outs

-- the letter is held, and the hint is the one that it needs
pub record IsRightly (s : SearchState) (number : ℕ) (hint : Hint) (l : Letter Said) : Type 0 where
  pub held : held_in s.stage number ≡ Some l
  pub hint_is : (need : Need) → Needs s l need → hint ≡ right_hint s.snapshot.vaults need

-- the letter of a number is received, and goes on as its result says
abbrev pub Receives : SearchState → SearchState → ℕ → Letter Said → Finished → Type 0
Receives s t number l finished.Done = Received s t number l × SameQuestion s t
Receives s t number l finished.Spent = Exceeds s l × (t.stage ≡ stage.Spent) × SameQuestion s t
Receives s t number l finished.Broken = (t.stage ≡ stage.Broken) × SameQuestion s t
Receives s t number l _ = ⊥

-- the letter of a number is finished with this hint
abbrev pub Finishes : SearchState → SearchState → ℕ → Hint → Finished → Type 0
Finishes s t number hint finished.NotHeld = (held_in s.stage number ≡ None) × (t ≡ s)
Finishes s t number hint finished.BadHint =
    (l : Letter Said) × (need : Need) × (held_in s.stage number ≡ Some l) × Needs s l need × (hint ≡ right_hint s.snapshot.vaults need → ⊥)
    × (t ≡ record s { stage = stage_marked number false s.stage })
Finishes s t number hint told = (l : Letter Said) × IsRightly s number hint l × Receives s t number l told

-- the oldest signal is delivered
pub record SignalsFirst (s t : SearchState) : Type 0 where
  pub delivered : Delivers s.stage t.stage 0 true
  pub graph : t.graph ≡ s.graph
  pub monitors : t.monitors ≡ s.monitors
  pub question : SameQuestion s t
  pub settles : Settles s t

-- with no signal under way, the first waiting letter is taken, and finished with the hint that it needs
pub record FinishesFirst (s t : SearchState) (number : ℕ) (need : Need) (told : Finished) : Type 0 where
  pub held : SearchState
  pub no_signal : signals_in s.stage ≡ []
  pub takes : Takes s held 0 number need
  pub takes_settles : Settles s held
  pub finishes : Finishes held t number (right_hint s.snapshot.vaults need) told
  pub finish_settles : Settles held t

-- the search was carried on by steps of its own
pub data IsDriven (s : SearchState) : SearchState → Type 0 where
  rests : IsDriven s s
  signal : {middle t : SearchState} → IsDriven s middle → SignalsFirst middle t → IsDriven s t
  letter : {middle t : SearchState} {number : ℕ} {need : Need} {told : Finished} → IsDriven s middle →
      FinishesFirst middle t number need told → IsDriven s t
