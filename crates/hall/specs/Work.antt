-- What somebody who works for a hall does to it, and to one search of it.
use Rattle.std.specs.Prelude.{◌≡◌, ◌⊎◌, ◌≤◌, ℕ, Bool, true, false, MatchBool, List, map, length, count_by, Contains}
use Rattle.std.specs.Prelude.{Option, None, Some, MatchOption, IsSomeAnd}
use Rattle.std.specs.List.{filter_map}
use Rattle.search.specs.{declared.queries.Need.Need, Finish.right_hint, Stage.IsQuiet, Ending.Nothing as Unsettled}
use Rattle.search.specs.Search.{SearchState, IsCompleted, settled_of}
use Rattle.snapshots.specs.Snapshot.{SnapshotState}
use Rattle.hall.specs.declared.calls.steps.Step.TheVariants.{Take, GiveBack, Finish, Signal}
use Rattle.hall.specs.declared.calls.steps.Stepped.TheVariants.{Took, Nothing, Signalled, Done, Gone}
use Rattle.hall.specs.declared.orders.Next.TheVariants.{Worked, Idle, NoMemory, Unasked}
use Rattle.hall.specs.declared.calls.steps.{Step.Step, Stepped.Stepped}
use Rattle.hall.specs.declared.orders.{Order.Order, Visit.Visit, Next.Next}
use Rattle.hall.specs.Hall.{HallState, Running, search_at, StepsEach, IsStepped, Run}
use Rattle.hall.specs.Batches.{Named, BatchState, name_of, batch_of, IsEmpty}
use Rattle.hall.specs.declared.calls.{events.Event.TheVariants.Step as Stepping, replies.Reply.TheVariants.Stepped as Reported}
use Rattle.hall.specs.declared.orders.Order.TheVariants as order

-- a letter that was taken: whose, of which search, what it needs, and what it is to be looked up in
pub record TakenLetter : Type 0 where
  pub who : List ℕ
  pub number : ℕ
  pub letter : ℕ
  pub need : Need
  pub snapshot : SnapshotState

-- the letter that waits at the place is the job from now on, with what its search reads; or none waits there, or there is no such search
abbrev pub IsTaken : HallState → List ℕ → ℕ → ℕ → Option TakenLetter → HallState → Type 0
IsTaken old who number place None new = (answer : Stepped) × ((answer ≡ Nothing) ⊎ (answer ≡ Gone))
    × IsStepped old (Take who number place) answer new
IsTaken old who number place (Some job) new = (job.who ≡ who) × (job.number ≡ number)
    × IsSomeAnd (search_at old who number) (λ r. job.snapshot ≡ r.search.snapshot)
    × IsStepped old (Take who number place) (Took job.letter job.need) new

-- nothing of that search, if there is one, waits or is under way
abbrev pub SearchIsQuiet : HallState → List ℕ → ℕ → Type 0
SearchIsQuiet h name k = (r : Running) → search_at h name k ≡ Some r → IsQuiet r.search.stage

-- nothing of any search waits or is under way
abbrev pub NothingToDo : HallState → Type 0
NothingToDo h = (name : List ℕ) (k : ℕ) → SearchIsQuiet h name k

-- made now, the step takes a letter or delivers a signal
abbrev pub CanBeMade : HallState → Step → Type 0
CanBeMade h made = (answer : Stepped) (new : HallState) → IsStepped h made answer new
    → ((letter : ℕ) × (need : Need) × (answer ≡ Took letter need)) ⊎ (answer ≡ Signalled)

-- a run of these steps alone, each answered so
abbrev pub Makes : HallState → HallState → List Step → List Stepped → Type 0
Makes old new steps answers = Run old (map Stepping steps) (map Reported answers) new

-- the step by which a letter of that search is handed in: finished with its right hint, or given back
abbrev pub handing_in : Bool → Named → ℕ × Need → Step
handing_in false of l = Finish of.who of.number l.0 (right_hint of.snapshot.vaults l.1)
handing_in true of l = GiveBack of.who of.number l.0

abbrev pub is_done : Stepped → Bool
is_done Done = true
is_done _ = false

-- these letters are handed in, in their order, by the steps that are made, and so many are finished
pub record HandsIn (made : List Step → List Stepped → Type 0) (back : Bool) (of : Named) (letters : List (ℕ × Need)) (finished : ℕ) :
    Type 0 where
  pub answers : List Stepped
  pub steps : made (map (handing_in back of) letters) answers
  pub count : finished ≡ count_by is_done answers

-- the same of a batch, which may be empty, and then nothing changes
abbrev pub HandsInBatch : {S : Type 0} → (S → S → List Step → List Stepped → Type 0) → Bool → S → BatchState → ℕ → S → Type 0
HandsInBatch makes back old had finished new =
    MatchOption had.of ((new ≡ old) × (finished ≡ 0)) (λ of. HandsIn (makes old new) back of had.letters finished)

-- the step that goes on with the search of that name: it takes the first letter that waits, or delivers the oldest signal
abbrev pub going_on : List ℕ × ℕ → Option (ℕ × Need) → Step
going_on name (Some letter) = Take name.0 name.1 0
going_on name None = Signal name.0 name.1 0

abbrev pub went_on : Option (ℕ × Need) → Stepped
went_on (Some letter) = Took letter.0 letter.1
went_on None = Signalled

-- the search of that name goes on by at most so many steps, fewer only where nothing is left to do, and these letters are taken
pub record GoesOn (made : List Step → List Stepped → Type 0) (name : List ℕ × ℕ) (most : ℕ) (nothing_left : Type 0)
    (letters : List (ℕ × Need)) : Type 0 where
  pub moves : List (Option (ℕ × Need))
  pub steps : made (map (going_on name) moves) (map went_on moves)
  pub taken : letters ≡ filter_map (λ m. m) moves
  pub within : length moves ≤ most
  pub whole : (length moves ≡ most) ⊎ nothing_left

abbrev pub gives_back : Order → Bool
gives_back order.GiveBack = true
gives_back _ = false

-- steps are asked for
abbrev pub AsksForSteps : Order → Type 0
AsksForSteps asked = (asked ≡ order.GoOn) ⊎ (asked ≡ order.TakeTurn)

-- the search of that name is there, and has come to nothing yet
abbrev pub StillWorks : HallState → List ℕ × ℕ → Type 0
StillWorks h name = IsSomeAnd (search_at h name.0 name.1) (λ r. settled_of r.search ≡ Unsettled)

-- from one hall to another these searches come to their ends, and no others: each worked, or is of this name; and none works again
pub record TellsEnds (own : Option (List ℕ × ℕ)) (old new : HallState) (told : List (List ℕ × ℕ)) : Type 0 where
  pub each : (name : List ℕ × ℕ) → StillWorks old name → StillWorks new name ⊎ Contains told name
  pub were : (name : List ℕ × ℕ) → Contains told name → StillWorks old name ⊎ (own ≡ Some name)
  pub over : (name : List ℕ × ℕ) → Contains told name → StillWorks new name → ⊥
  pub none_again : (name : List ℕ × ℕ) → StillWorks new name → StillWorks old name

-- something of this search is left, this is what it reads, and it is that of the letters where this was asked and anything of that is left
abbrev pub IsNextSearch : Order → HallState → Option Named → Named → Type 0
IsNextSearch asked h had of = (SearchIsQuiet h of.who of.number → ⊥)
    × IsSomeAnd (search_at h of.who of.number) (λ r. r.search.snapshot ≡ of.snapshot)
    × (asked ≡ order.GoOn → MatchOption had (Unit {0}) (λ n. (name_of of ≡ name_of n) ⊎ SearchIsQuiet h n.who n.number))

-- steps of this search are made, whether anything of it is left is told, and the letters that they take are in the batch
pub record WorksOn (made : List Step → List Stepped → Type 0) (nothing_left : Type 0) (most room : ℕ) (of : Named) (left : Bool)
    (has : BatchState) : Type 0 where
  pub letters : List (ℕ × Need)
  pub goes_on : GoesOn made (name_of of) most nothing_left letters
  pub batch : has ≡ batch_of of letters room
  pub more : MatchBool left (nothing_left → ⊥) nothing_left

-- how a visit goes on, from a hall to which its letters were handed in
abbrev pub GoesOnAs : Order → ℕ → ℕ → HallState → Option Named → Next → HallState → BatchState → Type 0
GoesOnAs asked most room old had (Worked left) new has =
    AsksForSteps asked × ((of : Named) × IsNextSearch asked old had of
    × WorksOn (Makes old new) (SearchIsQuiet new of.who of.number) most room of left has)
GoesOnAs asked most room old had Idle new has = AsksForSteps asked × NothingToDo old × (new ≡ old) × IsEmpty has × (has.room ≡ room)
GoesOnAs asked most room old had NoMemory new has =
    AsksForSteps asked × ((of : Named) × IsNextSearch asked old had of) × (new ≡ old) × IsEmpty has × (has.room ≡ room)
GoesOnAs asked most room old had Unasked new has = (AsksForSteps asked → ⊥) × (new ≡ old) × IsEmpty has × (has.room ≡ room)

-- a visit: the letters of the batch are handed in, and from there it goes on
pub record IsVisit (asked : Order) (most : ℕ) (old : HallState) (had : BatchState) (visit : Visit) (new : HallState) (has : BatchState) :
    Type 0 where
  pub middle : HallState
  pub handed_in : HandsInBatch Makes (gives_back asked) old had visit.finished middle
  pub next : GoesOnAs asked most had.room middle had.of visit.next new has

-- how one search goes on, of that name: it does where that was asked, something is left, and there is memory to share what it reads
abbrev pub WentAs : Order → ℕ → ℕ → List ℕ × ℕ → SearchState → Option Next → SearchState → BatchState → Type 0
WentAs asked most room name s None t has = (asked ≡ order.GoOn → IsQuiet s.stage) × (t ≡ s) × IsEmpty has × (has.room ≡ room)
WentAs asked most room name s (Some (Worked left)) t has = (asked ≡ order.GoOn) × (IsQuiet s.stage → ⊥)
    × WorksOn (StepsEach s t) (IsQuiet t.stage) most room (record { who = name.0; number = name.1; snapshot = s.snapshot }) left has
WentAs asked most room name s (Some NoMemory) t has =
    (asked ≡ order.GoOn) × (IsQuiet s.stage → ⊥) × (t ≡ s) × IsEmpty has × (has.room ≡ room)
WentAs asked most room name s _ t has = ⊥

-- the letters of the batch are handed in to the search of that name, and it goes on so
pub record WorksThrough (asked : Order) (most : ℕ) (name : List ℕ × ℕ) (s : SearchState) (had : BatchState) (finished : ℕ)
    (next : Option Next) (t : SearchState) (has : BatchState) : Type 0 where
  pub middle : SearchState
  pub handed_in : HandsInBatch StepsEach (gives_back asked) s had finished middle
  pub goes_on : WentAs asked most had.room name middle next t has

-- this is the tenant's search of that number, and it is completed
abbrev pub IsCompletedAt : HallState → List ℕ → ℕ → SearchState → Type 0
IsCompletedAt h who number s = (r : Running) × (search_at h who number ≡ Some r) × (r.search ≡ s) × IsCompleted s.stage
