-- What a hall keeps of its searches: each however it is carried, lent to what is done to it, and in the index while it may go on.
use Rattle.std.specs.Prelude.{◌≡◌, ◌≢◌, ◌==◌, ℕ, Bool, true, [], List, MatchBool, IsSomeAnd, Option, None, Some}
use Rattle.std.specs.{FinMap.get, Arc.arc_value, Borrow.MutBor}
use Rattle.indexmap.specs.{IndexSet.IndexSet, IndexSet.contains, IndexMap.IndexMap, IndexMap.get as numbers_of}
use Rattle.names.specs.Name.{is_same}
use Rattle.search.specs.declared.queries.Query.TheVariants.{Who}
use Rattle.search.specs.Search.{SearchState, new_search, SameQuestion, Settles, IsCompleted, IsSoundStage, settled_of}
use Rattle.search.specs.Ending.{Nothing}
use Rattle.hall.specs.declared.lendable_searches.LendableSearch.{LendableSearch, TheVariants.Own, TheVariants.Lent, TheVariants.Moving}
use Rattle.hall.specs.declared.faults.Fault.{Fault, TheVariants.NoTenant, TheVariants.NoSuchSearch}
use Rattle.hall.specs.Hall.{Running, Tenant, HallState, search_at, with_search, EachSearch, IsSound}

-- the search that is carried; what stands for it where there is none is never seen
abbrev pub lendable_search : LendableSearch → SearchState
lendable_search (Own s) = s
lendable_search (Lent shared) = arc_value shared
lendable_search Moving = new_search (Who (record { owner = []; name = [] })) 0 (record { asker = []; vaults = [] })

-- there is a search, and one that is shared is completed
abbrev pub IsLendable : LendableSearch → Type 0
IsLendable (Own s) = Unit {0}
IsLendable (Lent shared) = IsCompleted (arc_value shared).stage
IsLendable Moving = ⊥

-- a search goes on with its question from the one that was lent, and may settle
pub record Continues (old new : Running) : Type 0 where
  pub opened : new.opened_at ≡ old.opened_at
  pub question : SameQuestion old.search new.search
  pub settles : Settles old.search new.search
  pub sound : IsSoundStage old.search.stage → IsSoundStage new.search.stage

-- the search has come to its end, or to nothing yet
abbrev pub IsOver : SearchState → Bool → Type 0
IsOver s over = MatchBool over (settled_of s ≢ Nothing) (settled_of s ≡ Nothing)

-- the tenant's search of that number was lent, and is what was left of it
pub record IsLent {A R : Type 0} (does : MutBor Running → MutBor A → R → MutBor Running → MutBor A → Type 0)
    (old : HallState) (who : List ℕ) (k : ℕ) (had : A) (told : R) (over : Bool) (new : HallState) (has : A) : Type 0 where
  pub lent : MutBor Running
  pub beside : MutBor A
  pub left : MutBor Running
  pub kept : MutBor A
  pub there : search_at old who k ≡ Some lent.now
  pub did : does lent beside told left kept
  pub shows : (beside.now ≡ had) × (kept.now ≡ has)
  pub after : new ≡ with_search old who k left.now
  pub opened : left.now.opened_at ≡ lent.now.opened_at
  pub ended : IsOver left.now.search over

-- why no search of that number is found
abbrev pub IsNowhere : ℕ → Option Tenant → Fault → Type 0
IsNowhere k None f = f ≡ NoTenant
IsNowhere k (Some t) f = (f ≡ NoSuchSearch) × (get t.searches k ≡ None)

-- numbers of searches, by whose they are
abbrev pub Index : Type 0 → Type 0 → Type 0
Index S Z = IndexMap (List ℕ) (IndexSet ℕ Z) S

-- the index has the tenant's search of that number
abbrev pub Lists : {S Z : Type 0} → Index S Z → List ℕ → ℕ → Type 0
Lists index name k = IsSomeAnd (numbers_of is_same index name) (λ numbers. contains (◌==◌) numbers k ≡ true)

-- the index has what it had, but for what may be left out
abbrev pub KeepsBut : {S Z : Type 0} → (List ℕ → ℕ → Type 0) → Index S Z → Index S Z → Type 0
KeepsBut out old new = (name : List ℕ) (k : ℕ) → (out name k → ⊥) → Lists old name k → Lists new name k

-- what holds of every hall, with its index: each search that has come to nothing yet is there
pub record IsIndexed {S Z : Type 0} (index : Index S Z) (h : HallState) : Type 0 where
  pub sound : IsSound h
  pub listed : EachSearch (λ name t k r. settled_of r.search ≡ Nothing → Lists index name k) h
