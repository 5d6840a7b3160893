-- A completed search stays as it is, whatever is asked of it.
use Rattle.std.proofs.Common.{◌≡◌, ◌≢◌, ℕ, List, Option, Some, Result, Ok, Err, ap, refl, subst}
use Rattle.search.specs.Ending.{Nothing}
use Rattle.hall.specs.Kept.{IsLendable, lendable_search}
use Rattle.hall.specs.declared.lendable_searches.LendableSearch.{LendableSearch}
use Rattle.hall.specs.declared.lendable_searches.LendableSearch.TheVariants.{Own, Lent, Moving}
use Rattle.search.specs.declared.stages.Stage.{Stage}
use Rattle.search.specs.Search.{SearchState, IsCompleted, IsSoundStage, settled_of, IsAnswered, status_of, come_to}
use Rattle.search.specs.Finish.{IsDriven}
use Rattle.search.specs.Stage.{IsQuiet}
use Rattle.search.specs.Ending.{Settled}
use Rattle.search.proofs.Answered.{answers_as}
use Rattle.search.proofs.Driven.{waits_none, signals_none}
use Rattle.hall.specs.Hall.{HallState, Running, IsCarriedOn, search_at}
use Rattle.std.specs.Result.{OnErr}
use Rattle.std.specs.declared.alloc.AllocError.{AllocError}
use Rattle.hall.specs.Work.{IsCompletedAt}

-- a search that isn't its keeper's own is completed
pub lent : (c : LendableSearch) → IsLendable c → ((s : SearchState) → c ≡ Own s → ⊥) → IsCompleted (lendable_search c).stage
lent (Own s) carried other = absurd (other s refl)
lent (Lent shared) carried other = carried
lent Moving carried other = absurd carried

-- an own search is the one that is carried
pub own : {c : LendableSearch} {s : SearchState} (n : ℕ) → c ≡ Own s →
    ◌≡◌ {A = Option Running} (Some (record { opened_at = n; search = lendable_search c })) (Some (record { opened_at = n; search = s }))
own n is = ap (λ (c : LendableSearch). Some (record { opened_at = n; search = lendable_search c })) is

-- it has come to something
pub over : (s : SearchState) → IsCompleted s.stage → settled_of s ≢ Nothing
unfolding settled_of
over s done nothing =
    let answered : IsAnswered (status_of (come_to s.stage s.graph s.query)) = (answers_as {s = s} {t = s} {result = status_of (come_to s.stage s.graph s.query)} refl refl).1 done in
    subst (λ (x : Settled). IsAnswered (status_of x)) nothing answered

pub quiet : (st : Stage) → IsCompleted st → IsQuiet st
quiet st done = (waits_none st done, signals_none st done)

module _ (h : HallState) (who : List ℕ) (k : ℕ) where
  -- memory lacks to share a search that is completed
  pub lacks_there : {S : Type 0} (r : Running) → search_at h who k ≡ Some r → (told : Result (Option S) AllocError) → OnErr told (IsCompleted r.search.stage) →
      OnErr told ((s : SearchState) × IsCompletedAt h who k s)
  lacks_there r at (Ok o) done = tt
  lacks_there r at (Err f) done = (r.search, (r, at, refl, done))

-- it stays where it was to be driven
pub stays_driven : (s : SearchState) → IsCompleted s.stage → IsSoundStage s.stage → IsCarriedOn s s
stays_driven s done sound = record {
  driven = IsDriven.rests;
  quiet = quiet s.stage done;
  sound = sound;
  settled = λ held. (held, over s done);
}
