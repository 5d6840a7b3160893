-- Where tenants do all themselves no letter is held: a new search holds none, and one that carries itself on keeps it so.
use Rattle.std.proofs.Common.{◌≡◌, ℕ, List, Option, Some, None, sym, refl, subst}
use Rattle.quotas.specs.Quota.{Quota}
use Rattle.vaults.specs.Journal.{view}
use Rattle.search.specs.Stage.{NoneHeld}
use Rattle.hall.specs.declared.calls.requests.Request.{Request}
use Rattle.hall.specs.declared.calls.requests.Request.TheVariants.{Poll}
use Rattle.hall.specs.declared.calls.replies.Reply.{Reply}
use Rattle.hall.specs.Run.{Deed, asks, waits}
use Rattle.hall.specs.Hall.{Running, Tenant, HallState, EachSearch, search_at, beginning, IsServed, GoesOnAt, IsCarriedOn, CarriesOut, new_hall}
use Rattle.hall.proofs.SearchSteps.{none_held_yet}
use Rattle.hall.proofs.laws.HallChanges.{inserted_each, replaced_each, new_each, tenant_of}
use Rattle.hall.proofs.laws.HallRequests.{opening, requested_each}

abbrev HoldsNone : List ℕ → Tenant → ℕ → Running → Type 0
HoldsNone name t k r = NoneHeld r.search.stage

-- no letter is held
abbrev pub IsFree : HallState → Type 0
IsFree h = EachSearch HoldsNone h

pub free_at : (h : HallState) (name : List ℕ) (k : ℕ) (r : Running) → IsFree h → search_at h name k ≡ Some r →
    NoneHeld r.search.stage
free_at h name k r free at = let (t, found, there) = tenant_of h name k r at in free name t k r found there

served_free : (old new : HallState) (name : List ℕ) (q : Request) (told : Reply) → IsFree old → IsServed old name q told new →
    IsFree new
served_free old new name q told free served =
    subst IsFree (sym served.after)
    (requested_each old name HoldsNone q told free
    (λ query n t is said found.
    inserted_each (HoldsNone name (opening old.journal name query n t)) t.searches n
    (beginning old.journal name query t.limits.work) (λ k r at. free name t k r found at)
    (none_held_yet query t.limits.work (record { asker = name; vaults = view old.journal name })))
    (λ k t found j r at. free name t j r found at))

driven_free : (old new : HallState) (name : List ℕ) (k : ℕ) → IsFree old → GoesOnAt old name k (search_at old name k) (Unit {0}) IsCarriedOn new →
    IsFree new
driven_free old new name k free = by (search_at old name k) refl
  where
    by : (o : Option Running) → search_at old name k ≡ o → GoesOnAt old name k o (Unit {0}) IsCarriedOn new → IsFree new
    by None none (nothing, is) = rw is free
    by (Some r) at (s, carried, is) =
        rw is (replaced_each HoldsNone old name k r (record r { search = s }) (λ t m j u here. here) at (λ t held. (carried.settled held).0) free)

pub carried_free : (old new : HallState) (name : List ℕ) (deed : Deed) (told : Reply) → IsFree old →
    CarriesOut old name deed told new → IsFree new
carried_free old new name (asks q) told free served = served_free old new name q told free served
carried_free old new name (waits k) told free (middle, drives, served) =
    served_free middle new name (Poll k) told (driven_free old middle name k free drives) served

pub new_free : (roster : List (List ℕ × Quota)) → IsFree (new_hall roster)
new_free roster = new_each HoldsNone roster
