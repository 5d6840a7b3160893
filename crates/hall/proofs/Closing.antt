-- A search that is ended, beside the index of those that may still go on.
use Rattle.std.proofs.Common.{◌≡◌, ℕ, List, Some, None, Result, IfErr, OnOk, OnErr}
use Rattle.std.specs.FinMap.{get}
use Rattle.hall.specs.declared.faults.Fault.{Fault}
use Rattle.hall.specs.declared.faults.Fault.TheVariants.{NoSuchSearch}
use Rattle.hall.specs.declared.calls.requests.Request.TheVariants.{Close}
use Rattle.hall.specs.declared.calls.replies.Reply.TheVariants.{Closed}
use Rattle.hall.specs.Hall.{Tenant, HallState, IsServed, told_as}
use Rattle.hall.specs.Kept.{Index, IsIndexed, KeepsBut}
use Rattle.hall.proofs.Placed.{put}
use Rattle.hall.proofs.Seeking.{ended, ended_is_gone}
use Rattle.hall.proofs.Unsettled.{listed_requested, listed_ended}
use Rattle.hall.proofs.laws.HallRequests.{closing}
use Rattle.hall.proofs.laws.HallSound.{served_sound}

module _ (h : HallState) (who : List ℕ) (t u : Tenant) (here : get h.tenants who ≡ Some t) {X : Type 0} (k : ℕ) (r : Result X Fault)
    (there : OnOk r (get t.searches k ≡ None → ⊥)) (is : OnOk r (u ≡ closing k t)) (refused : IfErr r (λ f. (f ≡ NoSuchSearch) × (get t.searches k ≡ None)))
    (unchanged : OnErr r (u ≡ t)) where
  -- the ending is served
  pub closed : IsServed h who (Close k) (told_as (λ done. Closed) r) (put h who u)
  closed = ended h who t u here k r there is refused unchanged

  -- and each search that has come to nothing yet is in the index
  pub closed_indexed : {S Z : Type 0} (old new : Index S Z) → KeepsBut (λ name j. (name ≡ who) × (j ≡ k)) old new → IsIndexed old h → IsIndexed new (put h who u)
  closed_indexed old new keeps indexed = record {
    sound = served_sound h (put h who u) who (Close k) (told_as (λ done. Closed) r) indexed.sound closed;
    listed = listed_ended old new h who k u (ended_is_gone t u k r is refused unchanged) keeps
        (listed_requested old h (put h who u) who (Close k) (told_as (λ done. Closed) r) closed indexed.listed (λ query n is. cc is));
  }
