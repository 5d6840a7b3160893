-- A search that is reached among the tenants of a hall, and what becomes of the hall as it goes on.
use Rattle.std.proofs.Common.{◌≡◌, ◌≢◌, ◌∙◌, ℕ, List, ap, sym, subst, Some, Result, Ok}
use Rattle.std.specs.Result.{IsOk, is_ok}
use Rattle.vaults.specs.declared.changes.Entry.{Entry}
use Rattle.std.specs.FinMap.{FinMap}
use Rattle.names.specs.Name.{name_order}
use Rattle.search.specs.Search.{settled_of}
use Rattle.search.specs.Ending.{Nothing}
use Rattle.hall.specs.Hall.{Running, Tenant, HallState, IsSound, search_at, with_search}
use Rattle.hall.specs.Kept.{Continues, Index, KeepsBut, IsIndexed}
use Rattle.hall.proofs.Unsettled.{ListsUnsettled, listed_after, unsettled_before}
use Rattle.hall.proofs.laws.HallChanges.{tenant_of}
use Rattle.hall.proofs.laws.HallSound.{goes_sound}

abbrev pub hall_of : List Entry → FinMap name_order Tenant → HallState
hall_of journal tenants = record { journal = journal; tenants = tenants }

-- a loan that was given, and one that wasn't
pub given : {A E : Type 0} {r : Result A E} {x : A} → r ≡ Ok x → IsOk r
given is = ap is_ok is

module _ (h : HallState) (who : List ℕ) (k : ℕ) (r s : Running) (at : search_at h who k ≡ Some r) (goes : Continues r s) (new : HallState) (is : new ≡ with_search h who k s)
    (sound : IsSound h) where
  -- the search that was left behind a loan, by what is known of the one that was lent
  abbrev left_there : Running
  left_there = record r { search = s.search }

  same : s ≡ left_there
  same = λ i. record { opened_at = goes.opened i; search = s.search }

  becomes : new ≡ with_search h who k left_there
  becomes = is ∙ ap (with_search h who k) same

  pub lent_sound : IsSound new
  lent_sound =
      let (t, found, there) = tenant_of h who k r at in
      subst IsSound (sym becomes) (goes_sound h who k r s.search sound at (record { question = goes.question; settles = goes.settles }) (goes.sound (sound who t k r found there).2.computation))

  -- and it is left out of the index where it has settled
  pub lent_indexed : {X Y : Type 0} (index kept : Index X Y) → KeepsBut (λ name j. (name ≡ who) × (j ≡ k) × (settled_of s.search ≢ Nothing)) index kept →
      ListsUnsettled index h → IsIndexed kept new
  lent_indexed index kept keeps listed = record {
    sound = lent_sound;
    listed = subst (ListsUnsettled kept) (sym becomes) (listed_after index kept h who k r s.search at (unsettled_before r.search s.search goes.settles) keeps listed);
  }
