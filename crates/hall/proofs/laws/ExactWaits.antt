-- What a wait does where no letter is held: the search comes to its end, and nothing else happens.
use Rattle.std.proofs.Common.{◌≡◌, ◌∙◌, ℕ, false, List, Option, Some, None, option_map, sym, ap, refl, subst}
use Rattle.std.specs.FinMap.{get, insert}
use Rattle.names.specs.Name.{is_same}
use Rattle.hall.specs.declared.calls.requests.Request.TheVariants.{Poll}
use Rattle.hall.specs.declared.calls.replies.Reply.{Reply}
use Rattle.hall.specs.Answers.{Account}
use Rattle.hall.specs.Run.{waits, Ends}
use Rattle.hall.specs.Hall.{Running, Tenant, HallState, seen, account, account_of, search_at, IsServed}
use Rattle.hall.specs.Hall.{GoesOnAt, IsCarriedOn, IsSound}
use Rattle.hall.proofs.Maps.{numbers_exact, get_mapped}
use Rattle.hall.proofs.laws.HallSteps.{drives_on}
use Rattle.hall.proofs.laws.HallTurns.{TurnsTo, done_told, turn_at}
use Rattle.hall.proofs.laws.HallAccounts.{other_account, own_account, own_ends}
use Rattle.hall.proofs.laws.ExactHeld.{IsFree, free_at}
use Rattle.hall.proofs.laws.HallChanges.{search_of}

module _ (old middle : HallState) (name : List ℕ) (k : ℕ) (drives : GoesOnAt old name k (search_at old name k) (Unit {0}) IsCarriedOn middle) where
  pub driven_journal : middle.journal ≡ old.journal
  driven_journal = by (search_at old name k) drives
    where
      by : (o : Option Running) → GoesOnAt old name k o (Unit {0}) IsCarriedOn middle → middle.journal ≡ old.journal
      by None (none, is) = ap (λ (h : HallState). h.journal) is
      by (Some r) (s, carried, is) = ap (λ (h : HallState). h.journal) is

  pub driven_other : (other : List ℕ) → is_same name other ≡ false → account_of middle other ≡ account_of old other
  driven_other other apart = by (search_at old name k) drives
    where
      by : (o : Option Running) → GoesOnAt old name k o (Unit {0}) IsCarriedOn middle → account_of middle other ≡ account_of old other
      by None (none, is) = ap (λ (h : HallState). account_of h other) is
      by (Some r) (s, carried, is) =
          rw is (other_account old name other (λ t. record t { searches = insert t.searches k (record r { search = s }) }) apart)

  nobody_driven : get old.tenants name ≡ None → middle ≡ old
  nobody_driven none = (subst (λ (o : Option Tenant). GoesOnAt old name k (search_of k o) (Unit {0}) IsCarriedOn middle) none drives).1

  -- the search that is waited for comes to its end
  driven_ends : IsSound old → IsFree old → (t : Tenant) → get old.tenants name ≡ Some t →
      (m : Account) × (account_of middle name ≡ Some m)
      × Ends (account old.journal name t) k (get (account old.journal name t).searches k) m
  driven_ends sound free t found = by (search_at old name k) refl drives
    where
      by : (o : Option Running) → search_at old name k ≡ o → GoesOnAt old name k o (Unit {0}) IsCarriedOn middle →
          (m : Account) × (account_of middle name ≡ Some m)
          × Ends (account old.journal name t) k (get (account old.journal name t).searches k) m
      by None none (nothing, is) =
          let gone : get t.searches k ≡ None = sym (ap (search_of k) found) ∙ none in (
            account old.journal name t,
            rw (is, found),
            rw (get_mapped numbers_exact seen t.searches k, gone),
          )
      by (Some r) at (s, carried, is) =
          let goes = drives_on r.search s carried.driven in (
            account old.journal name (record t { searches = insert t.searches k (record r { search = s }) }),
            rw is (own_account old name k r s sound at goes t found),
            own_ends old name k r s sound at goes t found (carried.settled (free_at old name k r free at)).1,
          )

  -- a wait is a turn of who waits
  pub waited_own : (new : HallState) (told : Reply) → IsSound old → IsFree old → IsServed middle name (Poll k) told new →
      TurnsTo name (account_of old name) (turn_at name old.journal (done_told name (waits k) told)) (account_of new name)
  waited_own new told sound free served = by (get old.tenants name) refl
    where
      by : (o : Option Tenant) → get old.tenants name ≡ o →
          TurnsTo name (option_map (account old.journal name) o) (turn_at name old.journal (done_told name (waits k) told))
          (account_of new name)
      by None none = rw (nobody_driven none, none) at served.answers
      by (Some t) found =
          let (m, is, ends) = driven_ends sound free t found in
          let (b, after, answers) = rw is at served.answers in
          (b, after, (m, ends, answers))
