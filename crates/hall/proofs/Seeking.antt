-- A search that a tenant opens, and one that it ends.
use Rattle.std.proofs.Common.{◌≡◌, ◌∙◌, ◌+◌, ℕ, List, ap, sym, refl, subst, Option, Some, None, option_map, unwrap_or, Result, Ok, Err, IfOk, IfErr, OnOk, OnErr}
use Rattle.std.specs.Ordering.{nat_cmp}
use Rattle.std.specs.FinMap.{FinMap, get, insert}
use Rattle.vaults.specs.Journal.{view}
use Rattle.search.specs.declared.queries.Query.{Query}
use Rattle.search.specs.Ending.{Nothing}
use Rattle.search.specs.Search.{new_search}
use Rattle.hall.specs.declared.faults.Fault.{Fault}
use Rattle.hall.specs.declared.faults.Fault.TheVariants.{NoSuchSearch, Memory}
use Rattle.hall.specs.declared.calls.requests.Request.TheVariants.{Seek, Close}
use Rattle.hall.specs.declared.calls.replies.Reply.TheVariants.{Opened, Closed, Refused}
use Rattle.hall.specs.Answers.{Asked, seek_refusal, refuses, grants, lacks}
use Rattle.hall.specs.Hall.{Running, Tenant, HallState, seen, account, beginning, IsServed, told_as}
use Rattle.hall.proofs.Maps.{numbers_exact, get_removed, get_mapped, mapped_insert, mapped_remove}
use Rattle.hall.proofs.SearchSteps.{nothing_yet}
use Rattle.hall.proofs.Polled.{answered_by}
use Rattle.hall.proofs.Placed.{put, put_changed, put_again, served_as}
use Rattle.hall.proofs.laws.HallRequests.{opening, with_opened, closing}

-- a search that is opened now, as its asker knows it
seen_beginning : (h : HallState) (who : List ℕ) (query : Query) (work : ℕ) →
    seen (beginning h.journal who query work) ≡ record { query = query; view = view h.journal who; settled = Nothing }
unfolding new_search
seen_beginning h who query work = λ i. record {
  query = query;
  view = view h.journal who;
  settled = nothing_yet query work (record { asker = who; vaults = view h.journal who }) i;
}

module _ (h : HallState) (who : List ℕ) (t u : Tenant) (here : get h.tenants who ≡ Some t) where
  -- where nothing changed, what is answered by the account of before is served
  unmoved : (q : _) (told : _) → IsServed h who q told h → u ≡ t → IsServed h who q told (put h who u)
  unmoved q told served same = rw (put_again h who t u here same) served

  pub sought : (query : Query) (r : Result ℕ Fault) → OnOk r (seek_refusal (account h.journal who t) ≡ None) → IfOk r (λ n. n ≡ t.opens + 1) →
      IfOk r (λ n. u ≡ opening h.journal who query n t) → IfErr r (λ f. f ≡ unwrap_or (seek_refusal (account h.journal who t)) Memory) → OnErr r (u ≡ t) →
      IsServed h who (Seek query) (told_as Opened r) (put h who u)
  sought query (Ok n) allowed next is refused unchanged =
      served_as h who t u here (Seek query) (Opened n)
      (grants (λ f due. let clash : None ≡ Some f = sym allowed ∙ due in cc) (ap Opened next, ap (account h.journal who) is ∙ grown))
      (put_changed h who t u here (opening h.journal who query n) is)
    where
      asked : Asked
      asked = record { query = query; view = view h.journal who; settled = Nothing }

      grown : account h.journal who (opening h.journal who query n t) ≡ with_opened (account h.journal who t) asked
      grown =
          ap (λ (m : FinMap nat_cmp Asked). record (account h.journal who t) { opens = n; searches = m })
          (mapped_insert numbers_exact seen t.searches n (beginning h.journal who query t.limits.work)
          ∙ ap (insert (account h.journal who t).searches n) (seen_beginning h who query t.limits.work))
          ∙ ap (λ (m : ℕ). record (account h.journal who t) { opens = m; searches = insert (account h.journal who t).searches m asked }) next
  sought query (Err f) allowed next is refused unchanged =
      unmoved (Seek query) (Refused f) (by (seek_refusal (account h.journal who t)) refl) unchanged
    where
      by : (o : Option Fault) → seek_refusal (account h.journal who t) ≡ o → IsServed h who (Seek query) (Refused f) h
      by (Some g) due =
          answered_by h who t here (Seek query) (Refused f)
          (refuses f (due ∙ ap Some (sym (refused ∙ ap (λ (o : Option Fault). unwrap_or o Memory) due)))) refl
      by None none =
          rw (refused ∙ ap (λ (o : Option Fault). unwrap_or o Memory) none)
          (answered_by h who t here (Seek query) (Refused Memory) (lacks (λ g due. let clash : None ≡ Some g = sym none ∙ due in cc) tt) refl)

  pub ended : {X : Type 0} (k : ℕ) (r : Result X Fault) → OnOk r (get t.searches k ≡ None → ⊥) → OnOk r (u ≡ closing k t) →
      IfErr r (λ f. (f ≡ NoSuchSearch) × (get t.searches k ≡ None)) → OnErr r (u ≡ t) →
      IsServed h who (Close k) (told_as (λ done. Closed) r) (put h who u)
  ended k (Ok done) there is refused unchanged =
      served_as h who t u here (Close k) Closed
      (grants (λ f due. there (nowhere (get t.searches k) (sym (get_mapped numbers_exact seen t.searches k) ∙ due.0))) (
        refl,
        ap (account h.journal who) is
            ∙ ap (λ (m : FinMap nat_cmp Asked). record (account h.journal who t) { searches = m }) (mapped_remove numbers_exact seen t.searches k),
      ))
      (put_changed h who t u here (closing k) is)
    where
      nowhere : (o : Option Running) → option_map seen o ≡ None → o ≡ None
      nowhere None none = refl
      nowhere (Some r) none = cc
  ended k (Err f) there is refused unchanged =
      unmoved (Close k) (Refused f)
      (answered_by h who t here (Close k) (Refused f)
      (refuses f (get_mapped numbers_exact seen t.searches k ∙ ap (option_map seen) refused.1, refused.0)) refl) unchanged

-- a search that is ended, or wasn't there, isn't there any more
pub ended_is_gone : {X : Type 0} (t u : Tenant) (k : ℕ) (r : Result X Fault) → OnOk r (u ≡ closing k t) → IfErr r (λ f. (f ≡ NoSuchSearch) × (get t.searches k ≡ None)) → OnErr r (u ≡ t) →
    get u.searches k ≡ None
ended_is_gone t u k (Ok done) is refused unchanged = ap (λ (v : Tenant). get v.searches k) is ∙ get_removed numbers_exact t.searches k
ended_is_gone t u k (Err f) is refused unchanged = ap (λ (v : Tenant). get v.searches k) unchanged ∙ refused.1

-- what holds of the number that is answered holds of the one that is told
pub entered : (r : Result ℕ Fault) (P : ℕ → Type 0) → IfOk r P → (n : ℕ) → told_as Opened r ≡ Opened n → P n
entered (Ok m) P is n said = subst P (let same : m ≡ n = cc said in same) is
entered (Err f) P is n said = cc said
