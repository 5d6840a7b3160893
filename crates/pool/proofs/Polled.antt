-- What a poll tells of a search is what it has come to, and the truth where it is completed.
use Rattle.std.specs.Option.{IsSomeAnd}
use mathlib.Core.List.{IsPrefix}
use Rattle.std.specs.List.{Contains}
use Rattle.std.proofs.lemmas.List.Elements.{Contains-append_left}
use Rattle.std.specs.FinMap.{get}
use Rattle.std.proofs.Common.{◌≡◌, ◌∙◌, ℕ, Bool, true, false, List, ap, sym, subst, inl, inr, Some, Option, None, option_map, refl, Result, Ok, Err}
use Rattle.credential_text.specs.declared.credentials.Credential.{Credential}
use Rattle.vaults.specs.Journal.{credentials}
use Rattle.search.specs.Search.{settled_of, IsAnswered, status_of}
use Rattle.search.specs.declared.queries.Query.{Query}
use Rattle.search.specs.Ending.{Settled, Nothing, IsTruth, answers, spends, breaks, MaySettle}
use Rattle.hall.specs.declared.calls.answers.Answer.{Answer}
use Rattle.hall.specs.declared.calls.answers.Answer.TheVariants.{Working}
use Rattle.hall.specs.declared.calls.requests.Request.TheVariants.{Poll}
use Rattle.hall.specs.declared.faults.Fault.{Fault}
use Rattle.hall.specs.declared.calls.replies.Reply.{Reply}
use Rattle.hall.specs.declared.calls.replies.Reply.TheVariants.{Answered, Refused}
use Rattle.hall.specs.Answers.{Asked, answer_of}
use Rattle.hall.specs.{Work.StillWorks}
use Rattle.hall.specs.Hall.{Running, Tenant, HallState, search_at, seen, IsSound, IsServed}
use Rattle.hall.proofs.Maps.{numbers_exact, get_mapped}
use Rattle.hall.proofs.laws.RightAnswers.{same_answer}
use Rattle.hall.proofs.laws.HallChanges.{search_of}
use Rattle.pool.specs.declared.verdicts.Verdict.{Verdict}
use Rattle.pool.specs.Verdicts.{IsTrueWhereCompleted}
use Rattle.pool.specs.declared.faults.DeskFault.{DeskFault}
use Rattle.pool.specs.declared.turns.Item.{Item}
use Rattle.pool.specs.declared.turns.Item.TheVariants as item
use Rattle.pool.specs.Histories.{HasStop}
use Rattle.pool.specs.Passes.{PassState}
use Rattle.pool.specs.Rooms.{RoomState, IsKept}
use Rattle.pool.specs.Served.{IsPolledIn, IsWaited}
use Rattle.pool.proofs.Served.{granted}

truth_told : (C : List Credential) (q : Query) (s : Settled) → (IsAnswered (status_of s) → IsTruth C q s) → IsTrueWhereCompleted C q (answer_of s)
truth_told C q s truth t told answered =
    let same : s ≡ t = same_answer s t told in
    subst (IsTruth C q) same (truth (subst (λ (x : Settled). IsAnswered (status_of x)) (sym same) answered))

ending_told : (limit : ℕ) (C : List Credential) (q : Query) (s : Settled) → MaySettle limit C q Nothing s → IsTrueWhereCompleted C q (answer_of s)
ending_told limit C q s (inl is) = truth_told C q s (λ answered. absurd (subst (λ (x : Settled). IsAnswered (status_of x)) is answered))
ending_told limit C q s (inr (none, answers work of within truth)) = truth_told C q s (λ answered. truth)
ending_told limit C q s (inr (none, spends is exceeds)) = truth_told C q s (λ answered. absurd (subst (λ (x : Settled). IsAnswered (status_of x)) is answered))
ending_told limit C q s (inr (none, breaks is)) = truth_told C q s (λ answered. absurd (subst (λ (x : Settled). IsAnswered (status_of x)) is answered))

-- what a search of a sound hall has come to is the truth where it is completed
pub running_truth : (h : HallState) (who : List ℕ) (k : ℕ) (r : Running) → IsSound h → search_at h who k ≡ Some r →
    IsTrueWhereCompleted (credentials r.search.snapshot.vaults) r.search.query (answer_of (settled_of r.search))
running_truth h who k r sound = by (get h.tenants who) refl
  where
    by : (o : Option Tenant) → get h.tenants who ≡ o → search_of k o ≡ Some r → IsTrueWhereCompleted (credentials r.search.snapshot.vaults) r.search.query (answer_of (settled_of r.search))
    by None at is = cc
    by (Some t) at is = ending_told t.limits.work (credentials r.search.snapshot.vaults) r.search.query (settled_of r.search) (sound who t k r at is).2.settled

-- a search of the hall, of which an answer tells
pub record IsToldOf (h : HallState) (who : List ℕ) (k : ℕ) (a : Answer) (r : Running) : Type 0 where
  pub there : search_at h who k ≡ Some r
  pub tells : a ≡ answer_of (settled_of r.search)
  pub asker : r.search.snapshot.asker ≡ who

-- of a tenant, what its account tells of a search is what the search tells
told_of : (h : HallState) (who : List ℕ) (t : Tenant) (k : ℕ) (a : Answer) (s : Asked) → IsSound h → get h.tenants who ≡ Some t → (o : Option Running) → get t.searches k ≡ o →
    option_map seen o ≡ Some s → a ≡ answer_of s.settled → (r : Running) × IsToldOf h who k a r
told_of h who t k a s sound tenant None at same tells = cc
told_of h who t k a s sound tenant (Some r) at same tells =
    let is : seen r ≡ s = cc in
    let told : a ≡ answer_of (settled_of r.search) = tells ∙ sym (ap (λ (asked : Asked). answer_of asked.settled) is) in
    let kept = (sound who t k r tenant at).2 in (
      r,
      record {
        there = ap (search_of k) tenant ∙ at;
        tells = told;
        asker = kept.asker;
      },
    )

pub polled_search : (h : HallState) (who : List ℕ) (k : ℕ) (a : Answer) → IsSound h → IsServed h who (Poll k) (Answered a) h → (r : Running) × IsToldOf h who k a r
polled_search h who k a sound served =
    let has = granted h h who (Poll k) (Answered a) (λ f is. cc) served in
    let told = has.gets.2 in
    let tells : a ≡ answer_of has.gets.0.settled = cc in
    told_of h who has.tenant k a has.gets.0 sound has.there (get has.tenant.searches k) refl (sym (get_mapped numbers_exact seen has.tenant.searches k) ∙ has.gets.1) tells

-- a poll of no search is refused
pub nothing_granted : (h new : HallState) (who : List ℕ) (k : ℕ) (told : Reply) → ((f : Fault) → told ≡ Refused f → ⊥) → IsServed h who (Poll k) told new →
    None ≡ option_map (λ (r : Running). r.search) (search_at h who k) → ⊥
nothing_granted h new who k told other served none =
    let has = granted h new who (Poll k) told other served in
    by has.tenant has.gets.0 (get has.tenant.searches k) refl
    (sym (get_mapped numbers_exact seen has.tenant.searches k) ∙ has.gets.1)
    (subst (λ (o : Option Running). None ≡ option_map (λ (r : Running). r.search) o) (ap (search_of k) has.there) none)
  where
    by : (t : Tenant) (s : Asked) (o : Option Running) → get t.searches k ≡ o → option_map seen (get t.searches k) ≡ Some s →
        None ≡ option_map (λ (r : Running). r.search) (get t.searches k) → ⊥
    by t s None at found there = let clash : None ≡ Some s = sym (ap (option_map seen) at) ∙ found in cc
    by t s (Some r) at found there = let clash : None ≡ Some r.search = there ∙ ap (option_map (λ (one : Running). one.search)) at in cc

-- nothing yet is told of a search that still works
still_works : (s : Settled) → answer_of s ≡ Working → s ≡ Nothing
still_works Nothing is = refl
still_works s is = cc

-- a search that tells nothing yet still works
pub works_there : (at : RoomState) (who : List ℕ) (k : ℕ) (a : Answer) → IsSound at.hall → IsServed at.hall who (Poll k) (Answered a) at.hall → a ≡ Working → StillWorks at.hall (who, k)
works_there at who k a sound served working =
    let (r, found) = polled_search at.hall who k a sound served in
    subst (λ (o : Option Running). IsSomeAnd o (λ one. settled_of one.search ≡ Nothing)) (sym found.there)
    (still_works (settled_of r.search) (sym found.tells ∙ working))

-- a stop that is told is seen by who has seen more
pub stop_seen : (told seen : List Item) → HasStop told → IsPrefix told seen → HasStop seen
stop_seen told seen (name, has) (more, is) = (name, subst (λ (l : List Item). Contains l (item.Stopped name)) is (Contains-append_left told more (item.Stopped name) has))

-- where a wait is over a poll tells nothing yet only after a stop
pub waited : (at : RoomState) (old new : PassState) (k : ℕ) (result : Result Verdict DeskFault) → IsKept at → ((at.stopped ≡ false) × StillWorks at.hall (old.tenant, k) → ⊥) → IsPolledIn at old new k result →
    IsWaited old new k result
waited at old new k (Err fault) kept over polled = (polled.polled, tt)
waited at old new k (Ok v) kept over polled = (polled.polled, λ working. by working at.stopped refl)
  where
    by : v.answer ≡ Working → (b : Bool) → at.stopped ≡ b → HasStop new.seen
    by working true is = stop_seen at.told new.seen (kept.stop is) polled.seen
    by working false is = absurd (over (is, polled.working working))
