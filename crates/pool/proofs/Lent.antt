-- What is told of a search that is read, under the lock or once it was given back.
use Rattle.std.specs.Prelude.{IfOk, IfSome}
use Rattle.std.proofs.Common.{◌≡◌, ◌∙◌, ◌⊎◌, ◌++◌, ◌∷◌, [], ℕ, List, Some, option_map, Result, Ok, Err, inl, inr, ap, sym, subst, subst₂, refl}
use mathlib.Core.List.{IsPrefix}
use Rattle.std.specs.declared.snapshot.Snapshot.{Snapshot}
use Rattle.quotas.specs.Quota.{Quota}
use Rattle.search.specs.Search.{SearchState, settled_of}
use Rattle.vaults.specs.Journal.{credentials}
use Rattle.hall.specs.Answers.{answer_of, IsToldOver}
use Rattle.hall.specs.declared.calls.answers.Answer.TheVariants.{Working}
use Rattle.hall.specs.declared.calls.requests.Request.{Request}
use Rattle.hall.specs.declared.calls.requests.Request.TheVariants as request
use Rattle.hall.specs.declared.calls.replies.Reply.{Reply}
use Rattle.hall.specs.declared.calls.replies.Reply.TheVariants as reply
use Rattle.hall.specs.Hall.{HallState, Running, known, search_at, IsSound}
use Rattle.hall.specs.Work.{IsCompletedAt, StillWorks}
use Rattle.hall.proofs.laws.HallChanges.{tenant_of}
use Rattle.pool.specs.declared.faults.DeskFault.{DeskFault}
use Rattle.pool.specs.declared.faults.DeskFault.TheVariants.{Hall}
use Rattle.pool.specs.declared.turns.Item.{Item}
use Rattle.pool.specs.declared.turns.Item.TheVariants as item
use Rattle.pool.specs.declared.turns.Noted.TheVariants as noted
use Rattle.pool.specs.declared.verdicts.Verdict.{Verdict}
use Rattle.pool.specs.Histories.{own_of, Reaches, ReadsIn, number_read, IsReadOff, IsOpening, item_of}
use Rattle.pool.specs.Verdicts.{IsTrueWhereCompleted}
use Rattle.pool.specs.Passes.{PassState}
use Rattle.pool.specs.Rooms.{RoomState, IsKept}
use Rattle.pool.specs.Served.{IsTold, IsAnswered, Suits, IsLent, IsVerdict, IsPolled, IsPolledIn}
use Rattle.pool.proofs.Admitting.{search_found, read_served}
use Rattle.pool.proofs.Reaching.{opening_stays}
use Rattle.pool.proofs.Told.{next_item}
use Rattle.pool.proofs.Served.{served_suits}
use Rattle.pool.proofs.Polled.{running_truth, works_there}

-- a completed search is there
pub completed_there : (h : HallState) (who : List ℕ) (k : ℕ) (s : SearchState) → IsCompletedAt h who k s → option_map (λ (r : Running). r.search) (search_at h who k) ≡ Some s
completed_there h who k s (r, there, is, completed) = ap (option_map (λ (r : Running). r.search)) there ∙ ap Some is

-- the history has the opening of a search that is there
pub opening_there : (roster : List (List ℕ × Quota)) (items : List Item) (h : HallState) (i : Item) (who : List ℕ) (k : ℕ) (s : SearchState) → Reaches roster items h →
    option_map (λ (r : Running). r.search) (search_at h who k) ≡ Some s → IsOpening (items ++ i ∷ []) who k s.query s.snapshot
opening_there roster items h i who k s reaches there =
    let (r, found, is) = search_found (search_at h who k) s there in
    let (t, tenant, among) = tenant_of h who k r found in
    opening_stays items i who k s.query s.snapshot
    (subst (λ (x : SearchState). IsOpening items who k x.query x.snapshot) is (reaches.opened who t k r tenant among))

-- the request reads the search of this number
abbrev Names : Request → ℕ → Type 0
Names q k = (q ≡ request.Poll k) ⊎ ((member : List ℕ) × (q ≡ request.Proof k member))

pub names_same : (q : Request) (number k : ℕ) → Names q k → number ≡ k → Names q number
names_same q number k names is = subst (Names q) (sym is) names

of_search : (q : Request) (k : ℕ) (holds : ℕ → Type 0) → Names q k → holds k → IfSome (number_read q) holds
of_search q k holds (inl is) here = subst (λ (r : Request). IfSome (number_read r) holds) (sym is) here
of_search q k holds (inr (member, is)) here = subst (λ (r : Request). IfSome (number_read r) holds) (sym is) here

pub completed_read : (h : HallState) (who : List ℕ) (q : Request) (k : ℕ) (s : SearchState) → Names q k → IsCompletedAt h who k s → ReadsIn h who q s
completed_read h who q k s (inl is) at = subst (λ (r : Request). ReadsIn h who r s) (sym is) (completed_there h who k s at)
completed_read h who q k s (inr (member, is)) at = subst (λ (r : Request). ReadsIn h who r s) (sym is) at

-- the history went on by the item of a search that is read in a room
pub lent_here : (roster : List (List ℕ × Quota)) (items all : List Item) (h : HallState) (at : RoomState) (old new : PassState) (who : List ℕ) (q : Request) (k : ℕ) (s : SearchState)
    (asked : Snapshot Request) (read : Snapshot SearchState) → h ≡ at.hall → items ≡ at.told → who ≡ old.tenant → asked.value ≡ q → read.value ≡ s → IsKept at → Reaches roster items h →
    Names q k → option_map (λ (r : Running). r.search) (search_at h who k) ≡ Some s → ReadsIn h who q s →
    IsPrefix old.seen items → own_of old.name all ≡ own_of old.name old.seen ++ item_of old.name (noted.Read who asked read) ∷ [] → new ≡ record old { seen = all } →
    all ≡ items ++ item_of old.name (noted.Read who asked read) ∷ [] → IsLent at old new q s
lent_here roster items all h at old new who q k s asked read is_hall is_told is_who is_q is_s kept reaches names there reads began own pass grown =
    let i : Item = item_of old.name (noted.Read who asked read) in
    let seen : new.seen ≡ items ++ i ∷ [] = ap (λ (p : PassState). p.seen) pass ∙ grown in
    let opening : IsOpening (items ++ i ∷ []) who k s.query s.snapshot = opening_there roster items h i who k s reaches there in record {
      kept = kept;
      began = (i ∷ [], ap (λ (l : List Item). l ++ i ∷ []) (sym is_told) ∙ sym seen);
      next = next_item old new items all i (item.Read old.name old.tenant q (known s)) began own pass grown (λ n. item.Read old.name (is_who n) (is_q n) (known (is_s n)));
      reads = subst (λ (g : HallState). ReadsIn g old.tenant q s) is_hall (subst (λ (n : List ℕ). ReadsIn h n q s) is_who reads);
      opening = of_search q k (λ j. IsOpening new.seen old.tenant j s.query s.snapshot) names
          (subst₂ (λ (l : List Item) (n : List ℕ). IsOpening l n k s.query s.snapshot) (sym seen) is_who opening);
    }

-- what such a search has come to is the truth where it is completed
pub found_truth : (h : HallState) (who : List ℕ) (k : ℕ) (s : SearchState) → IsSound h → option_map (λ (r : Running). r.search) (search_at h who k) ≡ Some s →
    IsTrueWhereCompleted (credentials s.snapshot.vaults) s.query (answer_of (settled_of s))
found_truth h who k s sound there =
    let (r, found, is) = search_found (search_at h who k) s there in
    subst (λ (t : SearchState). IsTrueWhereCompleted (credentials t.snapshot.vaults) t.query (answer_of (settled_of t))) is (running_truth h who k r sound found)

-- what is told over the search is read off it
over_read : (s : SearchState) (k : ℕ) (told : Reply) → IsToldOver (known s) request.Poll told → IsReadOff (known s) (request.Poll k) told
over_read s k told over tenant sees a at = over tenant sees a k at

module _ (at : RoomState) (old new : PassState) (q : Request) (s : SearchState) (lent : IsLent at old new q s) where
  read_told : (told : Reply) → IsReadOff (known s) q told → IsTold old new q told
  read_told told off = (item.Read old.name old.tenant q (known s), lent.next, (told, off, refl))

  -- what is read off the search that is lent is the answer
  pub lent_answered : (result : Result Reply DeskFault) → IsAnswered (λ r. r) (IsReadOff (known s) q) result → IsAnswered (λ r. r) (IsTold old new q) result
  lent_answered (Ok told) off = read_told told off
  lent_answered (Err (Hall f)) off = read_told (reply.Refused f) off
  lent_answered (Err fault) off = absurd off

  -- and suits the request
  pub read_suits : (result : Result Reply DeskFault) → IsAnswered (λ r. r) (IsReadOff (known s) q) result → IfOk result (Suits q)
  read_suits (Ok told) off = served_suits at.hall at.hall old.tenant q told (read_served at.hall old.tenant q s told lent.reads off)
  read_suits (Err fault) off = tt

-- the verdict is on this search
abbrev pub IsVerdictOn : SearchState → Result Verdict DeskFault → Type 0
IsVerdictOn s result = IsVerdict (IsToldOver (known s) request.Poll) (λ query shown. (query ≡ s.query) × (shown ≡ s.snapshot)) result

-- a verdict on it is what a poll comes to
pub lent_polled : (at : RoomState) (old new : PassState) (k : ℕ) (s : SearchState) → IsLent at old new (request.Poll k) s → (result : Result Verdict DeskFault) → IsVerdictOn s result →
    IsPolledIn at old new k result
lent_polled at old new k s lent result on = record { polled = polled result on; seen = lent.began; working = working result on }
  where
    told : (r : Reply) → IsToldOver (known s) request.Poll r → IsTold old new (request.Poll k) r
    told r over = read_told at old new (request.Poll k) s lent r (over_read s k r over)

    polled : (r : Result Verdict DeskFault) → IsVerdictOn s r → IsPolled old new k r
    polled (Ok v) (over, (query, snapshot)) = (
      told (reply.Answered v.answer) over,
      subst₂ (IsOpening new.seen old.tenant k) (sym query) (sym snapshot) lent.opening,
    )
    polled (Err (Hall f)) (inl over) = inl (told (reply.Refused f) over)
    polled (Err (Hall f)) (inr (is, (answer, over))) = inr (is, (answer, told (reply.Answered answer) over))
    polled (Err fault) on = absurd on

    working : (r : Result Verdict DeskFault) → IsVerdictOn s r → IfOk r (λ v. v.answer ≡ Working → StillWorks at.hall (old.tenant, k))
    working (Ok v) (over, (query, snapshot)) = λ is.
        works_there at old.tenant k v.answer lent.kept.sound (read_served at.hall old.tenant (request.Poll k) s (reply.Answered v.answer) lent.reads (over_read s k (reply.Answered v.answer) over)) is
    working (Err fault) on = tt
