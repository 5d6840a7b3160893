-- A request that reads a search is told something, and served so by the hall that has the search.
use Rattle.std.proofs.Common.{◌≡◌, ◌∙◌, ◌⊎◌, inl, inr, ℕ, List, Ok, Option, Some, None, option_map, ap, refl}
use Rattle.rt0_rules.specs.Membership.{IsMember}
use Rattle.search.specs.Ending.{asked_role}
use Rattle.search.specs.Search.{SearchState, IsCompleted, rows_of, settled_of}
use Rattle.proof_trees.specs.declared.faults.ProofFault.TheVariants as faults
use Rattle.hall.specs.declared.faults.Fault.TheVariants.{Memory, NoProof}
use Rattle.hall.specs.declared.calls.requests.Request.{Request}
use Rattle.hall.specs.declared.calls.requests.Request.TheVariants.{Poll, Proof}
use Rattle.hall.specs.declared.calls.replies.Reply.{Reply}
use Rattle.hall.specs.declared.calls.replies.Reply.TheVariants.{Answered, Refused}
use Rattle.hall.specs.Answers.{answer_of, sight}
use Rattle.hall.specs.Hall.{HallState, Running, known, account, search_at, IsServed}
use Rattle.hall.proofs.Viewed.{answered_over, unproved_over}
use Rattle.hall.proofs.Polled.{asked_of, answered_by}
use Rattle.hall.proofs.laws.HallChanges.{tenant_of}
use Rattle.pool.specs.Histories.{ReadsIn, IsReadOff}

-- a search that is found
pub search_found : (o : Option Running) (s : SearchState) → option_map (λ (r : Running). r.search) o ≡ Some s → (r : Running) × (o ≡ Some r) × (r.search ≡ s)
search_found None s is = cc
search_found (Some r) s is = (r, refl, cc)

pub poll_admits : (k : ℕ) (s : SearchState) → (told : Reply) × IsReadOff (known s) (Poll k) told
poll_admits k s = (Answered (answer_of (settled_of s)), λ tenant sees a at. answered_over s (answer_of (settled_of s)) refl tenant sees a k at)

pub proof_admits : (k : ℕ) (member : List ℕ) (s : SearchState) → IsCompleted s.stage →
    (IsMember (rows_of s) member (asked_role s.query)) ⊎ (IsMember (rows_of s) member (asked_role s.query) → ⊥) →
    (told : Reply) × IsReadOff (known s) (Proof k member) told
proof_admits k member s done (inl is) = (Refused Memory, λ tenant sees a at. unproved_over s member faults.Memory Memory refl (done, is) tenant sees a k at)
proof_admits k member s done (inr none) = (Refused NoProof, λ tenant sees a at. unproved_over s member faults.NoProof NoProof refl (done, none) tenant sees a k at)

-- what is read off a search is what the hall that has it serves
pub read_served : (h : HallState) (who : List ℕ) (q : Request) (s : SearchState) (told : Reply) → ReadsIn h who q s → IsReadOff (known s) q told → IsServed h who q told h
read_served h who (Poll k) s told reads off =
    let (r, found, is) = search_found (search_at h who k) s reads in
    let (t, here, there) = tenant_of h who k r found in
    answered_by h who t here (Poll k) told
    (off who (sight h.journal who (Poll k)) (account h.journal who t) (asked_of h who k t here (Some r) there ∙ ap (λ (x : SearchState). Some (known x)) is)) refl
read_served h who (Proof k member) s told (r, found, is, completed) off =
    let (t, here, there) = tenant_of h who k r found in
    answered_by h who t here (Proof k member) told
    (off who (sight h.journal who (Proof k member)) (account h.journal who t)
    (asked_of h who k t here (Some r) there ∙ ap (λ (x : SearchState). Some (known x)) is)) refl
read_served h who _ s told reads off = absurd reads
