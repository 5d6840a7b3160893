-- What a tenant is told of its view, and of a proof, by its account.
use Rattle.std.proofs.Common.{◌≡◌, ◌∙◌, ℕ, List, ap, sym, refl, inl, inr, Option, Some, None, option_map}
use Rattle.std.specs.FinMap.{get}
use Rattle.credential_text.specs.declared.credentials.Credential.{Credential}
use Rattle.rt0_rules.specs.Membership.{IsMember}
use Rattle.vaults.specs.declared.marks.Seen.{Seen}
use Rattle.vaults.specs.Journal.{vault, marked_names}
use Rattle.vaults.proofs.Exactness.{vaults_own}
use Rattle.search.specs.Ending.{Members, asked_role}
use Rattle.search.specs.Search.{SearchState, IsCompleted, rows_of, settled_of}
use Rattle.proof_trees.specs.declared.steps.Step.{Step as ProofStep}
use Rattle.proof_trees.specs.declared.faults.ProofFault.{ProofFault}
use Rattle.proof_trees.specs.declared.faults.ProofFault.TheVariants as faults
use Rattle.proof_trees.specs.Proof.{IsProof}
use Rattle.proof_trees.specs.Fault.{WhyRefused}
use Rattle.proof_trees.proofs.Soundness.{sound}
use Rattle.hall.specs.declared.faults.Fault.{Fault}
use Rattle.hall.specs.declared.faults.Fault.TheVariants.{NoSuchSearch, NotDone, NoProof, Memory}
use Rattle.hall.specs.declared.calls.answers.Answer.{Answer}
use Rattle.hall.specs.declared.calls.requests.Request.{Request}
use Rattle.hall.specs.declared.calls.requests.Request.TheVariants as request
use Rattle.hall.specs.declared.calls.replies.Reply.{Reply}
use Rattle.hall.specs.declared.calls.replies.Reply.TheVariants.{Refused}
use Rattle.hall.specs.declared.calls.replies.Reply.TheVariants as reply
use Rattle.hall.specs.Fault.{proof_fault}
use Rattle.hall.specs.Answers.{Account, answer_of, RefusesProof, IsClear, IsToldOver, sight, refuses, grants, lacks}
use Rattle.hall.specs.Hall.{Running, Tenant, HallState, known, seen, account, search_at, hall_after, IsServed}
use Rattle.hall.specs.Kept.{IsNowhere}
use Rattle.hall.proofs.Completed.{answer_completed}
use Rattle.hall.proofs.Polled.{nobody_refused, answered_by, asked_of, poll_clear, polled_nowhere}
use Rattle.hall.proofs.laws.HallChanges.{search_of, tenant_of}

module _ (h : HallState) (who : List ℕ) (t : Tenant) (here : get h.tenants who ≡ Some t) where
  pub vault_told : (rows : List Credential) → rows ≡ vault h.journal who → IsServed h who request.Vault (reply.Vault rows) h
  vault_told rows own = answered_by h who t here request.Vault (reply.Vault rows) (grants (λ f due. due) (ap reply.Vault (own ∙ sym (vaults_own h.journal who)), refl)) refl

  pub vault_lacks : IsServed h who request.Vault (Refused Memory) h
  vault_lacks = answered_by h who t here request.Vault (Refused Memory) (lacks (λ f due. due) tt) refl

  pub names_told : (names : List Seen) → names ≡ marked_names h.journal who → IsServed h who request.Sees (reply.Sees names) h
  names_told names read =
      answered_by h who t here request.Sees (reply.Sees names) (grants (λ f due. due) (ap reply.Sees read, refl)) refl

  pub names_lack : IsServed h who request.Sees (Refused Memory) h
  names_lack = answered_by h who t here request.Sees (Refused Memory) (lacks (λ f due. due) tt) refl

  -- of no search nothing is told
  pub nothing_polled : (k : ℕ) → search_at h who k ≡ None → IsServed h who (request.Poll k) (Refused NoSuchSearch) h
  nothing_polled k none = polled_nowhere h who k t here (sym (ap (search_of k) here) ∙ none)

  module _ (k : ℕ) (member : List ℕ) where
    -- a refusal that is due
    refused_for : (o : Option Running) → get t.searches k ≡ o → (f : Fault) → RefusesProof (option_map seen o) member f →
        IsServed h who (request.Proof k member) (Refused f) h
    refused_for o at f due =
        answered_by h who t here (request.Proof k member) (Refused f) (refuses f (rw (asked_of h who k t here o at) due)) refl

    pub nothing_proved : search_at h who k ≡ None → IsServed h who (request.Proof k member) (Refused NoSuchSearch) h
    nothing_proved none = refused_for None (sym (ap (search_of k) here) ∙ none) NoSuchSearch refl

-- what a search has come to is told alike to each account that has it
pub answered_over : (s : SearchState) (told : Answer) → told ≡ answer_of (settled_of s) → IsToldOver (known s) request.Poll (reply.Answered told)
answered_over s told is tenant sees a k at = grants (poll_clear tenant a k (known s) at) (known s, at, ap reply.Answered is, refl)

-- and memory may lack where that lists members
pub lacks_over : (s : SearchState) (names : List (List ℕ)) → settled_of s ≡ Members names → IsToldOver (known s) request.Poll (Refused Memory)
lacks_over s names lists tenant sees a k at = lacks (poll_clear tenant a k (known s) at) (known s, names, at, lists)

module _ (s : SearchState) (member : List ℕ) where
  module _ (tenant : List ℕ) (a : Account) (k : ℕ) (at : get a.searches k ≡ Some (known s)) where
    -- where there is a proof no refusal is due
    clear : IsCompleted s.stage → IsMember (rows_of s) member (asked_role s.query) → IsClear tenant a (request.Proof k member)
    clear done is_member f due = by (rw at at due)
      where
        by : RefusesProof (Some (known s)) member f → ⊥
        by (inl (e, working)) = working ((answer_completed s).1 done)
        by (inr (e, answered, none)) = none is_member

    -- a refusal that is due
    due_for : (f : Fault) → RefusesProof (Some (known s)) member f → RefusesProof (get a.searches k) member f
    due_for f due = rw at due

  pub proved_over : (steps : List ProofStep) → IsCompleted s.stage → IsProof (rows_of s) (asked_role s.query) member steps →
      IsToldOver (known s) (λ k. request.Proof k member) (reply.Proof steps)
  proved_over steps done proves tenant sees a k at =
      grants (clear tenant a k at done (sound (rows_of s) (asked_role s.query) member steps proves)) (known s, steps, at, proves, refl, refl)

  pub unproved_over : (f : ProofFault) (g : Fault) → g ≡ proof_fault f → WhyRefused s member f → IsToldOver (known s) (λ k. request.Proof k member) (Refused g)
  unproved_over faults.NotDone g is why tenant sees a k at =
      rw is (refuses NotDone (due_for tenant a k at NotDone (inl (refl, λ answered. why ((answer_completed s).0 answered)))))
  unproved_over faults.NoProof g is (done, none) tenant sees a k at =
      rw is (refuses NoProof (due_for tenant a k at NoProof (inr (refl, (answer_completed s).1 done, none))))
  unproved_over faults.Memory g is (done, is_member) tenant sees a k at = rw is (lacks (clear tenant a k at done is_member) tt)

-- a hall that has the search serves what is told over it
pub served_over : (h : HallState) (who : List ℕ) (k : ℕ) (s : SearchState) (wanted : ℕ → Request) (told : Reply) → hall_after h who (wanted k) told ≡ h →
    Some s ≡ option_map (λ (r : Running). r.search) (search_at h who k) → IsToldOver (known s) wanted told → IsServed h who (wanted k) told h
served_over h who k s wanted told after at over = by (search_at h who k) refl at
  where
    by : (o : Option Running) → search_at h who k ≡ o → Some s ≡ option_map (λ (r : Running). r.search) o → IsServed h who (wanted k) told h
    by None is at = cc
    by (Some r) is at =
        let (t, found, there) = tenant_of h who k r is in
        let same : s ≡ r.search = cc in
        answered_by h who t found (wanted k) told
        (over who (sight h.journal who (wanted k)) (account h.journal who t) k (asked_of h who k t found (Some r) there ∙ ap (λ (x : SearchState). Some (known x)) (sym same))) after

-- one that shows no search of the number has none
pub no_search : (shown h : HallState) → h ≡ shown → (who : List ℕ) (k : ℕ) → None ≡ option_map (λ (r : Running). r.search) (search_at shown who k) →
    search_at h who k ≡ None
no_search shown h is who k none = ap (λ (g : HallState). search_at g who k) is ∙ by (search_at shown who k) none
  where
    by : (o : Option Running) → None ≡ option_map (λ (r : Running). r.search) o → o ≡ None
    by None none = refl
    by (Some r) none = cc

-- where no search of the number is found, a wait for it is refused so, and that of another name
pub nowhere_polled : (h : HallState) (who : List ℕ) (k : ℕ) (f : Fault) → IsNowhere k (get h.tenants who) f → IsServed h who (request.Poll k) (Refused f) h
nowhere_polled h who k f is = by (get h.tenants who) refl is
  where
    by : (o : Option Tenant) → get h.tenants who ≡ o → IsNowhere k o f → IsServed h who (request.Poll k) (Refused f) h
    by None none why = rw why (nobody_refused h who (request.Poll k) none)
    by (Some t) here (why, none) = rw why (polled_nowhere h who k t here none)
