-- What accounts that are alike reply to one request: replies that agree, and accounts that are alike again.
use Rattle.std.proofs.Common.{ℕ, ◌+◌, List, nat_le, ◌≡◌, ◌≢◌, ◌∙◌, inl, inr, sym, refl, Option, Some, None, if◌then◌else◌}
use Rattle.std.specs.FinMap.{get}
use Rattle.credential_text.specs.declared.credentials.Credential.{Credential}
use Rattle.quotas.specs.Quota.{Quota}
use Rattle.vaults.specs.declared.changes.Change.{Change}
use Rattle.vaults.specs.Journal.{credentials}
use Rattle.search.specs.declared.queries.Query.{Query}
use Rattle.search.specs.Ending.{Settled, Nothing, Broken, MaySettle, asked_role}
use Rattle.proof_trees.specs.declared.steps.Step.{Step as ProofStep}
use Rattle.proof_trees.specs.Proof.{IsProof}
use Rattle.proof_trees.proofs.Soundness.{sound as proved_member}
use Rattle.hall.specs.declared.faults.Fault.{Fault}
use Rattle.hall.specs.declared.faults.Fault.TheVariants as fault
use Rattle.hall.specs.declared.calls.answers.Answer.TheVariants as answer
use Rattle.hall.specs.declared.calls.requests.Request.{Request}
use Rattle.hall.specs.declared.calls.requests.Request.TheVariants as request
use Rattle.hall.specs.declared.calls.replies.Reply.{Reply}
use Rattle.hall.specs.declared.calls.replies.Reply.TheVariants.{Answered, Proof, Refused}
use Rattle.hall.specs.Answers.{Asked, Account, alter_refusal, seek_refusal}
use Rattle.hall.specs.Answers.{Sight, answer_of, RefusesProof, Refuses, Grants, IsClear, Answers, refuses, grants, lacks}
use Rattle.hall.specs.Run.{When, any_time, at_waits}
use Rattle.hall.specs.Run.{ProveTheSame, works, no_proof_yet, proof_later, Agree, same, proofs, first_early, second_early}
use Rattle.hall.proofs.Maps.{numbers_exact, same_len}
use Rattle.hall.proofs.Truths.{ending_unique}
use Rattle.hall.proofs.laws.AccountsAlike.{Like, BothHave, neither, both, both_present, both_absent, both_itself, both_inserted, both_removed, AreAlike, alike_back}

-- memory was there, and no search that was asked for was broken by its want
abbrev pub IsWhole : Reply → Type 0
IsWhole told = (told ≢ Refused fault.Memory) × (told ≢ Answered answer.Broken)

prove_back : {first second : List ProofStep} → ProveTheSame first second → ProveTheSame second first
prove_back p = record { credentials = p.credentials; role = p.role; who = p.who; one = p.other; other = p.one }

agree_back : {when : When} {told other : Reply} → Agree when told other → Agree when other told
agree_back same = same
agree_back (proofs p) = proofs (prove_back p)
agree_back (first_early w early) = second_early w early
agree_back (second_early w early) = first_early w early

-- what is told of a search in the two worlds
told_agree : (when : When) (limit : ℕ) (C : List Credential) (q : Query) (x y : Settled) → Like when limit C q x y → x ≢ Broken →
    y ≢ Broken →
    Agree when (Answered (answer_of x)) (Answered (answer_of y))
told_agree at_waits limit C q x y e whole intact = rw e same
told_agree any_time limit C q x y (inl e) whole intact = rw e same
told_agree any_time limit C q x y (inr h) whole intact = by h.0 h.1
  where
    by : MaySettle limit C q Nothing x → MaySettle limit C q Nothing y →
        Agree any_time (Answered (answer_of x)) (Answered (answer_of y))
    by (inl e) k = rw e (first_early refl works)
    by (inr f) (inl e) = rw e (second_early refl works)
    by (inr f) (inr g) = rw (ending_unique limit C q x y f.1 g.1 whole intact) same

polls_agree : (when : When) (limit : ℕ) (o p : Option Asked) (s t : Asked) → BothHave when limit o p → o ≡ Some s → p ≡ Some t →
    IsWhole (Answered (answer_of s.settled)) → IsWhole (Answered (answer_of t.settled)) →
    Agree when (Answered (answer_of s.settled)) (Answered (answer_of t.settled))
polls_agree when limit _ _ s t neither e f whole intact = cc
polls_agree when limit _ _ s t (both query view x y like) e f whole intact =
    let is : s ≡ record { query = query; view = view; settled = x } = (cc) in
    let are : t ≡ record { query = query; view = view; settled = y } = (cc) in
    rw (is, are) (told_agree when limit (credentials view) query x y like
    (λ broken. whole.1 (rw is (rw broken))) (λ broken. intact.1 (rw are (rw broken))))

-- a refusal of a proof in one world, and what the other tells
refused_proofs : (when : When) (limit : ℕ) (o p : Option Asked) (who : List ℕ) (f g : Fault) → BothHave when limit o p →
    RefusesProof o who f → RefusesProof p who g →
    Agree when (Refused f) (Refused g)
refused_proofs when limit _ _ who f g neither e h = rw (e, h) same
refused_proofs when limit _ _ who f g (both query view x y like) (inl early) (inl also) = rw (early.0, also.0) same
refused_proofs when limit _ _ who f g (both query view x y like) (inr none) (inr also) = rw (none.0, also.0) same
refused_proofs at_waits limit _ _ who f g (both query view x y like) (inl early) (inr none) = absurd (early.1 (rw like none.1))
refused_proofs at_waits limit _ _ who f g (both query view x y like) (inr none) (inl early) = absurd (early.1 (rw like at none.1))
refused_proofs any_time limit _ _ who f g (both query view x y like) (inl early) (inr none) =
    rw (early.0, none.0) (first_early refl no_proof_yet)
refused_proofs any_time limit _ _ who f g (both query view x y like) (inr none) (inl early) =
    rw (none.0, early.0) (second_early refl no_proof_yet)

refused_proved : (when : When) (limit : ℕ) (o p : Option Asked) (who : List ℕ) (f : Fault) (t : Asked) (steps : List ProofStep) →
    BothHave when limit o p →
    RefusesProof o who f → ((g : Fault) → RefusesProof p who g → ⊥) → p ≡ Some t →
    IsProof (credentials t.view) (asked_role t.query) who steps →
    Agree when (Refused f) (Proof steps)
refused_proved when limit _ _ who f t steps neither due clear at is = cc
refused_proved at_waits limit _ _ who f t steps (both query view x y like) (inl early) clear at is =
    absurd (clear fault.NotDone (inl (refl, λ done. early.1 (rw like done))))
refused_proved any_time limit _ _ who f t steps (both query view x y like) (inl early) clear at is =
    rw early.0 (first_early refl proof_later)
refused_proved when limit _ _ who f t steps (both query view x y like) (inr none) clear at is =
    let same_search : t ≡ record { query = query; view = view; settled = y } = (cc) in
    absurd (none.2 (proved_member (credentials view) (asked_role query) who steps (rw same_search at is)))

proved_both : (when : When) (limit : ℕ) (o p : Option Asked) (who : List ℕ) (s t : Asked) (steps more : List ProofStep) →
    BothHave when limit o p → o ≡ Some s → p ≡ Some t →
    IsProof (credentials s.view) (asked_role s.query) who steps → IsProof (credentials t.view) (asked_role t.query) who more →
    Agree when (Proof steps) (Proof more)
proved_both when limit _ _ who s t steps more neither e f is are = cc
proved_both when limit _ _ who s t steps more (both query view x y like) e f is are =
    let one : s ≡ record { query = query; view = view; settled = x } = (cc) in
    let other : t ≡ record { query = query; view = view; settled = y } = (cc) in
    proofs record { credentials = credentials view; role = asked_role query; who = who; one = rw one at is; other = rw other at are }

-- one refusal at most is due
pub refused_once : (tenant : List ℕ) (a : Account) (q : Request) (f g : Fault) → Refuses tenant a q f → Refuses tenant a q g → f ≡ g
refused_once tenant a (request.Proof k who) f g e h = by (get a.searches k) e h
  where
    by : (o : Option Asked) → RefusesProof o who f → RefusesProof o who g → f ≡ g
    by None is are = is ∙ sym are
    by (Some s) (inl is) (inl are) = is.0 ∙ sym are.0
    by (Some s) (inl is) (inr are) = absurd (is.1 are.1)
    by (Some s) (inr is) (inl are) = absurd (are.1 is.1)
    by (Some s) (inr is) (inr are) = is.0 ∙ sym are.0
refused_once tenant a request.Vault f g e h = absurd e
refused_once tenant a request.Sees f g e h = absurd e
refused_once tenant a q f g e h = cc

-- accounts that are alike
module _ (when : When) (limit : ℕ) (tenant : List ℕ) (a b : Account) (alike : AreAlike when limit a b) where
  -- what a refusal depends on is the same in both
  alter_alike : (change : Change) → alter_refusal a tenant change ≡ alter_refusal b tenant change
  alter_alike change = λ i. alter_refusal (record a { limits = sym alike.limits i; entries = sym alike.entries i }) tenant change

  seek_alike : seek_refusal a ≡ seek_refusal b
  seek_alike =
      let count = same_len numbers_exact a.searches b.searches (λ k. both_present (alike.searches k)) in
      λ i. by (sym alike.limits i) (sym alike.opens i) (count i)
    where
      by : Quota → ℕ → ℕ → Option Fault
      by limits opens running =
          if nat_le limits.searches running then Some fault.Searches
          else (if nat_le limits.opens opens then Some fault.Opens else None)

  -- a request other than for a proof is due one refusal in both
  refused_over : (q : Request) (f : Fault) → ((k : ℕ) (who : List ℕ) → q ≢ request.Proof k who) → Refuses tenant a q f →
      Refuses tenant b q f
  refused_over (request.Alter change) f other due = sym (alter_alike change) ∙ due
  refused_over (request.Seek query) f other due = sym seek_alike ∙ due
  refused_over (request.Poll k) f other due = (both_absent (alike.searches k) due.0, due.1)
  refused_over (request.Close k) f other due = (both_absent (alike.searches k) due.0, due.1)
  refused_over request.Vault f other due = due
  refused_over request.Sees f other due = due
  refused_over (request.Proof k who) f other due = absurd (other k who refl)

  both_refused : (q : Request) (f g : Fault) → Refuses tenant a q f → Refuses tenant b q g → Agree when (Refused f) (Refused g)
  both_refused (request.Proof k who) f g due also =
      refused_proofs when limit (get a.searches k) (get b.searches k) who f g (alike.searches k) due also
  both_refused q f g due also =
      rw (refused_once tenant b q f g (refused_over q f (λ k who e. cc) due) also) same

  -- one is refused, the other granted what was asked for
  refused_granted : (sees : Sight) (d : Account) (q : Request) (f : Fault) (other : Reply) → Refuses tenant a q f →
      IsClear tenant b q → Grants tenant sees b q other d → Agree when (Refused f) other × AreAlike when limit a d
  refused_granted sees d (request.Proof k who) f other due clear (t, steps, at, is, e, are) =
      rw (e, are) (refused_proved when limit (get a.searches k) (get b.searches k) who f t steps (alike.searches k) due clear at is, alike)
  refused_granted sees d q f other due clear given = absurd (clear f (refused_over q f (λ k who e. cc) due))

  -- both are granted what was asked for
  granted_both : (sees : Sight) (c d : Account) (q : Request) (told other : Reply) → Grants tenant sees a q told c →
      Grants tenant sees b q other d → IsWhole told → IsWhole other → Agree when told other × AreAlike when limit c d
  granted_both sees c d (request.Alter change) told other (e, is) (f, are) whole intact =
      rw (e, f, is, are, alike.entries) (
        same,
        record { work = alike.work; limits = alike.limits; entries = refl; opens = alike.opens; searches = alike.searches },
      )
  granted_both sees c d (request.Seek query) told other (e, is) (f, are) whole intact =
      rw (e, f, is, are, alike.opens) (
        same,
        record {
          work = alike.work;
          limits = alike.limits;
          entries = alike.entries;
          opens = refl;
          searches = both_inserted when limit a.searches b.searches alike.searches (a.opens + 1) _ _ (both_itself when limit (Some _));
        },
      )
  granted_both sees c d (request.Poll k) told other (s, at, e, is) (t, there, f, are) whole intact =
      rw (e, f, is, are) (
        polls_agree when limit (get a.searches k) (get b.searches k) s t (alike.searches k) at there (rw e at whole) (rw f at intact),
        alike,
      )
  granted_both sees c d (request.Close k) told other (e, is) (f, are) whole intact =
      rw (e, f, is, are) (
        same,
        record {
          work = alike.work;
          limits = alike.limits;
          entries = alike.entries;
          opens = alike.opens;
          searches = both_removed when limit a.searches b.searches alike.searches k;
        },
      )
  granted_both sees c d request.Vault told other (e, is) (f, are) whole intact = (rw (e, f, alike.entries) same, rw (is, are) alike)
  granted_both sees c d request.Sees told other (e, is) (f, are) whole intact = rw (e, f, is, are) (same, alike)
  granted_both sees c d (request.Proof k who) told other (s, ps, at, is, e, left) (t, qs, there, are, f, also) whole intact =
      rw (e, f, left, also)
      (proved_both when limit (get a.searches k) (get b.searches k) who s t ps qs (alike.searches k) at there is are, alike)

-- from accounts that are alike the replies agree, and leave accounts that are alike
pub replies_agree : (when : When) (limit : ℕ) (tenant : List ℕ) (sees : Sight) (a b c d : Account) (q : Request)
    (told other : Reply) → AreAlike when limit a b → Answers tenant sees a q told c → Answers tenant sees b q other d →
    IsWhole told → IsWhole other → Agree when told other × AreAlike when limit c d
replies_agree when limit tenant sees a b _ _ q _ _ alike (refuses f due) (refuses g also) whole intact =
    (both_refused when limit tenant a b alike q f g due also, alike)
replies_agree when limit tenant sees a b _ d q _ other alike (refuses f due) (grants clear given) whole intact =
    refused_granted when limit tenant a b alike sees d q f other due clear given
replies_agree when limit tenant sees a b c _ q told _ alike (grants clear given) (refuses g due) whole intact =
    let turned = refused_granted when limit tenant b a (alike_back alike) sees c q g told due clear given in
    (agree_back turned.0, alike_back turned.1)
replies_agree when limit tenant sees a b c d q told other alike (grants clear given) (grants also gave) whole intact =
    granted_both when limit tenant a b alike sees c d q told other given gave whole intact
replies_agree when limit tenant sees a b c d q told _ alike answered (lacks clear may) whole intact = absurd (intact.0 refl)
replies_agree when limit tenant sees a b c d q _ other alike (lacks clear may) answered whole intact = absurd (whole.0 refl)
