-- Each reply of a run that begins with nothing done is right.
use Rattle.std.proofs.Common.{ℕ, List, [], ◌∷◌, ◌++◌, ◌≡◌, ◌∙◌, inl, inr, sym, refl, subst, subst₂, Option, Some, None, append-nil, append_assoc, arith}
use Rattle.std.specs.FinMap.{get}
use Rattle.credential_text.specs.declared.credentials.Credential.{Credential}
use Rattle.rt0_rules.specs.Membership.{IsMember}
use Rattle.vaults.specs.Journal.{Vault, credentials}
use Rattle.search.specs.declared.queries.Query.{Query}
use Rattle.search.specs.Ending.{Settled, IsEnding, asked_role}
use Rattle.proof_trees.specs.Proof.{IsProof}
use Rattle.quotas.specs.Quota.{Quota}
use Rattle.hall.specs.declared.faults.Fault.{Fault}
use Rattle.hall.specs.declared.calls.requests.Request.{Request}
use Rattle.hall.specs.declared.calls.requests.Request.TheVariants as request
use Rattle.hall.specs.declared.calls.replies.Reply.{Reply}
use Rattle.hall.specs.declared.calls.replies.Reply.TheVariants.{Refused}
use Rattle.hall.specs.Answers.{Asked, Account, new_account, Sight, answer_of, RefusesProof, Answers, refuses, grants, lacks}
use Rattle.hall.specs.Run.{Deed, asks, waits, request_of, Turn, When, IsTaken, IsRun}
use Rattle.hall.specs.Run.{OfOpening, IsRight}
use Rattle.hall.proofs.Truths.{came_to_end}
use Rattle.hall.proofs.laws.RightOpenings.{Knows, knows_nothing, between_knows, ends_knows, taken_knows}

-- what was told says what the search has come to
pub same_answer : (x y : Settled) → answer_of x ≡ answer_of y → x ≡ y
same_answer x y e = grind arith

-- an account of which it is known which turn opened each search
module _ (limit : ℕ) (before : List Turn) (a : Account) (knows : Knows limit before a) where
  -- what holds of a search's query and view holds of the query that opened it and of what that had in sight
  of_opening : (k : ℕ) (s : Asked) (holds : Query → List Credential → Type 0) → get a.searches k ≡ Some s →
      holds s.query (credentials s.view) →
      OfOpening before k holds
  of_opening k s holds at here =
      let was = knows.opened k s at in
      record {
        opened = (s.query, was.sees, was.opened);
        right = λ query sees among.
            let same = was.alone query sees among in
            subst₂ (λ (q : Query) (v : List Vault). holds q (credentials v)) (sym same.0) (sym same.1) here;
      }

  -- a refusal of a proof is right
  right_refusal : (k : ℕ) (who : List ℕ) (f : Fault) → RefusesProof (get a.searches k) who f →
      IsRight limit before (request.Proof k who) (Refused f)
  right_refusal k who f due = by (get a.searches k) refl due
    where
      told : (g : Fault) → f ≡ g → IsRight limit before (request.Proof k who) (Refused g) →
          IsRight limit before (request.Proof k who) (Refused f)
      told g is right = subst (λ (h : Fault). IsRight limit before (request.Proof k who) (Refused h)) (sym is) right

      by : (o : Option Asked) → get a.searches k ≡ o → RefusesProof o who f →
          IsRight limit before (request.Proof k who) (Refused f)
      by None at is = told _ is tt
      by (Some s) at (inl early) = told _ early.0 tt
      by (Some s) at (inr none) = told _ none.0 (of_opening k s (λ query C. IsMember C who (asked_role query) → ⊥) at none.2)

  -- each reply is right
  right_reply : (tenant : List ℕ) (sees : Sight) (c : Account) (q : Request) (told : Reply) → Answers tenant sees a q told c →
      IsRight limit before q told
  right_reply tenant sees c (request.Alter change) told answered = tt
  right_reply tenant sees c (request.Seek query) told answered = tt
  right_reply tenant sees c (request.Close k) told answered = tt
  right_reply tenant sees c request.Vault told answered = tt
  right_reply tenant sees c request.Sees told answered = tt
  right_reply tenant sees _ (request.Poll k) _ (refuses f due) = tt
  right_reply tenant sees _ (request.Poll k) _ (lacks clear may) = tt
  right_reply tenant sees c (request.Poll k) told (grants clear (s, at, is, after)) =
      subst (IsRight limit before (request.Poll k)) (sym is)
      (λ x e some.
      let one : s.settled ≡ x = same_answer s.settled x e in
      let end =
      came_to_end limit (credentials s.view) s.query s.settled (knows.opened k s at).settled
      (λ nothing. some (sym one ∙ nothing)) in
      of_opening k s (λ query C. IsEnding limit C query x) at (subst (IsEnding limit (credentials s.view) s.query) one end))
  right_reply tenant sees _ (request.Proof k who) _ (refuses f due) = right_refusal k who f due
  right_reply tenant sees _ (request.Proof k who) _ (lacks clear may) = tt
  right_reply tenant sees c (request.Proof k who) told (grants clear (s, steps, at, proves, is, after)) =
      subst (IsRight limit before (request.Proof k who)) (sym is)
      (of_opening k s (λ query C. IsProof C (asked_role query) who steps) at proves)

-- and so is each turn's, a wait's over the account with its search ended
right_turn : (limit : ℕ) (before : List Turn) (tenant : List ℕ) (sees : Sight) (a c : Account) (deed : Deed) (told : Reply) →
    Knows limit before a → IsTaken tenant a sees deed told c →
    IsRight limit before (request_of deed) told
right_turn limit before tenant sees a c (asks q) told knows answered =
    right_reply limit before a knows tenant sees c q told answered
right_turn limit before tenant sees a c (waits k) told knows (m, ends, answered) =
    right_reply limit before m (ends_knows limit before k a m knows ends) tenant sees c (request.Poll k) told answered

-- after some turns of a run
run_right : (when : When) (limit : ℕ) (past before after : List Turn) (tenant : List ℕ) (a end : Account) (t : Turn) →
    Knows limit past a →
    IsRun when tenant a (before ++ t ∷ after) end → IsRight limit (past ++ before) (request_of t.deed) t.reply
run_right when limit past [] after tenant a end t knows (b, c, between, taken, run) =
    subst (λ (ts : List Turn). IsRight limit ts (request_of t.deed) t.reply) (sym (append-nil past))
    (right_turn limit past tenant t.sees b c t.deed t.reply (between_knows limit past when a b knows between) taken)
run_right when limit past (x ∷ before) after tenant a end t knows (b, c, between, taken, run) =
    subst (λ (ts : List Turn). IsRight limit ts (request_of t.deed) t.reply) (append_assoc past (x ∷ []) before)
    (run_right when limit (past ++ x ∷ []) before after tenant c end t
    (taken_knows limit past tenant b c x (between_knows limit past when a b knows between) taken) run)

pub answers_true : (when : When) (tenant : List ℕ) (limits : Quota) (turns before after : List Turn) (end : Account) (t : Turn) →
    IsRun when tenant (new_account limits) turns end → turns ≡ before ++ t ∷ after → IsRight limits.work before (request_of t.deed) t.reply
answers_true when tenant limits turns before after end t run is =
    run_right when limits.work [] before after tenant (new_account limits) end t (knows_nothing limits)
    (subst (λ (ts : List Turn). IsRun when tenant (new_account limits) ts end) is run)
