-- What a call of its own type tells, by what a request of its kind is told.
use Rattle.std.proofs.Common.{◌≡◌, ◌∙◌, ◌++◌, ◌∷◌, [], ℕ, List, Result, Ok, Err, ap, refl, sym, subst}
use mathlib.Core.List.{IsPrefix}
use Rattle.std.specs.declared.snapshot.Snapshot.{Snapshot}
use Rattle.credential_text.specs.declared.credentials.Credential.{Credential}
use Rattle.vaults.specs.declared.changes.Change.{Change}
use Rattle.vaults.specs.declared.marks.Seen.{Seen}
use Rattle.search.specs.declared.queries.Query.{Query}
use Rattle.proof_trees.specs.declared.steps.Step.{Step as ProofStep}
use Rattle.hall.specs.declared.faults.Fault.{Fault}
use Rattle.hall.specs.declared.calls.requests.Request.{Request}
use Rattle.hall.specs.declared.calls.requests.Request.TheVariants as request
use Rattle.hall.specs.declared.calls.replies.Reply.{Reply}
use Rattle.hall.specs.declared.calls.replies.Reply.TheVariants as reply
use Rattle.hall.specs.Hall.{told_as}
use Rattle.pool.specs.declared.faults.DeskFault.{DeskFault}
use Rattle.pool.specs.declared.faults.DeskFault.TheVariants.{Hall}
use Rattle.pool.specs.declared.turns.Item.{Item}
use Rattle.pool.specs.declared.turns.Noted.TheVariants as noted
use Rattle.pool.specs.Histories.{own_of, turn, item_of}
use Rattle.pool.specs.Passes.{PassState}
use Rattle.pool.specs.Served.{IsNext, IsTold, IsAnswered, Suits}

-- the item by which the history went on, and which the pass has seen
pub next_item : (old new : PassState) (told all : List Item) (i j : Item) → IsPrefix old.seen told → own_of old.name all ≡ own_of old.name old.seen ++ i ∷ [] → new ≡ record old { seen = all } →
    all ≡ told ++ i ∷ [] → i ≡ j → IsNext old new j
next_item old new told all i j began own pass is same = record {
  before = told;
  began = began;
  last = ap (λ (p : PassState). p.seen) pass ∙ is ∙ ap (λ (x : Item). told ++ x ∷ []) same;
  own = ap (λ (p : PassState). own_of old.name p.seen) pass ∙ own ∙ ap (λ (x : Item). own_of old.name old.seen ++ x ∷ []) same;
  pass = pass ∙ sym (ap (λ (p : PassState). record old { seen = p.seen }) pass);
}

-- it tells what the hall was asked and answered
pub noted_told : (old new : PassState) (who : List ℕ) (q : Request) (r : Result Reply Fault) (asked : Snapshot Request) (told : Snapshot (Result Reply Fault)) →
    IsNext old new (item_of old.name (noted.Told who asked told)) → who ≡ old.tenant → asked.value ≡ q → told.value ≡ r → IsTold old new q (told_as (λ x. x) r)
noted_told old new who q r asked told next is_who is_q is_r =
    (item_of old.name (noted.Told who asked told), next, (λ k. turn (sym is_who k) (sym is_q k) (told_as (λ (x : Reply). x) (sym is_r k))))

module _ {X : Type 0} (tells : X → Reply) (old new : PassState) (q : Request) where
  pub value_told : (r : Reply) (x : X) → IsTold old new q r → r ≡ tells x → IsAnswered tells (IsTold old new q) (Ok x)
  value_told r x told is = subst (IsTold old new q) is told

  pub refusal_told : (r : Reply) (f : Fault) → IsTold old new q r → r ≡ reply.Refused f → IsAnswered tells (IsTold old new q) (Err (Hall f))
  refusal_told r f told is = subst (IsTold old new q) is told

  -- what was answered after the pass was left as it was
  pub answered_later : (middle : PassState) (result : Result X DeskFault) → middle ≡ old → IsAnswered tells (IsTold middle new q) result → IsAnswered tells (IsTold old new q) result
  answered_later middle result same answered = subst (λ (p : PassState). IsAnswered tells (IsTold p new q) result) same answered

-- a request of each kind is told a reply of its kind, or refused
abbrev NotRefused : Reply → Type 0
NotRefused r = (f : Fault) → r ≡ reply.Refused f → ⊥

pub only_counted : (change : Change) (r : Reply) → Suits (request.Alter change) r → NotRefused r → ((n : ℕ) → r ≡ reply.Counted n → ⊥) → ⊥
only_counted change (reply.Counted n) suits refused other = other n refl
only_counted change (reply.Refused f) suits refused other = refused f refl
only_counted change r suits refused other = absurd suits

pub only_opened : (query : Query) (r : Reply) → Suits (request.Seek query) r → NotRefused r → ((n : ℕ) → r ≡ reply.Opened n → ⊥) → ⊥
only_opened query (reply.Opened n) suits refused other = other n refl
only_opened query (reply.Refused f) suits refused other = refused f refl
only_opened query r suits refused other = absurd suits

pub only_vault : (r : Reply) → Suits request.Vault r → NotRefused r → ((rows : List Credential) → r ≡ reply.Vault rows → ⊥) → ⊥
only_vault (reply.Vault rows) suits refused other = other rows refl
only_vault (reply.Refused f) suits refused other = refused f refl
only_vault r suits refused other = absurd suits

pub only_sees : (r : Reply) → Suits request.Sees r → NotRefused r → ((seen : List Seen) → r ≡ reply.Sees seen → ⊥) → ⊥
only_sees (reply.Sees seen) suits refused other = other seen refl
only_sees (reply.Refused f) suits refused other = refused f refl
only_sees r suits refused other = absurd suits

pub only_closed : (k : ℕ) (r : Reply) → Suits (request.Close k) r → NotRefused r → (r ≡ reply.Closed → ⊥) → ⊥
only_closed k reply.Closed suits refused other = other refl
only_closed k (reply.Refused f) suits refused other = refused f refl
only_closed k r suits refused other = absurd suits

pub only_proved : (k : ℕ) (member : List ℕ) (r : Reply) → Suits (request.Proof k member) r → NotRefused r → ((steps : List ProofStep) → r ≡ reply.Proof steps → ⊥) → ⊥
only_proved k member (reply.Proof steps) suits refused other = other steps refl
only_proved k member (reply.Refused f) suits refused other = refused f refl
only_proved k member r suits refused other = absurd suits
