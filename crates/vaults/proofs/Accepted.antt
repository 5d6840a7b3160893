-- Journals of accepted changes.
use Rattle.std.proofs.Common.{ℕ, zero, suc, Bool, true, false, cond, not, List, [], ◌∷◌, ◌++◌, ◌≡◌, ◌⊎◌, ◌∙◌, ◌||◌, ◌&&◌, sym, ap, refl, subst, take, Option, Some, None, inl, inr}
use Rattle.std.specs.List.{list_any, slice_get}
use Rattle.std.proofs.lemmas.Bool.{and_parts}
use Rattle.credential_text.specs.declared.credentials.Credential.{Credential}
use Rattle.credential_text.specs.Credential.{credential_order}
use Rattle.names.specs.Name.{is_same}
use Rattle.vaults.specs.declared.changes.Change.{Change}
use Rattle.vaults.specs.declared.changes.Change.TheVariants.{Upload, Grant}
use Rattle.vaults.specs.declared.changes.Entry.{Entry}
use Rattle.vaults.specs.declared.faults.VaultFault.TheVariants.{NotIssuer, AlreadyHeld, AlreadyGranted, GrantSelf}
use Rattle.vaults.specs.Journal.{gives_same, stands, holds, granted, vault, refusal, AreAccepted}
use Rattle.vaults.specs.Laws.{HeldAreIssued, GrantedAreOthers}
use Rattle.vaults.proofs.Elements.{has}
use Rattle.names.proofs.SameNames.{same_from_is_same, is_same_itself}
use Rattle.vaults.proofs.LastEntries.{same_change, stands_any}
use Rattle.vaults.proofs.Exactness.{has-vault}

-- where an element passes, it stands at some place
place_passing : {X : Type 0} (p : X → Bool) (xs : List X) → list_any p xs ≡ true → (n : ℕ) × (x : X) × (slice_get xs n ≡ Some x) × (p x ≡ true)
place_passing p [] none = cc
place_passing {X} p (x ∷ xs) some = by (place_passing p xs) (p x) refl some
  where
    by : (list_any p xs ≡ true → (n : ℕ) × (y : X) × (slice_get xs n ≡ Some y) × (p y ≡ true)) →
        (b : Bool) → p x ≡ b → (b || list_any p xs) ≡ true → (n : ℕ) × (y : X) × (slice_get (x ∷ xs) n ≡ Some y) × (p y ≡ true)
    by behind true here _ = (0, x, refl, here)
    by behind false _ some = let found : (n : ℕ) × (y : X) × (slice_get xs n ≡ Some y) × (p y ≡ true) = behind some in (suc found.0, found.1, found.2, found.3)

-- where the issuer's test refuses first, no refusal says that it passes
not_refused : {F : Type 0} (b : Bool) (fault : F) (rest : Option F) → cond (not b) (Some fault) rest ≡ None → b ≡ true
not_refused true fault rest accepted = refl
not_refused false fault rest refused = cc

not_self : {F : Type 0} (b : Bool) (fault : F) (rest : Option F) → cond b (Some fault) rest ≡ None → b ≡ false
not_self true fault rest refused = cc
not_self false fault rest accepted = refl

-- what stands was accepted
stood : (change : Change) (journal : List Entry) (owner : List ℕ) → AreAccepted journal → stands journal owner change ≡ true → (before : List Entry) × (refusal before owner change ≡ None)
stood change journal owner accepted standing =
    let some : list_any (λ e. is_same e.tenant owner && gives_same e.change change) journal ≡ true = stands_any change (λ e. gives_same e.change change) (λ e same. same) journal owner standing in
    let found : (n : ℕ) × (e : Entry) × (slice_get journal n ≡ Some e) × ((is_same e.tenant owner && gives_same e.change change) ≡ true) = place_passing (λ e. is_same e.tenant owner && gives_same e.change change) journal some in
    let both : (is_same found.1.tenant owner ≡ true) × (gives_same found.1.change change ≡ true) = and_parts _ _ found.3 in (
      take found.0 journal,
      subst (λ (c : Change). refusal (take found.0 journal) owner c ≡ None) (same_change found.1.change change both.1)
          (subst (λ (who : List ℕ). refusal (take found.0 journal) who found.1.change ≡ None) (same_from_is_same found.1.tenant owner both.0) (accepted found.0 found.1 found.2)),
    )

pub held_issued : HeldAreIssued
held_issued journal owner c accepted held =
    let found : (before : List Entry) × (refusal before owner (Upload c) ≡ None) = stood (Upload c) journal owner accepted held in
    same_from_is_same c.head.owner owner (not_refused (is_same c.head.owner owner) NotIssuer (cond (holds found.0 owner c) (Some AlreadyHeld) None) found.1)

absorbed : (b h : Bool) → (h ≡ true → b ≡ true) → (b && h) ≡ h
absorbed b true issued = ap (λ (x : Bool). x && true) (issued refl)
absorbed true false issued = refl
absorbed false false issued = refl

-- so a vault has what its owner holds
pub has-vault_accepted : (journal : List Entry) (owner : List ℕ) (c : Credential) → AreAccepted journal → has credential_order (vault journal owner) c ≡ holds journal owner c
has-vault_accepted journal owner c accepted =
    has-vault journal owner c ∙ absorbed (is_same c.head.owner owner) (holds journal owner c) (λ held. is_same_itself c.head.owner owner (held_issued journal owner c accepted held))

pub granted_others : GrantedAreOthers
granted_others journal owner reader accepted given same =
    let found : (before : List Entry) × (refusal before owner (Grant reader) ≡ None) = stood (Grant reader) journal owner accepted given in
    let apart : is_same reader owner ≡ false = not_self (is_same reader owner) GrantSelf (cond (granted found.0 owner reader) (Some AlreadyGranted) None) found.1 in
    let as_one : is_same reader owner ≡ true = is_same_itself reader owner same in
    cc

-- what stands in a list with one element more
slice_get-push : {X : Type 0} (xs : List X) (y : X) (n : ℕ) (x : X) → slice_get (xs ++ y ∷ []) n ≡ Some x →
    (take n (xs ++ y ∷ []) ≡ take n xs) × ((slice_get xs n ≡ Some x) ⊎ ((take n xs ≡ xs) × (y ≡ x)))
slice_get-push [] y zero x at = (refl, inr (refl, cc))
slice_get-push [] y (suc n) x at = cc
slice_get-push (z ∷ xs) y zero x at = (refl, inl at)
slice_get-push {X} (z ∷ xs) y (suc n) x at =
    let behind : (take n (xs ++ y ∷ []) ≡ take n xs) × ((slice_get xs n ≡ Some x) ⊎ ((take n xs ≡ xs) × (y ≡ x))) = slice_get-push xs y n x at in
    (ap (λ (l : List X). z ∷ l) behind.0, elim behind.1 [ inl within ↦ inl within | inr last ↦ inr (ap (λ (l : List X). z ∷ l) last.0, last.1) ])

-- an accepted change more
pub accepted_push : (journal : List Entry) (who : List ℕ) (change : Change) → AreAccepted journal → refusal journal who change ≡ None → AreAccepted (journal ++ record { tenant = who; change = change } ∷ [])
accepted_push journal who change accepted none n e at =
    let parts : (take n (journal ++ last ∷ []) ≡ take n journal) × ((slice_get journal n ≡ Some e) ⊎ ((take n journal ≡ journal) × (last ≡ e))) = slice_get-push journal last n e at in
    subst (λ (j : List Entry). refusal j e.tenant e.change ≡ None) (sym parts.0) (elim parts.1 [
      | inl within ↦ accepted n e within
      | inr whole ↦ subst (λ (x : Entry). refusal (take n journal) x.tenant x.change ≡ None) whole.1 (subst (λ (j : List Entry). refusal j who change ≡ None) (sym whole.0) none)
    ])
  where
    last : Entry
    last = record { tenant = who; change = change }

-- the same of a journal that has room before, and has the entry after
pub accepted_after : (journal before after : List Entry) (who : List ℕ) (change : Change) → refusal journal who change ≡ None →
    AreAccepted journal → before ≡ journal → after ≡ before ++ record { tenant = who; change = change } ∷ [] → AreAccepted after
accepted_after journal before after who change none accepted same entered =
    subst AreAccepted (sym (entered ∙ ap (λ (j : List Entry). j ++ record { tenant = who; change = change } ∷ []) same))
    (accepted_push journal who change accepted none)

-- and none
pub accepted_none : AreAccepted []
accepted_none n e at = cc
