-- What a search over the credentials finds, and what it means that it finds nothing.
use Rattle.std.proofs.Common.{ℕ, Bool, List, ◌&&◌, arith, [], ◌∷◌, ◌++◌, ◌+◌, ◌<◌, ◌≤◌, ◌≡◌, ◌∙◌, sym, refl, subst, ap, true, Some, None, length, take, get_or}
use Rattle.std.specs.List.{Contains, find, list_all}
use Rattle.std.proofs.lemmas.List.{take_all, take_more}
use Rattle.std.proofs.lemmas.List.Elements.{All-push}
use Rattle.credential_text.specs.declared.credentials.Credential.{Credential}
use Rattle.credential_text.specs.declared.intersections.Part.{Part}
use Rattle.rt0_rules.specs.declared.facts.Fact.{Fact}
use Rattle.rt0_rules.specs.Facts.{is_owed, has_part, IsOwed, IsClosed}
use Rattle.rt0_rules.proofs.Elements.{find-Some}

-- the search at one credential found the entity
pub owed_at : (C : List Credential) (entities : List (List ℕ)) (facts : List Fact) (i : ℕ) (c : Credential) (who : List ℕ) →
    i < length C → c ≡ get_or C i c → find (is_owed facts c) entities ≡ Some who → IsOwed C entities facts (record { role = c.head; who = who })
owed_at C entities facts i c who within is found =
    let at : Contains entities who × (is_owed facts c who ≡ true) = find-Some (is_owed facts c) entities who found in
    record { credential = c; among = (i, within, sym is); head = refl; listed = at.0; owed = at.1 }

-- the search went past all credentials
pub closed_past : (C : List Credential) (entities : List (List ℕ)) (facts : List Fact) (i : ℕ) → length C ≤ i →
    IsClosed (take i C) entities facts → IsClosed C entities facts
closed_past C entities facts i past closed = let all : take i C ≡ C = take_all i C past in rw all at closed

-- nothing is owed of equal lists either
pub closed_alike : (C : List Credential) (entities others : List (List ℕ)) (facts more : List Fact) → entities ≡ others
    → facts ≡ more → IsClosed C entities facts → IsClosed C others more
closed_alike C entities others facts more same alike closed =
    subst (λ (es : List (List ℕ)). IsClosed C es more) same (subst (IsClosed C entities) alike closed)

-- the search at one credential more found nobody
pub closed_next : (C : List Credential) (entities : List (List ℕ)) (facts : List Fact) (i : ℕ) (c : Credential) →
    i < length C → c ≡ get_or C i c → find (is_owed facts c) entities ≡ None → IsClosed (take i C) entities facts
    → IsClosed (take (i + 1) C) entities facts
closed_next C entities facts i c within is none so_far =
    let more : take (i + 1) C ≡ take i C ++ c ∷ [] = take_more C i c within ∙ ap (λ y. take i C ++ y ∷ []) (sym is) in
    subst (λ (l : List Credential). IsClosed l entities facts) (sym more)
    (All-push (λ d. find (is_owed facts d) entities ≡ None) (take i C) c so_far none)

-- who is in each part of a list that has some
pub in_each : (p : Part → Bool) (ps now : List Part) (held : Bool) → now ≡ ps → 2 ≤ length ps → held ≡ list_all p now
    → held ≡ has_part ps && list_all p ps
in_each p [] now held same several is = absurd (omega (arith, several))
in_each p (q ∷ qs) now held same several is = is ∙ ap (list_all p) same
