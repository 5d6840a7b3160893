-- Lists to which elements are added that don't stand there yet.
use Rattle.std.proofs.Common.{ℕ, Bool, true, List, [], ◌∷◌, ◌++◌, ◌+◌, ◌<◌, ◌≤◌, ◌≡◌, ◌∙◌, inl, inr, sym, subst, ap, length, take, get_or, append_assoc}
use Rattle.std.specs.Bool.{Decides}
use Rattle.std.specs.List.{Contains, Any, list_any}
use Rattle.std.proofs.lemmas.List.{take_more, take_all}
use Rattle.std.proofs.lemmas.List.Folds.{Any-from_list_any, list_any_at}
use Rattle.std.proofs.lemmas.List.Elements.{Contains-append_left, Contains-push, Contains-push_cases}
use Rattle.rt0_rules.specs.Work.{AreDistinct, ListsAll}
use Rattle.rt0_rules.specs.Asked.{IsWithNew, Adds}
use Rattle.rt0_rules.proofs.Elements.{Contains-none}
use Rattle.rt0_rules.proofs.Distinct.{AreDistinct-append}

-- what a test that tells equal elements finds
pub is_among : {X : Type 0} (eq : X → X → Bool) → ((x y : X) → Decides (eq x y) (x ≡ y)) → (xs : List X) (x : X) →
    list_any (λ y. eq y x) xs ≡ true → Contains xs x
is_among eq decided xs x found =
    let at : Any (λ y. eq y x ≡ true) xs = Any-from_list_any (λ y. eq y x) xs found in
    let same : at.1 ≡ x = (decided at.1 x).0 at.4 in
    subst (Contains xs) same (at.0, at.2, at.3)

pub found_among : {X : Type 0} (eq : X → X → Bool) → ((x y : X) → Decides (eq x y) (x ≡ y)) → (xs : List X) (x : X) →
    Contains xs x → list_any (λ y. eq y x) xs ≡ true
found_among eq decided xs x among = list_any_at (λ y. eq y x) xs among.0 x among.1 ((decided (get_or xs among.0 x) x).1 among.2)

AreDistinct-push : {X : Type 0} (xs : List X) (x : X) → AreDistinct xs → (Contains xs x → ⊥) → AreDistinct (xs ++ x ∷ [])
AreDistinct-push xs x distinct absent =
    AreDistinct-append xs (x ∷ []) distinct ((λ none. Contains-none x none), tt)
    (λ y in_xs one. elim (Contains-push_cases [] x y one) [ inl none ↦ Contains-none y none | inr same ↦ absent (subst (Contains xs) (sym same) in_xs) ])

-- one element more
pub adds_one : {X : Type 0} (xs start old new : List X) (x : X) → Adds xs start old → IsWithNew x old new → Adds (xs ++ x ∷ []) start new
adds_one xs start old new x so_far (inl known) = record {
  more = so_far.more;
  grown = known.1 ∙ so_far.grown;
  distinct = λ distinct. subst AreDistinct (sym known.1) (so_far.distinct distinct);
  exact = λ y. (
    λ has. elim ((so_far.exact y).0 (subst (λ l. Contains l y) known.1 has)) [
      | inl in_start ↦ inl in_start
      | inr in_xs ↦ inr (Contains-append_left xs (x ∷ []) y in_xs)
    ],
    λ has. subst (λ l. Contains l y) (sym known.1) (elim has [
      | inl in_start ↦ (so_far.exact y).1 (inl in_start)
      | inr in_more ↦ elim (Contains-push_cases xs x y in_more) [
        | inl in_xs ↦ (so_far.exact y).1 (inr in_xs)
        | inr same ↦ subst (Contains old) same known.0
      ]
    ]),
  );
}
adds_one xs start old new x so_far (inr added) = record {
  more = so_far.more ++ x ∷ [];
  grown = added.1 ∙ ap (λ l. l ++ x ∷ []) so_far.grown ∙ append_assoc start so_far.more (x ∷ []);
  distinct = λ distinct. subst AreDistinct (sym added.1) (AreDistinct-push old x (so_far.distinct distinct) added.0);
  exact = λ y. (
    λ has. elim (Contains-push_cases old x y (subst (λ l. Contains l y) added.1 has)) [
      | inl in_old ↦ elim ((so_far.exact y).0 in_old) [
        | inl in_start ↦ inl in_start
        | inr in_xs ↦ inr (Contains-append_left xs (x ∷ []) y in_xs)
      ]
      | inr same ↦ inr (subst (Contains (xs ++ x ∷ [])) same (Contains-push xs x))
    ],
    λ has. subst (λ l. Contains l y) (sym added.1) (elim has [
      | inl in_start ↦ Contains-append_left old (x ∷ []) y ((so_far.exact y).1 (inl in_start))
      | inr in_more ↦ elim (Contains-push_cases xs x y in_more) [
        | inl in_xs ↦ Contains-append_left old (x ∷ []) y ((so_far.exact y).1 (inr in_xs))
        | inr same ↦ subst (Contains (old ++ x ∷ [])) same (Contains-push old x)
      ]
    ]),
  );
}

-- the same at the place of a list
pub adds_next : {X : Type 0} (xs start old new : List X) (i : ℕ) (x : X) → i < length xs → x ≡ get_or xs i x →
    Adds (take i xs) start old → IsWithNew x old new → Adds (take (i + 1) xs) start new
adds_next xs start old new i x within is so_far now =
    subst (λ l. Adds l start new) (sym (take_more xs i x within ∙ ap (λ y. take i xs ++ y ∷ []) (sym is))) (adds_one (take i xs) start old new x so_far now)

-- all elements of a list, each once
pub all_from_adds : {X : Type 0} (xs ys : List X) (i : ℕ) → length xs ≤ i → Adds (take i xs) [] ys → ListsAll (Contains xs) ys
all_from_adds xs ys i past taken =
    let adds : Adds xs [] ys = subst (λ l. Adds l [] ys) (take_all i xs past) taken in
    record {
      distinct = adds.distinct tt;
      exact = λ x. (
        λ has. elim ((adds.exact x).0 has) [ inl none ↦ absurd (Contains-none x none) | inr in_xs ↦ in_xs ],
        λ has. (adds.exact x).1 (inr has),
      );
    }
