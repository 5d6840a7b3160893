-- A list without repeats is no longer than a list that has all its elements.
use Rattle.std.proofs.Common.{List, [], ◌∷◌, ◌≤◌, ◌≡◌, ◌⊎◌, ◌∙◌, inl, inr, sym, subst, arith, suc, length}
use Rattle.std.specs.List.{Contains}
use Rattle.rt0_rules.specs.Work.{AreDistinct, ListsAll, ListsSome}
use Rattle.rt0_rules.proofs.Elements.{Contains-none, Contains-first, Contains-later, Contains-cons_cases}

-- the list without one of its elements
pub record IsWithout {X : Type 0} (xs : List X) (x : X) : Type 0 where
  pub rest : List X
  pub one_less : length xs ≡ suc (length rest)
  pub kept : (y : X) → Contains xs y → (y ≡ x) ⊎ Contains rest y

pub without : {X : Type 0} (xs : List X) (x : X) → Contains xs x → IsWithout xs x
without [] x among = absurd (Contains-none x among)
without (y ∷ ys) x among =
    elim (Contains-cons_cases y ys x among) [
      | inl same ↦ record {
        rest = ys;
        one_less = omega arith;
        kept = λ z has. elim (Contains-cons_cases y ys z has) [ inl first ↦ inl (sym first ∙ same) | inr later ↦ inr later ];
      }
      | inr later ↦
          let rest : IsWithout ys x = without ys x later in
          record {
            rest = y ∷ rest.rest;
            one_less = omega (arith, rest.one_less);
            kept = λ z has. elim (Contains-cons_cases y ys z has) [
              | inl first ↦ inr (subst (λ w. Contains (w ∷ rest.rest) z) (sym first) (Contains-first z rest.rest))
              | inr behind ↦ elim (rest.kept z behind) [ inl same ↦ inl same | inr kept ↦ inr (Contains-later y rest.rest z kept) ]
            ];
          }
    ]

pub distinct-le : {X : Type 0} (xs ys : List X) → AreDistinct xs → ((x : X) → Contains xs x → Contains ys x) → length xs ≤ length ys
distinct-le [] ys distinct among = omega arith
distinct-le (x ∷ xs) ys distinct among =
    let rest : IsWithout ys x = without ys x (among x (Contains-first x xs)) in
    let fewer : length xs ≤ length rest.rest = distinct-le xs rest.rest distinct.1 (λ y has.
    elim (rest.kept y (among y (Contains-later x xs y has))) [
      | inl same ↦ absurd (distinct.0 (subst (Contains xs) same has))
      | inr kept ↦ kept
    ]) in
    omega (arith, rest.one_less)

-- some are at most as many as all
pub some-le : {X : Type 0} {P : X → Type 0} {xs ys : List X} → ListsSome P xs → ListsAll P ys → length xs ≤ length ys
some-le {xs = xs} {ys = ys} some all = distinct-le xs ys some.distinct (λ x has. (all.exact x).1 (some.right x has))

pub some_from_all : {X : Type 0} {P : X → Type 0} {xs : List X} → ListsAll P xs → ListsSome P xs
some_from_all all = record { distinct = all.distinct; right = λ x. (all.exact x).0 }
