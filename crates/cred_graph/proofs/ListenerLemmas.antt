-- Listeners in their lists and in the table of those beyond the first 8 of a node.
use Rattle.std.proofs.Common.{ℕ, ◌≡◌, ◌==◌, ◌≤◌, ◌<◌, ◌∙◌, ◌↔◌, IsTrue, ap, sym, subst, inl, inr, arith}
use Rattle.std.proofs.Common.{Bool, true, false, true≢false, List, [], ◌∷◌, ◌++◌, Contains, drop, length, take}
use Rattle.std.specs.Bool.{Decides}
use Rattle.std.specs.List.{list_any}
use Rattle.std.proofs.lemmas.Bool.{cases_eq, cond-true, cond-false, eq-eqb, ne_eqb}
use Rattle.std.proofs.lemmas.List.{drop_all, drop-append-le, length_push, take-append-drop}
use Rattle.std.proofs.lemmas.List.Elements.{Contains-append_cases, Contains-append_left, Contains-append_right, Contains-push, Contains-push_cases}
use Rattle.indexmap.specs.IndexSet.{insert_key}
use Rattle.cred_graph.specs.declared.listeners.KeptListening.{KeptListening}
use Rattle.cred_graph.specs.contracts.listeners.KeptListeningPartialEq.TheImpl as kept
use Rattle.cred_graph.specs.NodeLists.{list_at, AreSame, AddsAt}
use Rattle.cred_graph.specs.Stored.{AreFar}
use Rattle.cred_graph.proofs.Keys.{kept_decided, far_decided, far_eq}
use Rattle.cred_graph.proofs.Lookups.{any_exact, insert_key-absent}

seen_from : (x y : KeptListening) → Decides (kept.ghosts.eq y x) (x ≡ y)
seen_from x y = (λ (same : kept.ghosts.eq y x ≡ true). sym ((kept_decided y x).0 same), λ (same : x ≡ y). (kept_decided y x).1 (sym same))

one_more : (xs : List KeptListening) (l : KeptListening) → length xs < 8 → length (xs ++ l ∷ []) ≤ 8
one_more xs l few = omega (arith, length_push xs l)

-- whether a listener is among the first
shown : (near : List KeptListening) (l : KeptListening) →
    (list_any (λ y. kept.ghosts.eq y l) near ≡ true) ↔ Contains near l
shown near l = any_exact (λ x y. kept.ghosts.eq y x) seen_from near l

module _ (lists : List (List KeptListening)) (n : ℕ) (l : KeptListening) (list : List KeptListening) (is : list ≡ list_at lists n) where
  pub has_few : (found : Bool) → found ≡ list_any (λ y. kept.ghosts.eq y l) list → IsTrue found ↔ Contains (list_at lists n) l
  has_few found any = subst (λ xs. IsTrue found ↔ Contains xs l) is (
    λ (yes : found ≡ true). (shown list l).0 (sym any ∙ yes),
    λ (there : Contains list l). any ∙ (shown list l).1 there,
  )

  -- where there are many, the first are looked through
  module _ (found : Bool) (any : found ≡ list_any (λ y. kept.ghosts.eq y l) (take 8 list)) where
    whole : take 8 list ++ drop 8 list ≡ list_at lists n
    whole = take-append-drop 8 list ∙ is

    pub has_near : found ≡ true → IsTrue found ↔ Contains (list_at lists n) l
    has_near some = (
      λ _. subst (λ xs. Contains xs l) whole (Contains-append_left (take 8 list) (drop 8 list) l ((shown (take 8 list) l).0 (sym any ∙ some))),
      λ _. some,
    )

    -- a listener that isn't among the first is among the others
    beyond : found ≡ false → Contains (list_at lists n) l → Contains (drop 8 list) l
    beyond none there =
        elim (Contains-append_cases (take 8 list) (drop 8 list) l (subst (λ xs. Contains xs l) (sym whole) there)) [
          | inl here ↦ absurd (true≢false (sym ((shown (take 8 list) l).1 here) ∙ sym any ∙ none))
          | inr last ↦ last
        ]

    -- and is looked for in the table
    pub has_far : (rows : List (ℕ × KeptListening)) (r : Bool) → AreFar lists rows → found ≡ false →
        r ≡ list_any (far_eq (n, l)) rows → IsTrue r ↔ Contains (list_at lists n) l
    has_far rows r are none has =
        let rows_have = any_exact far_eq far_decided rows (n, l) in (
          λ (yes : r ≡ true).
              subst (λ xs. Contains xs l) whole
              (Contains-append_right (take 8 list) (drop 8 list) l
              (subst (λ xs. Contains (drop 8 xs) l) (sym is) ((are n l).0 (rows_have.0 (sym has ∙ yes))))),
          λ (there : Contains (list_at lists n) l).
              has ∙ rows_have.1 ((are n l).1 (subst (λ xs. Contains (drop 8 xs) l) is (beyond none there))),
        )

-- the table stays where a list with room among the first gets one more
pub far_near : (lists after : List (List KeptListening)) (rows : List (ℕ × KeptListening)) (n : ℕ) (l : KeptListening) → AreFar lists rows → length (list_at lists n) < 8 → AddsAt lists after n l → AreFar after rows
far_near lists after rows n l are room adds m k =
    let same : drop 8 (list_at after m) ≡ drop 8 (list_at lists m) = elim (cases_eq m n) [
      | inl here ↦
          let longer : list_at after m ≡ list_at lists m ++ l ∷ [] = adds m ∙ cond-true (m == n) (list_at lists m ++ l ∷ []) (list_at lists m) (eq-eqb m n here) in
          let few : length (list_at lists m) < 8 = subst (λ i. length (list_at lists i) < 8) (sym here) room in
          ap (drop 8) longer ∙ drop_all 8 (list_at lists m ++ l ∷ []) (one_more (list_at lists m) l few) ∙ sym (drop_all 8 (list_at lists m) (omega arith))
      | inr other ↦ ap (drop 8) (adds m ∙ cond-false (m == n) (list_at lists m ++ l ∷ []) (list_at lists m) (ne_eqb m n other))
    ] in
    subst (λ xs. Contains rows (m, k) ↔ Contains xs k) (sym same) (are m k)

pub far_same : (lists after : List (List KeptListening)) (rows mid : List (ℕ × KeptListening)) → AreFar lists rows → mid ≡ rows → AreSame lists after → AreFar after mid
far_same lists after rows mid are same lists_same n l =
    subst (λ rs. Contains rs (n, l) ↔ Contains (drop 8 (list_at after n)) l) (sym same)
    (subst (λ xs. Contains rows (n, l) ↔ Contains (drop 8 xs) l) (sym (lists_same n)) (are n l))

-- a listener that isn't there goes last in the table too
pub far_added : (lists after : List (List KeptListening)) (rows mid new : List (ℕ × KeptListening)) (n : ℕ) (l : KeptListening) → AreFar lists rows →
    (Contains (list_at lists n) l → ⊥) → 8 ≤ length (list_at lists n) → AddsAt lists after n l → mid ≡ rows → new ≡ insert_key far_eq mid (n, l) → AreFar after new
far_added lists after rows mid new n l are absent full adds reserved is =
    let list = list_at lists n in
    let tail : Contains (drop 8 list) l → ⊥ = λ there. absent (subst (λ xs. Contains xs l) (take-append-drop 8 list) (Contains-append_right (take 8 list) (drop 8 list) l there)) in
    let out : Contains rows (n, l) → ⊥ = λ there. tail ((are n l).0 there) in
    let rows_are : new ≡ rows ++ (n, l) ∷ [] = is ∙ ap (λ rs. insert_key far_eq rs (n, l)) reserved ∙ insert_key-absent far_eq far_decided rows (n, l) out in
    subst (AreFar after) (sym rows_are) (λ m k. elim (cases_eq m n) [
      | inl here ↦
          let longer : list_at after m ≡ list_at lists m ++ l ∷ [] = adds m ∙ cond-true (m == n) (list_at lists m ++ l ∷ []) (list_at lists m) (eq-eqb m n here) in
          let many : 8 ≤ length (list_at lists m) = subst (λ i. 8 ≤ length (list_at lists i)) (sym here) full in
          let dropped : drop 8 (list_at after m) ≡ drop 8 (list_at lists m) ++ l ∷ [] = ap (drop 8) longer ∙ drop-append-le 8 (list_at lists m) (l ∷ []) many in (
            λ (there : Contains (rows ++ (n, l) ∷ []) (m, k)).
                subst (λ xs. Contains xs k) (sym dropped) (elim (Contains-push_cases rows (n, l) (m, k) there) [
                  | inl before ↦ Contains-append_left (drop 8 (list_at lists m)) (l ∷ []) k ((are m k).0 before)
                  | inr now ↦ subst (λ (x : ℕ × KeptListening). Contains (drop 8 (list_at lists m) ++ l ∷ []) x.1) now (Contains-push (drop 8 (list_at lists m)) l)
                ]),
            λ (there : Contains (drop 8 (list_at after m)) k).
                elim (Contains-push_cases (drop 8 (list_at lists m)) l k (subst (λ xs. Contains xs k) dropped there)) [
                  | inl before ↦ Contains-append_left rows ((n, l) ∷ []) (m, k) ((are m k).1 before)
                  | inr now ↦ subst (Contains (rows ++ (n, l) ∷ [])) (ap (λ j. (j, l)) (sym here) ∙ ap (λ k. (m, k)) now) (Contains-push rows (n, l))
                ],
          )
      | inr other ↦
          let same : list_at after m ≡ list_at lists m = adds m ∙ cond-false (m == n) (list_at lists m ++ l ∷ []) (list_at lists m) (ne_eqb m n other) in (
            λ (there : Contains (rows ++ (n, l) ∷ []) (m, k)).
                elim (Contains-push_cases rows (n, l) (m, k) there) [
                  | inl before ↦ subst (λ xs. Contains (drop 8 xs) k) (sym same) ((are m k).0 before)
                  | inr now ↦ absurd (other (sym (ap (λ (x : ℕ × KeptListening). x.0) now)))
                ],
            λ (there : Contains (drop 8 (list_at after m)) k).
                Contains-append_left rows ((n, l) ∷ []) (m, k) ((are m k).1 (subst (λ xs. Contains (drop 8 xs) k) same there)),
          )
    ])
