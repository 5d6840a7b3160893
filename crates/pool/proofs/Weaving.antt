-- What was told under each name is woven into one list.
use Rattle.std.proofs.Common.{◌≡◌, ◌≢◌, ◌∙◌, ◌==◌, ℕ, Bool, true, false, cond, List, [], ◌∷◌, map, ap, sym, refl, subst, inl, inr}
use Rattle.std.specs.List.{AllZip, filter, zip}
use Rattle.std.proofs.lemmas.Bool.Decides.{eqb_tells}
use Rattle.hall.specs.Run.{Told}
use Rattle.pool.specs.declared.turns.Item.{Item}
use Rattle.pool.specs.Histories.{name_of, own_of, Admits, is_turn}
use Rattle.pool.specs.Laws.{SessionsAreRuns}

-- of what was told by these items, what was told under the name
abbrev lines_of : ℕ → List Item → List Told → List Told
lines_of name items told = map (λ p. p.1) (filter (λ p. name_of p.0 == name) (zip items told))

told_none : (lines : List Told) → AllZip Admits [] lines → [] ≡ lines
told_none [] are = refl
told_none (t ∷ lines) are = absurd are

told_first : (i : Item) (items : List Item) (lines : List Told) → AllZip Admits (i ∷ items) lines →
    (t : Told) × (rest : List Told) × (t ∷ rest ≡ lines) × Admits i t × AllZip Admits items rest
told_first i items [] are = absurd are
told_first i items (t ∷ lines) are = (t, lines, refl, are.0, are.1)

-- the lines of each name, where those of one are others
instead : ℕ → List Told → (ℕ → List Told) → ℕ → List Told
instead name rest lines n = cond (n == name) rest (lines n)

instead_same : (name : ℕ) (rest : List Told) (lines : ℕ → List Told) (n : ℕ) → n ≡ name → instead name rest lines n ≡ rest
unfolding instead
instead_same name rest lines n is =
    let bit : (n == name) ≡ true = elim (eqb_tells n name) [ inl e ↦ e.0 | inr e ↦ absurd (e.1 is) ] in ap (λ (b : Bool). cond b rest (lines n)) bit

instead_other : (name : ℕ) (rest : List Told) (lines : ℕ → List Told) (n : ℕ) → n ≢ name → instead name rest lines n ≡ lines n
unfolding instead
instead_other name rest lines n other =
    let bit : (n == name) ≡ false = elim (eqb_tells n name) [ inl e ↦ absurd (other e.1) | inr e ↦ e.0 ] in ap (λ (b : Bool). cond b rest (lines n)) bit

module _ (i : Item) (items : List Item) (name : ℕ) where
  pub own_here : name_of i ≡ name → own_of name (i ∷ items) ≡ i ∷ own_of name items
  own_here is =
      let bit : (name_of i == name) ≡ true = elim (eqb_tells (name_of i) name) [ inl e ↦ e.0 | inr e ↦ absurd (e.1 is) ] in
      ap (λ (b : Bool). cond b (i ∷ own_of name items) (own_of name items)) bit

  pub own_elsewhere : name_of i ≢ name → own_of name (i ∷ items) ≡ own_of name items
  own_elsewhere other =
      let bit : (name_of i == name) ≡ false = elim (eqb_tells (name_of i) name) [ inl e ↦ absurd (other e.1) | inr e ↦ e.0 ] in
      ap (λ (b : Bool). cond b (i ∷ own_of name items) (own_of name items)) bit

  module _ (t : Told) (told : List Told) where
    abbrev beside : List (Item × Told)
    beside = filter (λ p. name_of p.0 == name) (zip items told)

    lines_here : name_of i ≡ name → lines_of name (i ∷ items) (t ∷ told) ≡ t ∷ lines_of name items told
    lines_here is =
        let bit : (name_of i == name) ≡ true = elim (eqb_tells (name_of i) name) [ inl e ↦ e.0 | inr e ↦ absurd (e.1 is) ] in
        ap (λ (b : Bool). map (λ (p : Item × Told). p.1) (cond b ((i, t) ∷ beside) beside)) bit

    lines_elsewhere : name_of i ≢ name → lines_of name (i ∷ items) (t ∷ told) ≡ lines_of name items told
    lines_elsewhere other =
        let bit : (name_of i == name) ≡ false = elim (eqb_tells (name_of i) name) [ inl e ↦ absurd (other e.1) | inr e ↦ e.0 ] in
        ap (λ (b : Bool). map (λ (p : Item × Told). p.1) (cond b ((i, t) ∷ beside) beside)) bit

-- it is all the same which of two filters comes first
two_filters : {A : Type 0} (p q : A → Bool) (xs : List A) → filter p (filter q xs) ≡ filter q (filter p xs)
two_filters p q [] = refl
two_filters {A} p q (x ∷ xs) = by (p x) (q x) refl refl (two_filters p q xs)
  where
    by : (a b : Bool) → p x ≡ a → q x ≡ b → filter p (filter q xs) ≡ filter q (filter p xs) →
        filter p (cond b (x ∷ filter q xs) (filter q xs)) ≡ filter q (cond a (x ∷ filter p xs) (filter p xs))
    by true true here there rest =
        ap (λ (c : Bool). cond c (x ∷ filter p (filter q xs)) (filter p (filter q xs))) here
        ∙ ap (λ (l : List A). x ∷ l) rest
        ∙ sym (ap (λ (c : Bool). cond c (x ∷ filter q (filter p xs)) (filter q (filter p xs))) there)
    by true false here there rest = rest ∙ sym (ap (λ (c : Bool). cond c (x ∷ filter q (filter p xs)) (filter q (filter p xs))) there)
    by false true here there rest = ap (λ (c : Bool). cond c (x ∷ filter p (filter q xs)) (filter p (filter q xs))) here ∙ rest
    by false false here there rest = rest

weave : (items : List Item) (lines : ℕ → List Told) → ((name : ℕ) → AllZip Admits (own_of name items) (lines name)) →
    (told : List Told) × AllZip Admits items told × ((name : ℕ) → lines_of name items told ≡ lines name)
weave [] lines are = ([], tt, λ name. told_none (lines name) (are name))
weave (i ∷ items) lines are =
    let mine : AllZip Admits (i ∷ own_of (name_of i) items) (lines (name_of i)) =
    subst (λ (l : List Item). AllZip Admits l (lines (name_of i))) (own_here i items (name_of i) refl) (are (name_of i)) in
    let (t, rest, is, admits, more) = told_first i (own_of (name_of i) items) (lines (name_of i)) mine in
    let others : ℕ → List Told = instead (name_of i) rest lines in
    let each : (name : ℕ) → AllZip Admits (own_of name items) (others name) = λ name.
    elim (eqb_tells name (name_of i)) [
      | inl e ↦ subst (λ (n : ℕ). AllZip Admits (own_of n items) (others n)) (sym e.1)
          (subst (AllZip Admits (own_of (name_of i) items)) (sym (instead_same (name_of i) rest lines (name_of i) refl)) more)
      | inr e ↦ subst (AllZip Admits (own_of name items)) (sym (instead_other (name_of i) rest lines name e.1))
          (subst (λ (l : List Item). AllZip Admits l (lines name)) (own_elsewhere i items name (λ same. e.1 (sym same))) (are name))
    ] in
    let woven = weave items others each in (
      t ∷ woven.0,
      (admits, woven.1),
      λ name.
          elim (eqb_tells name (name_of i)) [
            | inl e ↦ lines_here i items name t woven.0 (sym e.1)
                ∙ ap (λ (l : List Told). t ∷ l) (woven.2 name ∙ instead_same (name_of i) rest lines name e.1) ∙ is ∙ ap lines (sym e.1)
            | inr e ↦ lines_elsewhere i items name t woven.0 (λ same. e.1 (sym same)) ∙ woven.2 name ∙ instead_other (name_of i) rest lines name e.1
          ],
    )

pub sessions_are_runs : SessionsAreRuns
sessions_are_runs roster items lines legal are =
    let woven =
    weave (filter is_turn items) lines
    (λ name. subst (λ (l : List Item). AllZip Admits l (lines name)) (two_filters is_turn (λ (i : Item). name_of i == name) items) (are name)) in
    (woven.0, woven.1, legal.runs woven.0 woven.1, woven.2)
