-- The table of an intersection's monitor, as a set of pairs.
use Rattle.std.proofs.Common.{◌≡◌, ℕ, suc, zero, ◌+◌, ◌<◌, ◌≤◌, ◌↔◌, Bool, true, false, List, [], ◌∷◌, filter, length, refl, sym, arith, get_or, set, true≢false, ◌≢◌, ◌==◌, ◌&&◌, ◌||◌, cond, Some, None, ap, subst, ◌∙◌, nat_eq}
use Rattle.std.specs.Ordering.{eq_by_cmp}
use Rattle.std.specs.Cmp.Lexicographic.{pointwise}
use Rattle.std.specs.List.{IsDistinct, AllByRecursion, list_any}
use Rattle.std.specs.Map.{keys_of}
use Rattle.std.proofs.Math.Bool.{or-false, and-false, and-true}
use Rattle.std.proofs.lemmas.Bool.{ne_eqb, eq-eqb, eqb-true, eqb-false}
use Rattle.std.proofs.lemmas.Cmp.{nat_list_eq_equiv}
use Rattle.std.proofs.lemmas.Grind.{get_or-set_at}
use Rattle.std.proofs.lemmas.List.{get_or-set_other}
use Rattle.std.proofs.lemmas.List.Folds.{list_any-append}
use Rattle.monitors.specs.declared.tellers.Tellers.{Tellers}
use Rattle.monitors.specs.MeetMonitor.{told_order, MeetTold, HasTold, with_tell, HearsPart, IsTable, pairs_from, pairs_of, is_among, is_teller, AreTellers}
use Rattle.indexmap.specs.IndexMap.{insert_entry}
use Rattle.monitors.proofs.NamedLemmas.{same_name, tellers_at, inserted_line, once_still, told_order_total, told_order_tied, told_order_ties, told_again}
use Rattle.std.specs.FinSet as fin

-- among so many parts, all are told where as many are told as there are parts

-- how many of these are true
abbrev pub how_many : List Bool → ℕ
how_many told = length (filter (λ b. b) told)

-- no more are told than the parts
pub how_many-le : (told : List Bool) (parts : ℕ) → ((part : ℕ) → parts ≤ part → get_or told part false ≡ false) → how_many told ≤ parts
how_many-le [] parts within = omega arith
how_many-le (true ∷ told) zero within = absurd (true≢false (within 0 (omega arith)))
how_many-le (true ∷ told) (suc parts) within = omega (arith, how_many-le told parts (λ part above. within (suc part) (omega arith)))
how_many-le (false ∷ told) zero within = how_many-le told zero (λ part above. within (suc part) (omega arith))
how_many-le (false ∷ told) (suc parts) within = omega (arith, how_many-le told parts (λ part above. within (suc part) (omega arith)))

-- as many are told as there are parts exactly where each part is told
pub all_told : (told : List Bool) (parts : ℕ) → ((part : ℕ) → parts ≤ part → get_or told part false ≡ false) → (how_many told ≡ parts) ↔ ((part : ℕ) → part < parts → get_or told part false ≡ true)
all_told [] zero within = (λ e part below. absurd (omega arith), λ all. refl)
all_told [] (suc parts) within = (λ e. absurd (omega arith), λ all. absurd (true≢false (sym (all 0 (omega arith)))))
all_told (true ∷ told) zero within = absurd (true≢false (within 0 (omega arith)))
all_told (true ∷ told) (suc parts) within =
    let rest = all_told told parts (λ part above. within (suc part) (omega arith)) in
    (each (λ few. rest.0 few), λ all. let few : how_many told ≡ parts = rest.1 (λ part below. all (suc part) (omega arith)) in omega arith)
  where
    each : (how_many told ≡ parts → (part : ℕ) → part < parts → get_or told part false ≡ true) → how_many (true ∷ told) ≡ suc parts → (part : ℕ) → part < suc parts → get_or (true ∷ told) part false ≡ true
    each later e zero below = refl
    each later e (suc part) below = later (omega arith) part (omega arith)
all_told (false ∷ told) zero within = (λ e part below. absurd (omega arith), λ all. let few : how_many told ≤ 0 = how_many-le told zero (λ part above. within (suc part) (omega arith)) in omega arith)
all_told (false ∷ told) (suc parts) within =
    let few : how_many told ≤ parts = how_many-le told parts (λ part above. within (suc part) (omega arith)) in
    (λ e. absurd (omega arith), λ all. absurd (true≢false (sym (all 0 (omega arith)))))

-- one more is told
pub how_many-set : (told : List Bool) (part : ℕ) → part < length told → get_or told part false ≡ false → how_many (set told part true) ≡ how_many told + 1
how_many-set (true ∷ told) zero below new = absurd (true≢false new)
how_many-set (true ∷ told) (suc part) below new = let more = how_many-set told part (omega arith) new in omega arith
how_many-set (false ∷ told) (suc part) below new = how_many-set told part (omega arith) new
how_many-set _ _ below new = omega arith

-- the pair is one of these
abbrev stands : ℕ → List ℕ → List (ℕ × List ℕ) → Bool
stands part who pairs = list_any (eq_by_cmp told_order (part, who)) pairs

apart : (part k : ℕ) (who q : List ℕ) → part ≢ k → eq_by_cmp told_order (part, who) (k, q) ≡ false
apart part k who q ne = told_order_ties (part, who) (k, q) ∙ ap (λ b. b && pointwise nat_eq who q) (ne_eqb part k ne)

-- no earlier part stands among those from a part on
earlier : (told : List Bool) (part k : ℕ) (who q : List ℕ) → part < k → stands part who (pairs_from k told q) ≡ false
earlier [] part k who q below = refl
earlier (true ∷ told) part k who q below =
    let other : part ≢ k = omega arith in
    ap (λ b. b || stands part who (pairs_from (k + 1) told q)) (apart part k who q other) ∙ earlier told part (k + 1) who q (omega arith)
earlier (false ∷ told) part k who q below = earlier told part (k + 1) who q (omega arith)

-- a part stands with the entity where it told it
of_entity : (told : List Bool) (part k i : ℕ) (who q : List ℕ) → part ≡ k + i → stands part who (pairs_from k told q) ≡ (pointwise nat_eq who q && get_or told i false)
of_entity [] part k i who q is = sym (and-false (pointwise nat_eq who q))
of_entity (true ∷ told) part k zero who q is =
    let here : part ≡ k = omega arith in
    ap (λ b. eq_by_cmp told_order (part, who) (k, q) || b) (earlier told part (k + 1) who q (omega arith))
    ∙ or-false _ ∙ told_order_ties (part, who) (k, q) ∙ ap (λ b. b && pointwise nat_eq who q) (eq-eqb part k here) ∙ sym (and-true (pointwise nat_eq who q))
of_entity (true ∷ told) part k (suc i) who q is =
    let other : part ≢ k = omega arith in
    ap (λ b. b || stands part who (pairs_from (k + 1) told q)) (apart part k who q other) ∙ of_entity told part (k + 1) i who q (omega arith)
of_entity (false ∷ told) part k zero who q is = earlier told part (k + 1) who q (omega arith) ∙ sym (and-false (pointwise nat_eq who q))
of_entity (false ∷ told) part k (suc i) who q is = of_entity told part (k + 1) i who q (omega arith)

-- an entity that is the same as none of the keys has no line
no_line : (es : List (List ℕ × Tellers)) (who k : List ℕ) → pointwise nat_eq who k ≡ true → AllByRecursion (λ y. pointwise nat_eq k y ≡ false) (keys_of es) → tellers_at es who ≡ None
no_line [] who k same others = refl
no_line (e ∷ es) who k same others =
    ap (λ b. cond b (Some e.1) (tellers_at es who)) (nat_list_eq_equiv.congr who k e.0 same ∙ others.0) ∙ no_line es who k same others.1

-- the pair stands in the table where the part is a teller
pub stands_in : (es : List (List ℕ × Tellers)) (part : ℕ) (who : List ℕ) → IsDistinct (pointwise nat_eq) (keys_of es) → stands part who (pairs_of es) ≡ is_teller es part who
unfolding IsDistinct
stands_in [] part who once = refl
stands_in (e ∷ es) part who once =
    list_any-append (eq_by_cmp told_order (part, who)) (pairs_from 0 e.1.told e.0) (pairs_of es)
    ∙ (λ i. of_entity e.1.told part 0 part who e.0 (omega arith) i || stands_in es part who once.1 i)
    ∙ by (pointwise nat_eq who e.0) refl
  where
    by : (b : Bool) → pointwise nat_eq who e.0 ≡ b → ((b && get_or e.1.told part false) || is_teller es part who) ≡ is_among part (cond b (Some e.1) (tellers_at es who))
    by true same = ap (λ t. get_or e.1.told part false || is_among part t) (no_line es who e.0 same once.0) ∙ or-false _
    by false other = refl

-- a table without a line
pub empty_table : {K : Type 0} (parts : ℕ) → parts ≤ 8 → IsTable {K = K} parts []
unfolding IsDistinct
empty_table parts few = record { few = few; tellers = λ name apart. record { few = few; once = tt; within = λ who part above. refl } }

abbrev pub seen : ℕ → List (List ℕ × Tellers) → MeetTold
seen parts es = record { parts = parts; told = fin.from_list (pairs_of es) }

-- what contracts see is what the table answers
pub told_as : (parts : ℕ) (es : List (List ℕ × Tellers)) → AreTellers parts es → (part : ℕ) (who : List ℕ) → fin.contains (seen parts es).told (part, who) ≡ is_teller es part who
told_as parts es are part who = fin.contains-from_list told_order_total (pairs_of es) (part, who) ∙ stands_in es part who are.once

pub told_already : (parts : ℕ) (es : List (List ℕ × Tellers)) → AreTellers parts es → (part : ℕ) (who : List ℕ) → is_teller es part who ≡ true → HearsPart (seen parts es) (seen parts es) part who false
told_already parts es are part who there =
    let has : HasTold (seen parts es) part who = told_as parts es are part who ∙ there in
    (ap (λ (s : fin.FinSet told_order). record { parts = parts; told = s }) (told_again (seen parts es).told (part, who) has), (λ e. absurd (true≢false (sym e)), λ h. absurd (h.1 has)))

pub never_told : (parts : ℕ) (es : List (List ℕ × Tellers)) → AreTellers parts es → (part : ℕ) (who : List ℕ) → is_teller es part who ≡ false → HasTold (seen parts es) part who → ⊥
never_told parts es are part who absent has = true≢false (sym has ∙ told_as parts es are part who ∙ absent)

-- the part of whom the entity's line said nothing is to be on it
pub record AddsTeller (parts : ℕ) (old : List (List ℕ × Tellers)) (part : ℕ) (who : List ℕ) (t u : Tellers) : Type 0 where
  pub are : AreTellers parts old
  pub line : (p : ℕ) → get_or t.told p false ≡ is_teller old p who
  pub written : u.told ≡ set t.told part true
  pub below : part < parts
  pub absent : get_or t.told part false ≡ false

-- and all else stays
module _ {parts : ℕ} {old : List (List ℕ × Tellers)} {part : ℕ} {who : List ℕ} {t u : Tellers} (adds : AddsTeller parts old part who t u) where
  abbrev new : List (List ℕ × Tellers)
  new = insert_entry (pointwise nat_eq) old who u

  on_line : (p : ℕ) → get_or u.told p false ≡ ((p == part) || get_or t.told p false)
  on_line p = ap (λ told. get_or told p false) adds.written ∙ by (p == part) refl
    where
      by : (b : Bool) → (p == part) ≡ b → get_or (set t.told part true) p false ≡ (b || get_or t.told p false)
      by true e = let here : p ≡ part = eqb-true p part e in get_or-set_at t.told part p true false here (omega (arith, t.eight, adds.below, adds.are.few))
      by false e = get_or-set_other t.told part p true false (eqb-false p part e)

  teller_after : (p : ℕ) (q : List ℕ) → is_teller new p q ≡ ((p == part && pointwise nat_eq q who) || is_teller old p q)
  teller_after p q = ap (is_among p) (inserted_line old who u q) ∙ by (pointwise nat_eq who q) refl
    where
      by : (b : Bool) → pointwise nat_eq who q ≡ b → is_among p (cond b (Some u) (tellers_at old q)) ≡ ((p == part && pointwise nat_eq q who) || is_teller old p q)
      by true same =
          on_line p
          ∙ (λ i. sym (and-true (p == part)) i || (adds.line p ∙ ap (is_teller old p) (same_name who q same)) i)
          ∙ ap (λ b. (p == part && b) || is_teller old p q) (sym (nat_list_eq_equiv.symm q who ∙ same))
      by false other =
          ap (λ b. b || is_teller old p q) (sym (and-false (p == part)))
          ∙ ap (λ b. (p == part && b) || is_teller old p q) (sym (nat_list_eq_equiv.symm q who ∙ other))

  pub still_tellers : AreTellers parts new
  still_tellers = record {
    few = adds.are.few;
    once = once_still old who u adds.are.once;
    within = λ q p above.
        let other : p ≢ part = omega (arith, adds.below) in
        teller_after p q ∙ ap (λ b. (b && pointwise nat_eq q who) || is_teller old p q) (ne_eqb p part other) ∙ adds.are.within q p above;
  }

  told_after : seen parts new ≡ with_tell (seen parts old) part who
  told_after =
      ap (λ (s : fin.FinSet told_order). record { parts = parts; told = s })
      (fin.same_set told_order_total told_order_tied (seen parts new).told (fin.insert (seen parts old).told (part, who)) (λ q.
      told_as parts new still_tellers q.0 q.1
      ∙ teller_after q.0 q.1
      ∙ (λ i. sym (told_order_ties q (part, who)) i || sym (told_as parts old adds.are q.0 q.1) i)
      ∙ sym (fin.contains-insert told_order_total (seen parts old).told (part, who) q)))

  -- the entity's line in the new table
  new_line : (p : ℕ) → fin.contains (seen parts new).told (p, who) ≡ get_or u.told p false
  new_line p =
      told_as parts new still_tellers p who
      ∙ ap (is_among p) (inserted_line old who u who ∙ ap (λ b. cond b (Some u) (tellers_at old who)) (nat_list_eq_equiv.refl who))

  -- a new tell is the last where as many parts are on the entity's line as there are
  pub tells_last : HearsPart (seen parts old) (seen parts new) part who (u.count == parts)
  tells_last =
      let counts = all_told u.told parts (λ p above. sym (new_line p) ∙ told_as parts new still_tellers p who ∙ still_tellers.within who p above) in (
        told_after,
        (
          λ e. (λ p below. new_line p ∙ counts.0 (sym u.counted ∙ eqb-true u.count parts e) p below, never_told parts old adds.are part who (sym (adds.line part) ∙ adds.absent)),
          λ h. eq-eqb u.count parts (u.counted ∙ counts.1 (λ p below. sym (new_line p) ∙ h.0 p below)),
        ),
      )

-- what was heard was told
pub told_now : (old now : MeetTold) (part : ℕ) (who : List ℕ) (last : Bool) → HearsPart old now part who last → HasTold now part who
told_now old now part who last hears =
    subst (λ (m : MeetTold). HasTold m part who) (sym hears.0)
    (fin.contains-insert told_order_total old.told (part, who) (part, who)
    ∙ ap (λ b. b || fin.contains old.told (part, who)) (told_order_ties (part, who) (part, who) ∙ (λ i. eq-eqb part part refl i && nat_list_eq_equiv.refl who i)))
