-- What a table of lines by key hears, by the names that its keys stand for.
use Rattle.std.proofs.Common.{suc, replicate, unwrap_or, Option, None, Some, cond, true≢false, ◌≡◌, ◌<◌, ◌==◌, ◌⊎◌, inl, inr, ℕ, Bool, true, false, List, [], ◌∷◌, ◌++◌, Contains, refl, sym, ap, subst, ◌∙◌, arith, get_or, set, if◌then◌else◌}
use Rattle.std.specs.Cmp.{IsEquivalence}
use Rattle.std.specs.Map.{keys_of, lookup}
use Rattle.std.proofs.lemmas.Option.{same_Some}
use Rattle.std.proofs.lemmas.List.Elements.{Contains-get_or, Contains-append_left, Contains-append_right, Contains-append_cases, Contains-push_cases}
use Rattle.indexmap.specs.IndexMap.{insert_entry}
use Rattle.monitors.specs.declared.tellers.Tellers.{Tellers}
use Rattle.monitors.specs.MeetMonitor.{HearsPart, is_among, is_teller, AreTellers}
use Rattle.monitors.specs.MeetMonitor.{MeetLines, TellsApart, named, HearsByName, IsUntold, IsTable}
use Rattle.monitors.proofs.NamedLemmas.{named_lookup, named_insert}
use Rattle.monitors.proofs.TableLemmas.{seen, told_already, never_told, AddsTeller, still_tellers, tells_last}

of_nobody : (n p : ℕ) → get_or (replicate n false) p false ≡ false
of_nobody (suc n) (suc p) = of_nobody n p
of_nobody _ _ = refl

-- an entity's line, or if it has none, one of no teller
module _ (found : Option Tellers) (none line : Tellers) (nobody : none.told ≡ replicate 8 false) (is : line ≡ unwrap_or found none) where
  tellers_on : (p : ℕ) → get_or line.told p false ≡ is_among p found
  tellers_on p = by found is
    where
      by : (o : Option Tellers) → line ≡ unwrap_or o none → get_or line.told p false ≡ is_among p o
      by None same = ap (λ (t : Tellers). get_or t.told p false) same ∙ ap (λ told. get_or told p false) nobody ∙ of_nobody 8 p
      by (Some t) same = ap (λ (t : Tellers). get_or t.told p false) same

  found_line : (p : ℕ) → get_or line.told p false ≡ true → found ≡ Some line
  found_line p there = by found is (sym (tellers_on p) ∙ there)
    where
      by : (o : Option Tellers) → line ≡ unwrap_or o none → is_among p o ≡ true → o ≡ Some line
      by None same among = absurd (true≢false (sym among))
      by (Some t) same among = ap Some (sym same)

module _ {K : Type 0} (eq : K → K → Bool) (laws : IsEquivalence eq) (exact : (x y : K) → eq x y ≡ true → x ≡ y) where
  -- an inserted key is one of the keys, or goes last
  keys_inserted : {X : Type 0} (es : List (K × X)) (k : K) (x : X) → (Contains (keys_of es) k × (keys_of (insert_entry eq es k x) ≡ keys_of es)) ⊎ (keys_of (insert_entry eq es k x) ≡ keys_of es ++ k ∷ [])
  keys_inserted [] k x = inr refl
  keys_inserted {X} (e ∷ es) k x = by (eq k e.0) refl (keys_inserted es k x)
    where
      by : (b : Bool) → eq k e.0 ≡ b → (Contains (keys_of es) k × (keys_of (insert_entry eq es k x) ≡ keys_of es)) ⊎ (keys_of (insert_entry eq es k x) ≡ keys_of es ++ k ∷ []) →
          (Contains (e.0 ∷ keys_of es) k × (keys_of (if b then (e.0, x) ∷ es else e ∷ insert_entry eq es k x) ≡ e.0 ∷ keys_of es)) ⊎ (keys_of (if b then (e.0, x) ∷ es else e ∷ insert_entry eq es k x) ≡ e.0 ∷ keys_of es ++ k ∷ [])
      by true same later = inl (subst (Contains (e.0 ∷ keys_of es)) (sym (exact k e.0 same)) (Contains-get_or (e.0 ∷ keys_of es) 0 e.0 (omega arith)), refl)
      by false other (inl (there, is)) = inl (Contains-append_right (e.0 ∷ []) (keys_of es) k there, ap (λ ks. e.0 ∷ ks) is)
      by false other (inr is) = inr (ap (λ ks. e.0 ∷ ks) is)

  pub still_known : {X : Type 0} (es : List (K × X)) (who : K) (x : X) (k : K) → Contains (keys_of (insert_entry eq es who x)) k → Contains (who ∷ keys_of es) k
  still_known es who x k there =
      elim (keys_inserted es who x) [
        | inl had ↦ Contains-append_right (who ∷ []) (keys_of es) k (subst (λ ks. Contains ks k) had.1 there)
        | inr is ↦ elim (Contains-push_cases (keys_of es) who k (subst (λ ks. Contains ks k) is there)) [
          | inl before ↦ Contains-append_right (who ∷ []) (keys_of es) k before
          | inr this ↦ subst (Contains (who ∷ keys_of es)) this (Contains-get_or (who ∷ keys_of es) 0 who (omega arith))
        ]
      ]

  now_known : {X : Type 0} (es : List (K × X)) (who : K) (x : X) (k : K) → Contains (who ∷ keys_of es) k → Contains (keys_of (insert_entry eq es who x)) k
  now_known es who x k there =
      elim (keys_inserted es who x) [
        | inl had ↦ subst (λ ks. Contains ks k) (sym had.1) (elim (Contains-append_cases (who ∷ []) (keys_of es) k there) [
          | inl this ↦ elim (Contains-push_cases [] who k this) [
            | inl none ↦ absurd (omega (arith, none.1))
            | inr is ↦ subst (Contains (keys_of es)) is had.0
          ]
          | inr before ↦ before
        ])
        | inr is ↦ subst (λ ks. Contains ks k) (sym is) (elim (Contains-append_cases (who ∷ []) (keys_of es) k there) [
          | inl this ↦ Contains-append_right (keys_of es) (who ∷ []) k this
          | inr before ↦ Contains-append_left (keys_of es) (who ∷ []) k before
        ])
      ]

  -- a line that says that the part told the entity stands as it is
  line_stands : (es : List (K × Tellers)) (who : K) (t : Tellers) → lookup (eq who) es ≡ Some t → insert_entry eq es who t ≡ es
  line_stands [] who t found = cc
  line_stands (e ∷ es) who t found = by (eq who e.0) refl (line_stands es who t)
    where
      by : (b : Bool) → eq who e.0 ≡ b → (lookup (eq who) es ≡ Some t → insert_entry eq es who t ≡ es) → insert_entry eq (e ∷ es) who t ≡ e ∷ es
      by true same rest =
          ap (λ b. if b then (e.0, t) ∷ es else e ∷ insert_entry eq es who t) same
          ∙ ap (λ line. (e.0, line) ∷ es) (same_Some t e.1 (sym found ∙ ap (λ (b : Bool). cond b (Some e.1) (lookup (eq who) es)) same))
      by false other rest =
          ap (λ b. if b then (e.0, t) ∷ es else e ∷ insert_entry eq es who t) other
          ∙ ap (λ es. e ∷ es) (rest (sym (ap (λ (b : Bool). cond b (Some e.1) (lookup (eq who) es)) other) ∙ found))

  -- so many parts told these lines
  module _ (parts : ℕ) (es : List (K × Tellers)) (table : IsTable parts es) (part : ℕ) (who : K) where
    abbrev before : MeetLines K
    before = record { parts = parts; lines = es }

    are : (name : K → List ℕ) → TellsApart name (who ∷ keys_of es) → AreTellers parts (named name es)
    are name apart = table.tellers name (λ a b x y. apart a b (Contains-append_right (who ∷ []) (keys_of es) a x) (Contains-append_right (who ∷ []) (keys_of es) b y))

    named_line : (name : K → List ℕ) → TellsApart name (who ∷ keys_of es) → (p : ℕ) → is_teller (named name es) p (name who) ≡ is_among p (lookup (eq who) es)
    named_line name apart p = ap (is_among p) (named_lookup eq laws exact name es who apart)

    heard_already : is_among part (lookup (eq who) es) ≡ true → HearsByName before before part who false
    heard_already there name apart = told_already parts (named name es) (are name apart) part (name who) (named_line name apart part ∙ there)

    pub never_heard : is_among part (lookup (eq who) es) ≡ false → IsUntold before part who
    never_heard absent = record { untold = λ name apart. never_told parts (named name es) (are name apart) part (name who) (named_line name apart part ∙ absent) }

    -- the line of the entity is t, and u is that line and the part
    module _ (t u : Tellers) (line : (p : ℕ) → get_or t.told p false ≡ is_among p (lookup (eq who) es)) (written : u.told ≡ set t.told part true) (below : part < parts) (absent : get_or t.told part false ≡ false) where
      abbrev after : List (K × Tellers)
      after = insert_entry eq es who u

      adds : (name : K → List ℕ) → TellsApart name (who ∷ keys_of es) → AddsTeller parts (named name es) part (name who) t u
      adds name apart = record { are = are name apart; line = λ p. line p ∙ sym (named_line name apart p); written = written; below = below; absent = absent }

      heard_new : HearsByName before (record { parts = parts; lines = after }) part who (u.count == parts)
      heard_new name apart =
          subst (λ ls. HearsPart (seen parts (named name es)) (seen parts ls) part (name who) (u.count == parts)) (sym (named_insert eq laws exact name es who u apart)) (tells_last (adds name apart))

      table_still : IsTable parts after
      table_still = record {
        few = table.few;
        tellers = λ name apart.
            let also : TellsApart name (who ∷ keys_of es) = λ a b x y. apart a b (now_known es who u a x) (now_known es who u b y) in
            subst (AreTellers parts) (sym (named_insert eq laws exact name es who u also)) (still_tellers (adds name also));
      }

    -- the line of the entity was t, or one of no teller where it had none, and is u now
    pub heard : (none t u : Tellers) (last : Bool) → none.told ≡ replicate 8 false → t ≡ unwrap_or (lookup (eq who) es) none → part < parts → (get_or t.told part false ≡ true → (last ≡ false) × (u ≡ t)) →
        (get_or t.told part false ≡ false → (last ≡ (u.count == parts)) × (u.told ≡ set t.told part true)) → HearsByName before (record { parts = parts; lines = insert_entry eq es who u }) part who last × IsTable parts (insert_entry eq es who u)
    heard none t u last nobody is below again new = by (get_or t.told part false) refl
      where
        by : (b : Bool) → get_or t.told part false ≡ b → HearsByName before (record { parts = parts; lines = insert_entry eq es who u }) part who last × IsTable parts (insert_entry eq es who u)
        by true told =
            let found = found_line (lookup (eq who) es) none t nobody is part told in
            let stands = ap (insert_entry eq es who) (again told).1 ∙ line_stands es who t found in
            rw (stands, (again told).0) (heard_already (ap (is_among part) found ∙ told), table)
        by false untold =
            let on = tellers_on (lookup (eq who) es) none t nobody is in
            rw (new untold).0 (heard_new t u on (new untold).1 below untold, table_still t u on (new untold).1 below untold)
