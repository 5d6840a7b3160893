-- Names that stand once each in a roster.
use Rattle.std.proofs.Common.{◌≡◌, ◌∙◌, ℕ, ◌+◌, ◌<◌, ◌++◌, length, get_or, suc, List, [], ◌∷◌, map, take, drop, ap, sym, subst, None, drop-cons}
use Rattle.std.specs.{List.IsDistinct, Map.keys_of, Map.lookup}
use Rattle.std.proofs.lemmas.Cmp.{nat_list_eq_equiv}
use Rattle.std.proofs.lemmas.List.{map-append, take_more, take-append-drop}
use Rattle.std.proofs.lemmas.Simd.{map-map}
use Rattle.indexmap.specs.IndexMap.{insert_entry}
use Rattle.indexmap.proofs.MapLemmas.{absent_before, absent_from_lookup, insert_entry-absent}
use Rattle.names.specs.Name.{is_same}

-- the entry that is made of a row
abbrev pub entry_of : {X Y : Type 0} → (X → Y) → List ℕ × X → List ℕ × Y
entry_of made row = (row.0, made row.1)

module _ {X Y : Type 0} (made : X → Y) (roster : List (List ℕ × X)) (i : ℕ) (row : List ℕ × X)
    (distinct : IsDistinct is_same (map (λ (r : List ℕ × X). r.0) roster)) (within : i < length roster) (read : row ≡ get_or roster i row) where
  -- a row's name isn't among those of the rows before it
  pub new_name : lookup (is_same row.0) (map (entry_of made) (take i roster)) ≡ None
  new_name =
      let later : List (List ℕ × X) = drop (suc i) roster in
      let whole : take i roster ++ row ∷ later ≡ roster =
      ap (λ (r : List ℕ × X). take i roster ++ r ∷ later) read ∙ ap (λ rest. take i roster ++ rest) (sym (drop-cons roster i row within))
      ∙ take-append-drop i roster in
      absent_before nat_list_eq_equiv (map (entry_of made) (take i roster)) (map (entry_of made) later) (entry_of made row)
      (subst (IsDistinct is_same)
      (ap (map (λ (r : List ℕ × X). r.0)) (sym whole) ∙ sym (map-map (λ (e : List ℕ × Y). e.0) (entry_of made) (take i roster ++ row ∷ later))
      ∙ ap keys_of (map-append (entry_of made) (take i roster) (row ∷ later))) distinct)

  -- the entries of the rows so far and one more are those of one row more
  pub entries_more : (es after : List (List ℕ × Y)) → es ≡ map (entry_of made) (take i roster) → after ≡ insert_entry is_same es row.0 (made row.1) →
      after ≡ map (entry_of made) (take (i + 1) roster)
  entries_more es after listed inserted =
      inserted ∙ ap (λ l. insert_entry is_same l row.0 (made row.1)) listed
      ∙ insert_entry-absent is_same row.0 (made row.1) (map (entry_of made) (take i roster)) (absent_from_lookup _ _ new_name)
      ∙ sym (map-append (entry_of made) (take i roster) (row ∷ []))
      ∙ ap (map (entry_of made)) (ap (λ (r : List ℕ × X). take i roster ++ r ∷ []) read ∙ sym (take_more roster i row within))
