-- Parts that are joined by '&', and the texts between the places of '&'.
use Rattle.std.proofs.Common.{ℕ, true, List, [], ◌∷◌, ◌++◌, ◌<◌, ◌≡◌, refl, ap, sym, ◌∙◌, append_assoc, length, map, arith, codes}
use Rattle.std.specs.List.{list_all, join_with_byte}
use Rattle.std.proofs.lemmas.List.Splits.{join_with_byte-slice_split}
use Rattle.std.proofs.lemmas.Bool.{and_parts}
use Rattle.names.specs.Texts.{pieces, IsSpaces, trim}
use Rattle.names.proofs.Avoiding.{Avoids, Avoids-append}
use Rattle.names.proofs.PieceLemmas.{pieces_at, pieces_none}
use Rattle.credential_text.specs.declared.intersections.Part.{Part}
use Rattle.credential_text.specs.Part.{has_names, part_text}
use Rattle.credential_text.specs.Expr.{parts_text}
use Rattle.credential_text.specs.Spelling.{JoinsParts, ampersand}
use Rattle.credential_text.specs.Refusal.{part_texts}
use Rattle.credential_text.proofs.Bytes.{mark_space, mark_ampersand, spaces_avoid, part_avoids}
use Rattle.names.proofs.Spaces.{trim-round, Trimmed, trim_parts}

between_spaces : (l m r : List ℕ) → IsSpaces l → IsSpaces r → Avoids ampersand m → Avoids ampersand (l ++ m ++ r)
between_spaces l m r before after avoids =
    Avoids-append ampersand (l ++ m) r (Avoids-append ampersand l m (spaces_avoid ampersand refl l before) avoids) (spaces_avoid ampersand refl r after)

-- the text of one part between spaces
pub one_text : (l r : List ℕ) (p : Part) → has_names p ≡ true → IsSpaces l → IsSpaces r → part_texts (l ++ part_text p ++ r) ≡ part_text p ∷ []
one_text l r p named before after =
    ap (map trim) (pieces_none ampersand (l ++ part_text p ++ r) (between_spaces l (part_text p) r before after (part_avoids ampersand mark_ampersand p named)))
    ∙ ap (λ (t : List ℕ). t ∷ []) (trim-round l (part_text p) r before (part_avoids 32 mark_space p named) after)

-- the text of a part between spaces, and what stands behind the next '&'
pub next_text : (l r rest : List ℕ) (p : Part) → has_names p ≡ true → IsSpaces l → IsSpaces r → part_texts ((l ++ part_text p ++ r) ++ ampersand ∷ rest) ≡ part_text p ∷ part_texts rest
next_text l r rest p named before after =
    ap (map trim) (pieces_at ampersand (l ++ part_text p ++ r) rest (between_spaces l (part_text p) r before after (part_avoids ampersand mark_ampersand p named)))
    ∙ ap (λ (t : List ℕ). t ∷ part_texts rest) (trim-round l (part_text p) r before (part_avoids 32 mark_space p named) after)

regrouped : (l p left right rest after : List ℕ) → l ++ (p ++ left ++ ampersand ∷ right ++ rest) ++ after ≡ (l ++ p ++ left) ++ ampersand ∷ (right ++ rest ++ after)
regrouped l p left right rest after = simp append_assoc

-- the texts of joined parts are the parts' own
pub joined_texts : (ps : List Part) (l body r : List ℕ) → list_all has_names ps ≡ true → IsSpaces l → IsSpaces r → JoinsParts ps body → part_texts (l ++ body ++ r) ≡ map part_text ps
joined_texts [] l body r named before after joins = absurd joins
joined_texts (p ∷ []) l body r named before after joins =
    let both : (has_names p ≡ true) × (list_all has_names [] ≡ true) = and_parts _ _ named in
    ap (λ (t : List ℕ). part_texts (l ++ t ++ r)) joins ∙ one_text l r p both.0 before after
joined_texts (p ∷ q ∷ ps) l body r named before after (left, right, rest, spaces_left, spaces_right, others, whole) =
    let both : (has_names p ≡ true) × (list_all has_names (q ∷ ps) ≡ true) = and_parts _ _ named in
    ap (λ (t : List ℕ). part_texts (l ++ t ++ r)) whole
    ∙ ap part_texts (regrouped l (part_text p) left right rest r)
    ∙ next_text l left (right ++ rest ++ r) p both.0 before spaces_left
    ∙ ap (λ (ts : List (List ℕ)). part_text p ∷ ts) (joined_texts (q ∷ ps) right rest r both.1 spaces_right after others)

-- a text as joined parts between spaces
pub record Joined (ps : List Part) (text : List ℕ) : Type 0 where
  pub left : List ℕ
  pub inner : List ℕ
  pub right : List ℕ
  pub spaces_left : IsSpaces left
  pub spaces_right : IsSpaces right
  pub joins : JoinsParts ps inner
  pub whole : text ≡ left ++ inner ++ right

one_joined : (t : List ℕ) (p : Part) → trim t ≡ part_text p → Joined (p ∷ []) t
one_joined t p same =
    let s : Trimmed t = trim_parts t in
    record {
      left = s.left;
      inner = part_text p;
      right = s.right;
      spaces_left = s.spaces_left;
      spaces_right = s.spaces_right;
      joins = refl;
      whole = s.whole ∙ ap (λ (m : List ℕ). s.left ++ m ++ s.right) same;
    }

put_together : (t rest l p r l' m r' : List ℕ) → t ≡ l ++ p ++ r → rest ≡ l' ++ m ++ r' → t ++ ampersand ∷ rest ≡ l ++ (p ++ r ++ ampersand ∷ l' ++ m) ++ r'
put_together t rest l p r l' m r' is_t is_rest = rw (is_t, is_rest) (simp append_assoc)

more_joined : (t rest : List ℕ) (p q : Part) (ps : List Part) → trim t ≡ part_text p → Joined (q ∷ ps) rest → Joined (p ∷ q ∷ ps) (t ++ ampersand ∷ rest)
more_joined t rest p q ps same others =
    let s : Trimmed t = trim_parts t in
    record {
      left = s.left;
      inner = part_text p ++ s.right ++ ampersand ∷ others.left ++ others.inner;
      right = others.right;
      spaces_left = s.spaces_left;
      spaces_right = others.spaces_right;
      joins = (s.right, others.left, others.inner, s.spaces_right, others.spaces_left, others.joins, refl);
      whole = put_together t rest s.left (part_text p) s.right others.left others.inner others.right (s.whole ∙ ap (λ (m : List ℕ). s.left ++ m ++ s.right) same) others.whole;
    }

join_texts : (ts : List (List ℕ)) (ps : List Part) → 0 < length ps → map trim ts ≡ map part_text ps → Joined ps (join_with_byte ampersand ts)
join_texts ts [] some same = absurd (omega arith)
join_texts [] (p ∷ ps) some same = cc
join_texts (t ∷ []) (p ∷ []) some same = one_joined t p cc
join_texts (t ∷ []) (p ∷ q ∷ ps) some same = cc
join_texts (t ∷ u ∷ ts) (p ∷ []) some same = cc
join_texts (t ∷ u ∷ ts) (p ∷ q ∷ ps) some same =
    let first : trim t ≡ part_text p = cc in
    let others : map trim (u ∷ ts) ≡ map part_text (q ∷ ps) = cc in
    more_joined t (join_with_byte ampersand (u ∷ ts)) p q ps first (join_texts (u ∷ ts) (q ∷ ps) (omega arith) others)

-- a text whose texts are the parts' own is theirs, joined
pub joined_from : (ps : List Part) (text : List ℕ) → 0 < length ps → part_texts text ≡ map part_text ps → Joined ps text
joined_from ps text some same =
    let j : Joined ps (join_with_byte ampersand (pieces ampersand text)) = join_texts (pieces ampersand text) ps some same in
    let e : join_with_byte ampersand (pieces ampersand text) ≡ text = join_with_byte-slice_split ampersand text in
    record {
      left = j.left;
      inner = j.inner;
      right = j.right;
      spaces_left = j.spaces_left;
      spaces_right = j.spaces_right;
      joins = j.joins;
      whole = sym e ∙ j.whole;
    }

canonical_next : (p rest : List ℕ) → p ++ codes " & " ++ rest ≡ p ++ 32 ∷ [] ++ ampersand ∷ 32 ∷ [] ++ rest
canonical_next p rest = simp append_assoc

-- the canonical text of parts joins them
pub canonical_joins : (ps : List Part) → 0 < length ps → JoinsParts ps (parts_text ps)
canonical_joins [] some = absurd (omega arith)
canonical_joins (p ∷ []) some = refl
canonical_joins (p ∷ q ∷ ps) some = (
  32 ∷ [],
  32 ∷ [],
  parts_text (q ∷ ps),
  refl,
  refl,
  canonical_joins (q ∷ ps) (omega arith),
  canonical_next (part_text p) (parts_text (q ∷ ps)),
)
