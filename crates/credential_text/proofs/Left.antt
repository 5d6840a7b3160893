-- What is left of a body while its parts are read, one after another.
use Rattle.std.proofs.Common.{ℕ, Bool, true, false, List, [], ◌∷◌, ◌++◌, ◌+◌, ◌<◌, ◌≤◌, ◌≡◌, refl, ap, sym, ◌∙◌, Option, Some, None, MatchOption, Bor, length, map, take, set, nat_lt, not, ◌||◌, ◌==◌, arith}
use Rattle.std.specs.List.{list_all, list_any}
use Rattle.std.proofs.lemmas.List.{length-set, append_assoc, map_push, take_more_set}
use Rattle.std.proofs.lemmas.Bool.{and_parts, and_from, le-ltb, lt-ltb, ne_eqb}
use Rattle.names.specs.Fault.{or_then}
use Rattle.names.specs.Texts.{pieces, trim}
use Rattle.credential_text.specs.declared.faults.CredFault.{CredFault}
use Rattle.credential_text.specs.declared.intersections.Part.{Part}
use Rattle.credential_text.specs.Part.{has_names, part_text, is_based_on}
use Rattle.credential_text.specs.Spelling.{ampersand}
use Rattle.credential_text.specs.Refusal.{is_empty, part_texts, part_fault, first_part_fault}
use Rattle.credential_text.specs.Reading.{ReadsAs}
use Rattle.credential_text.proofs.Readings.{part_faultless}

-- the parts' texts in what is left
abbrev pub texts_left : Option (Bor (List ℕ)) → List (List ℕ)
texts_left None = []
texts_left (Some text) = part_texts text.now

-- one more than the bytes that are left
abbrev pub bytes_left : Option (Bor (List ℕ)) → ℕ
bytes_left None = 0
bytes_left (Some text) = length text.now + 1

-- the first part's text, and those behind it
pub cut_texts : (text part : List ℕ) (rest : Option (Bor (List ℕ))) → MatchOption rest (pieces ampersand text ≡ part ∷ []) (λ r. pieces ampersand text ≡ part ∷ pieces ampersand r.now) →
    part_texts text ≡ trim part ∷ texts_left rest
cut_texts text part None cut = ap (map trim) cut
cut_texts text part (Some r) cut = ap (map trim) cut

-- the first places hold the parts that were read, and the rest of the texts is left
pub record PartsSoFar (owner : List ℕ) (texts left : List (List ℕ)) (parts : List Part) (count : ℕ) : Type 0 where
  pub fits : count + length left ≤ 8
  pub room : length parts ≡ 8
  pub spelled : texts ≡ map part_text (take count parts) ++ left
  pub named : list_all has_names (take count parts) ≡ true
  pub based : list_all (is_based_on owner) (take count parts) ≡ true
  pub fault : first_part_fault owner texts ≡ first_part_fault owner left

pub list_all_push : {X : Type 0} (p : X → Bool) (xs : List X) (x : X) → list_all p xs ≡ true → p x ≡ true → list_all p (xs ++ x ∷ []) ≡ true
list_all_push p [] x passes last = and_from (p x) true last refl
list_all_push p (y ∷ ys) x passes last =
    let both : (p y ≡ true) × (list_all p ys ≡ true) = and_parts _ _ passes in
    and_from (p y) (list_all p (ys ++ x ∷ [])) both.0 (list_all_push p ys x both.1 last)

moved : (texts front left : List (List ℕ)) (t u : List ℕ) → texts ≡ front ++ t ∷ left → t ≡ u → texts ≡ (front ++ u ∷ []) ++ left
moved texts front left t u whole same = whole ∙ ap (λ (x : List ℕ). front ++ x ∷ left) same ∙ simp append_assoc

-- one part more
pub parts_more : (owner : List ℕ) (texts left : List (List ℕ)) (parts : List Part) (count : ℕ) (t : List ℕ) (p : Part) →
    PartsSoFar owner texts (t ∷ left) parts count → ReadsAs owner t p → PartsSoFar owner texts left (set parts count p) (count + 1)
parts_more owner texts left parts count t p s reads =
    let front : take (count + 1) (set parts count p) ≡ take count parts ++ p ∷ [] = take_more_set parts count p (omega (arith, s.fits, s.room)) in
    record {
      fits = omega (arith, s.fits);
      room = length-set parts count p ∙ s.room;
      spelled =
          moved texts (map part_text (take count parts)) left t (part_text p) s.spelled reads.spelled
          ∙ ap (λ (ts : List (List ℕ)). ts ++ left) (sym (map_push part_text (take count parts) p) ∙ ap (map part_text) (sym front));
      named = ap (list_all has_names) front ∙ list_all_push has_names (take count parts) p s.named reads.named;
      based = ap (list_all (is_based_on owner)) front ∙ list_all_push (is_based_on owner) (take count parts) p s.based reads.based;
      fault =
          s.fault
          ∙ ap (λ (f : Option CredFault). or_then f (first_part_fault owner left))
          (ap (part_fault owner) reads.spelled ∙ part_faultless owner p reads.named reads.based);
    }

-- so many texts were looked at, 8 at most, and none of them is empty
pub record PartsSeen (texts left : List (List ℕ)) (count : ℕ) : Type 0 where
  pub fits : count ≤ 8
  pub whole : length texts ≡ count + length left
  pub empty : list_any is_empty texts ≡ list_any is_empty left

-- no text was looked at yet
pub none_seen : (texts : List (List ℕ)) → PartsSeen texts texts 0
none_seen texts = record { fits = omega arith; whole = omega arith; empty = refl }

-- one text more
pub seen_more : (texts left : List (List ℕ)) (t : List ℕ) (count : ℕ) → PartsSeen texts (t ∷ left) count → count < 8 → is_empty t ≡ false
    → PartsSeen texts left (count + 1)
seen_more texts left t count s few some = record {
  fits = omega arith;
  whole = omega (arith, s.whole);
  empty = s.empty ∙ ap (λ (b : Bool). b || list_any is_empty left) some;
}

-- a ninth text
pub ninth_seen : (texts left : List (List ℕ)) (t : List ℕ) (count : ℕ) → PartsSeen texts (t ∷ left) count → count ≡ 8
    → false ≡ not (nat_lt 8 (length texts) || list_any is_empty texts)
ninth_seen texts left t count s many =
    sym (ap (λ (b : Bool). not (b || list_any is_empty texts)) (lt-ltb 8 (length texts) (omega (arith, s.whole, many))))

either : (a b : Bool) → b ≡ true → false ≡ not (a || b)
either true b is = refl
either false b is = sym (ap not is)

-- an empty text
pub empty_seen : (texts left : List (List ℕ)) (t : List ℕ) (count : ℕ) → PartsSeen texts (t ∷ left) count → is_empty t ≡ true
    → false ≡ not (nat_lt 8 (length texts) || list_any is_empty texts)
empty_seen texts left t count s none =
    either (nat_lt 8 (length texts)) (list_any is_empty texts) (s.empty ∙ ap (λ (b : Bool). b || list_any is_empty left) none)

-- all texts
pub all_seen : (texts : List (List ℕ)) (count : ℕ) → PartsSeen texts [] count
    → true ≡ not (nat_lt 8 (length texts) || list_any is_empty texts)
all_seen texts count s =
    sym (ap (λ (b : Bool). not (b || list_any is_empty texts)) (le-ltb 8 (length texts) (omega (arith, s.fits, s.whole))) ∙ ap not s.empty)

-- a text is empty where it has no byte
pub empty_by_length : (t : List ℕ) → is_empty t ≡ (length t == 0)
empty_by_length [] = refl
empty_by_length (b ∷ bs) = sym (ne_eqb (length (b ∷ bs)) 0 (λ e. cc))
