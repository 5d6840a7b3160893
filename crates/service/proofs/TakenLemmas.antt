-- Lemmas on taking a line's bytes part by part.
use Rattle.std.proofs.Common.{◌≡◌, ◌≢◌, ◌≤◌, ◌<◌, ℕ, List, [], ◌∷◌, ◌++◌, ◌-◌, length, take, min, get_or, arith, refl, Option, None, Some, sym, subst, ◌∙◌, ap, append_assoc}
use Rattle.std.proofs.Common.{inl, inr}
use Rattle.std.specs.List.{before_first, position_or_len}
use Rattle.std.specs.Io.KnownBytes.{Consumes, prepend_known}
use Rattle.std.specs.Io.BufRead.{DropsConsumable}
use Rattle.std.specs.Prelude.{IfSome, ◌==◌, Bool, true, false, drop, if◌then◌else◌}
use Rattle.std.proofs.Common.{take-append-drop}
use Rattle.std.proofs.Math.Seq.{take-append-add}
use Rattle.std.proofs.KnownBytes.{Consumes-trans}
use Rattle.std.proofs.lemmas.List.{append-nil, nil_from_length, take_all, take-append-le, length-take, get_or-take}
use Rattle.std.proofs.lemmas.List.Elements.{All-append}
use Rattle.std.proofs.lemmas.List.Sums.{fails_before_first}
use Rattle.std.proofs.lemmas.Bool.{cases_lt, eqb-false}
use Rattle.service.specs.declared.lines.Stage.{Stage}
use Rattle.service.specs.declared.lines.Stage.TheVariants.{Open, Ended, Failed}
use Rattle.service.specs.LineReader.{EndsBy, TakesBytes}
use Rattle.service.proofs.LineLemmas.{HasNoNewline}

-- the first bytes, as far as there is room for them
take-min : (n : ℕ) (bytes : List ℕ) → take (min (length bytes) n) bytes ≡ take n bytes
take-min n bytes =
    elim (cases_lt n (length bytes)) [
      | inl longer ↦ ap (λ k. take k bytes) (omega arith)
      | inr short ↦ take_all (min (length bytes) n) bytes (omega arith) ∙ sym (take_all n bytes (omega arith))
    ]

-- what there is room for goes behind the line
pub take-behind : (n count : ℕ) (line bytes grown : List ℕ) → length line ≤ n → count ≡ min (length bytes) (n - length line) → grown ≡ line ++ take count bytes → grown ≡ take n (line ++ bytes)
take-behind n count line bytes grown few room is =
    is ∙ ap (λ k. line ++ take k bytes) room ∙ ap (λ t. line ++ t) (take-min (n - length line) bytes) ∙ sym (take-append-add line bytes (n - length line))
    ∙ ap (λ k. take k (line ++ bytes)) (omega (arith, few))

-- nothing goes behind it
pub take-nothing : (n : ℕ) (line : List ℕ) → length line ≤ n → line ≡ take n (line ++ [])
take-nothing n line few = sym (ap (λ t. take n t) (append-nil line) ∙ take_all n line few)

-- keeping the front of what is kept keeps the front of all
take-kept : (n : ℕ) (raw part : List ℕ) → take n (take n raw ++ part) ≡ take n (raw ++ part)
take-kept n raw part =
    elim (cases_lt n (length raw)) [
      | inl longer ↦
          let front = take n raw in
          take-append-le n front part (omega (arith, length-take n raw)) ∙ take_all n front (omega (arith, length-take n raw))
          ∙ sym (take-append-le n raw part (omega arith))
      | inr short ↦ rw (take_all n raw short) refl
    ]

-- what comes behind a part of a line comes behind all of it
ends-more : (old mid new : Option (List ℕ)) (raw part : List ℕ) (end : Option Stage) → Consumes old mid raw → EndsBy end mid part new → EndsBy end old (raw ++ part) new
ends-more old mid new raw part None first ends = Consumes-trans old mid new raw part first ends
ends-more old mid new raw part (Some Open) first ends =
    subst (λ (t : List ℕ). Consumes old new t) (sym (append_assoc raw part (10 ∷ []))) (Consumes-trans old mid new raw (part ++ 10 ∷ []) first ends)
ends-more None mid new raw part (Some Ended) first ends = tt
ends-more (Some xs) None new raw part (Some Ended) first ends = absurd first
ends-more (Some xs) (Some ys) new raw part (Some Ended) first ends = first ∙ ap (λ t. raw ++ t) ends
ends-more old mid new raw part (Some Failed) first ends = tt

-- a part, and then one more
pub takes-more : (old mid new : Option (List ℕ)) (end : Option Stage) (line keeps : List ℕ) → TakesBytes old [] None mid line → TakesBytes mid line end new keeps → TakesBytes old [] end new keeps
takes-more old mid new end line keeps (raw, none, was, first) (part, none_more, is, ends) = (
  raw ++ part,
  All-append (λ b. b ≢ 10) raw part none none_more,
  is ∙ ap (λ l. take 4098 (l ++ part)) was ∙ take-kept 4098 raw part,
  ends-more old mid new raw part end first ends,
)

-- what stands before a newline has none
pub before-newline : (bytes : List ℕ) → HasNoNewline (before_first (λ b. b == 10) bytes)
before-newline bytes = λ k d at.
    let end = position_or_len (λ b. b == 10) bytes in
    let inside : k < end = omega (arith, at, length-take end bytes) in
    λ same. eqb-false (get_or bytes k d) 10 (fails_before_first (λ b. b == 10) bytes k d inside) (sym (get_or-take end bytes k d inside) ∙ same)

-- no byte is no newline
pub no-newline : HasNoNewline []
no-newline = λ k d at. absurd (omega (arith, at))

-- a reader that shows nothing has nothing
pub shown-nothing : (old : Option (List ℕ)) (bytes part : List ℕ) → IfSome old (λ xs. length bytes ≡ 0 → xs ≡ []) → bytes ≡ part → length part ≡ 0 → IfSome old (λ xs. xs ≡ part)
shown-nothing None bytes part end whole nothing = tt
shown-nothing (Some xs) bytes part end whole nothing = end (rw whole nothing) ∙ sym (nil_from_length part nothing)

-- bytes that were read ahead are the first of what is left
pub taken-ahead : (none : Bool) (bytes : List ℕ) (behind new : Option (List ℕ)) (n : ℕ) → n ≤ length bytes →
    DropsConsumable (if none then None else prepend_known bytes behind) new (Some (length bytes)) n → Consumes (if none then None else prepend_known bytes behind) new (take n bytes)
taken-ahead true bytes behind new n within drops = tt
taken-ahead false bytes None new n within drops = tt
taken-ahead false bytes (Some xs) new n within drops =
    let all = bytes ++ xs in
    subst (λ (o : Option (List ℕ)). Consumes (Some all) o (take n bytes)) (sym (drops within))
    (sym (take-append-drop n all) ∙ ap (λ t. t ++ drop n all) (take-append-le n bytes xs within))
