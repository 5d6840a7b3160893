-- How the letters that were sent grow: by what is asked, by what a new listener is told, and by a new member.
use Rattle.std.proofs.Common.{ℕ, List, [], ◌∷◌, ◌++◌, ◌+◌, ◌≡◌, ◌==◌, ◌∙◌, inl, inr, arith, cond, length, length-append, refl}
use Rattle.std.specs.List.{filter, sum_by}
use Rattle.std.proofs.lemmas.Bool.{cases_Bool}
use Rattle.std.proofs.lemmas.List.Sums.{sum_by-cons}
use Rattle.rt0_rules.specs.Letters.{NodeAsk, letters_sent}

-- asks are sent
pub letters_asked : (members : ℕ → List (List ℕ)) (listeners pending asks : List NodeAsk) →
    letters_sent members listeners (pending ++ asks) ≡ letters_sent members listeners pending + length asks
letters_asked members listeners pending asks = omega (arith, length-append pending asks)

told_once : (before after : ℕ → List (List ℕ)) (listeners : List NodeAsk) (n : ℕ) →
    ((m : ℕ) → length (after m) ≡ length (before m) + cond (m == n) 1 0) →
    sum_by (λ l. length (after l.asked)) listeners ≡ sum_by (λ l. length (before l.asked)) listeners + length (filter (λ l. l.asked == n) listeners)
told_once before after [] n one_more = refl
told_once before after (l ∷ ls) n one_more =
    let rest : sum_by (λ l. length (after l.asked)) ls ≡ sum_by (λ l. length (before l.asked)) ls + length (filter (λ l. l.asked == n) ls) =
    told_once before after ls n one_more in
    let of_after : sum_by (λ l. length (after l.asked)) (l ∷ ls) ≡ length (after l.asked) + sum_by (λ l. length (after l.asked)) ls =
    sum_by-cons (λ (a : NodeAsk). length (after a.asked)) l ls in
    let of_before : sum_by (λ l. length (before l.asked)) (l ∷ ls) ≡ length (before l.asked) + sum_by (λ l. length (before l.asked)) ls =
    sum_by-cons (λ (a : NodeAsk). length (before a.asked)) l ls in
    let here : length (after l.asked) ≡ length (before l.asked) + cond (l.asked == n) 1 0 = one_more l.asked in
    of_after ∙ elim (cases_Bool (l.asked == n)) [
      | inl asked ↦
          let more : length (after l.asked) ≡ length (before l.asked) + 1 = rw asked at here in
          rw asked (omega (arith, more, rest, of_before))
      | inr other ↦
          let as_before : length (after l.asked) ≡ length (before l.asked) + 0 = rw other at here in
          rw other (omega (arith, as_before, rest, of_before))
    ]

-- a new member of the node is told to each of its listeners
pub letters_solved : (before after : ℕ → List (List ℕ)) (listeners pending : List NodeAsk) (n : ℕ) →
    ((m : ℕ) → length (after m) ≡ length (before m) + cond (m == n) 1 0) →
    letters_sent after listeners pending ≡ letters_sent before listeners pending + length (filter (λ l. l.asked == n) listeners)
letters_solved before after listeners pending n one_more = omega (arith, told_once before after listeners n one_more)
