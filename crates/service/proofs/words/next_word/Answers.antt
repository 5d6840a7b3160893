-- A word begins where the spaces in front end.
use Rattle.std.proofs.Common.{◌≡◌, ℕ, List, [], ◌∷◌, ◌++◌, Option, None, Some, Bor, IfSome, MatchOption, length, refl, ap, sym, ◌∙◌, arith}
use Rattle.std.specs.List.{before_first, after_first}
use Rattle.std.specs.Option.{unwrap_or}
use Rattle.std.proofs.lemmas.Bool.{eqb-true, eqb-false}
use Rattle.service.specs.Words.{is_space}
use Rattle.service.proofs.WordsLemmas.{words-none, words-cut, after_first-none}
use Rattle.service.proofs.words.next_word.Goals as goal

-- what stands behind a word, or the empty text
behind : (visible word : List ℕ) (rest : Option (Bor (List ℕ))) (empty : Bor (List ℕ)) → empty.now ≡ [] → word ≡ before_first is_space visible →
    IfSome rest (λ r. r.now ≡ after_first is_space visible) → MatchOption rest (visible ≡ word) (λ r. visible ≡ word ++ 32 ∷ r.now) →
    (unwrap_or rest empty).now ≡ after_first is_space visible
behind visible word None empty nothing first after whole = nothing ∙ after_first-none visible (whole ∙ first)
behind visible word (Some r) empty nothing first after whole = after

pub returns-then-is_empty : goal.returns-then-is_empty
returns-then-is_empty c = record {
  found = words-none c.args.text.now (sym (ap length c.trim_start-text.ensures) ∙ eqb-true _ 0 (sym c.if-is_empty.ensures));
  rest = tt;
}

pub returns : goal.returns
returns c =
    let visible = c.trim_start-text.result.now in
    let filled = eqb-false (length visible) 0 (sym c.if-is_empty.ensures) in
    let rest = behind visible c.cut.result.0.now c.cut.result.1 _ refl c.cut.ensures.before c.cut.ensures.after c.cut.ensures.whole in
    let after = ap (λ r. r.now) c.unwrap_or.ensures ∙ rest in
    record {
      found = words-cut c.args.text.now visible c.cut.result.0.now c.unwrap_or.result.now c.trim_start-text.ensures (omega (arith, filled)) c.cut.ensures.before after;
      rest = after ∙ ap (after_first is_space) c.trim_start-text.ensures;
    }
