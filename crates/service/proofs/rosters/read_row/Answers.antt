-- A word isn't as in a tenant's line, or what stands after the words are no limits.
use Rattle.std.proofs.Common.{◌≡◌, ◌∙◌, ap, sym, ℕ, Bool, List, [], ◌∷◌, codes, true, false, arith, rules}
use Rattle.std.specs.Str.{bytes_eq}
use Rattle.quotas.specs.Quota.{Quota}
use Rattle.service.specs.Roster.{RosterLine, IsRow, IsLimits}
use Rattle.service.specs.Words.{words}
use Rattle.service.proofs.rosters.read_row.Goals as goal
use Rattle.service.proofs.rosters.read_row.Goals.{in_default-via-in-None-1, in_default-via-in-Some+else-is_same, in_default-via-in-Some+then-is_same+in-None-1, in_default-via-in-Some+then-is_same+in-Some-next_word+in-None-1, in_default-via-in-Some+then-is_same+in-Some-next_word+in-Some-next_word-2+else-word-le-MOST_WORD, in_default-via-in-Some+then-is_same+in-Some-next_word+in-Some-next_word-2+then-word-le-MOST_WORD+in-Err-1, in_default-via-in-Some+then-is_same+in-Some-next_word+in-Some-next_word-2+then-word-le-MOST_WORD+in-Ok+in-None-1}

apart : {b : Bool} → b ≡ false → b ≡ true → ⊥
apart is other = cc

-- a tenant's line has three words at least, and the first is `tenant`
module _ (line : List ℕ) (row : RosterLine) (is : IsRow line row) where
  none : words line ≡ [] → ⊥
  none empty = let tenant = is.by_words in cc

  module _ (first rest : List ℕ) (found : words line ≡ first ∷ words rest) where
    first_is : first ≡ codes "tenant"
    first_is = let tenant = is.by_words in cc

    no_name : words rest ≡ [] → ⊥
    no_name empty = let tenant = is.by_words in cc

    module _ (name behind : List ℕ) (second : words rest ≡ name ∷ words behind) where
      name_is : row.name ≡ name
      name_is = let tenant = is.by_words in cc

      no_word : words behind ≡ [] → ⊥
      no_word empty = let tenant = is.by_words in cc

      module _ (word more : List ℕ) (third : words behind ≡ word ∷ words more) where
        word_is : row.word ≡ word
        word_is = let tenant = is.by_words in cc

        numbers_are : is.numbers ≡ words more
        numbers_are = let tenant = is.by_words in cc

pub returns-2 : goal.returns-2
returns-2 c = record {
  some = tt;
  none = λ row is.
      elim c.in_default.branch [
        | in_default-via-in-None-1 w ↦ none c.args.text.now row is (search rules)
        | in_default-via-in-Some+else-is_same w ↦
            apart (sym w.is_same.ensures ∙ w.if-is_same.false)
            (ap (λ word. bytes_eq word (codes "tenant")) (first_is c.args.text.now row is w.in-Some.first.now w.in-Some.rest.now w.in-Some.ensures.found))
        | in_default-via-in-Some+then-is_same+in-None-1 w ↦
            no_name c.args.text.now row is w.in-Some.first.now w.in-Some.rest.now w.in-Some.ensures.found (search rules)
        | in_default-via-in-Some+then-is_same+in-Some-next_word+in-None-1 w ↦
            no_word c.args.text.now row is w.in-Some.first.now w.in-Some.rest.now w.in-Some.ensures.found
            w.in-Some-next_word.name.now w.in-Some-next_word.rest.now w.in-Some-next_word.ensures.found (search rules)
        | in_default-via-in-Some+then-is_same+in-Some-next_word+in-Some-next_word-2+else-word-le-MOST_WORD w ↦
            let same = word_is c.args.text.now row is w.in-Some.first.now w.in-Some.rest.now w.in-Some.ensures.found
            w.in-Some-next_word.name.now w.in-Some-next_word.rest.now w.in-Some-next_word.ensures.found
            w.in-Some-next_word-2.word.now w.in-Some-next_word-2.rest.now w.in-Some-next_word-2.ensures.found in
            absurd (omega (arith, w.if-word-le-MOST_WORD.false, rw same at is.short))
        | in_default-via-in-Some+then-is_same+in-Some-next_word+in-Some-next_word-2+then-word-le-MOST_WORD+in-Err-1 w ↦
            let same = name_is c.args.text.now row is w.in-Some.first.now w.in-Some.rest.now w.in-Some.ensures.found
            w.in-Some-next_word.name.now w.in-Some-next_word.rest.now w.in-Some-next_word.ensures.found in
            let name = rw same at is.is_name in absurd (search rules)
        | in_default-via-in-Some+then-is_same+in-Some-next_word+in-Some-next_word-2+then-word-le-MOST_WORD+in-Ok+in-None-1 w ↦
            let numbers = numbers_are c.args.text.now row is w.in-Some.first.now w.in-Some.rest.now w.in-Some.ensures.found
            w.in-Some-next_word.name.now w.in-Some-next_word.rest.now w.in-Some-next_word.ensures.found
            w.in-Some-next_word-2.word.now w.in-Some-next_word-2.rest.now w.in-Some-next_word-2.ensures.found in
            let limits = rw numbers at is.limits in
            let none : (q : Quota) → IsLimits (words w.in-Some-next_word-2.rest.now) q → ⊥ = search rules in none row.limits limits
      ];
}
