-- The options of `serve`, where the words have no fault.
use Rattle.std.proofs.Common.{◌≡◌, ◌⊎◌, ℕ, Bool, cond, codes, true, false, refl, List, [], ◌∷◌, Option, Some, None, inl, inr, slice_index_or, option_map}
use Rattle.std.specs.Option.{option_map_or}
use Rattle.std.specs.List.{AllByRecursion}
use Rattle.clap.specs.Facts.{parser_of_value}
use Rattle.clap.specs.Values.{Accepts, read_as}
use Rattle.clap.specs.Walk.{Row, Rule, Text, answers_to, arg_by_id, has_row, nothing_held, one_of, reading_by, rows_after, settled, stop_after, walk}
use Rattle.clap.specs.Simple.{Shape, argument_words, built, entered, label_of, names_of, new_rule, new_shape, rows_at}
use Rattle.clap.specs.Faults.{entered_fault, level_fault}
use Rattle.clap.specs.declared.error.kind.ErrorKind.TheVariants.{DisplayHelp}
use Rattle.clap.proofs.ValueTestLemmas.{accepts-Accepts}
use Rattle.rtsearch.specs.CommandLine.{HasOptions, IsCommandLine, is_serve, port_test, program, threads_test}
use Rattle.rtsearch.specs.CommandLine as line
use Rattle.rtsearch.proofs.PassedValues.{IsTested, RowsPass, both_pass, never_used, no_value, one_value, rows_pass, usual_is_there, value_in}

-- the subcommand at a place, as it is built
abbrev sub : ℕ → Shape
sub place = slice_index_or (built program).subs place (new_shape [])

abbrev serve : Shape
serve = sub 1

-- its option at a place
abbrev rule : ℕ → Rule
rule place = slice_index_or serve.rules place (new_rule [])

tested : AllByRecursion (IsTested serve.rules) serve.rules
tested = (
  record { named = refl; used = one_value (rule 0) refl refl; usual = λ some. accepts-Accepts false port_test (codes "0") refl },
  (
    record { named = refl; used = one_value (rule 1) refl refl; usual = λ some. accepts-Accepts false threads_test (codes "4") refl },
    (
      record { named = refl; used = one_value (rule 2) refl refl; usual = λ some. accepts-Accepts false threads_test (codes "8") refl },
      (
        record { named = refl; used = one_value (rule 3) refl refl; usual = λ some. cc },
        (
          record { named = refl; used = one_value (rule 4) refl refl; usual = λ some. cc },
          (
            record { named = refl; used = never_used (rule 5) DisplayHelp (λ again values rows. refl); usual = λ some. cc },
            tt,
          ),
        ),
      ),
    ),
  ),
)

-- where words after `serve` have no fault
options : (words : List Text) → level_fault serve [] nothing_held words false [] ≡ [] → HasOptions (Some (rows_at serve words))
options words e =
    let rows : List Row = rows_after serve.rules [] words in
    let before = (settled serve.rules (walk serve.rules [] nothing_held words).held).rows in
    let pass : RowsPass serve.rules rows = rows_pass serve [] tested words e in (
      value_in serve.rules (rule 0) rows refl pass (usual_is_there [] (rule 0) (rule 1 ∷ rule 2 ∷ rule 3 ∷ rule 4 ∷ rule 5 ∷ []) before refl),
      value_in serve.rules (rule 1) rows refl pass (usual_is_there (rule 0 ∷ []) (rule 1) (rule 2 ∷ rule 3 ∷ rule 4 ∷ rule 5 ∷ []) before refl),
      value_in serve.rules (rule 2) rows refl pass (usual_is_there (rule 0 ∷ rule 1 ∷ []) (rule 2) (rule 3 ∷ rule 4 ∷ rule 5 ∷ []) before refl),
      perhaps (rule 3) refl rows pass (has_row (rule 3).id rows) refl,
      perhaps (rule 4) refl rows pass (has_row (rule 4).id rows) refl,
    )
  where
    -- an option without a usual value
    perhaps : (a : Rule) → arg_by_id serve.rules a.id ≡ Some a → (rows : List Row) → RowsPass serve.rules rows → (b : Bool) → has_row a.id rows ≡ b
        → (one_of a.id rows ≡ None) ⊎ ((v : Text) × (one_of a.id rows ≡ Some (read_as (reading_by a) v)) × Accepts a.ignore_case (parser_of_value a.parser) v)
    perhaps a named rows pass true is = inr (value_in serve.rules a rows named pass is)
    perhaps a named rows pass false is = inl (no_value a.id rows is)

-- the subcommand that the words name
entered_options : (stop : Option (Text × List Text)) → entered_fault (built program) stop ≡ [] → is_serve (entered (built program) stop) ≡ true → HasOptions (entered (built program) stop)
entered_options None e named = cc
entered_options (Some p) e named = go (answers_to p.0 (label_of (sub 0))) (answers_to p.0 (label_of serve)) (answers_to p.0 (label_of (sub 2))) e named
  where
    met : Bool → Bool → Bool → Option Shape
    met a b c = cond a (Some (sub 0)) (cond b (Some serve) (cond c (Some (sub 2)) None))

    go : (a b c : Bool) → option_map_or (λ s. level_fault s [] nothing_held p.1 false []) (met a b c) [] ≡ [] → is_serve (option_map (λ s. rows_at s p.1) (met a b c)) ≡ true
        → HasOptions (option_map (λ s. rows_at s p.1) (met a b c))
    go true b c e named = cc
    go false true c e named = options p.1 e
    go false false true e named = cc
    go false false false e named = cc

-- of words without a fault that name it
pub options_pass : (words : List Text) → IsCommandLine words → is_serve (line.entered words) ≡ true → HasOptions (line.entered words)
options_pass words fine named =
    entered_options (stop_after (built program).top.rules (names_of (built program)) (argument_words program words)) (both_pass _ _ (both_pass _ _ fine).1).0 named
