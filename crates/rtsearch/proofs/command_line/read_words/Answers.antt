-- The words are read as those of the program.
use Rattle.std.proofs.Common.{ℕ, ap, ap₂, refl, codes, true, List, map, [], ◌∷◌, ◌≡◌, ◌∙◌, Option, sym, subst}
use Rattle.std.specs.String.{string_bytes}
use Rattle.std.proofs.lemmas.Result.{err_from_is_err_and}
use Rattle.clap.specs.Words.{App, Row, Text, app_of, fault_of, is_simple, is_simple_and_free, subcommand_of, takes}
use Rattle.clap.proofs.OnLiterals.{clap_on_literals}
use Rattle.rtsearch.specs.CommandLine.{Asks, AsksForScript, HasOptions, is_serve, program}
use Rattle.rtsearch.proofs.OptionLemmas.{options_pass}
use Rattle.rtsearch.proofs.command_line.read_words.Goals as goal

is_taken : (name : Text) → takes program (name ∷ codes "script" ∷ []) ≡ true
unfolding clap_on_literals
is_taken name = refl

simple : is_simple program ≡ true
unfolding clap_on_literals
simple = refl

simple_and_free : is_simple_and_free program ≡ true
unfolding clap_on_literals
simple_and_free = refl

pub returns-in_err-matches-clause-script : goal.returns-in_err-matches-clause-script
returns-in_err-matches-clause-script c =
    let p = err_from_is_err_and c.from_residual-in_err-matches.result c.from_residual-in_err-matches.ensures.1 in
    rw (p.1, p.2)
    (λ (asks : AsksForScript (map string_bytes c.args.words.now)). c.in_err-matches.ensures.passes (ap₂ takes c.in_ok-program.ensures asks.1 ∙ is_taken asks.0))

pub errand_of-requires : goal.errand_of-requires
errand_of-requires c =
    let words : List (List ℕ) = map string_bytes c.args.words.now in
    let is : app_of c.in_ok-program.program ≡ program = c.in_ok-program.ensures in
    let found = (c.in_ok-matches.ensures.matches (ap is_simple is ∙ simple)).1 ∙ ap (λ (a : App). subcommand_of a words) is in
    let fine = ap (λ (a : App). fault_of a words) (sym is) ∙ c.in_ok-matches.ensures.kinds (ap is_simple_and_free is ∙ simple_and_free) in
    subst (λ (f : Option (Text × List Row)). is_serve f ≡ true → HasOptions f) (sym found) (options_pass words fine)

pub returns : goal.returns
returns c =
    let words : List (List ℕ) = map string_bytes c.args.words.now in
    let is : app_of c.in_ok-program.program ≡ program = c.in_ok-program.ensures in
    let found = (c.in_ok-matches.ensures.matches (ap is_simple is ∙ simple)).1 ∙ ap (λ (a : App). subcommand_of a words) is in
    record {
      script = tt;
      accepted = ap (λ (a : App). fault_of a words) (sym is) ∙ c.in_ok-matches.ensures.kinds (ap is_simple_and_free is ∙ simple_and_free);
      refused = tt;
      errand = subst (λ (f : Option (Text × List Row)). Asks f c.errand_of.result) found c.errand_of.ensures;
    }
