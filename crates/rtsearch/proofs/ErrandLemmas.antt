-- Lemmas on what words ask for.
use Rattle.std.proofs.Common.{◌≡◌, ◌∙◌, ◌&&◌, Bool, true, false, not, List, Option, Some, None, refl, ap, sym, codes}
use Rattle.std.specs.Prelude.{option_map, unwrap_or}
use Rattle.std.specs.Str.{bytes_eq}
use Rattle.std.proofs.lemmas.Slice.Eq.{bytes_eq-Decides}
use Rattle.clap.specs.Words.{Row, Text, one_of, one_text, rows_of}
use Rattle.clap.specs.declared.parser.matches.Found.{Found}
use Rattle.clap.proofs.WalkLemmas.{one_text-rows}
use Rattle.rtsearch.specs.CommandLine.{is_serve, value_of}

-- no argument of a plain command is global
pub third_is_false : (a b c rest : Bool) → (a && (b && (not c && rest))) ≡ true → c ≡ false
third_is_false true true false rest e = refl
third_is_false true true true rest e = cc
third_is_false true false c rest e = cc
third_is_false false b c rest e = cc

module _ {A : Type 0} (name : A → Text) (rows : A → List Row) where
  -- a subcommand of the name `serve`
  pub serve_by_name : (found : Option A) → option_map name found ≡ Some (codes "serve") → is_serve (option_map (λ a. (name a, rows a)) found) ≡ true
  serve_by_name None e = cc
  serve_by_name (Some a) e =
      let is : name a ≡ codes "serve" = ap (λ (o : Option Text). unwrap_or o (name a)) e in
      (bytes_eq-Decides (name a) (codes "serve")).1 is

  -- or of another
  pub other_by_name : (found : Option A) → (option_map name found ≡ Some (codes "serve") → ⊥) → is_serve (option_map (λ a. (name a, rows a)) found) ≡ false
  other_by_name None e = refl
  other_by_name (Some a) e = go (bytes_eq (name a) (codes "serve")) refl
    where
      go : (same : Bool) → bytes_eq (name a) (codes "serve") ≡ same → bytes_eq (name a) (codes "serve") ≡ false
      go true is = absurd (e (ap Some ((bytes_eq-Decides (name a) (codes "serve")).0 is)))
      go false is = is

-- an option of the subcommand, by its rows
value_of-rows : (option : Text) (found : Option (Text × List Row)) (rows : List Row) → option_map (λ p. p.1) found ≡ Some rows → value_of option found ≡ one_of option rows
value_of-rows option None rows e = cc
value_of-rows option (Some p) rows e = ap (λ (o : Option (List Row)). one_of option (unwrap_or o rows)) e

-- what a getter reads of it
pub text_of : (found : Option (Text × List Row)) (serve : Found) → option_map (λ p. p.1) found ≡ Some (rows_of serve) → (option : Text) → one_text serve option ≡ value_of option found
text_of found serve is option = one_text-rows serve option ∙ sym (value_of-rows option found _ is)
