-- The text of a proof: a line for each step. In text, steps are counted from 1.
use Rattle.std.specs.Prelude.{ℕ, ◌+◌, List, [], ◌∷◌, ◌++◌, slice_get, codes}
use Rattle.std.specs.List.{flat_map}
use Rattle.std.specs.Option.{option_map_or}
use Rattle.std.specs.Fmt.{decimal}
use Rattle.credential_text.specs.declared.exprs.Expr.{Expr}
use Rattle.credential_text.specs.Expr.{expr_text}
use Rattle.proof_trees.specs.declared.steps.Step.{Step}
use Rattle.proof_trees.specs.declared.steps.Rule.{Rule}
use Rattle.proof_trees.specs.declared.steps.Rule.TheVariants.{Leaf, Cred, Link, Parts}

-- the credential of this head whose body is what the step at the place claims; where there is no step, nothing stands for it
abbrev pub cited_text : List Step → Expr → ℕ → List ℕ
cited_text steps head place = expr_text head ++ codes " <- " ++ option_map_or (λ s. expr_text s.claim) (slice_get steps place) []

-- the numbers of the steps at these places, with a space before each
abbrev pub numbers_text : List ℕ → List ℕ
numbers_text places = flat_map (λ place. 32 ∷ decimal (place + 1)) places

-- the rule by which the steps give the claim
abbrev pub rule_text : List Step → Expr → Rule → List ℕ
rule_text steps claim Leaf = codes "itself"
rule_text steps claim (Cred place) = cited_text steps claim place ++ codes " from" ++ numbers_text (place ∷ [])
rule_text steps claim (Link base role) = codes "link from" ++ numbers_text (base ∷ role ∷ [])
rule_text steps claim (Parts places) = codes "parts from" ++ numbers_text places

-- the line of a step: its number, its entity, what that is in, and by which rule
abbrev pub line_text : List Step → ℕ → Step → List ℕ
line_text steps number s =
    decimal number ++ codes " " ++ s.who ++ codes " in " ++ expr_text s.claim ++ codes " by " ++ rule_text steps s.claim s.rule ++ 10 ∷ []

-- the lines of these of the steps, from this number on
abbrev pub lines_from : List Step → ℕ → List Step → List ℕ
lines_from steps number [] = []
lines_from steps number (s ∷ rest) = line_text steps number s ++ lines_from steps (number + 1) rest

-- the lines of a proof, one for each step, counted from 1
abbrev pub proof_text : List Step → List ℕ
proof_text steps = lines_from steps 1 steps
