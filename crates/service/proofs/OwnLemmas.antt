-- What became of a tenant's own lines, line after line.
use Rattle.std.proofs.Common.{◌≡◌, ℕ, Bool, true, false, cond, List, [], ◌∷◌, ◌++◌, refl, sym, ap, ◌∙◌, subst}
use Rattle.std.specs.Prelude.{◌&&◌, MatchBool}
use Rattle.std.specs.List.{AllZip, list_any, before_first, after_first}
use Rattle.std.specs.Str.Lines.{lines}
use Rattle.std.proofs.lemmas.Bool.{false≢true}
use Rattle.names.specs.Name.{is_same}
use Rattle.names.proofs.SameNames.{same_from_is_same}
use Rattle.service.specs.declared.refusals.Refusal.{Refusal}
use Rattle.service.specs.declared.refusals.Refusal.TheVariants as refusal
use Rattle.service.specs.Line.{Line, text, too_long, not_ascii}
use Rattle.service.specs.Words.{is_colon, trim_start}
use Rattle.service.specs.Command.{Form, form_of}
use Rattle.service.specs.Outcome.{Outcome, nobody, refused, served, IsSaid, IsOutcome}
use Rattle.service.specs.Laws.{said_in, own_lines, is_to, own_outcomes}

-- what a tenant said is told to it
to_speaker : (tenant who : List ℕ) (form : Form) (outcome : Outcome) → IsSaid who form outcome → is_to tenant outcome ≡ is_same who tenant
to_speaker tenant who form (nobody why) is = absurd is
to_speaker tenant who form (refused name why) is = ap (λ (n : List ℕ). is_same n tenant) is.0
to_speaker tenant who form (served name command reply) is = ap (λ (n : List ℕ). is_same n tenant) is.0

-- The outcomes are what these texts may have become, one each, where the tenant said them.
abbrev AreSaid : List ℕ → List (List ℕ) → List Outcome → Type 0
AreSaid tenant texts outcomes = AllZip (λ said outcome. IsSaid tenant (form_of said) outcome) texts outcomes

-- what a command may become, by the name before it
abbrev IsNamed : (List ℕ → Bool) → List ℕ → List ℕ → Outcome → Type 0
IsNamed speaks who said outcome = MatchBool (speaks who) (IsSaid who (form_of said) outcome) (outcome ≡ nobody refusal.BadHello)

module _ (speaks : List ℕ → Bool) (tenant : List ℕ) (own_speaks : speaks tenant ≡ true) (texts : List (List ℕ)) (outcomes : List Outcome) (all : AreSaid tenant texts outcomes) where
  -- a line that names nobody
  said-nobody : (why : Refusal) (outcome : Outcome) → outcome ≡ nobody why → AreSaid tenant texts (cond (is_to tenant outcome) (outcome ∷ outcomes) outcomes)
  said-nobody why outcome is = subst (λ (e : Outcome). AreSaid tenant texts (cond (is_to tenant e) (e ∷ outcomes) outcomes)) (sym is) all

  -- a line with this name before the colon, by whether it speaks and is the tenant's
  said-named : (who said : List ℕ) (outcome : Outcome) (speaker own : Bool) → speaks who ≡ speaker → is_same who tenant ≡ own →
      MatchBool speaker (IsSaid who (form_of said) outcome) (outcome ≡ nobody refusal.BadHello) →
      AreSaid tenant (cond own (said ∷ []) [] ++ texts) (cond (is_to tenant outcome) (outcome ∷ outcomes) outcomes)
  said-named who said outcome false false stranger other is = said-nobody refusal.BadHello outcome is
  said-named who said outcome false true stranger same is =
      absurd (false≢true (sym stranger ∙ ap speaks (same_from_is_same who tenant same) ∙ own_speaks))
  said-named who said outcome true false speaker other is = rw (to_speaker tenant who (form_of said) outcome is, other) all
  said-named who said outcome true true speaker same is =
      rw (to_speaker tenant who (form_of said) outcome is, same)
      (subst (λ (n : List ℕ). IsSaid n (form_of said) outcome) (same_from_is_same who tenant same) is, all)

  said-spoken : (who said : List ℕ) (outcome : Outcome) (colon : Bool) → MatchBool colon (IsNamed speaks who said outcome) (outcome ≡ nobody refusal.Command) →
      AreSaid tenant (cond (colon && is_same who tenant) (said ∷ []) [] ++ texts) (cond (is_to tenant outcome) (outcome ∷ outcomes) outcomes)
  said-spoken who said outcome false is = said-nobody refusal.Command outcome is
  said-spoken who said outcome true is = said-named who said outcome (speaks who) (is_same who tenant) refl refl is

  said-line : (line : Line) (outcome : Outcome) → IsOutcome speaks line outcome → AreSaid tenant (said_in tenant line ++ texts) (cond (is_to tenant outcome) (outcome ∷ outcomes) outcomes)
  said-line too_long outcome is = said-nobody refusal.LineLong outcome is
  said-line not_ascii outcome is = said-nobody refusal.NotAscii outcome is
  said-line (text t) outcome is =
      let line = trim_start t in
      said-spoken (before_first is_colon line) (after_first is_colon line) outcome (list_any is_colon line) is

-- a tenant's own outcomes are what its own lines may have become
pub own_said : (speaks : List ℕ → Bool) (tenant : List ℕ) → speaks tenant ≡ true → (lines : List Line) (outcomes : List Outcome) → AllZip (IsOutcome speaks) lines outcomes →
    AllZip (λ said outcome. IsSaid tenant (form_of said) outcome) (own_lines tenant lines) (own_outcomes tenant outcomes)
own_said speaks tenant own_speaks [] [] all = tt
own_said speaks tenant own_speaks [] (outcome ∷ outcomes) all = absurd all
own_said speaks tenant own_speaks (line ∷ lines) [] all = absurd all
own_said speaks tenant own_speaks (line ∷ lines) (outcome ∷ outcomes) all =
    said-line speaks tenant own_speaks (own_lines tenant lines) (own_outcomes tenant outcomes) (own_said speaks tenant own_speaks lines outcomes all.1) line outcome all.0

-- nothing is told to a name that no tenant has
module _ (speaks : List ℕ → Bool) (tenant : List ℕ) (stranger : speaks tenant ≡ false) where
  not_to : (who said : List ℕ) (outcome : Outcome) (speaker : Bool) → speaks who ≡ speaker → MatchBool speaker (IsSaid who (form_of said) outcome) (outcome ≡ nobody refusal.BadHello) →
      is_to tenant outcome ≡ false
  not_to who said outcome false other is = ap (is_to tenant) is
  not_to who said outcome true speaker is = by (is_same who tenant) refl
    where
      by : (own : Bool) → is_same who tenant ≡ own → is_to tenant outcome ≡ false
      by false other = to_speaker tenant who (form_of said) outcome is ∙ other
      by true same = absurd (false≢true (sym stranger ∙ ap speaks (sym (same_from_is_same who tenant same)) ∙ speaker))

  not_spoken : (who said : List ℕ) (outcome : Outcome) (colon : Bool) → MatchBool colon (IsNamed speaks who said outcome) (outcome ≡ nobody refusal.Command) → is_to tenant outcome ≡ false
  not_spoken who said outcome false is = ap (is_to tenant) is
  not_spoken who said outcome true is = not_to who said outcome (speaks who) refl is

  not_in : (line : Line) (outcome : Outcome) → IsOutcome speaks line outcome → is_to tenant outcome ≡ false
  not_in too_long outcome is = ap (is_to tenant) is
  not_in not_ascii outcome is = ap (is_to tenant) is
  not_in (text t) outcome is =
      let line = trim_start t in
      not_spoken (before_first is_colon line) (after_first is_colon line) outcome (list_any is_colon line) is

  pub own_none : (lines : List Line) (outcomes : List Outcome) → AllZip (IsOutcome speaks) lines outcomes → own_outcomes tenant outcomes ≡ []
  own_none [] [] all = refl
  own_none [] (outcome ∷ outcomes) all = absurd all
  own_none (line ∷ lines) [] all = absurd all
  own_none (line ∷ lines) (outcome ∷ outcomes) all = rw (not_in line outcome all.0) (own_none lines outcomes all.1)
