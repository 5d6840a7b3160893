-- What the plain count of a search's work goes through: the asks of each expression, and the members that are told.
use Rattle.std.specs.Prelude.{ℕ, Bool, true, false, Option, Some, None, List, [], ◌∷◌, ◌++◌, map, length, Contains}
use Rattle.std.specs.Prelude.{◌+◌, ◌<◌, ◌≤◌, ◌≡◌, ◌⊎◌, ◌↔◌, cond}
use Rattle.std.specs.List.{flat_map, filter, sum_by}
use Rattle.names.specs.declared.roles.Role.{Role}
use Rattle.credential_text.specs.declared.credentials.Credential.{Credential}
use Rattle.credential_text.specs.declared.intersections.Part.{Part}
use Rattle.credential_text.specs.declared.exprs.Expr.{Expr}
use Rattle.credential_text.specs.declared.exprs.Expr.TheVariants.{Ent, Rol, Link, Meet}
use Rattle.credential_text.specs.Expr.{part_expr}
use Rattle.rt0_rules.specs.declared.facts.Fact.{Fact}
use Rattle.rt0_rules.specs.declared.asks.Ask.{Ask as Asked}
use Rattle.rt0_rules.specs.declared.asks.Why.{Why as Cause}
use Rattle.rt0_rules.specs.declared.asks.Why.TheVariants as cause
use Rattle.rt0_rules.specs.Asks.{Why, for_body, for_base, for_via, for_part}
use Rattle.rt0_rules.specs.Facts.{is_same_role, knows, holds}
use Rattle.rt0_rules.specs.Work.{Ask, IsAsk, AreDistinct, ListsAll, WorkExceeds}

-- the program's reasons and asks, as those of the definitions
abbrev pub why_of : Cause → Why
why_of cause.Body = for_body
why_of cause.Base = for_base
why_of (cause.Via b) = for_via b
why_of (cause.Part i) = for_part i

abbrev pub ask_of : Asked → Ask
ask_of x = record { asker = x.asker; why = why_of x.why; asked = x.asked }

-- what the role asks for the credential
abbrev pub body_asks : Role → Credential → List Asked
body_asks role c = cond (is_same_role c.head role) (record { asker = Rol role; why = cause.Body; asked = c.body } ∷ []) []

-- what the linked role asks: its base
abbrev pub base_ask : Role → List ℕ → List Asked
base_ask base n = record { asker = Link base n; why = cause.Base; asked = Rol base } ∷ []

-- what the linked role asks on behalf of the entity
abbrev pub via_asks : List Fact → Role → List ℕ → List ℕ → List Asked
via_asks facts base n b =
    cond (knows facts base b) (record { asker = Link base n; why = cause.Via b; asked = Rol (record { owner = b; name = n }) } ∷ []) []

-- what the intersection of all the parts asks the part at the place
abbrev pub part_ask : List Part → ℕ → Part → Asked
part_ask all place p = record { asker = Meet all; why = cause.Part place; asked = part_expr p }

-- what the intersection of all the parts asks from the place on, where these parts stand
abbrev pub part_asks : List Part → ℕ → List Part → List Asked
part_asks all place [] = []
part_asks all place (p ∷ ps) = part_ask all place p ∷ part_asks all (place + 1) ps

-- what the expression asks, by the facts
abbrev pub asks_from : List Credential → List Fact → List (List ℕ) → Expr → List Asked
asks_from C facts everyone (Ent d) = []
asks_from C facts everyone (Rol role) = flat_map (body_asks role) C
asks_from C facts everyone (Link base n) = base_ask base n ++ flat_map (via_asks facts base n) everyone
asks_from C facts everyone (Meet parts) = part_asks parts 0 parts

-- the members of the expression, by the facts
abbrev pub members_among : List Fact → List (List ℕ) → Expr → List (List ℕ)
members_among facts everyone e = filter (λ d. holds facts d e) everyone

-- one, and the asks, and the members of what each asks
abbrev pub count_of : List Fact → List (List ℕ) → List Asked → ℕ
count_of facts everyone asks = 1 + length asks + sum_by (λ ask. length (members_among facts everyone ask.asked)) asks

-- the element was appended, unless it stood there
abbrev pub IsWithNew : {X : Type 0} → X → List X → List X → Type 0
IsWithNew x old new = (Contains old x × (new ≡ old)) ⊎ ((Contains old x → ⊥) × (new ≡ old ++ x ∷ []))

-- the elements were appended, but for those that stood there
pub record Adds {X : Type 0} (xs old new : List X) : Type 0 where
  pub more : List X
  pub grown : new ≡ old ++ more
  pub distinct : AreDistinct old → AreDistinct new
  pub exact : (x : X) → Contains new x ↔ (Contains old x ⊎ Contains xs x)

-- all asks of a search, fewer than the limit; or so many that its work exceeds it
abbrev pub IsAskedWithin : List Credential → Role → ℕ → Bool → List Asked → Type 0
IsAskedWithin C role limit true asks = ListsAll (IsAsk C role) (map ask_of asks) × (length asks < limit)
IsAskedWithin C role limit false asks = WorkExceeds C role limit

-- the total, where it is at most the limit
abbrev pub IsCountedWithin : ℕ → ℕ → Option ℕ → Type 0
IsCountedWithin limit total (Some count) = (count ≡ total) × (count ≤ limit)
IsCountedWithin limit total None = limit < total
