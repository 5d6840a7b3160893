-- The work of a search: one for its role, one for each ask, and one for each member that is told to an asker.
use Rattle.std.specs.Prelude.{ℕ, List, [], ◌∷◌, ◌+◌, ◌<◌, ◌≤◌, ◌≡◌, ◌↔◌, length, Contains, Option, Some, None}
use Rattle.names.specs.declared.roles.Role.{Role}
use Rattle.credential_text.specs.declared.credentials.Credential.{Credential}
use Rattle.credential_text.specs.declared.exprs.Expr.{Expr}
use Rattle.rt0_rules.specs.Derivation.{Derives}
use Rattle.rt0_rules.specs.Asks.{Why, Asks, Demanded}

-- one expression asks another for a reason
pub record Ask : Type 0 where
  pub asker : Expr
  pub why : Why
  pub asked : Expr

-- an entity is told to the asker, as a member of what it asked
pub record Tell : Type 0 where
  pub ask : Ask
  pub who : List ℕ

-- the ask of a demanded expression
abbrev pub IsAsk : List Credential → Role → Ask → Type 0
IsAsk C role ask = Demanded C role ask.asker × Asks C (Derives C) ask.asker ask.why ask.asked

-- a member of what is asked
abbrev pub IsTell : List Credential → Role → Tell → Type 0
IsTell C role tell = IsAsk C role tell.ask × Derives C tell.who tell.ask.asked

-- no element stands there twice
abbrev pub AreDistinct : {X : Type 0} → List X → Type 0
AreDistinct [] = Unit {0}
AreDistinct (x ∷ xs) = (Contains xs x → ⊥) × AreDistinct xs

-- all of which the fact holds, each once
pub record ListsAll {X : Type 0} (P : X → Type 0) (xs : List X) : Type 0 where
  pub distinct : AreDistinct xs
  pub exact : (x : X) → Contains xs x ↔ P x

-- some of which the fact holds, each once
pub record ListsSome {X : Type 0} (P : X → Type 0) (xs : List X) : Type 0 where
  pub distinct : AreDistinct xs
  pub right : (x : X) → Contains xs x → P x

-- the work of a search for the role's members over these credentials
pub record WorkIs (C : List Credential) (role : Role) (work : ℕ) : Type 0 where
  pub asks : List Ask
  pub tells : List Tell
  pub asks_are : ListsAll (IsAsk C role) asks
  pub tells_are : ListsAll (IsTell C role) tells
  pub total : work ≡ 1 + length asks + length tells

-- the work is greater than the limit
pub record WorkExceeds (C : List Credential) (role : Role) (limit : ℕ) : Type 0 where
  pub asks : List Ask
  pub tells : List Tell
  pub asks_are : ListsSome (IsAsk C role) asks
  pub tells_are : ListsSome (IsTell C role) tells
  pub over : limit < 1 + length asks + length tells

-- the work, where it is at most the limit, and none where it is greater
abbrev pub IsWorkWithin : List Credential → Role → ℕ → Option ℕ → Type 0
IsWorkWithin C role limit (Some work) = WorkIs C role work × (work ≤ limit)
IsWorkWithin C role limit None = WorkExceeds C role limit
