-- The letters of a search over numbered expressions, and what makes their number its work.
use Rattle.std.specs.Prelude.{ℕ, List, ◌++◌, ◌+◌, ◌≡◌, length, Contains, Some}
use Rattle.std.specs.List.{slice_get, sum_by}
use Rattle.names.specs.declared.roles.Role.{Role}
use Rattle.credential_text.specs.declared.credentials.Credential.{Credential}
use Rattle.credential_text.specs.declared.exprs.Expr.{Expr}
use Rattle.rt0_rules.specs.Derivation.{Derives}
use Rattle.rt0_rules.specs.Asks.{Why, Demanded}
use Rattle.rt0_rules.specs.Work.{Ask, IsAsk, AreDistinct}

-- an ask between the nodes of two expressions
pub record NodeAsk : Type 0 where
  pub asker : ℕ
  pub why : Why
  pub asked : ℕ

-- the letters that were sent: the first, one for each ask that was heard or is under way, and one for each member of what
-- a listener asked
abbrev pub letters_sent : (ℕ → List (List ℕ)) → List NodeAsk → List NodeAsk → ℕ
letters_sent members listeners pending = 1 + length listeners + length pending + sum_by (λ l. length (members l.asked)) listeners

-- the nodes' ask is this ask of their expressions
pub record IsAskBetween (nodes : List Expr) (a : NodeAsk) (ask : Ask) : Type 0 where
  pub asker : slice_get nodes a.asker ≡ Some ask.asker
  pub why : a.why ≡ ask.why
  pub asked : slice_get nodes a.asked ≡ Some ask.asked

-- whatever was asked and found belongs to the work, and was asked and found once
pub record AreRight (C : List Credential) (role : Role) (nodes : List Expr) (members : ℕ → List (List ℕ))
    (listeners pending : List NodeAsk) : Type 0 where
  pub one_node : (m n : ℕ) (e : Expr) → slice_get nodes m ≡ Some e → slice_get nodes n ≡ Some e → m ≡ n
  pub asks_distinct : AreDistinct (listeners ++ pending)
  pub asks_right : (a : NodeAsk) → Contains (listeners ++ pending) a → (ask : Ask) × IsAskBetween nodes a ask × IsAsk C role ask
  pub members_distinct : (n : ℕ) → AreDistinct (members n)
  pub members_right : (n : ℕ) (d : List ℕ) → Contains (members n) d → (e : Expr) × (slice_get nodes n ≡ Some e) × Derives C d e

-- whatever belongs to the work was asked and found
pub record AreAll (C : List Credential) (role : Role) (nodes : List Expr) (members : ℕ → List (List ℕ))
    (listeners : List NodeAsk) : Type 0 where
  pub asks_heard : (ask : Ask) → IsAsk C role ask → (a : NodeAsk) × Contains listeners a × IsAskBetween nodes a ask
  pub members_known : (n : ℕ) (e : Expr) (d : List ℕ) → slice_get nodes n ≡ Some e → Demanded C role e → Derives C d e →
      Contains (members n) d
