-- What a search may come to: nothing here says how a search works.
use Rattle.std.specs.Prelude.{ℕ, ◌≤◌, ◌≡◌, ◌⊎◌, List}
use Rattle.names.specs.declared.roles.Role.{Role}
use Rattle.credential_text.specs.declared.credentials.Credential.{Credential}
use Rattle.rt0_rules.specs.Membership.{IsMember, AreMembers}
use Rattle.rt0_rules.specs.Work.{WorkIs, WorkExceeds}
use Rattle.search.specs.declared.queries.Query.{Query}
use Rattle.search.specs.declared.queries.Query.TheVariants.{Ask, Who}

-- what a search has come to
pub data Settled : Type 0 where
  Nothing : Settled
  Yes : Settled
  No : Settled
  Members : List (List ℕ) → Settled
  Spent : Settled
  Broken : Settled

-- the role that is asked about
abbrev pub asked_role : Query → Role
asked_role (Ask role who) = role
asked_role (Who role) = role

-- the answer that RT0's rules give over these credentials
abbrev pub IsTruth : List Credential → Query → Settled → Type 0
IsTruth C (Ask role who) Yes = IsMember C who role
IsTruth C (Ask role who) No = IsMember C who role → ⊥
IsTruth C (Ask role who) _ = ⊥
IsTruth C (Who role) (Members names) = AreMembers C role names
IsTruth C (Who role) _ = ⊥

-- a search ends with the truth where its work is within the limit, as spent where it is not, or as broken
pub data IsEnding (limit : ℕ) (C : List Credential) (query : Query) (s : Settled) : Type 0 where
  answers : (work : ℕ) → WorkIs C (asked_role query) work → work ≤ limit → IsTruth C query s → IsEnding limit C query s
  spends : s ≡ Spent → WorkExceeds C (asked_role query) limit → IsEnding limit C query s
  breaks : s ≡ Broken → IsEnding limit C query s

-- a search settles once: what it has come to stays, and where that is nothing it may come to an end
abbrev pub MaySettle : ℕ → List Credential → Query → Settled → Settled → Type 0
MaySettle limit C query old new = (new ≡ old) ⊎ ((old ≡ Nothing) × IsEnding limit C query new)
