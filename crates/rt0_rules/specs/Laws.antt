-- What holds of membership and of work by their definitions alone.
use Rattle.std.specs.Prelude.{ℕ, List, ◌<◌, ◌≤◌, ◌≡◌, ◌↔◌, Contains}
use Rattle.names.specs.declared.roles.Role.{Role}
use Rattle.credential_text.specs.declared.credentials.Credential.{Credential}
use Rattle.rt0_rules.specs.Membership.{IsMember, AreMembers}
use Rattle.rt0_rules.specs.Work.{WorkIs, WorkExceeds}

-- a role has one list of members over a list of credentials
abbrev pub MembersAreOne : Type 0
MembersAreOne = (C : List Credential) (role : Role) (ds es : List (List ℕ)) → AreMembers C role ds → AreMembers C role es → ds ≡ es

-- who is a member stays one when credentials are added
abbrev pub MoreCredentialsKeepMembers : Type 0
MoreCredentialsKeepMembers =
    (C D : List Credential) → ((c : Credential) → Contains C c → Contains D c) →
    (d : List ℕ) (role : Role) → IsMember C d role → IsMember D d role

-- the order of the credentials, and how often one stands there, doesn't matter
abbrev pub OrderAndRepeatsDontMatter : Type 0
OrderAndRepeatsDontMatter =
    (C D : List Credential) → ((c : Credential) → Contains C c ↔ Contains D c) →
    (d : List ℕ) (role : Role) → IsMember C d role ↔ IsMember D d role

-- a search has one work
abbrev pub WorkIsOne : Type 0
WorkIsOne = (C : List Credential) (role : Role) (m n : ℕ) → WorkIs C role m → WorkIs C role n → m ≡ n

-- work within the limit doesn't exceed it
abbrev pub WithinDoesNotExceed : Type 0
WithinDoesNotExceed =
    (C : List Credential) (role : Role) (work limit : ℕ) → WorkIs C role work → work ≤ limit → WorkExceeds C role limit → ⊥

-- work above the limit exceeds it
abbrev pub AboveExceeds : Type 0
AboveExceeds = (C : List Credential) (role : Role) (work limit : ℕ) → WorkIs C role work → limit < work → WorkExceeds C role limit
