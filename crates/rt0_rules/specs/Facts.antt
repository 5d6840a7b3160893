-- The memberships that were found so far, and what one rule gives from them.
use Rattle.std.specs.Prelude.{ℕ, Bool, true, false, List, [], ◌∷◌, ◌≡◌, ◌&&◌, not, All, Contains, find, None}
use Rattle.std.specs.List.{list_any, list_all, flat_map}
use Rattle.names.specs.declared.roles.Role.{Role}
use Rattle.credential_text.specs.declared.credentials.Credential.{Credential}
use Rattle.credential_text.specs.declared.exprs.Expr.{Expr}
use Rattle.credential_text.specs.declared.exprs.Expr.TheVariants as expr
use Rattle.credential_text.specs.declared.intersections.Part.{Part}
use Rattle.credential_text.specs.declared.intersections.Part.TheVariants as part
use Rattle.names.specs.Name.{is_same}
use Rattle.rt0_rules.specs.declared.facts.Fact.{Fact}
use Rattle.rt0_rules.specs.Membership.{IsMember}

-- the same owner and the same role name
abbrev pub is_same_role : Role → Role → Bool
is_same_role r s = is_same r.owner s.owner && is_same r.name s.name

-- the fact is that d is in the role
abbrev pub says : Role → List ℕ → Fact → Bool
says role d fact = is_same_role fact.role role && is_same fact.who d

-- it is among the facts that d is in the role
abbrev pub knows : List Fact → Role → List ℕ → Bool
knows facts role d = list_any (says role d) facts

-- somebody that the facts have in the base has d in its role of this name
abbrev pub holds_link : List Fact → List ℕ → Role → List ℕ → Bool
holds_link facts d base n =
    list_any (λ fact. is_same_role fact.role base && knows facts (record { owner = fact.who; name = n }) d) facts

-- one rule gives from the facts that d is in the part
abbrev pub holds_part : List Fact → List ℕ → Part → Bool
holds_part facts d (part.Ent e) = is_same e d
holds_part facts d (part.Rol r) = knows facts r d
holds_part facts d (part.Link base n) = holds_link facts d base n

-- there is a part at all
abbrev pub has_part : List Part → Bool
has_part [] = false
has_part (p ∷ ps) = true

-- one rule gives from the facts that d is in the expression
abbrev pub holds : List Fact → List ℕ → Expr → Bool
holds facts d (expr.Ent e) = is_same e d
holds facts d (expr.Rol r) = knows facts r d
holds facts d (expr.Link base n) = holds_link facts d base n
holds facts d (expr.Meet ps) = has_part ps && list_all (holds_part facts d) ps

-- the credential gives d a membership that isn't known
abbrev pub is_owed : List Fact → Credential → List ℕ → Bool
is_owed facts c d = holds facts d c.body && not (knows facts c.head d)

-- no credential gives one of the entities a membership that isn't known
abbrev pub IsClosed : List Credential → List (List ℕ) → List Fact → Type 0
IsClosed C entities facts = All (λ c. find (is_owed facts c) entities ≡ None) C

-- a credential gives one of the entities this membership, and it isn't known
pub record IsOwed (C : List Credential) (entities : List (List ℕ)) (facts : List Fact) (fact : Fact) : Type 0 where
  pub credential : Credential
  pub among : Contains C credential
  pub head : fact.role ≡ credential.head
  pub listed : Contains entities fact.who
  pub owed : is_owed facts credential fact.who ≡ true

-- each fact is a membership
abbrev pub IsSound : List Credential → List Fact → Type 0
IsSound C facts = (role : Role) (d : List ℕ) → knows facts role d ≡ true → IsMember C d role

-- the entities that stand in a part
abbrev pub entities_in_part : Part → List (List ℕ)
entities_in_part (part.Ent e) = e ∷ []
entities_in_part (part.Rol r) = []
entities_in_part (part.Link base n) = []

-- the entities that stand in an expression
abbrev pub entities_in : Expr → List (List ℕ)
entities_in (expr.Ent e) = e ∷ []
entities_in (expr.Rol r) = []
entities_in (expr.Link base n) = []
entities_in (expr.Meet ps) = flat_map entities_in_part ps

-- the entities that stand in the bodies of the credentials
abbrev pub all_entities : List Credential → List (List ℕ)
all_entities C = flat_map (λ c. entities_in c.body) C
