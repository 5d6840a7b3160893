-- Texts, roles and facts that the tests call the same.
use Rattle.std.proofs.Common.{ℕ, true, List, ◌≡◌, refl}
use Rattle.std.proofs.lemmas.Bool.{and_parts, and_from}
use Rattle.names.specs.declared.roles.Role.{Role}
use Rattle.rt0_rules.specs.declared.facts.Fact.{Fact}
use Rattle.names.specs.Name.{is_same}
use Rattle.names.proofs.SameNames.{same_from_is_same, is_same_itself}
use Rattle.rt0_rules.specs.Facts.{is_same_role, says}

pub same_role : (r s : Role) → is_same_role r s ≡ true → r ≡ s
same_role r s e =
    let both : (is_same r.owner s.owner ≡ true) × (is_same r.name s.name ≡ true) = and_parts _ _ e in
    λ i. record { owner = same_from_is_same r.owner s.owner both.0 i; name = same_from_is_same r.name s.name both.1 i }

pub role_itself : (r : Role) → is_same_role r r ≡ true
role_itself r = and_from _ _ (is_same_itself r.owner r.owner refl) (is_same_itself r.name r.name refl)

-- what a fact says
pub said : (role : Role) (d : List ℕ) (fact : Fact) → says role d fact ≡ true → (fact.role ≡ role) × (fact.who ≡ d)
said role d fact e =
    let both : (is_same_role fact.role role ≡ true) × (is_same fact.who d ≡ true) = and_parts _ _ e in
    (same_role fact.role role both.0, same_from_is_same fact.who d both.1)

pub says_itself : (fact : Fact) → says fact.role fact.who fact ≡ true
says_itself fact = and_from _ _ (role_itself fact.role) (is_same_itself fact.who fact.who refl)
