-- Sound facts from which nothing more follows have just the members of a role.
use Rattle.std.proofs.Common.{ℕ, true, List, ◌≡◌, ◌∙◌, sym, subst}
use Rattle.std.specs.List.{Contains}
use Rattle.std.specs.List.Sorted.{IsStrictlySortedBy}
use Rattle.std.specs.BTreeSet.{BTreeSet, contains}
use Rattle.names.specs.Name.{name_order}
use Rattle.names.specs.declared.roles.Role.{Role}
use Rattle.credential_text.specs.declared.credentials.Credential.{Credential}
use Rattle.credential_text.specs.declared.exprs.Expr.TheVariants.{Rol}
use Rattle.rt0_rules.specs.declared.facts.Fact.{Fact}
use Rattle.rt0_rules.specs.Membership.{IsMember, AreMembers}
use Rattle.rt0_rules.specs.Facts.{knows, IsSound, IsClosed, all_entities}
use Rattle.rt0_rules.proofs.Elements.{Contains-none}
use Rattle.rt0_rules.proofs.Complete.{IsFound, complete}
use Rattle.rt0_rules.proofs.Listed.{listed_iff}

-- a membership is known
member_known : (C : List Credential) (facts : List Fact) → IsClosed C (all_entities C) facts → (d : List ℕ) (role : Role) → IsMember C d role → knows facts role d ≡ true
member_known C facts closed d role member =
    let found : IsFound (all_entities C) facts d (Rol role) = complete C facts closed d (Rol role) member (record { each = λ w has. absurd (Contains-none w has) }) in
    found.holds

-- what the set that the facts give for a role is
pub record HoldsKnown (facts : List Fact) (role : Role) (set : BTreeSet (List ℕ)) : Type 0 where
  pub same : (d : List ℕ) → contains name_order set d ≡ knows facts role d

pub are_members : (C : List Credential) (facts : List Fact) (role : Role) (set : BTreeSet (List ℕ)) (members : List (List ℕ)) →
    IsSound C facts → IsClosed C (all_entities C) facts → HoldsKnown facts role set →
    members ≡ set.keys → IsStrictlySortedBy name_order members → AreMembers C role members
are_members C facts role set members sound closed known keys in_order = record {
  in_order = in_order;
  exact = λ d. (
    λ among. sound role d (sym (known.same d) ∙ (listed_iff set d).1 (subst (λ ks. Contains ks d) keys among)),
    λ member. subst (λ ks. Contains ks d) (sym keys) ((listed_iff set d).0 (known.same d ∙ member_known C facts closed d role member)),
  );
}
