-- The entity by whom the facts put another into a linked role.
use Rattle.std.proofs.Common.{ℕ, Bool, true, List, ◌<◌, ◌≡◌, ◌&&◌, refl, sym, subst, length, get_or}
use Rattle.std.specs.List.{Any}
use Rattle.std.proofs.lemmas.Bool.{and_parts, and_from}
use Rattle.std.proofs.lemmas.List.Folds.{Any-from_list_any, list_any_at}
use Rattle.names.specs.declared.roles.Role.{Role}
use Rattle.rt0_rules.specs.declared.facts.Fact.{Fact}
use Rattle.rt0_rules.specs.Facts.{is_same_role, says, knows, holds_link}
use Rattle.names.proofs.SameNames.{is_same_itself}
use Rattle.rt0_rules.proofs.SameTexts.{role_itself, said}

-- the facts have somebody in the base, and d in their role of this name
pub record LinksBy (facts : List Fact) (base : Role) (n d : List ℕ) : Type 0 where
  pub who : List ℕ
  pub in_base : knows facts base who ≡ true
  pub in_role : knows facts (record { owner = who; name = n }) d ≡ true

-- a fact puts d into the role, at some place
record IsStated (facts : List Fact) (role : Role) (d : List ℕ) : Type 0 where
  place : ℕ
  fact : Fact
  within : place < length facts
  there : get_or facts place fact ≡ fact
  says_so : says role d fact ≡ true

stated : (facts : List Fact) (role : Role) (d : List ℕ) → knows facts role d ≡ true → IsStated facts role d
stated facts role d known =
    let at : Any (λ fact. says role d fact ≡ true) facts = Any-from_list_any (says role d) facts known in
    record { place = at.0; fact = at.1; within = at.2; there = at.3; says_so = at.4 }

pub links_by : (facts : List Fact) (base : Role) (n d : List ℕ) → holds_link facts d base n ≡ true → LinksBy facts base n d
links_by facts base n d held =
    let test : Fact → Bool = λ fact. is_same_role fact.role base && knows facts (record { owner = fact.who; name = n }) d in
    let at : Any (λ fact. test fact ≡ true) facts = Any-from_list_any test facts held in
    let fact : Fact = at.1 in
    let both : (is_same_role fact.role base ≡ true) × (knows facts (record { owner = fact.who; name = n }) d ≡ true) = and_parts _ _ at.4 in
    record {
      who = fact.who;
      in_base = list_any_at (says base fact.who) facts at.0 fact at.2
          (subst (λ (f : Fact). says base fact.who f ≡ true) (sym at.3) (and_from _ _ both.0 (is_same_itself fact.who fact.who refl)));
      in_role = both.1;
    }

pub held_by : (facts : List Fact) (base : Role) (n d b : List ℕ) → knows facts base b ≡ true → knows facts (record { owner = b; name = n }) d ≡ true → holds_link facts d base n ≡ true
held_by facts base n d b in_base in_role =
    let at : IsStated facts base b = stated facts base b in_base in
    let fact : Fact = at.fact in
    let is : (fact.role ≡ base) × (fact.who ≡ b) = said base b fact at.says_so in
    let test : Fact → Bool = λ f. is_same_role f.role base && knows facts (record { owner = f.who; name = n }) d in
    let same : is_same_role fact.role base ≡ true = subst (λ (r : Role). is_same_role fact.role r ≡ true) is.0 (role_itself fact.role) in
    let known : knows facts (record { owner = fact.who; name = n }) d ≡ true = subst (λ (w : List ℕ). knows facts (record { owner = w; name = n }) d ≡ true) (sym is.1) in_role in
    list_any_at test facts at.place fact at.within (subst (λ (f : Fact). test f ≡ true) (sym at.there) (and_from _ _ same known))
