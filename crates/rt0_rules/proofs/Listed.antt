-- The set of the members that the facts have.
use Rattle.std.proofs.Common.{ℕ, Bool, true, false, List, ◌+◌, ◌<◌, ◌≡◌, ◌∙◌, ◌||◌, ◌&&◌, ◌↔◌, sym, ap, refl, cond, length, take, get_or, Result, IfOk, Ok, Err}
use Rattle.std.specs.List.{Contains}
use Rattle.std.specs.Ordering.{is_eq}
use Rattle.std.specs.BTreeSet.{BTreeSet, contains}
use Rattle.std.proofs.lemmas.Cmp.{nat_list_cmp_total}
use Rattle.std.proofs.lemmas.List.Folds.{list_any_more}
use Rattle.std.proofs.lemmas.Map.Text.{is_eq-slice_cmp}
use Rattle.std.proofs.lemmas.Map.Views.{btree_set_contains_iff}
use Rattle.names.specs.declared.roles.Role.{Role}
use Rattle.names.specs.Name.{name_order, is_same}
use Rattle.names.proofs.OrderLemmas.{name_order_tied}
use Rattle.rt0_rules.specs.declared.facts.Fact.{Fact}
use Rattle.rt0_rules.specs.Facts.{is_same_role, says, knows}

-- one fact more of those that are looked at
knows_more : (facts : List Fact) (i : ℕ) (fact : Fact) (role : Role) (d : List ℕ) → i < length facts → fact ≡ get_or facts i fact →
    knows (take (i + 1) facts) role d ≡ (knows (take i facts) role d || says role d fact)
knows_more facts i fact role d within is =
    list_any_more (says role d) facts i fact within ∙ ap (λ (f : Fact). knows (take i facts) role d || says role d f) (sym is)

of_same_role : (known role same : Bool) → role ≡ true → cond same true known ≡ (known || (role && same))
of_same_role true role true e = refl
of_same_role true role false e = refl
of_same_role false true true e = refl
of_same_role false true false e = refl
of_same_role false false same e = cc

of_other_role : (known role same : Bool) → role ≡ false → known ≡ (known || (role && same))
of_other_role true role same e = refl
of_other_role false true same e = cc
of_other_role false false same e = refl

-- a fact about the role puts its entity into the set
pub put_step : (facts : List Fact) (i : ℕ) (fact : Fact) (role : Role) (d : List ℕ) (before after : Bool) →
    i < length facts → fact ≡ get_or facts i fact → is_same_role fact.role role ≡ true →
    before ≡ knows (take i facts) role d → after ≡ cond (is_eq (name_order fact.who d)) true before → after ≡ knows (take (i + 1) facts) role d
put_step facts i fact role d before after within is same so_far now =
    now ∙ ap (λ (b : Bool). cond b true before) (is_eq-slice_cmp fact.who d) ∙ of_same_role before (is_same_role fact.role role) (is_same fact.who d) same
    ∙ ap (λ (b : Bool). b || says role d fact) so_far ∙ sym (knows_more facts i fact role d within is)

-- a fact about another role changes nothing
pub skip_step : (facts : List Fact) (i : ℕ) (fact : Fact) (role : Role) (d : List ℕ) (before : Bool) →
    i < length facts → fact ≡ get_or facts i fact → is_same_role fact.role role ≡ false →
    before ≡ knows (take i facts) role d → before ≡ knows (take (i + 1) facts) role d
skip_step facts i fact role d before within is other so_far =
    of_other_role before (is_same_role fact.role role) (is_same fact.who d) other
    ∙ ap (λ (b : Bool). b || says role d fact) so_far ∙ sym (knows_more facts i fact role d within is)

-- what the set holds stands in its list
pub listed_iff : (set : BTreeSet (List ℕ)) (d : List ℕ) → (contains name_order set d ≡ true) ↔ Contains set.keys d
listed_iff set d = btree_set_contains_iff nat_list_cmp_total name_order_tied set d

pub both_if_ok : {T E : Type 0} (r : Result T E) (P Q : T → Type 0) → IfOk r P → IfOk r Q → IfOk r (λ x. P x × Q x)
both_if_ok (Ok x) P Q p q = (p, q)
both_if_ok (Err e) P Q p q = p
