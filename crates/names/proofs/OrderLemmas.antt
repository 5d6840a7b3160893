-- Orders in which two are tied only where they are equal.
use Rattle.std.proofs.Common.{◌≡◌, refl, subst}
use Rattle.std.specs.declared.cmp.Ordering.{Ordering}
use Rattle.std.specs.declared.cmp.Ordering.TheVariants.{Less, Equal, Greater}
use Rattle.std.specs.Ordering.{ordering_then}
use Rattle.std.specs.Cmp.{IsTotalOrder}
use Rattle.std.specs.FinMap.{IsAntisymmetric, nat_cmp-IsAntisymmetric, slice_cmp-IsAntisymmetric}
use Rattle.std.proofs.lemmas.Cmp.{tied_itself, nat_list_cmp_total, then_total, on_total}
use Rattle.names.specs.Name.{name_order}
use Rattle.names.specs.Role.{role_order}
use Rattle.names.specs.Order.{IsOrder}

-- a total order is one where its ties are equal
pub order_from : {K : Type 0} {compare : K → K → Ordering} → IsTotalOrder compare → IsAntisymmetric compare → IsOrder compare
order_from {compare = compare} total tied = record {
  reversed = total.antisymm;
  transitive = total.trans;
  tied = λ x y. (tied x y, λ (same : x ≡ y). subst (λ z. compare x z ≡ Equal) same (tied_itself total x));
}

-- both of two orders are tied where the one after the other is
pub both_tied : (a b : Ordering) → ordering_then a b ≡ Equal → (a ≡ Equal) × (b ≡ Equal)
both_tied Less b e = cc
both_tied Equal b e = (refl, e)
both_tied Greater b e = cc

pub name_order_tied : IsAntisymmetric name_order
name_order_tied = slice_cmp-IsAntisymmetric nat_cmp-IsAntisymmetric

pub role_order_tied : IsAntisymmetric role_order
role_order_tied r s e =
    let both : (name_order r.owner s.owner ≡ Equal) × (name_order r.name s.name ≡ Equal) = both_tied _ _ e in
    λ i. record { owner = name_order_tied r.owner s.owner both.0 i; name = name_order_tied r.name s.name both.1 i }

pub names_in_order : IsOrder name_order
names_in_order = order_from nat_list_cmp_total name_order_tied

pub roles_in_order : IsOrder role_order
roles_in_order = order_from (then_total (on_total (λ r. r.owner) nat_list_cmp_total) (on_total (λ r. r.name) nat_list_cmp_total)) role_order_tied
