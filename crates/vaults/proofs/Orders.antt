-- The orders of names and of credentials tell their elements apart.
use Rattle.std.proofs.Common.{ap}
use Rattle.std.specs.declared.cmp.Ordering.{Ordering}
use Rattle.std.proofs.lemmas.Cmp.{nat_list_cmp_total}
use Rattle.names.specs.Name.{name_order}
use Rattle.names.specs.Order.{IsOrder}
use Rattle.names.proofs.OrderLemmas.{name_order_tied}
use Rattle.credential_text.specs.Credential.{credential_order}
use Rattle.credential_text.proofs.OrderLemmas.{credentials_in_order}
use Rattle.vaults.proofs.Elements.{IsExactOrder}

exact_from : {K : Type 0} {R : K → K → Ordering} → IsOrder R → IsExactOrder R
exact_from {R = R} order = record {
  total = record { antisymm = order.reversed; trans = order.transitive; congr = λ x y z e. ap (λ k. R k z) ((order.tied x y).0 e) };
  exact = λ x y e. (order.tied x y).0 e;
}

pub credentials_exact : IsExactOrder credential_order
credentials_exact = exact_from credentials_in_order

pub names_exact : IsExactOrder name_order
names_exact = record { total = nat_list_cmp_total; exact = name_order_tied }
