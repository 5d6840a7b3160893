use Rattle.names.proofs.OrderLemmas.{names_in_order, roles_in_order}
use Rattle.names.proofs.RoleLemmas.{faultless_are_names, faultless_are_roles}
use Rattle.names.proofs.laws.names_and_orders.Goals as goal

pub returns-clause-names : goal.returns-clause-names
returns-clause-names c = faultless_are_names

pub returns-clause-roles : goal.returns-clause-roles
returns-clause-roles c = faultless_are_roles

pub returns-clause-name_order : goal.returns-clause-name_order
returns-clause-name_order c = names_in_order

pub returns-clause-role_order : goal.returns-clause-role_order
returns-clause-role_order c = roles_in_order
