use Rattle.rt0_rules.proofs.LawLemmas.{members_are_one, more_keep_members, order_and_repeats}
use Rattle.rt0_rules.proofs.laws.membership_is_exact.Goals as goal

pub returns-clause-members_are_one : goal.returns-clause-members_are_one
returns-clause-members_are_one c = members_are_one

pub returns-clause-more_keep_members : goal.returns-clause-more_keep_members
returns-clause-more_keep_members c = more_keep_members

pub returns-clause-order_and_repeats : goal.returns-clause-order_and_repeats
returns-clause-order_and_repeats c = order_and_repeats
