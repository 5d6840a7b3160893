use Rattle.std.proofs.Common.{◌≡◌, ◌∙◌, ap}
use Rattle.std.specs.List.Sorted.{IsStrictlySortedBy}
use Rattle.std.proofs.lemmas.Result.{IfOk-weaker}
use Rattle.names.specs.Name.{name_order}
use Rattle.rt0_rules.specs.Membership.{AreMembers}
use Rattle.rt0_rules.specs.Facts.{knows}
use Rattle.rt0_rules.proofs.Listed.{both_if_ok}
use Rattle.rt0_rules.proofs.Exact.{are_members}
use Rattle.rt0_rules.proofs.members.members_plain.Goals as goal

pub returns : goal.returns
returns c =
    let set = c.in_ok-members.members in
    IfOk-weaker c.listed.result (λ list. (list.items ≡ set.keys) × IsStrictlySortedBy name_order list.items) (λ list. AreMembers c.args.credentials.now c.args.role.now list.items)
    (λ list h. are_members c.args.credentials.now c.in_ok-facts.facts.items c.args.role.now set list.items c.in_ok-facts.ensures.sound c.in_ok-facts.ensures.closed
    (record { same = λ d. c.in_ok-members.ensures d ∙ ap (λ facts. knows facts c.args.role.now d) c.deref.ensures.value }) h.0 h.1)
    (both_if_ok c.listed.result (λ list. list.items ≡ set.keys) (λ list. IsStrictlySortedBy name_order list.items) c.listed.ensures.keys c.listed.ensures.in_order)
