use Rattle.std.proofs.Common.{[], ◌∷◌, ◌++◌, ◌≡◌, ◌∙◌, None, ap, refl, sym}
use Rattle.std.specs.Map.{lookup}
use Rattle.indexmap.specs.IndexMap.{IndexMap}
use Rattle.cred_graph.proofs.ListenerLemmas.{far_same}
use Rattle.cred_graph.proofs.NodeListLemmas.{on_err, listeners_in, members_in}
use Rattle.cred_graph.proofs.SolutionLemmas.{entry_added, has_key, members_added, members_same, no_value}
use Rattle.cred_graph.proofs.tables.Tables.add_solution.Goals as goal
use Rattle.cred_graph.proofs.tables.Tables.add_solution.Goals.{In-Vacant, After-self-in-Vacant-1}
use Rattle.cred_graph.proofs.Keys.{solved_eq}

pub returns-in-Occupied-clause-ok : goal.returns-in-Occupied-clause-ok
returns-in-Occupied-clause-ok c =
    let found = rw (c.in-Occupied.is, c.reserve-room.ensures.entries) at c.in_ok-_found.ensures.found in
    let there = sym (rw c.in-Occupied.is at c.in_ok-_found.ensures.same_map) in
    rw (← c.self.view_is) (
      has_key c.self.inside.reasons.entries (c.args.node, c.args.who) _ found.1,
      ap (λ (m : IndexMap _ _ _). m.entries) (c.self-in-Occupied-1.given.1 there) ∙ (rw c.in-Occupied.is at c.in_ok-_found.ensures.unchanged) ∙ c.reserve-room.ensures.entries,
    )

pub returns-in_err-_found-clause-growth : goal.returns-in_err-_found-clause-growth
returns-in_err-_found-clause-growth c =
    rw (← c.self.view_is) (on_err c.from_residual.result (no_value c.self.inside.reasons.entries (c.args.node, c.args.who) (rw c.reserve-room.ensures.entries at c.in_err-_found.ensures.absent)))

none : (c : In-Vacant) → lookup (solved_eq (c.args.node, c.args.who)) c.self.inside.reasons.entries ≡ None
none c = rw (c.in-Vacant.is, c.reserve-room.ensures.entries) at c.in_ok-_found.ensures.found

pub invariant_of-self-in_err-add_member-in-Vacant : goal.invariant_of-self-in_err-add_member-in-Vacant
invariant_of-self-in_err-add_member-in-Vacant c =
    let there = sym (rw c.in-Vacant.is at c.in_ok-_found.ensures.same_map) in
    let same = ap (λ (m : IndexMap _ _ _). m.entries) ((c.in_err-add_member-in-Vacant.self-in-Break-branch-3-1-own.given).1 there) ∙ (rw c.in-Vacant.is at c.in_ok-_found.ensures.unchanged) ∙ c.reserve-room.ensures.entries in (
      far_same (listeners_in c.self.inside.lists.items) _ c.self.inside.far.keys _ c.self.invariant.0 refl c.in_err-add_member-in-Vacant.ensures.listeners,
      members_same c.self.inside.reasons.entries _ (members_in c.self.inside.lists.items) _ c.self.invariant.1 same c.in_err-add_member-in-Vacant.ensures.unchanged,
    )

pub returns-in_err-add_member-in-Vacant-clause-growth : goal.returns-in_err-add_member-in-Vacant-clause-growth
returns-in_err-add_member-in-Vacant-clause-growth c = rw (← c.self.view_is) (on_err c.from_residual-in_err-add_member-in-Vacant.result (no_value c.self.inside.reasons.entries (c.args.node, c.args.who) (none (goal.at.returns-in_err-add_member-in-Vacant-clause-growth c).In-Vacant)))

added : (c : After-self-in-Vacant-1) → lookup (solved_eq (c.args.node, c.args.who)) c.self.inside.reasons.entries ≡ None → c.self-in-Vacant-1.given.0.entries ≡ c.self.inside.reasons.entries ++ ((c.args.node, c.args.who), c.args.reason) ∷ []
added c lacks =
    let there = sym (c.insert_entry-added.ensures.0 ∙ (rw c.in-Vacant.is at c.in_ok-_found.ensures.same_map)) in
    let kept = ap (λ (m : IndexMap _ _ _). m.entries) (c.self-in-Vacant-1.given.1 there) in
    let written = kept ∙ ap (λ (m : IndexMap _ _ _). m.entries) c.insert_entry-added.ensures.1 ∙ (rw c.in-Vacant.is at c.in_ok-_found.ensures.update).1 c.args.reason in
    entry_added c.self.inside.reasons.entries _ _ (c.args.node, c.args.who) c.args.reason lacks c.reserve-room.ensures.entries written

pub invariant_of-self-in-Vacant : goal.invariant_of-self-in-Vacant
invariant_of-self-in-Vacant c = (
  far_same (listeners_in c.self.inside.lists.items) _ c.self.inside.far.keys _ c.self.invariant.0 refl c.in_ok-add_member-in-Vacant.ensures.listeners,
  members_added c.self.inside.reasons.entries _ (members_in c.self.inside.lists.items) _ (c.args.node, c.args.who) c.args.reason c.self.invariant.1 c.in_ok-add_member-in-Vacant.ensures.added (let at = goal.at.invariant_of-self-in-Vacant c in added at.After-self-in-Vacant-1 (none at.In-Vacant)),
)

pub returns-in_ok-add_member-in-Vacant-clause-ok : goal.returns-in_ok-add_member-in-Vacant-clause-ok
returns-in_ok-add_member-in-Vacant-clause-ok c =
    let at = goal.at.returns-in_ok-add_member-in-Vacant-clause-ok c in
    let lacks = none at.In-Vacant in
    rw (← c.self.view_is) (no_value c.self.inside.reasons.entries (c.args.node, c.args.who) lacks, added at.After-self-in-Vacant-1 lacks)

pub returns-in_ok-add_member-in-Vacant-clause-listeners : goal.returns-in_ok-add_member-in-Vacant-clause-listeners
returns-in_ok-add_member-in-Vacant-clause-listeners c = rw (← c.self.view_is) c.in_ok-add_member-in-Vacant.ensures.listeners
