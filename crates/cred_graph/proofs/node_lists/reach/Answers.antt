use Rattle.std.proofs.Common.{refl}
use Rattle.cred_graph.specs.declared.node_lists.NodeLists.{NodeLists}
use Rattle.cred_graph.proofs.NodeListLemmas.{entry_made}
use Rattle.cred_graph.proofs.node_lists.reach.Goals as goal

pub loop-alloc-preserved : goal.loop-alloc-preserved
loop-alloc-preserved c = record {
  listeners = entry_made (λ (r : NodeLists). r.listeners.items) c.args.lists.now.items c.loop-alloc.lists.items _ _ c.loop-alloc.invariant.listeners c.in_ok-push.ensures.items c.new.ensures.items;
  members = entry_made (λ (r : NodeLists). r.members.items) c.args.lists.now.items c.loop-alloc.lists.items _ _ c.loop-alloc.invariant.members c.in_ok-push.ensures.items c.new-in-loop-alloc.ensures.items;
}

pub loop-alloc-init : goal.loop-alloc-init
loop-alloc-init c = record { listeners = λ m. refl; members = λ m. refl }

pub returns-clause-listeners : goal.returns-clause-listeners
returns-clause-listeners c = c.loop-alloc.invariant.listeners

pub returns-clause-members : goal.returns-clause-members
returns-clause-members c = c.loop-alloc.invariant.members
