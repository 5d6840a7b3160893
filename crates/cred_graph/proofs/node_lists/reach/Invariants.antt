use Rattle.std.proofs.Common.{◌+◌, ◌-◌, map, vec_len}
use Rattle.cred_graph.specs.NodeLists.{AreSame}
use Rattle.cred_graph.proofs.node_lists.reach.Given as goal

abbrev pub invariant-loop-alloc : goal.invariant-loop-alloc
invariant-loop-alloc l = record {
  listeners : AreSame (map (λ r. r.listeners.items) l.initial.lists.items) (map (λ r. r.listeners.items) l.lists.items);
  members : AreSame (map (λ r. r.members.items) l.initial.lists.items) (map (λ r. r.members.items) l.lists.items);
}

abbrev pub decreases-loop-alloc : goal.decreases-loop-alloc
decreases-loop-alloc l = l.n + 1 - vec_len l.lists
