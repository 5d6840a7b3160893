use Rattle.std.proofs.Common.{◌≡◌, ◌≤◌, take, vec_len, vec_capacity}
use Rattle.cred_graph.specs.Graph.{members_of}
use Rattle.search.proofs.members.solutions_in_order.Given as goal

abbrev pub invariant-loop-place : goal.invariant-loop-place
invariant-loop-place l = record {
  members : l.list.items ≡ take l.place (members_of l.graph 0);
  len : vec_len l.list ≡ l.place;
  room : l.count ≤ vec_capacity l.list;
}
