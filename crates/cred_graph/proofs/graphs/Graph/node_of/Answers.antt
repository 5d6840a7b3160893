use Rattle.std.proofs.Common.{ap, arith, refl}
use Rattle.std.proofs.lemmas.Result.{IfOk-from_err}
use Rattle.cred_graph.specs.Stored.{graph_as}
use Rattle.cred_graph.proofs.NodeListLemmas.{on_err}
use Rattle.cred_graph.proofs.StoredLemmas.{node_given, node_stands, node_stored}
use Rattle.cred_graph.proofs.graphs.Graph.node_of.Goals as goal

pub invariant_of-self-2 : goal.invariant_of-self-2
invariant_of-self-2 c =
    let absent = rw (← c.self.view_is) at c.in_default.ensures.node in
    node_stored c.self.inside.nodes _ c.self.inside.strangers c.self.inside.tables.0 c.self.inside.tables.1 c.args.expr.now c.self.invariant absent c.in_ok-n.ensures.range c.in_ok-n.ensures.added (omega (arith, c.in_ok-n.ensures.number))

pub returns-clause-graph : goal.returns-clause-graph
returns-clause-graph c =
    let absent = rw (← c.self.view_is) at c.in_default.ensures.node in
    (node_stored c.self.inside.nodes _ c.self.inside.strangers c.self.inside.tables.0 c.self.inside.tables.1 c.args.expr.now c.self.invariant absent c.in_ok-n.ensures.range c.in_ok-n.ensures.added (omega (arith, c.in_ok-n.ensures.number))).graph

pub returns-clause-node : goal.returns-clause-node
returns-clause-node c = node_stands c.self.inside.nodes _ c.args.expr.now c.in_ok-n.n c.in_ok-n.ensures.added c.in_ok-n.ensures.number

pub returns-clause-ok : goal.returns-clause-ok
returns-clause-ok c =
    let absent = rw (← c.self.view_is) at c.in_default.ensures.node in
    rw (← c.self.view_is)
    (node_given c.self.inside.nodes _ c.self.inside.strangers c.self.inside.tables.0 c.self.inside.tables.1 c.args.expr.now c.in_ok-n.n c.self.invariant absent c.in_ok-n.ensures.range c.in_ok-n.ensures.added c.in_ok-n.ensures.number)

pub returns-in-Some : goal.returns-in-Some
returns-in-Some c = record { ok = (c.in-Some.ensures.node, refl); node = c.in-Some.ensures.node; graph = c.in-Some.ensures.graph; growth = tt; unchanged = tt }

pub add-requires : goal.add-requires
add-requires c = rw (← c.self.view_is) at c.in_default.ensures.node

pub invariant_of-self : goal.invariant_of-self
invariant_of-self c = rw c.in_err-n.ensures.unchanged c.self.invariant

pub returns-in_err-n : goal.returns-in_err-n
returns-in_err-n c = record {
  ok = IfOk-from_err c.from_residual.result _ c.from_residual.ensures.0;
  node = IfOk-from_err c.from_residual.result _ c.from_residual.ensures.0;
  graph = rw c.in_err-n.ensures.unchanged c.self.invariant.graph;
  growth = on_err c.from_residual.result c.in_default.ensures.node;
  unchanged =
      rw (← c.self.view_is)
      (on_err c.from_residual.result (ap (λ nodes. graph_as nodes c.self.inside.strangers c.self.inside.tables.0 c.self.inside.tables.1) c.in_err-n.ensures.unchanged));
}
