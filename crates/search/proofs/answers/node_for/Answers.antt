-- The letters before this one stay what they are where a node is added.
use Rattle.std.proofs.Common.{◌∙◌, ◌++◌, ◌∷◌, [], List, ap, subst, sym}
use Rattle.cred_graph.specs.Graph.{NodeGiven}
use Rattle.search.specs.declared.findings.NumberedMonitor.{NumberedMonitor}
use Rattle.search.specs.Numbered.{AreNumbered}
use Rattle.search.proofs.Numbered.{numbered_given, numbered_with_monitor, node_added}
use Rattle.search.proofs.answers.node_for.Goals as goal

pub invariant_of-found-in_err-reserve : goal.invariant_of-found-in_err-reserve
invariant_of-found-in_err-reserve c =
    subst (λ (ms : List NumberedMonitor). AreNumbered c.node_of.new.self ms c.found.inside.outs.items) (sym c.reserve.ensures.items)
    (numbered_given c.found.inside.graph c.node_of.new.self c.args.expr.now c.in_ok-node.node c.in_ok-node.is_new c.found.inside.monitors.items c.found.inside.outs.items c.in_ok-node.ensures.ok c.node_of.ensures.graph c.found.invariant)

pub invariant_of-found-then-is_new : goal.invariant_of-found-then-is_new
invariant_of-found-then-is_new c =
    subst (λ (ms : List NumberedMonitor). AreNumbered c.node_of.new.self ms c.found.inside.outs.items) (sym (c.push_reserved.ensures.items ∙ ap (λ (ms : List NumberedMonitor). ms ++ c.monitor_for-monitor.result ∷ []) c.reserve.ensures.items))
    (numbered_with_monitor c.node_of.new.self c.found.inside.monitors.items c.monitor_for-monitor.result c.found.inside.outs.items (c.monitor_for-monitor.ensures.numbers c.node_of.new.self.nodes)
    (numbered_given c.found.inside.graph c.node_of.new.self c.args.expr.now c.in_ok-node.node c.in_ok-node.is_new c.found.inside.monitors.items c.found.inside.outs.items c.in_ok-node.ensures.ok c.node_of.ensures.graph c.found.invariant))

pub returns-in_ok-reserve-clause-given : goal.returns-in_ok-reserve-clause-given
returns-in_ok-reserve-clause-given c =
    node_added c.args.found.now c.found.inside.graph c.node_of.new.self c.found.inside.monitors.items c.push_reserved.new.self.items c.monitor_for-monitor.result c.found.inside.outs.items c.args.expr.now c.in_ok-node.node c.found.view_is c.found.invariant
    (subst (NodeGiven c.found.inside.graph c.node_of.new.self c.args.expr.now c.in_ok-node.node) c.if-is_new.true c.in_ok-node.ensures.ok)
    (c.push_reserved.ensures.items ∙ ap (λ (ms : List NumberedMonitor). ms ++ c.monitor_for-monitor.result ∷ []) c.reserve.ensures.items) (c.monitor_for-monitor.ensures.same c.node_of.new.self.nodes)

pub invariant_of-found-else-is_new : goal.invariant_of-found-else-is_new
invariant_of-found-else-is_new c =
    numbered_given c.found.inside.graph c.node_of.new.self c.args.expr.now c.in_ok-node.node c.in_ok-node.is_new c.found.inside.monitors.items c.found.inside.outs.items c.in_ok-node.ensures.ok c.node_of.ensures.graph c.found.invariant
