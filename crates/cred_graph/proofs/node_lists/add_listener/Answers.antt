use Rattle.std.proofs.Common.{ap, refl}
use Rattle.std.proofs.lemmas.Result.{IfOk-from_err}
use Rattle.cred_graph.specs.declared.node_lists.NodeLists.{NodeLists}
use Rattle.cred_graph.proofs.NodeListLemmas.{on_err, entry_adds, entry_kept}
use Rattle.cred_graph.proofs.node_lists.add_listener.Goals as goal

pub returns-in_err-reach : goal.returns-in_err-reach
returns-in_err-reach c = record {
  added = IfOk-from_err c.from_residual.result _ c.from_residual.ensures.0;
  unchanged = on_err c.from_residual.result c.in_err-reach.ensures.listeners;
  members = c.in_err-reach.ensures.members;
}

pub returns-in_err-push : goal.returns-in_err-push
returns-in_err-push c = record {
  added = IfOk-from_err c.from_residual-in_err-push.result _ c.from_residual-in_err-push.ensures.0;
  unchanged =
      on_err c.from_residual-in_err-push.result
      (entry_kept (λ (r : NodeLists). r.listeners.items) _ c.reach.new.lists.items c.args.n c.index_mut.result.now
      (record { listeners = c.push.new.self; members = c.index_mut.result.now.members }) c.in_ok-reach.ensures.listeners
      c.index_mut.ensures.value (ap (λ v. v.items) c.in_err-push.ensures.err));
  members =
      entry_kept (λ (r : NodeLists). r.members.items) _ c.reach.new.lists.items c.args.n c.index_mut.result.now
      (record { listeners = c.push.new.self; members = c.index_mut.result.now.members }) c.in_ok-reach.ensures.members
      c.index_mut.ensures.value refl;
}

pub returns : goal.returns
returns c = record {
  added =
      entry_adds (λ (r : NodeLists). r.listeners.items) _ c.reach.new.lists.items c.args.n c.index_mut.result.now
      (record { listeners = c.push.new.self; members = c.index_mut.result.now.members }) c.in_ok-reach.ensures.listeners
      c.index_mut.ensures.value c.args.listening c.in_ok-reach.ensures.reached c.in_ok-push.ensures.ok;
  unchanged = tt;
  members =
      entry_kept (λ (r : NodeLists). r.members.items) _ c.reach.new.lists.items c.args.n c.index_mut.result.now
      (record { listeners = c.push.new.self; members = c.index_mut.result.now.members }) c.in_ok-reach.ensures.members
      c.index_mut.ensures.value refl;
}
