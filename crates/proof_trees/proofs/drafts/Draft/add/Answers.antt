use Rattle.std.proofs.Common.{sym, subst, Result, Ok, Err, OnOk}
use Rattle.cred_graph.specs.Graph.{IsNode}
use Rattle.proof_trees.proofs.DraftLemmas.{stepped_is}
use Rattle.proof_trees.proofs.drafts.Draft.add.Goals as goal

on_ok : {T E P Q : Type 0} (r : Result T E) → (P → Q) → OnOk r P → OnOk r Q
on_ok (Ok x) f p = f p
on_ok (Err e) f p = tt

pub returns : goal.returns
returns c =
    let g = c.args.graph.now in
    let node = subst (IsNode g c.args.found.now.solution.node) (sym c.in_ok-claim.ensures.same) c.expr.ensures.node in
    on_ok c.push.result (λ pushed.
    stepped_is g c.args.self.now c.args.found.now c.args.rule c.in_ok-claim.claim c.self.inside.places.keys c.insert.new.self.keys c.self.inside.proof c.push.new.self
    c.self.view_is c.requires.absent node c.in_ok-_is_new.ensures.keys pushed) c.push.ensures.pushed
