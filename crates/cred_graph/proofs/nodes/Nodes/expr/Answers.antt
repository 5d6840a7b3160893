use Rattle.std.proofs.Common.{◌∙◌, ap, sym, Some}
use Rattle.std.proofs.lemmas.Option.{slice_get-get_or}
use Rattle.cred_graph.proofs.nodes.Nodes.expr.Goals as goal

pub returns : goal.returns
returns c =
    let expr = c.index-as_slice-n.result in
    let within = rw (← c.self.view_is, ← c.as_slice.ensures.keys) at c.requires in
    rw (← c.self.view_is, ← c.as_slice.ensures.keys)
    (slice_get-get_or c.as_slice.result.now c.args.n expr within ∙ ap Some (sym (c.lend.ensures ∙ c.index-as_slice-n.is)))
