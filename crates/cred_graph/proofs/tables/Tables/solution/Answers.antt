use Rattle.std.proofs.lemmas.Option.{slice_get-get_or}
use Rattle.cred_graph.proofs.tables.Tables.solution.Goals as goal

pub returns : goal.returns
returns c =
    let within = rw (← c.members.ensures) at c.requires in
    rw (← c.members.ensures) (slice_get-get_or c.members.result.now c.args.i _ within)
