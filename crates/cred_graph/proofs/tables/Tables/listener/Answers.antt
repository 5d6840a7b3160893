use Rattle.std.proofs.lemmas.Option.{slice_get-get_or}
use Rattle.cred_graph.proofs.tables.Tables.listener.Goals as goal

pub returns : goal.returns
returns c =
    let within = rw (← c.listeners.ensures) at c.requires in
    rw (← c.listeners.ensures) (slice_get-get_or c.listeners.result.now c.args.i _ within)
