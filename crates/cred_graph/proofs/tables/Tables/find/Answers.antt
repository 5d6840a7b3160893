use Rattle.cred_graph.proofs.SolutionLemmas.{found_entry, no_entry}
use Rattle.cred_graph.proofs.tables.Tables.find.Goals as goal

pub returns-in-Some : goal.returns-in-Some
returns-in-Some c =
    rw (← c.self.view_is)
    (found_entry c.self.inside.reasons.entries (c.args.node, c.args.who) c.in-Some._solved.now c.in-Some.reason.now c.in-Some.place c.in-Some.ensures.key c.in-Some.ensures.entry)

pub returns-in-None : goal.returns-in-None
returns-in-None c = rw (← c.self.view_is) (no_entry c.self.inside.reasons.entries (c.args.node, c.args.who) c.in-None.ensures.key)
