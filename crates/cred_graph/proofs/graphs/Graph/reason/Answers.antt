use Rattle.cred_graph.proofs.Found.{found_earlier}
use Rattle.cred_graph.proofs.StoredLemmas.{no_such_entity, no_such_solution, reason_read}
use Rattle.cred_graph.proofs.graphs.Graph.reason.Goals as goal

pub returns-in_default-clause-found : goal.returns-in_default-clause-found
returns-in_default-clause-found c =
    rw (← c.self.view_is) (no_such_entity c.self.inside.nodes c.self.inside.strangers c.self.inside.tables.0 c.self.inside.tables.1 c.args.n c.args.who.now c.self.invariant c.in_default.ensures)

pub returns-in-Some-find-clause-found : goal.returns-in-Some-find-clause-found
returns-in-Some-find-clause-found c =
    rw (← c.self.view_is)
    (reason_read c.self.inside.nodes c.self.inside.strangers c.self.inside.tables.0 c.self.inside.tables.1 c.args.n c.in-Some.number c.in-Some-find.place c.args.who.now c.in-Some-find.reason c.reason_name.result c.in-Some.ensures
    c.in-Some-find.ensures c.reason_name.ensures)

pub returns-in-Some-find-clause-earlier : goal.returns-in-Some-find-clause-earlier
returns-in-Some-find-clause-earlier c =
    rw (← c.self.view_is)
    (found_earlier _ c.self.invariant.graph c.args.n c.in-Some-find.place c.args.who.now c.reason_name.result
    (reason_read c.self.inside.nodes c.self.inside.strangers c.self.inside.tables.0 c.self.inside.tables.1 c.args.n c.in-Some.number c.in-Some-find.place c.args.who.now c.in-Some-find.reason c.reason_name.result c.in-Some.ensures
    c.in-Some-find.ensures c.reason_name.ensures))

pub returns-in-None-clause-found : goal.returns-in-None-clause-found
returns-in-None-clause-found c =
    rw (← c.self.view_is)
    (no_such_solution c.self.inside.nodes c.self.inside.strangers c.self.inside.tables.0 c.self.inside.tables.1 c.args.n c.in-Some.number c.args.who.now c.self.invariant c.in-Some.ensures c.in-None.ensures)
