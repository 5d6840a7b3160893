use Rattle.std.proofs.Common.{sym}
use Rattle.credential_text.specs.Equality.{exprs_decided}
use Rattle.credential_text.specs.contracts.exprs.ExprPartialEq.TheImpl as expr
use Rattle.cred_graph.proofs.Lookups.{stands_at, not_found}
use Rattle.cred_graph.proofs.nodes.Nodes.number.Goals as goal

pub returns-in-Some : goal.returns-in-Some
returns-in-Some c =
    rw (← c.self.view_is)
    (stands_at expr.ghosts.eq exprs_decided c.self.inside.exprs.keys c.args.expr.now c.in-Some.n (sym c.in-Some.ensures.index))

pub returns-in-None : goal.returns-in-None
returns-in-None c = rw (← c.self.view_is) (not_found expr.ghosts.eq exprs_decided c.self.inside.exprs.keys c.args.expr.now c.in-None.ensures.found)
