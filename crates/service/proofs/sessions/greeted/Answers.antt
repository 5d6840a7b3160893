-- The tenant said its word.
use Rattle.std.proofs.Common.{rules}
use Rattle.std.specs.Prelude.{IsTrue}
use Rattle.service.proofs.ToldLemmas.{IsGreeted-tenant}
use Rattle.service.specs.Words.{words}
use Rattle.service.proofs.sessions.greeted.Goals as goal

pub returns-in-Ok : goal.returns-in-Ok
returns-in-Ok c =
    let known : IsTrue c.check-is_known.result = rw c.if-is_known.true (search rules) in
    IsGreeted-tenant c.args.roster.now c.args.line.now c.in-Some.first.now c.in-Two.name.now c.in-Two.word.now c.in-Ok.who (words c.in-Some.said.now)
    c.in-Some.ensures.found c.if-is_same.ensures c.in-Two.ensures (c.check-is_known.ensures.tenant.0 known) c.in-Ok.ensures.entity
