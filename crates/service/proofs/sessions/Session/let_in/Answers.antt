-- The caller is kept, and its tenant was greeted.
use Rattle.service.proofs.sessions.Session.let_in.Goals as goal
use Rattle.service.proofs.sessions.Session.let_in.Goals.{in-Some-1, in-None-1}

pub returns-in-Ok-clause-let_in : goal.returns-in-Ok-clause-let_in
returns-in-Ok-clause-let_in g c =
    let said = rw (c.tenant.ensures, c.in-Ok.ensures.tenant) at c.fill_hello.ensures in
    elim c.match-self.branch [
      | in-Some-1 w ↦ rw w.self-is (said, c.in-Ok.ensures.tenant, c.in-Ok.ensures.none)
      | in-None-1 w ↦ rw w.self-is (said, c.in-Ok.ensures.tenant, c.in-Ok.ensures.none)
    ]
