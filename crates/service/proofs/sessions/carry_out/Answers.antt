-- A request is served as it is, and the verdict of a wait is told.
use Rattle.std.proofs.Common.{refl}
use Rattle.service.proofs.sessions.carry_out.Goals as goal

pub returns-in-Ok : goal.returns-in-Ok
returns-in-Ok g c = rw c.in-Wait.is (c.in-Ok.verdict, c.in-Ok.ensures, refl)

pub returns-in-Request : goal.returns-in-Request
returns-in-Request g c = rw c.in-Request.is c.serve.ensures.answered
