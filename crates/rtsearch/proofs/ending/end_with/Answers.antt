-- The program ends with the status that it came to.
use Rattle.rtsearch.proofs.ending.end_with.Goals as goal

pub returns-in-Ok-clause-status : goal.returns-in-Ok-clause-status
returns-in-Ok-clause-status g c = rw c.in-Ok.is c.from.ensures
