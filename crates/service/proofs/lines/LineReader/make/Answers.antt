-- The room that was asked for is there.
use Rattle.service.proofs.lines.LineReader.make.Goals as goal

pub invariant_of-result : goal.invariant_of-result
invariant_of-result g c = c.in_ok-line.ensures.capacity
