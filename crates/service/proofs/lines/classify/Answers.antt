-- A line of more bytes than there is room for is too long.
use Rattle.std.proofs.Common.{arith}
use Rattle.service.proofs.LineLemmas.{line_of-long}
use Rattle.service.proofs.lines.classify.Goals as goal

pub returns-then-line-gt-LONGEST_LINE-clause-shows : goal.returns-then-line-gt-LONGEST_LINE-clause-shows
returns-then-line-gt-LONGEST_LINE-clause-shows c = line_of-long c.args.line.now (omega arith)
