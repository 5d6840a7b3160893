use Rattle.std.proofs.Common.{arith}
use Rattle.vaults.specs.Blocks.{rows_in}
use Rattle.snapshots.specs.Span.{is_cut}
use Rattle.snapshots.proofs.Counting.{counted_by, counted_past}
use Rattle.snapshots.proofs.Cuts.{parted_rows}
use Rattle.snapshots.proofs.spans.is_rows_until.Goals as goal

pub returns-then-count-len-clause-exact : goal.returns-then-count-len-clause-exact
returns-then-count-len-clause-exact g c =
    counted_past (is_cut c.args.cut c.args.role.now) (rows_in c.args.rows.now) c.args.count (parted_rows c.args.cut c.args.role.now (rows_in c.args.rows.now) c.requires) (omega arith)

pub returns-clause-exact : goal.returns-clause-exact
returns-clause-exact g c =
    counted_by (is_cut c.args.cut c.args.role.now) (rows_in c.args.rows.now) c.args.count c.passes_below-below.result c.fails_at-above.result c.both.result
    (parted_rows c.args.cut c.args.role.now (rows_in c.args.rows.now) c.requires) (omega arith) c.passes_below-below.ensures.exact c.fails_at-above.ensures.exact c.both.ensures
