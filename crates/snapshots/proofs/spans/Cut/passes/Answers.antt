use Rattle.std.proofs.Common.{◌∙◌, ap}
use Rattle.snapshots.specs.Span.{is_cut_at}
use Rattle.snapshots.proofs.Cuts.{cut_at}
use Rattle.snapshots.proofs.spans.Cut.passes.Goals as goal

pub returns : goal.returns
returns c = c.is_behind.ensures ∙ ap (is_cut_at c.args.self) c.compare_head.ensures ∙ cut_at c.args.self c.args.role.now c.args.row.now
