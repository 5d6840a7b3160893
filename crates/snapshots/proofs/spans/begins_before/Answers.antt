use Rattle.std.proofs.Common.{◌∙◌}
use Rattle.snapshots.specs.Span.{is_cut}
use Rattle.snapshots.proofs.Through.{starts_by_name, starts_nowhere}
use Rattle.snapshots.proofs.spans.begins_before.Goals as goal

pub returns-in-Some : goal.returns-in-Some
returns-in-Some c =
    c.passes_by_name.ensures
    ∙ starts_by_name c.args.cut c.args.role.now c.args.rows.now c.in-Some.row.now c.requires c.in-Some.ensures.lookup.3.0 c.in-Some.ensures.lookup.1

pub returns-in-None : goal.returns-in-None
returns-in-None c = starts_nowhere (is_cut c.args.cut c.args.role.now) c.args.rows.now c.in-None.ensures.lookup.3
