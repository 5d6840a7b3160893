use Rattle.std.proofs.Common.{rules, refl}
use Rattle.std.proofs.lemmas.Fn.{always_returns_same}
use Rattle.snapshots.specs.Span.{is_cut_by_name}
use Rattle.snapshots.proofs.Fronts.{front_parted, cut_in_front}
use Rattle.snapshots.proofs.spans.block_until.Goals as goal

pub returns-clause-count : goal.returns-clause-count
returns-clause-count c =
    cut_in_front c.args.cut c.args.role.now c.args.rows.now _ c.front_of-front.result c.requires.in_order c.requires.own c.front_of-front.ensures.within refl
    c.partition_point.result c.front_of-front.ensures.cut c.partition_point.ensures.bound
    (c.partition_point.ensures.partitioned (is_cut_by_name c.args.cut c.args.role.now.name) (always_returns_same _ _ _ (λ a r f' k. search rules))
    (front_parted c.args.cut c.args.role.now c.args.rows.now _ c.front_of-front.result c.requires.in_order c.requires.own c.front_of-front.ensures.within refl))
