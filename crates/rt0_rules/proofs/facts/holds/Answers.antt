use Rattle.std.proofs.Common.{◌∙◌, ap, sym}
use Rattle.rt0_rules.specs.Facts.{holds, holds_part}
use Rattle.rt0_rules.proofs.Searched.{in_each}
use Rattle.rt0_rules.proofs.facts.holds.Goals as goal

pub returns-in-Meet : goal.returns-in-Meet
returns-in-Meet c =
    in_each (holds_part c.args.facts.now c.args.who.now) c.in-Meet.parts c.as_slice.result.now c.holds_each.result
    c.as_slice.ensures.parts c.as_slice.ensures.several c.holds_each.ensures
    ∙ ap (holds c.args.facts.now c.args.who.now) (sym c.in-Meet.is)
