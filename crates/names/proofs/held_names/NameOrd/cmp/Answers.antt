use Rattle.std.proofs.Common.{◌∙◌}
use Rattle.names.specs.Name.{name_order}
use Rattle.names.proofs.Padding.{held_ends, held_order}
use Rattle.names.proofs.held_names.NameOrd.cmp.Goals as goal

pub order_of-requires-clause-cells : goal.order_of-requires-clause-cells
order_of-requires-clause-cells c = held_ends c.self.inside.cells c.self.inside.len c.self.invariant

pub order_of-requires-clause-others : goal.order_of-requires-clause-others
order_of-requires-clause-others c = held_ends c.other.inside.cells c.other.inside.len c.other.invariant

pub returns : goal.returns
returns c =
    c.order_of.ensures
    ∙ held_order c.self.inside.cells c.other.inside.cells c.self.inside.len c.other.inside.len c.self.invariant c.other.invariant
    ∙ (λ j. name_order (c.self.view_is j) (c.other.view_is j))
