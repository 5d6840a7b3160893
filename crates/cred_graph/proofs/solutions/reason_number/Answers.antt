use Rattle.std.proofs.Common.{sym}
use Rattle.cred_graph.proofs.solutions.reason_number.Goals as goal

pub returns-in-Leaf : goal.returns-in-Leaf
returns-in-Leaf c = record { same = sym c.in-Leaf.is; number = tt }

pub returns-in-Parts : goal.returns-in-Parts
returns-in-Parts c = record { same = sym c.in-Parts.is; number = tt }
