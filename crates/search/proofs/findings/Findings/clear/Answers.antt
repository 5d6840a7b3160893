use Rattle.std.proofs.Common.{◌∙◌, [], ap}
use Rattle.search.specs.Answers.{Progress}
use Rattle.search.proofs.findings.Findings.clear.Goals as goal

pub returns-then-capacity-gt-MOST_ROOM : goal.returns-then-capacity-gt-MOST_ROOM
returns-then-capacity-gt-MOST_ROOM c = rw (c.shrink_to.ensures.items ∙ c.clear.ensures.items) (ap (λ (s : Progress). record s { outs = [] }) c.self.view_is)

pub returns-else-capacity-gt-MOST_ROOM : goal.returns-else-capacity-gt-MOST_ROOM
returns-else-capacity-gt-MOST_ROOM c = rw c.clear.ensures.items (ap (λ (s : Progress). record s { outs = [] }) c.self.view_is)
