use Rattle.std.proofs.Common.{◌∙◌, ap, sym}
use Rattle.hall.specs.Kept.{lendable_search}
use Rattle.hall.proofs.lendable_searches.LendableSearch.into_shared.Goals as goal

pub returns-in-Err-clause-same : goal.returns-in-Err-clause-same
returns-in-Err-clause-same c = c.in-Err.ensures.value_returned ∙ sym (ap lendable_search c.in-Own.is)

pub returns-in-Err-clause-carried : goal.returns-in-Err-clause-carried
returns-in-Err-clause-carried c = tt
