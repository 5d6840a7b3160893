use Rattle.service.proofs.IsolationLemmas.{own_lines_answered, scripts_isolated}
use Rattle.service.proofs.laws.scripts_are_isolated.Goals as goal

pub returns : goal.returns
returns c = record { own = own_lines_answered; isolated = scripts_isolated }
