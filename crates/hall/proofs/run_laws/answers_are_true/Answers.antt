use Rattle.hall.proofs.laws.RightAnswers.{answers_true}
use Rattle.hall.proofs.run_laws.answers_are_true.Goals as goal

pub returns : goal.returns
returns c = answers_true
