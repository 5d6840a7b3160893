use Rattle.vaults.proofs.Exactness.{marks_exact}
use Rattle.vaults.proofs.laws.marks_are_exact.Goals as goal

pub returns-clause-marks : goal.returns-clause-marks
returns-clause-marks c = marks_exact
