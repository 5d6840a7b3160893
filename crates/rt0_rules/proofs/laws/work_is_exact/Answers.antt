use Rattle.rt0_rules.proofs.WorkLaws.{work_is_one, within_does_not_exceed, above_exceeds}
use Rattle.rt0_rules.proofs.laws.work_is_exact.Goals as goal

pub returns-clause-work_is_one : goal.returns-clause-work_is_one
returns-clause-work_is_one c = work_is_one

pub returns-clause-within_does_not_exceed : goal.returns-clause-within_does_not_exceed
returns-clause-within_does_not_exceed c = within_does_not_exceed

pub returns-clause-above_exceeds : goal.returns-clause-above_exceeds
returns-clause-above_exceeds c = above_exceeds
