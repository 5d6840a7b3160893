use Rattle.monitors.proofs.TableLemmas.{empty_table}
use Rattle.monitors.proofs.keyed_meets.KeyedMeet.make.Goals as goal

pub invariant_of-result : goal.invariant_of-result
invariant_of-result g c = empty_table c.args.parts c.requires.high
