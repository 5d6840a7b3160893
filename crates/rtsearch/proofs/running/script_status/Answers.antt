-- The status of a fault isn't 0.
use Rattle.rtsearch.proofs.running.script_status.Goals as goal

pub returns-in-Err-clause-ran : goal.returns-in-Err-clause-ran
returns-in-Err-clause-ran g c zero = cc
