use Rattle.search.proofs.stages.Stage.is_small.Goals as goal

pub returns-then-is_complete : goal.returns-then-is_complete
returns-then-is_complete c = λ _. (c.in-Running.running, c.in-Running.is, c.is_complete.ensures.complete.0 c.if-is_complete.true)
