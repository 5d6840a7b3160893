-- The faults of making the two ends of the queue are none of the writer's.
use Rattle.std.proofs.lemmas.Result.{err_from_is_err_and}
use Rattle.service.proofs.serving.answer_beside_workers.Goals as goal

pub returns-in_err-entrance : goal.returns-in_err-entrance
returns-in_err-entrance g c =
    let failed = c.from_residual in
    let p = err_from_is_err_and failed.result failed.ensures.1 in
    rw (p.1, p.2) c.in_err-entrance.ensures
