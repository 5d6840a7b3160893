use Rattle.std.specs.Prelude.{◌≡◌, ◌+◌, vec_len, vec_capacity}
use Rattle.pool.proofs.workers.fn.run_all.scope.Given as goal

abbrev pub invariant-loop-worker : goal.invariant-loop-worker
invariant-loop-worker g l =
    (vec_len l.handles ≡ l.worker)
    × (vec_capacity l.handles ≡ vec_capacity l.initial.handles)
    × (l.tally.workers + l.worker ≡ l.initial.tally.workers)
    × (l.tally.letters ≡ 0)
