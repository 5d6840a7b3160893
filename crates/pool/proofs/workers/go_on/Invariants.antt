use Rattle.std.specs.Prelude.{◌≡◌, ◌≤◌, []}
use Rattle.pool.specs.declared.visits.TheConstants.{BATCH}
use Rattle.pool.proofs.workers.go_on.Given as goal

abbrev pub invariant-work : goal.invariant-work
invariant-work g l =
    (goal.iterator-work g).can_next l.iterator'
    × (goal.iterator-work g).is_finite l.iterator'
    × (l.batch.looked ≡ 0) × (BATCH ≤ l.batch.room) × (l.ends ≡ []) × (l.tally.workers ≡ 1)
