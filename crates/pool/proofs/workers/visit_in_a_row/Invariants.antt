use Rattle.std.specs.Prelude.{◌≡◌, ◌≤◌, []}
use Rattle.pool.specs.declared.visits.TheConstants.{BATCH}
use Rattle.pool.proofs.workers.visit_in_a_row.Given as goal

abbrev pub invariant-loop-visit : goal.invariant-loop-visit
invariant-loop-visit g l = (l.batch.looked ≡ 0) × (BATCH ≤ l.batch.room) × (l.ends ≡ []) × (l.tally.workers ≡ 1)
