-- The count is a ledger of its own.
use Rattle.snapshots.proofs.snapshots.Snapshot.finds.Given as goal

abbrev pub ghosts-compares : goal.ghosts-compares
ghosts-compares a = record { name = a.blank.name; parts = a.blank.parts }
