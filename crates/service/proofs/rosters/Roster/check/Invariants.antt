use Rattle.std.proofs.Common.{◌≡◌, ◌<◌, ℕ, slice_index_or}
use Rattle.std.specs.Prelude.{IsTrue}
use Rattle.names.specs.Name.{IsName}
use Rattle.service.specs.Roster.{RosterLine, IsTenant}
use Rattle.service.proofs.rosters.Roster.check.Given as goal

-- it is known only where a tenant has both, and wherever one of the first rows has
abbrev pub invariant-loop-row : goal.invariant-loop-row
invariant-loop-row l =
    (IsTrue l.is_known → IsTenant l.row-items l.name l.word × IsName l.name)
    × ((k : ℕ) (row : RosterLine) → k < l.row-index → slice_index_or l.row-items k row ≡ row → row.name ≡ l.name → row.word ≡ l.word → IsTrue l.is_known)
