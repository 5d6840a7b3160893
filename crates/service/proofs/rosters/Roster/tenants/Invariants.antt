use Rattle.std.proofs.Common.{◌≡◌, map, take}
use Rattle.service.specs.Roster.{tenant_of}
use Rattle.service.proofs.rosters.Roster.tenants.Given as goal

-- the tenants of the first rows
abbrev pub invariant-loop-row : goal.invariant-loop-row
invariant-loop-row l = l.tenants.items ≡ map tenant_of (take l.row-index l.row-items)
