use Rattle.std.proofs.Common.{◌≡◌, take, map}
use Rattle.hall.specs.Hall.{new_tenant}
use Rattle.hall.proofs.tenants.Tenants.new.Given as goal

-- the tenants so far are seated
abbrev pub invariant-loop-name : goal.invariant-loop-name
invariant-loop-name l = l.seats.entries ≡ map (λ row. (row.0, new_tenant row.1)) (take l.name-index l.roster)
