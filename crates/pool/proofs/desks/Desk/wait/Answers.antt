use Rattle.std.proofs.Common.{◌≡◌, false, rules}
use Rattle.std.specs.Sync.Mutex.{mutex_guard_value}
use Rattle.pool.specs.Rooms.{IsKept}
use Rattle.hall.specs.Work.{StillWorks}
use Rattle.pool.proofs.Polled.{waited}
use Rattle.pool.proofs.desks.Desk.wait.Goals as goal

pub returns : goal.returns
returns g c =
    let at = mutex_guard_value c.wait_while-room.result in
    let over : (at.stopped ≡ false) × StillWorks at.hall (c.args.pass.now.tenant, c.args.number) → ⊥ = search rules in
    let kept : IsKept (mutex_guard_value c.wait_while-room.result) = search rules in
    waited _ c.args.pass.now _ c.args.number c.look.result kept over c.look.ensures
