use Rattle.std.proofs.Common.{List, sym, subst}
use Rattle.vaults.specs.declared.changes.Entry.{Entry}
use Rattle.hall.specs.declared.calls.requests.Request.TheVariants.{Seek}
use Rattle.hall.specs.declared.calls.replies.Reply.TheVariants.{Opened}
use Rattle.hall.specs.Hall.{IsServed, told_as}
use Rattle.hall.specs.Kept.{Lists, IsIndexed}
use Rattle.hall.proofs.Placed.{put}
use Rattle.hall.proofs.Reached.{hall_of}
use Rattle.hall.proofs.Seeking.{sought, entered}
use Rattle.hall.proofs.Unsettled.{still_listed, listed_requested}
use Rattle.hall.proofs.laws.HallSound.{served_sound}
use Rattle.hall.proofs.halls.Hall.open.Goals as goal
use Rattle.hall.proofs.halls.Hall.open.Goals.{After-open}

-- the opening that is served
served : (c : After-open) → IsServed (hall_of c.self.inside.book c.self.inside.tenants) c.args.who (Seek c.args.query) (told_as Opened c.open.result)
    (put (hall_of c.self.inside.book c.self.inside.tenants) c.args.who c.open.new.self)
served c =
    sought _ c.args.who c.in_ok-seat.seat.now c.open.new.self c.in_ok-seat.ensures.here c.args.query c.open.result c.open.ensures.allowed c.open.ensures.number c.open.ensures.opened
    c.open.ensures.refused c.open.ensures.unchanged

-- each of the tenant's searches reads what it saw then
pub open-requires : goal.open-requires
open-requires c k r at = (c.self.invariant.sound c.args.who c.in_ok-seat.seat.now k r c.in_ok-seat.ensures.here at).2

pub invariant_of-self-2 : goal.invariant_of-self-2
invariant_of-self-2 c =
    let h = hall_of c.self.inside.book c.self.inside.tenants in
    let new = put h c.args.who c.open.new.self in
    subst (λ (j : List Entry). IsIndexed c.open.new.busy (hall_of j new.tenants)) (sym c.open.ensures.same) (record {
      sound = served_sound h new c.args.who (Seek c.args.query) (told_as Opened c.open.result) c.self.invariant.sound (served c.before);
      listed = listed_requested c.open.new.busy h new c.args.who (Seek c.args.query) (told_as Opened c.open.result) (served c.before)
          (still_listed c.self.inside.busy c.open.new.busy h (λ name k. ⊥) c.open.ensures.kept c.self.invariant.listed (λ name k r out at unsettled. out))
          (λ query n is. entered c.open.result (λ k. Lists c.open.new.busy c.args.who k) c.open.ensures.entered n);
    })

pub returns : goal.returns
returns c =
    let h = hall_of c.self.inside.book c.self.inside.tenants in
    rw (← c.self.view_is) record {
      served = subst (λ (j : List Entry). IsServed h c.args.who (Seek c.args.query) (told_as Opened c.open.result) (hall_of j (put h c.args.who c.open.new.self).tenants))
          (sym c.open.ensures.same) (served c.before);
    }
