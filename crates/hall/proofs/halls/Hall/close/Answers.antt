use Rattle.hall.proofs.Closing.{closed, closed_indexed}
use Rattle.hall.proofs.Reached.{hall_of}
use Rattle.hall.proofs.halls.Hall.close.Goals as goal

pub invariant_of-self-2 : goal.invariant_of-self-2
invariant_of-self-2 c =
    closed_indexed (hall_of c.self.inside.book c.self.inside.tenants) c.args.who c.in_ok-seat.seat.now c.end.new.self c.in_ok-seat.ensures.here c.args.number c.end.result
    c.end.ensures.there c.end.ensures.ended c.end.ensures.refused c.end.ensures.unchanged c.self.inside.busy c.leave_going.new.busy c.leave_going.ensures c.self.invariant

pub returns : goal.returns
returns c =
    rw (← c.self.view_is) record {
      served = closed (hall_of c.self.inside.book c.self.inside.tenants) c.args.who c.in_ok-seat.seat.now c.end.new.self c.in_ok-seat.ensures.here c.args.number c.end.result
          c.end.ensures.there c.end.ensures.ended c.end.ensures.refused c.end.ensures.unchanged;
    }
