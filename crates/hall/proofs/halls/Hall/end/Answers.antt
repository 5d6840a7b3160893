use Rattle.hall.proofs.Closing.{closed, closed_indexed}
use Rattle.hall.proofs.Reached.{hall_of}
use Rattle.hall.proofs.halls.Hall.end.Goals as goal

pub invariant_of-self-2 : goal.invariant_of-self-2
invariant_of-self-2 c =
    closed_indexed (hall_of c.self.inside.book c.self.inside.tenants) c.args.who c.in_ok-seat.seat.now c.end_in.new.self c.in_ok-seat.ensures.here c.args.number c.end_in.result
    c.end_in.ensures.there c.end_in.ensures.ended c.end_in.ensures.refused c.end_in.ensures.unchanged c.self.inside.busy c.leave_going.new.busy c.leave_going.ensures c.self.invariant

pub returns : goal.returns
returns c =
    rw (← c.self.view_is) record {
      served = closed (hall_of c.self.inside.book c.self.inside.tenants) c.args.who c.in_ok-seat.seat.now c.end_in.new.self c.in_ok-seat.ensures.here c.args.number c.end_in.result
          c.end_in.ensures.there c.end_in.ensures.ended c.end_in.ensures.refused c.end_in.ensures.unchanged;
    }
