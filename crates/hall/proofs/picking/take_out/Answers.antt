use Rattle.std.proofs.Common.{sym}
use Rattle.hall.proofs.Unsettled.{left, gone}
use Rattle.hall.proofs.picking.take_out.Goals as goal

pub returns-in-Some : goal.returns-in-Some
returns-in-Some c = record {
  kept = left c.args.busy.now (c.get_mut.follows.lender c.swap_remove.new.self) c.args.who.now c.in-Some.numbers.now c.swap_remove.new.self c.args.number
      (sym c.in-Some.ensures.value) (c.get_mut.follows.holds c.swap_remove.new.self) c.swap_remove.ensures.updates;
  gone = gone c.args.busy.now (c.get_mut.follows.lender c.swap_remove.new.self) c.args.who.now c.in-Some.numbers.now c.swap_remove.new.self c.args.number
      (sym c.in-Some.ensures.value) (c.get_mut.follows.holds c.swap_remove.new.self) c.swap_remove.ensures.updates;
}
