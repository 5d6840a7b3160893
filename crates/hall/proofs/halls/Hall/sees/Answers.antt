use Rattle.std.proofs.Common.{◌∙◌}
use Rattle.std.proofs.lemmas.Result.{err_from_is_err_and}
use Rattle.hall.proofs.Reached.{hall_of}
use Rattle.hall.proofs.Viewed.{names_told, names_lack}
use Rattle.hall.proofs.halls.Hall.sees.Goals as goal

pub returns-in_err-seen : goal.returns-in_err-seen
returns-in_err-seen c =
    let p = err_from_is_err_and c.from_residual-in_err-seen.result c.from_residual-in_err-seen.ensures.1 in
    rw (p.1, p.2, c.in_err-seen.ensures.only_memory, ← c.self.view_is) record {
      served = names_lack (hall_of c.self.inside.book c.self.inside.tenants) c.args.who c.in_ok-_seat._seat.now c.in_ok-_seat.ensures.here;
    }

pub returns : goal.returns
returns c = rw (← c.self.view_is) record {
  served = names_told (hall_of c.self.inside.book c.self.inside.tenants) c.args.who c.in_ok-_seat._seat.now c.in_ok-_seat.ensures.here c.new.result
      (c.new.ensures ∙ c.in_ok-seen.ensures.names);
}
