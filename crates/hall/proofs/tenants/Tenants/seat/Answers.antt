use Rattle.std.proofs.Common.{refl}
use Rattle.hall.proofs.Seated.{seat_named, seat_lacks}
use Rattle.hall.proofs.tenants.Tenants.seat.Goals as goal

pub returns-in-Some : goal.returns-in-Some
returns-in-Some c = record {
  here = seat_named c.self.inside.seats c.args.self.now c.self.view_is c.args.who c.place_of-place.result c.in-Some._name.now c.in-Some.seat.now c.place_of-place.ensures
      c.in-Some.ensures.entry c.in-Some.ensures.value;
  nobody = tt;
}

pub returns-in-None : goal.returns-in-None
returns-in-None c = record {
  here = tt;
  nobody = (refl, seat_lacks c.self.inside.seats c.args.self.now c.self.view_is c.args.who c.place_of-place.result c.place_of-place.ensures c.in-None.ensures.entry);
}
