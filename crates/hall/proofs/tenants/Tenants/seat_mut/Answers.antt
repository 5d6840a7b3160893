use Rattle.std.proofs.Common.{◌∙◌, ap, inl, inr, refl, sym}
use Rattle.names.specs.Name.{is_same}
use Rattle.hall.proofs.AtHand.{none_passes}
use Rattle.hall.proofs.Seated.{seat_found, seat_there, seat_written}
use Rattle.hall.proofs.tenants.Tenants.seat_mut.Goals as goal

pub returns-in-Some : goal.returns-in-Some
returns-in-Some c =
    let s = c.self.inside.seats in (
      λ i. inl (
        c.in-Some.seat.ghost_name,
        λ w.
            seat_written s c.args.self.now c.self.view_is c.args.who.now c.place_of-place.result c.in-Some.seat.now c.get_index_mut.ensures.unique c.place_of-place.ensures
            (sym c.in-Some.ensures.value) w i,
      ),
      record {
        lends = tt;
        here = seat_there s c.args.self.now c.self.view_is c.args.who.now c.place_of-place.result c.in-Some.seat.now c.get_index_mut.ensures.unique c.place_of-place.ensures
            (sym c.in-Some.ensures.value);
        nobody = tt;
      },
    )

pub returns-in-None : goal.returns-in-None
returns-in-None c = (
  ap inr c.self.view_is,
  record {
    lends = tt;
    here = tt;
    nobody = (
      refl,
      seat_found c.self.inside.seats c.args.self.now c.self.view_is c.args.who.now
          ∙ none_passes (is_same c.args.who.now) c.self.inside.seats.entries c.place_of-place.result c.place_of-place.ensures (sym c.in-None.ensures.value),
    );
  },
)
