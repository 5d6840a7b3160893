use Rattle.std.proofs.Common.{◌∙◌, ap, sym, arith}
use Rattle.pool.proofs.Seating.{draws_as}
use Rattle.pool.proofs.keepers.Keeper.fresh.Goals as goal

pub split_seat-seat-requires : goal.split_seat-seat-requires
split_seat-seat-requires g c =
    let i = c.self.invariant in
    (i.1 ∙ sym i.0, omega (arith, ap (λ t. t.words) i.0 ∙ i.2), draws_as c.self.inside.seat.id c.self.inside.seat.me.0 (ap (λ m. m.0) i.3))
