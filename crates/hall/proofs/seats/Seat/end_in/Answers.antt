use Rattle.std.proofs.Common.{◌≡◌, ◌∙◌, ◌==◌, Some, None, refl, sym}
use Rattle.std.specs.Cmp.{unsigned_tied}
use Rattle.hall.proofs.Maps.{numbers_exact}
use Rattle.hall.proofs.Indexed.{removed}
use Rattle.hall.proofs.Seated.{search_found}
use Rattle.hall.proofs.seats.Seat.end_in.Goals as goal

pub returns-in_default-clause-refused : goal.returns-in_default-clause-refused
returns-in_default-clause-refused c =
    rw (← c.self.view_is) (refl, search_found c.self.inside.searches c.args.number ∙ sym c.in_default.ensures.value)

pub returns-clause-there : goal.returns-clause-there
returns-clause-there c =
    rw (← c.self.view_is) (λ none.
    let clash : Some c.in-Some.ended ≡ None = c.in-Some.ensures.value ∙ sym (search_found c.self.inside.searches c.args.number) ∙ none in cc)

pub returns-clause-ended : goal.returns-clause-ended
returns-clause-ended c =
    let s = c.self.inside in
    rw (← c.self.view_is) (λ i. record {
      limits = s.limits;
      opens = s.opens;
      searches = removed numbers_exact (◌==◌) unsigned_tied s.searches c.swap_remove.new.self c.args.number c.swap_remove.ensures.updates i;
    })
