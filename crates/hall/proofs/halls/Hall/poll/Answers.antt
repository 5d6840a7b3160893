use Rattle.std.proofs.Common.{◌∙◌, ap, refl, sym}
use Rattle.std.proofs.lemmas.Result.{err_from_is_err_and}
use Rattle.std.specs.Prelude.{option_copied}
use Rattle.hall.specs.declared.calls.requests.Request.TheVariants.{Poll}
use Rattle.hall.specs.declared.calls.replies.Reply.TheVariants.{Answered}
use Rattle.hall.specs.Hall.{told_as}
use Rattle.hall.proofs.Reached.{hall_of}
use Rattle.hall.proofs.Refused.{refused_as}
use Rattle.hall.proofs.Viewed.{no_search, nothing_polled, served_over}
use Rattle.hall.proofs.halls.Hall.poll.Goals as goal

pub returns-in_err-search : goal.returns-in_err-search
returns-in_err-search c =
    let p = err_from_is_err_and c.from_residual-in_err-search.result c.from_residual-in_err-search.ensures.1 in
    rw (p.1, p.2, refused_as c.in_err-search.ensures.value c.in_err-search.ensures.ok_part, ← c.self.view_is) record {
      served = nothing_polled (hall_of c.self.inside.book c.self.inside.tenants) c.args.who c.in_ok-_seat._seat.now c.in_ok-_seat.ensures.here c.args.number
          (no_search c.args.self.now (hall_of c.self.inside.book c.self.inside.tenants) c.self.view_is c.args.who c.args.number
          (ap option_copied (sym c.in_err-search.ensures.ok_part) ∙ c.search.ensures));
    }

pub returns : goal.returns
returns c = record {
  served = served_over c.args.self.now c.args.who c.args.number c.in_ok-search.search.now Poll (told_as Answered c.told_of.result) refl
      (ap option_copied (sym c.in_ok-search.ensures.ok_part) ∙ c.search.ensures) c.told_of.ensures.served;
}
