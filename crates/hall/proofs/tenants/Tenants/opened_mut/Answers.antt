use Rattle.std.proofs.Common.{◌∙◌, ◌==◌, ap, refl, sym, subst, Some, Option}
use Rattle.std.proofs.lemmas.Bool.{false≢true}
use Rattle.vaults.proofs.Orders.{names_exact}
use Rattle.hall.specs.declared.faults.Fault.TheVariants.{NoSuchSearch}
use Rattle.hall.specs.Hall.{Tenant}
use Rattle.hall.specs.Kept.{IsNowhere}
use Rattle.hall.proofs.AtHand.{none_passes}
use Rattle.hall.proofs.Maps.{insert_again}
use Rattle.hall.proofs.Seated.{tenant_of, search_found, search_there, search_written}
use Rattle.hall.proofs.laws.HallChanges.{search_of}
use Rattle.hall.proofs.tenants.Tenants.opened_mut.Goals as goal

pub returns-in-Some : goal.returns-in-Some
returns-in-Some c =
    let here = c.in_ok-seat.ensures.here ∙ ap Some (sym c.seat.view_is) in (
      (
        refl,
        (λ w ok journal.
            search_written c.seat.inside.searches c.args.number c.place_of-place.result c.in-Some.opened.now c.get_index_mut.ensures.unique c.place_of-place.ensures
            (sym c.in-Some.ensures.value) c.args.self.now c.args.who.now c.seat.inside.limits c.seat.inside.opens here w journal),
        tt,
      ),
      record {
        lends = tt;
        here = ap (search_of c.args.number) here
            ∙ search_there c.seat.inside.searches c.args.number c.place_of-place.result c.in-Some.opened.now c.get_index_mut.ensures.unique c.place_of-place.ensures
            (sym c.in-Some.ensures.value);
        nowhere = tt;
      },
    )

pub returns-in-None : goal.returns-in-None
returns-in-None c =
    let here = c.in_ok-seat.ensures.here ∙ ap Some (sym c.seat.view_is) in (
      (
        refl,
        (λ w no journal. absurd (false≢true no)),
        insert_again names_exact c.args.self.now c.args.who.now (tenant_of c.seat.inside.limits c.seat.inside.opens c.seat.inside.searches) here,
      ),
      record {
        lends = tt;
        here = tt;
        nowhere = subst (λ (o : Option Tenant). IsNowhere c.args.number o NoSuchSearch) (sym here) (
          refl,
          search_found c.seat.inside.searches c.args.number
              ∙ none_passes (λ n. c.args.number == n) c.seat.inside.searches.entries c.place_of-place.result c.place_of-place.ensures (sym c.in-None.ensures.value),
        );
      },
    )
