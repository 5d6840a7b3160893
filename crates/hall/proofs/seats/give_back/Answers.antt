use Rattle.std.proofs.Common.{Some, ap, sym, ◌∙◌}
use Rattle.std.proofs.lemmas.Map.Steps.{set_value_same}
use Rattle.hall.proofs.seats.give_back.Goals as goal

pub returns-in-Some : goal.returns-in-Some
returns-in-Some c =
    (c.get_mut.follows.holds c.give_back.new.self).0
    ∙ set_value_same _ c.args.searches.now.entries c.give_back.new.self (sym c.in-Some.ensures.value ∙ ap Some (sym c.give_back.ensures))
