use Rattle.std.proofs.Common.{refl}
use Rattle.std.proofs.lemmas.Option.{slice_get_past, slice_get_read}
use Rattle.scholten_core.proofs.letter_tables.stands_at.Goals as goal

pub returns-in-Some : goal.returns-in-Some
returns-in-Some g c =
    let found = c.in-Some.ensures.lookup in
    rw (← c.deref.ensures.value, slice_get_read c.deref.result.now _ c.args.at c.in-Some.field-0.now refl found.3.0 found.1)

pub returns-in-None : goal.returns-in-None
returns-in-None g c = rw (← c.deref.ensures.value, slice_get_past c.deref.result.now c.args.at c.in-None.ensures.lookup.3)
