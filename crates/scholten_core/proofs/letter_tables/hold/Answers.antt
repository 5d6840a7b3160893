use Rattle.std.proofs.Common.{◌∙◌, ap, refl}
use Rattle.scholten_core.specs.LetterTable.{set_value_at}
use Rattle.std.proofs.lemmas.Option.{slice_get_read}
use Rattle.scholten_core.proofs.Standing.{set_value-is}
use Rattle.scholten_core.proofs.letter_tables.hold.Goals as goal

pub returns : goal.returns
returns g c =
    let es = c.args.letters.now.items in
    let entry = c.index_mut.result.now in
    let there = slice_get_read es _ c.args.at entry refl c.requires c.index_mut.ensures.value in
    (entry.1, there, set_value-is es c.args.at entry.0 entry.1 c.hold.new.self there ∙ ap (set_value_at es c.args.at) c.hold.ensures)
