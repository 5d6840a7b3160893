use Rattle.std.proofs.Common.{length, ◌∙◌, ap, sym, refl, Some}
use Rattle.std.proofs.lemmas.Option.{slice_get_read}
use Rattle.vaults.proofs.versions.block_at.Goals as goal

pub returns-clause-block : goal.returns-clause-block
returns-clause-block c =
    slice_get_read c.args.blocks.now (length c.args.blocks.now) c.args.spot c.index-blocks-spot.result refl c.requires c.index-blocks-spot.is
    ∙ ap Some (sym c.rows.ensures.rows)
