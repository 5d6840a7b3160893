use Rattle.std.proofs.Common.{arith, length, ◌∙◌, ap, refl, subst, set}
use Rattle.std.proofs.lemmas.Option.{slice_get_read}
use Rattle.std.proofs.lemmas.Result.{on_ok_weaker}
use Rattle.vaults.specs.Blocks.{rows_in, IsSpot}
use Rattle.vaults.proofs.Parts.{take_at_spot, remove_at_spot}
use Rattle.vaults.proofs.parted_rows.take_row.Goals as goal

pub returns-then-rows-gt1-clause-taken : goal.returns-then-rows-gt1-clause-taken
returns-then-rows-gt1-clause-taken c =
    let spot : IsSpot c.args.credential.now c.spot_of-spot.result c.args.blocks.now.items =
    subst (IsSpot c.args.credential.now c.spot_of-spot.result) c.deref.ensures.value c.spot_of-spot.ensures in
    on_ok_weaker c.take_out.result
    (λ taken. ap (λ b. rows_in (set c.args.blocks.now.items c.spot_of-spot.result b)) taken
    ∙ take_at_spot c.args.blocks.now.items c.spot_of-spot.result c.args.credential.now c.index_mut.result.now c.requires.in_order spot spot.within
    (slice_get_read c.args.blocks.now.items (length c.args.blocks.now.items) c.spot_of-spot.result c.index_mut.result.now refl spot.within c.index_mut.ensures.value))
    c.take_out.ensures.taken

pub returns-else-rows-gt1-clause-taken : goal.returns-else-rows-gt1-clause-taken
returns-else-rows-gt1-clause-taken c =
    let spot : IsSpot c.args.credential.now c.spot_of-spot.result c.args.blocks.now.items =
    subst (IsSpot c.args.credential.now c.spot_of-spot.result) c.deref.ensures.value c.spot_of-spot.ensures in
    ap rows_in c.remove.ensures.items
    ∙ remove_at_spot c.args.blocks.now.items c.spot_of-spot.result c.args.credential.now c.index.result.now c.requires.in_order spot
    (slice_get_read c.args.blocks.now.items (length c.args.blocks.now.items) c.spot_of-spot.result c.index.result.now refl spot.within c.index.ensures) c.requires.there
    (omega (arith, ap length c.rows.ensures.rows, c.if-rows-gt1.false))
