use Rattle.std.proofs.Common.{List, ◌<◌, ◌∙◌, arith, length, sym, ap, subst}
use Rattle.std.specs.List.{slice_get}
use Rattle.credential_text.specs.declared.credentials.Credential.{Credential}
use Rattle.vaults.specs.Blocks.{rows_in, IsHolder}
use Rattle.vaults.proofs.Holders.{length-starts, some_start, start_told, holder_from, holder_below, row_found}
use Rattle.vaults.proofs.versions.Rows.row.Goals as goal

pub holder_of-spot-requires : goal.holder_of-spot-requires
holder_of-spot-requires c =
    omega (
      arith,
      ap length c.self.invariant.start,
      some_start c.self.inside.blocks.now c.args.place (subst (λ (l : List (List Credential)). c.args.place < length (rows_in l)) (sym c.self.view_is) c.requires),
    )

pub block_at-requires : goal.block_at-requires
block_at-requires c = omega (arith, c.holder_of-spot.ensures.within, ap length c.self.invariant.start, length-starts c.self.inside.blocks.now)

pub overflow_sub-place : goal.overflow_sub-place
overflow_sub-place c =
    omega (
      arith,
      start_told c.self.inside.blocks.now c.self.inside.starts.now c.holder_of-spot.result c.start_at-start.result c.block_at.result.now c.self.invariant.start c.start_at-start.ensures c.block_at.ensures.block,
      holder_from c.self.inside.blocks.now c.args.place c.holder_of-spot.result c.block_at.result.now
          (subst (IsHolder c.args.place c.holder_of-spot.result) c.self.invariant.start c.holder_of-spot.ensures) c.block_at.ensures.block,
    )

pub row_at-requires : goal.row_at-requires
row_at-requires c =
    omega (
      arith,
      start_told c.self.inside.blocks.now c.self.inside.starts.now c.holder_of-spot.result c.start_at-start.result c.block_at.result.now c.self.invariant.start c.start_at-start.ensures c.block_at.ensures.block,
      holder_from c.self.inside.blocks.now c.args.place c.holder_of-spot.result c.block_at.result.now
          (subst (IsHolder c.args.place c.holder_of-spot.result) c.self.invariant.start c.holder_of-spot.ensures) c.block_at.ensures.block,
      holder_below c.self.inside.blocks.now c.args.place c.holder_of-spot.result c.block_at.result.now
          (subst (IsHolder c.args.place c.holder_of-spot.result) c.self.invariant.start c.holder_of-spot.ensures)
          (subst (λ (l : List (List Credential)). c.args.place < length (rows_in l)) (sym c.self.view_is) c.requires) c.block_at.ensures.block,
    )

pub returns : goal.returns
returns c =
    ap (λ (l : List (List Credential)). slice_get (rows_in l) c.args.place) (sym c.self.view_is)
    ∙ row_found c.self.inside.blocks.now c.self.inside.starts.now c.args.place c.holder_of-spot.result c.start_at-start.result c.block_at.result.now c.row_at.result.now
    c.self.invariant.start c.holder_of-spot.ensures c.start_at-start.ensures c.block_at.ensures.block c.row_at.ensures
