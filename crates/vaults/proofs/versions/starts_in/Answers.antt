use Rattle.std.proofs.Common.{ℕ, suc, List, [], ◌∷◌, ◌++◌, ◌≡◌, ◌∙◌, ◌+◌, ◌-◌, arith, length, length-append, sym, ap, refl, take, drop, Some}
use Rattle.std.specs.List.{slice_get}
use Rattle.std.proofs.lemmas.List.{take_all, length-take-le}
use Rattle.std.proofs.lemmas.Option.{slice_get_read}
use Rattle.credential_text.specs.declared.credentials.Credential.{Credential}
use Rattle.vaults.specs.Blocks.{rows_in, starts_of}
use Rattle.vaults.proofs.Parts.{take_one_more}
use Rattle.vaults.proofs.Holders.{drop_at, start_of, length-starts}
use Rattle.vaults.proofs.versions.starts_in.Goals as goal

pub overflow_sub-left : goal.overflow_sub-left
overflow_sub-left c =
    let blocks : List (List Credential) = c.args.blocks.now in
    let here : ℕ = c.loop-block.block-index in
    let block : List Credential = c.block-item.result in
    omega (
      arith,
      c.loop-block.invariant.left,
      ap (λ (l : List (List Credential)). length (rows_in l)) (drop_at blocks here block (slice_get_read blocks (length blocks) here block refl c.loop-block-test.true c.block-item.is)),
      length-append (rows_in (drop (suc here) blocks)) block,
      ap length c.rows.ensures.rows,
    )

pub push_reserved-requires : goal.push_reserved-requires
push_reserved-requires c =
    let blocks : List (List Credential) = c.args.blocks.now in
    let here : ℕ = c.loop-block.block-index in
    omega (
      arith,
      c.loop-block.starts.ok.0,
      ap length c.loop-block.invariant.started,
      length-take-le here (starts_of blocks) (omega (arith, length-starts blocks, c.loop-block-test.true)),
      c.loop-block.invariant.room,
      c.loop-block-test.true,
    )

pub loop-block-preserved : goal.loop-block-preserved
loop-block-preserved c =
    let blocks : List (List Credential) = c.args.blocks.now in
    let here : ℕ = c.loop-block.block-index in
    let block : List Credential = c.block-item.result in
    let at : slice_get blocks here ≡ Some block = slice_get_read blocks (length blocks) here block refl (omega (arith, c.loop-block-test.true)) c.block-item.is in
    let next : suc here ≡ here + 1 = omega arith in
    let rest : c.loop-block.left - length c.rows.result.now ≡ length (rows_in (drop (suc here) blocks)) =
    omega (
      arith,
      c.loop-block.invariant.left,
      ap (λ (l : List (List Credential)). length (rows_in l)) (drop_at blocks here block at),
      length-append (rows_in (drop (suc here) blocks)) block,
      ap length c.rows.ensures.rows,
    ) in
    record {
      started = c.push_reserved.ensures.items
          ∙ ap (λ (l : List ℕ). l ++ (c.loop-block.left - length c.rows.result.now) ∷ []) c.loop-block.invariant.started
          ∙ ap (λ (n : ℕ). take here (starts_of blocks) ++ n ∷ []) rest
          ∙ sym (take_one_more (starts_of blocks) here (length (rows_in (drop (suc here) blocks))) (start_of blocks here block at))
          ∙ ap (λ (n : ℕ). take n (starts_of blocks)) next;
      left = rest ∙ ap (λ (n : ℕ). length (rows_in (drop n blocks))) next;
      room = omega (arith, c.loop-block.invariant.room, c.push_reserved.ensures.capacity);
    }

pub returns : goal.returns
returns c =
    c.loop-block.invariant.started
    ∙ take_all c.loop-block.block-index (starts_of c.args.blocks.now) (omega (arith, length-starts c.args.blocks.now, c.loop-block-test.false))
