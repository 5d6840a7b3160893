use Rattle.std.proofs.Common.{List, ◌≡◌, ◌∙◌, ◌-◌, sym, ap, length, arith, Option, unwrap_or}
use Rattle.std.specs.List.{slice_get}
use Rattle.credential_text.specs.declared.credentials.Credential.{Credential}
use Rattle.snapshots.specs.Span.{is_through}
use Rattle.snapshots.specs.Blocks.{starts_with}
use Rattle.snapshots.proofs.Through.{block_own}
use Rattle.snapshots.proofs.spans.goes_on.Goals as goal

pub begins_before-requires : goal.begins_before-requires
begins_before-requires c = block_own c.args.role.now.owner c.args.rows.now (c.args.spot - 1) c.block.result.now c.block.ensures.block c.requires.own

pub returns-then-spot-eq0 : goal.returns-then-spot-eq0
returns-then-spot-eq0 c = λ no before b next at. absurd (omega (arith, next, c.if-spot-eq0.true))

pub returns : goal.returns
returns c = λ no before b next at.
    let here : c.args.spot - 1 ≡ before = omega (arith, next) in
    let is : c.block.result.now ≡ b =
    ap (λ (o : Option (List Credential)). unwrap_or o c.block.result.now) (sym c.block.ensures.block ∙ ap (slice_get c.args.rows.now) here ∙ at) in (
      omega (arith, c.block.ensures.some, ap length is),
      ap (starts_with (is_through c.args.role.now)) (sym is) ∙ sym c.begins_before.ensures ∙ no,
    )
