use Rattle.std.proofs.Common.{◌≡◌, ◌∙◌, sym, Some}
use Rattle.std.proofs.lemmas.Bool.{not-true}
use Rattle.std.proofs.lemmas.Result.{err_from_is_err_and}
use Rattle.credential_text.specs.declared.faults.CredFault.TheVariants as faults
use Rattle.credential_text.specs.Refusal.{part_texts, first_part_fault}
use Rattle.credential_text.proofs.Memory.{no_part_memory}
use Rattle.credential_text.proofs.Refused.{some_read, read_faultless}
use Rattle.credential_text.proofs.bodies.read_body.Goals as goal

pub returns-in_err-count-clause-memory_last : goal.returns-in_err-count-clause-memory_last
returns-in_err-count-clause-memory_last c =
    let p = err_from_is_err_and c.from_residual.result c.from_residual.ensures.1 in
    λ e.
    let fault : first_part_fault c.args.owner.now (part_texts c.args.body.now) ≡ Some c.in_err-count.field-0.0 = c.in_err-count.ensures.refused in
    let memory : first_part_fault c.args.owner.now (part_texts c.args.body.now) ≡ Some faults.Memory = cc (p.1, p.2, e, fault) in
    absurd (no_part_memory c.args.owner.now (part_texts c.args.body.now) memory)

pub returns-in_err-count-clause-growth : goal.returns-in_err-count-clause-growth
returns-in_err-count-clause-growth c =
    let p = err_from_is_err_and c.from_residual.result c.from_residual.ensures.1 in
    λ e.
    let fault : first_part_fault c.args.owner.now (part_texts c.args.body.now) ≡ Some c.in_err-count.field-0.0 = c.in_err-count.ensures.refused in
    absurd (no_part_memory c.args.owner.now (part_texts c.args.body.now) (cc (p.1, p.2, e, fault)))

pub expr_of-requires-clause-some : goal.expr_of-requires-clause-some
expr_of-requires-clause-some c = some_read c.args.owner.now c.args.body.now _ c.in_ok-count.ensures.parts

pub returns-in_err-expr-clause-memory_last : goal.returns-in_err-expr-clause-memory_last
returns-in_err-expr-clause-memory_last c =
    λ e.
    read_faultless c.args.owner.now c.args.body.now _ (sym c.is_blank.ensures ∙ c.if-is_blank.false) (not-true _ (sym c.are_parts.ensures ∙ c.if-not-are_parts.false)) c.in_ok-count.ensures.parts
