use Rattle.std.proofs.Common.{◌≡◌, ◌∙◌, ◌∷◌, [], false, is_some, sym, refl}
use Rattle.std.proofs.lemmas.Bool.{not-false}
use Rattle.std.proofs.lemmas.Result.{err_from_is_err_and}
use Rattle.names.specs.Texts.{dot, pieces}
use Rattle.credential_text.proofs.Readings.{four_pieces, three_pieces, linked_reads, base_refused, last_refused}
use Rattle.credential_text.proofs.bodies.read_part.Goals as goal
use Rattle.credential_text.proofs.bodies.read_part.Goals.{After-cut-3}

pub returns-then-is_some : goal.returns-then-is_some
returns-then-is_some c = record {
  part = tt;
  refused =
      four_pieces (λ m. m.now) c.args.owner.now c.args.text.now c.cut.result.0.now c.in_default-Some.others.now c.cut-2.result.0.now c.in_default-Some-cut.last.now
      c.cut-3.result.0.now c.cut-3.result.1
      (rw c.in_default-Some.is-1 at c.cut.ensures.pieces) (rw c.in_default-Some-cut.is-1 at (rw c.in_default-Some.others-is at c.cut-2.ensures.pieces))
      (sym c.is_some.ensures ∙ c.if-is_some.true) (rw c.in_default-Some-cut.last-is at c.cut-3.ensures.pieces);
}

three : (c : After-cut-3) → is_some c.cut-3.result.1 ≡ false
    → pieces dot c.args.text.now ≡ c.cut.result.0.now ∷ c.cut-2.result.0.now ∷ c.cut-3.result.0.now ∷ []
three c none =
    three_pieces (λ m. m.now) c.args.text.now c.cut.result.0.now c.in_default-Some.others.now c.cut-2.result.0.now
    c.in_default-Some-cut.last.now c.cut-3.result.0.now c.cut-3.result.1
    (rw c.in_default-Some.is-1 at c.cut.ensures.pieces)
    (rw c.in_default-Some-cut.is-1 at (rw c.in_default-Some.others-is at c.cut-2.ensures.pieces)) none
    (rw c.in_default-Some-cut.last-is at c.cut-3.ensures.pieces)

pub returns-in_err-base-clause-refused : goal.returns-in_err-base-clause-refused
returns-in_err-base-clause-refused c =
    let p = err_from_is_err_and c.from_residual-in_err-base.result c.from_residual-in_err-base.ensures.1 in
    let names = three (goal.at.returns-in_err-base-clause-refused c).After-cut-3 (sym c.is_some.ensures ∙ c.if-is_some.false) in
    rw (p.1, p.2) (base_refused c.args.owner.now c.args.text.now _ _ _ _ names c.in_err-base.ensures.refused)

pub returns-in_err-name-clause-refused : goal.returns-in_err-name-clause-refused
returns-in_err-name-clause-refused c =
    let p = err_from_is_err_and c.from_residual-in_err-name.result c.from_residual-in_err-name.ensures.1 in
    let names = three (goal.at.returns-in_err-name-clause-refused c).After-cut-3 (sym c.is_some.ensures ∙ c.if-is_some.false) in
    rw (p.1, p.2) (last_refused c.args.owner.now c.args.text.now _ _ _ _ names c.in_ok-base.ensures.owner.0
    c.in_ok-base.ensures.name.0 c.in_err-name.ensures.refused)

pub returns-clause-part : goal.returns-clause-part
returns-clause-part c =
    linked_reads (λ m. m.now) c.args.owner.now c.args.text.now c.cut.result.0.now c.in_default-Some.others.now c.cut-2.result.0.now
    c.in_default-Some-cut.last.now c.cut-3.result.0.now c.cut-3.result.1 c.in_ok-base.base c.in_ok-name.name
    (rw c.in_default-Some.is-1 at c.cut.ensures.whole)
    (rw c.in_default-Some-cut.is-1 at (rw c.in_default-Some.others-is at c.cut-2.ensures.whole))
    (sym c.is_some.ensures ∙ c.if-is_some.false) (rw c.in_default-Some-cut.last-is at c.cut-3.ensures.whole)
    c.in_ok-base.ensures.owner c.in_ok-base.ensures.name (c.in_ok-name.ensures.accepted.0 refl) c.in_ok-name.ensures.role_name
    (not-false _ (sym c.ne.ensures ∙ c.if-ne.false))
