use Rattle.std.proofs.Common.{sym, ◌∙◌}
use Rattle.std.proofs.lemmas.Result.{err_from_is_err_and}
use Rattle.names.proofs.RoleLemmas.{two_dots, one_dot, owner_first}
use Rattle.names.proofs.roles.Role.read.Goals as goal

pub returns-then-is_some : goal.returns-then-is_some
returns-then-is_some c = record {
  role = tt;
  refused = two_dots (λ m. m.now) c.args.text.now c.cut.result.0.now c.in_default-Some.rest.now c.cut-2.result.0.now c.cut-2.result.1
      (rw c.in_default-Some.is-1 at c.cut.ensures.pieces) (sym c.is_some.ensures ∙ c.if-is_some.true)
      (rw c.in_default-Some.rest-is at c.cut-2.ensures.pieces);
}

pub returns-in_err-owner-clause-refused : goal.returns-in_err-owner-clause-refused
returns-in_err-owner-clause-refused c =
    let p = err_from_is_err_and c.from_residual.result c.from_residual.ensures.1 in
    let both = one_dot (λ m. m.now) c.args.text.now c.cut.result.0.now c.in_default-Some.rest.now
    c.cut-2.result.0.now c.cut-2.result.1 (rw c.in_default-Some.is-1 at c.cut.ensures.pieces) (cc)
    (rw c.in_default-Some.rest-is at c.cut-2.ensures.pieces) in
    rw (p.1, p.2) (owner_first c.args.text.now _ _ _ both c.in_err-owner.ensures.refused)
