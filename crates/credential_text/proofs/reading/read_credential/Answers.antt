use Rattle.std.proofs.Common.{◌∙◌, ap, arith}
use Rattle.std.proofs.lemmas.Bool.{lt-ltb}
use Rattle.std.proofs.lemmas.Result.{err_from_is_err_and, IfOk-from_err}
use Rattle.names.specs.Role.{SpellsRole}
use Rattle.names.specs.Texts.{trim}
use Rattle.credential_text.specs.Refusal.{several_after}
use Rattle.credential_text.proofs.Showing.{spelled_from}
use Rattle.credential_text.proofs.Refused.{shown_by, refused_as_body, no_arrow_refused}
use Rattle.credential_text.proofs.reading.read_credential.Goals as goal

pub returns-in_default : goal.returns-in_default
returns-in_default c = record {
  read = tt;
  refused = λ _. no_arrow_refused c.args.text.now (omega arith) c.in_default.ensures;
  memory_last = λ e. cc;
  growth = λ e. cc;
}

pub returns-in_err-body : goal.returns-in_err-body
returns-in_err-body c =
    let p = err_from_is_err_and c.from_residual-in_err-body.result c.from_residual-in_err-body.ensures.1 in
    let head : SpellsRole (trim c.in-Some.before.now) c.in_ok-head.head = rw c.trim.ensures at c.in_ok-head.ensures.head in
    let as_body = refused_as_body c.args.text.now c.in-Some.before.now c.in-Some.after.now c.in_ok-head.head (omega arith) c.in-Some.ensures head in
    record {
      read = IfOk-from_err c.from_residual-in_err-body.result _ c.from_residual-in_err-body.ensures.0;
      refused = rw (p.1, p.2) (λ other. as_body ∙ c.in_err-body.ensures.refused other);
      memory_last = λ e. as_body ∙ c.in_err-body.ensures.memory_last (cc (p.1, p.2, e));
      growth = λ e. ap several_after c.in-Some.ensures ∙ lt-ltb 1 _ (c.in_err-body.ensures.growth (cc (p.1, p.2, e)));
    }

pub returns : goal.returns
returns c =
    let head : SpellsRole (trim c.in-Some.before.now) c.in_ok-head.head = rw c.trim.ensures at c.in_ok-head.ensures.head in
    record {
      read = (
        spelled_from c.args.text.now _
            (shown_by c.args.text.now c.in-Some.before.now c.in-Some.after.now _ c.in-Some.ensures head c.in_ok-body.ensures.body),
        omega arith,
      );
      refused = tt;
      memory_last = λ e. cc;
      growth = λ e. cc;
    }
