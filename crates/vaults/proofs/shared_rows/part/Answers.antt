use Rattle.std.proofs.Common.{List, ◌++◌, ◌∙◌, sym, ap, drop, arith}
use Rattle.std.proofs.lemmas.List.{take-append-drop}
use Rattle.credential_text.specs.declared.credentials.Credential.{Credential}
use Rattle.vaults.proofs.Outcomes.{on_err}
use Rattle.vaults.proofs.shared_rows.part.Goals as goal

pub returns-in_err-rest-clause-unchanged : goal.returns-in_err-rest-clause-unchanged
returns-in_err-rest-clause-unchanged c = on_err c.from_residual.result (ap (λ v. v.items) c.in_err-rest.ensures.err)

pub returns-in-Ok-clause-parted : goal.returns-in-Ok-clause-parted
returns-in-Ok-clause-parted c =
    sym (take-append-drop c.args.place c.args.rows.now.items)
    ∙ ap (λ (l : List Credential). l ++ drop c.args.place c.args.rows.now.items) (sym c.in_ok-rest.ensures.items)
    ∙ ap (λ (l : List Credential). c.split_off.new.self.items ++ l) (sym (ap (λ v. v.items) c.in-Ok.ensures.ok ∙ c.in_ok-rest.ensures.tail))

pub returns-in-Ok-clause-kept : goal.returns-in-Ok-clause-kept
returns-in-Ok-clause-kept c = omega (arith, c.split_off.new.self.ok.0, c.in_ok-rest.ensures.len)
