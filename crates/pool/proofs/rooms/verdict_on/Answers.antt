use Rattle.std.proofs.Common.{inl, inr, subst, sym}
use Rattle.std.proofs.lemmas.Result.{err_from_is_err_and}
use Rattle.vaults.specs.Journal.{credentials}
use Rattle.hall.specs.declared.calls.answers.Answer.{Answer}
use Rattle.hall.specs.declared.calls.requests.Request.TheVariants.{Poll}
use Rattle.hall.specs.declared.calls.replies.Reply.TheVariants.{Answered}
use Rattle.hall.specs.Answers.{IsToldOver}
use Rattle.hall.specs.Hall.{known}
use Rattle.pool.specs.Verdicts.{IsTrueWhereCompleted}
use Rattle.pool.proofs.rooms.verdict_on.Goals as goal

pub new-requires : goal.new-requires
new-requires c = subst (IsTrueWhereCompleted (credentials c.args.search.now.snapshot.vaults) c.args.search.now.query) (sym c.in_ok-told_of.ensures.told) c.requires

pub returns-in_err-told_of : goal.returns-in_err-told_of
returns-in_err-told_of c =
    let p = err_from_is_err_and c.from_residual.result c.from_residual.ensures.1 in
    rw (p.1, p.2) (inl c.in_err-told_of.ensures.served)

pub returns-in_err-new : goal.returns-in_err-new
returns-in_err-new c =
    let p = err_from_is_err_and c.from_residual-in_err-new.result c.from_residual-in_err-new.ensures.1 in
    rw (p.1, p.2) (inr (c.in_err-new.ensures.only_memory, (c.in_ok-told_of.field-0, c.in_ok-told_of.ensures.served)))

pub returns : goal.returns
returns c = (
  subst (λ (a : Answer). IsToldOver (known c.args.search.now) Poll (Answered a)) (sym c.in_ok-new.ensures.answer) c.in_ok-told_of.ensures.served,
  (c.in_ok-new.ensures.query, c.in_ok-new.ensures.snapshot),
)
