use Rattle.std.proofs.Common.{subst, sym}
use Rattle.vaults.specs.Journal.{credentials}
use Rattle.search.specs.Search.{SearchState}
use Rattle.hall.specs.Answers.{answer_of}
use Rattle.search.specs.Search.{settled_of}
use Rattle.pool.specs.Rooms.{RoomState}
use Rattle.pool.specs.Served.{IsPolledIn}
use Rattle.pool.specs.Verdicts.{IsTrueWhereCompleted}
use Rattle.pool.proofs.Lent.{found_truth, IsVerdictOn, lent_polled}
use Rattle.pool.proofs.desks.Desk.look.Goals as goal

pub verdict_on-requires : goal.verdict_on-requires
verdict_on-requires g c =
    let lent = c.in-Some.ensures.lent in
    subst (λ (s : SearchState). IsTrueWhereCompleted (credentials s.snapshot.vaults) s.query (answer_of (settled_of s))) (sym c.deref.ensures)
    (found_truth _ c.args.pass.now.tenant c.args.number c.in-Some.search.value lent.kept.sound lent.reads)

pub returns : goal.returns
returns g c =
    subst (λ (r : RoomState). IsPolledIn r c.args.pass.now c.lent.new.pass c.args.number c.verdict_on.result) c.deref_mut.ensures.value
    (lent_polled _ c.args.pass.now _ c.args.number c.in-Some.search.value c.in-Some.ensures.lent c.verdict_on.result
    (subst (λ (s : SearchState). IsVerdictOn s c.verdict_on.result) c.deref.ensures c.verdict_on.ensures))
