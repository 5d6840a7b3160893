use Rattle.std.proofs.Common.{subst, Ok, Err}
use Rattle.search.specs.Search.{SearchState}
use Rattle.hall.specs.Hall.{known}
use Rattle.pool.specs.Histories.{IsReadOff}
use Rattle.pool.specs.Served.{IsAnswered}
use Rattle.pool.specs.declared.rooms.Served.{Served}
use Rattle.pool.proofs.Lent.{lent_answered, read_suits}
use Rattle.pool.proofs.Told.{answered_later}
use Rattle.pool.proofs.desks.Desk.serve.Goals as goal

pub returns-in-Some : goal.returns-in-Some
returns-in-Some g c =
    let read = subst (λ (s : SearchState). IsAnswered (λ r. r) (IsReadOff (known s) c.args.request) c.read_off.result) c.deref.ensures c.read_off.ensures in record {
      answered = lent_answered _ c.args.pass.now _ c.args.request c.in-Some.search.value c.in-Some.ensures.lent c.read_off.result read;
      suits = read_suits _ c.args.pass.now _ c.args.request c.in-Some.search.value c.in-Some.ensures.lent c.read_off.result read;
    }

pub returns-in-Ok : goal.returns-in-Ok
returns-in-Ok g c = record {
  answered = answered_later (λ (s : Served). s.reply) c.args.pass.now _ c.args.request _ (Ok c.in-Ok.served) (c.lent.ensures.pass c.in_default.is) c.in-Ok.ensures.answered;
  suits = c.in-Ok.ensures.suits;
}

pub returns-in-Err : goal.returns-in-Err
returns-in-Err g c = record {
  answered = answered_later (λ (s : Served). s.reply) c.args.pass.now _ c.args.request _ (Err c.in-Err.fault) (c.lent.ensures.pass c.in_default.is) c.in-Err.ensures.answered;
  suits = tt;
}
