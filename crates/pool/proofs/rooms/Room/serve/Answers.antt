use Rattle.std.proofs.Common.{◌∙◌, ap, subst, Result}
use Rattle.hall.specs.declared.faults.Fault.{Fault}
use Rattle.hall.specs.declared.calls.replies.Reply.{Reply}
use Rattle.hall.specs.Hall.{IsServed, told_as}
use Rattle.pool.specs.Rooms.{request_concern}
use Rattle.pool.specs.Served.{IsTold}
use Rattle.pool.proofs.Served.{served_suits}
use Rattle.pool.proofs.rooms.Room.serve.Goals as goal

pub returns-in-Ok : goal.returns-in-Ok
returns-in-Ok g c = record {
  answered = subst (λ (r : Result Reply Fault). IsTold c.args.pass.now c.ask-result.new.pass c.args.request (told_as (λ (x : Reply). x) r)) c.in-Ok.is c.ask-result.ensures.told;
  suits = served_suits c.args.self.now.hall c.ask-result.new.self.hall c.args.pass.now.tenant c.args.request c.in-Ok.reply
      (subst (λ (r : Result Reply Fault). IsServed c.args.self.now.hall c.args.pass.now.tenant c.args.request (told_as (λ (x : Reply). x) r) c.ask-result.new.self.hall) c.in-Ok.is c.ask-result.ensures.served);
  notice = c.of.ensures ∙ c.of_request-concern.ensures ∙ ap (λ name. request_concern name c.args.request) c.tenant.ensures;
}

pub returns-in-Err : goal.returns-in-Err
returns-in-Err g c = record {
  answered = subst (λ (r : Result Reply Fault). IsTold c.args.pass.now c.ask-result.new.pass c.args.request (told_as (λ (x : Reply). x) r)) c.in-Err.is c.ask-result.ensures.told;
  suits = tt;
  notice = tt;
}
