use Rattle.std.proofs.Common.{rules, ◌+◌, List, sym, subst, arith}
use Rattle.hall.specs.declared.calls.replies.Reply.{Reply}
use Rattle.hall.specs.Hall.{IsSound}
use Rattle.hall.proofs.Runs.{RunsSoFar, runs_more, all_ran}
use Rattle.hall.proofs.laws.HallRuns.{runs_allowed}
use Rattle.hall.proofs.halls.Hall.run.Goals as goal

pub loop-event-init : goal.loop-event-init
loop-event-init c =
    let sound : IsSound c.args.self.now = subst IsSound c.self.view_is c.self.invariant.sound in
    search rules

pub loop-event-preserved : goal.loop-event-preserved
loop-event-preserved c = record {
  so_far = subst (λ (replies : List Reply). RunsSoFar c.args.self.now c.args.events.now (c.loop-event.event-index + 1) replies c.happen-reply.new.self) (sym c.push_reserved.ensures.items)
      (runs_more c.args.self.now c.loop-event.self c.happen-reply.new.self c.args.events.now c.loop-event.event-index c.loop-event.replies.items c.event-item.result c.happen-reply.result
      c.loop-event-test.true c.event-item.is c.loop-event.invariant.so_far c.happen-reply.ensures);
  room = omega (arith, c.loop-event.invariant.room, c.push_reserved.ensures.capacity);
}

pub returns-clause-tenants : goal.returns-clause-tenants
returns-clause-tenants c =
    runs_allowed c.args.self.now c.loop-event.self c.args.events.now c.loop-event.replies.items c.loop-event.invariant.so_far.sound
    (all_ran c.args.self.now c.loop-event.self c.args.events.now c.loop-event.event-index c.loop-event.replies.items (omega (arith, c.loop-event-test.false)) c.loop-event.invariant.so_far)
