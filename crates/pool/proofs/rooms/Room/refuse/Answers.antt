use Rattle.std.proofs.Common.{subst, Result}
use Rattle.hall.specs.declared.faults.Fault.{Fault}
use Rattle.hall.specs.declared.calls.replies.Reply.{Reply}
use Rattle.hall.specs.declared.calls.requests.Request.TheVariants.{Poll}
use Rattle.hall.specs.Hall.{IsServed, told_as}
use Rattle.pool.proofs.Polled.{nothing_granted}
use Rattle.pool.proofs.rooms.Room.refuse.Goals as goal

pub unreachable-requires : goal.unreachable-requires
unreachable-requires g c =
    nothing_granted c.args.self.now.hall c.ask-result.new.self.hall c.args.pass.now.tenant c.args.number c.in-Ok.reply c.in_default.not-Refused
    (subst (λ (r : Result Reply Fault). IsServed c.args.self.now.hall c.args.pass.now.tenant (Poll c.args.number) (told_as (λ (x : Reply). x) r) c.ask-result.new.self.hall) c.in-Ok.is
    c.ask-result.ensures.served) c.requires
