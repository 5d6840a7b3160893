use Rattle.std.proofs.Common.{◌≡◌, None, sym, subst, List}
use Rattle.std.proofs.lemmas.Result.{err_from_is_err_and}
use Rattle.vaults.specs.declared.changes.Entry.{Entry}
use Rattle.vaults.specs.Journal.{refusal, revokes}
use Rattle.hall.specs.declared.calls.requests.Request.TheVariants.{Alter}
use Rattle.hall.specs.declared.calls.replies.Reply.TheVariants.{Counted, Refused}
use Rattle.hall.specs.Hall.{HallState, IsServed}
use Rattle.hall.proofs.Reached.{hall_of}
use Rattle.hall.proofs.Altering.{not_revoked, refused_alter, journal_refused, accepted}
use Rattle.hall.proofs.laws.HallSound.{served_sound}
use Rattle.hall.proofs.halls.Hall.alter.Goals as goal
use Rattle.hall.proofs.halls.Hall.alter.Goals.{In_ok-enter}

pub returns-in_err-may_alter : goal.returns-in_err-may_alter
returns-in_err-may_alter c =
    let p = err_from_is_err_and c.from_residual-in_err-may_alter.result c.from_residual-in_err-may_alter.ensures.1 in
    rw (p.1, p.2, ← c.self.view_is) record {
      served = refused_alter (hall_of c.self.inside.book c.self.inside.tenants) c.args.who c.args.change.now c.in_ok-seat.seat.now c.in_ok-seat.ensures.here c.in_err-may_alter.field-0.0
          c.in_err-may_alter.ensures.refused;
    }

pub returns-in_err-enter : goal.returns-in_err-enter
returns-in_err-enter c =
    let p = err_from_is_err_and c.from_residual-in_err-enter.result c.from_residual-in_err-enter.ensures.1 in
    let h : HallState = hall_of c.self.inside.book c.self.inside.tenants in
    rw (p.1, ← c.self.view_is) record {
      served = subst (λ (j : List Entry). IsServed h c.args.who (Alter c.args.change.now) (Refused p.0) (hall_of j h.tenants)) (sym c.in_err-enter.ensures.unchanged)
          (journal_refused h c.args.who c.args.change.now c.in_ok-seat.seat.now c.in_ok-seat.ensures.here c.in_ok-may_alter.ensures.allowed p.0 c.in_err-enter.field-0.0
          c.in_err-enter.ensures.refused p.2
          (λ (none : refusal h.journal c.args.who c.args.change.now ≡ None). not_revoked (revokes c.args.change.now) (λ yes. c.in_err-enter.ensures.revocable yes none)));
    }

-- the change that is served
served : (c : In_ok-enter) → IsServed (hall_of c.self.inside.book c.self.inside.tenants) c.args.who (Alter c.args.change.now) (Counted c.in_ok-enter.field-0)
    (hall_of c.enter.new.self c.self.inside.tenants)
served c =
    accepted _ c.args.who c.args.change.now c.in_ok-seat.seat.now c.in_ok-seat.ensures.here c.in_ok-may_alter.ensures.allowed c.in_ok-enter.field-0 c.enter.new.self
    c.in_ok-enter.ensures.accepted c.in_ok-enter.ensures.entered c.in_ok-enter.ensures.counted

pub invariant_of-self-2 : goal.invariant_of-self-2
invariant_of-self-2 c = record {
  sound = served_sound _ _ c.args.who (Alter c.args.change.now) (Counted c.in_ok-enter.field-0) c.self.invariant.sound
      (served (goal.at.invariant_of-self-2 c).In_ok-enter);
  listed = c.self.invariant.listed;
}

pub returns : goal.returns
returns c = rw (← c.self.view_is) record { served = served (goal.at.returns c).In_ok-enter }
