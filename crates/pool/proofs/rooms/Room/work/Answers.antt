use Rattle.std.proofs.Common.{◌≡◌, ◌∙◌, Bool, ap, cond, length, option_map, refl, sym, subst}
use Rattle.hall.specs.declared.orders.{Order.Order, Order.TheVariants.GiveBack}
use Rattle.hall.specs.Batches.{name_of}
use Rattle.hall.specs.Hall.{IsSound}
use Rattle.hall.specs.Work.{IsVisit, TellsEnds}
use Rattle.pool.specs.Histories.{Reaches}
use Rattle.pool.specs.Rooms.{RoomState}
use Rattle.pool.specs.declared.visits.TheConstants.{BATCH}
use Rattle.pool.proofs.Visiting.{visit_keeps, keeps_journal, keeps_reached}
use Rattle.pool.proofs.rooms.Room.work.Goals as goal
use Rattle.pool.proofs.rooms.Room.work.Goals.{then-self, else-self}

pub invariant_of-self : goal.invariant_of-self
invariant_of-self g c = (
  c.self.invariant.0
      ∙ ap length (sym (visit_keeps (λ h. h.journal ≡ c.self.inside.hall.journal) (keeps_journal c.self.inside.hall.journal) c.if-self.order BATCH c.self.inside.hall c.args.batch.now c.work-visit.result
      c.work-visit.new.self c.work-visit.new.batch c.work-visit.ensures.visit refl)),
  c.self.invariant.1,
  c.self.invariant.2,
  c.self.invariant.3,
  c.self.invariant.4,
  (visit_keeps (λ h. IsSound h × Reaches g.L.Naming.roster c.self.inside.keeper h) (keeps_reached g.L.Naming.roster c.self.inside.keeper) c.if-self.order BATCH c.self.inside.hall c.args.batch.now
      c.work-visit.result c.work-visit.new.self c.work-visit.new.batch c.work-visit.ensures.visit (c.journal_len-length.ensures.sound, c.self.invariant.5)).1,
  c.self.invariant.6,
)

pub returns : goal.returns
returns g c =
    let ordered : c.if-self.order ≡ cond c.self.inside.stopped GiveBack c.args.order = elim c.if-self.branch [
      | then-self w ↦ w.order-is ∙ ap (λ (b : Bool). cond b GiveBack c.args.order) (sym w.if-self.true)
      | else-self w ↦ w.order-is ∙ ap (λ (b : Bool). cond b GiveBack c.args.order) (sym w.if-self.false)
    ] in record {
      visit = subst (λ (order : Order). IsVisit order BATCH c.args.self.now.hall c.args.batch.now c.work-visit.result c.work-visit.new.self c.work-visit.new.batch)
          (ordered ∙ ap (λ (r : RoomState). cond r.stopped GiveBack c.args.order) c.self.view_is)
          (subst (λ (r : RoomState). IsVisit c.if-self.order BATCH r.hall c.args.batch.now c.work-visit.result c.work-visit.new.self c.work-visit.new.batch) c.self.view_is c.work-visit.ensures.visit);
      ends = subst (λ (r : RoomState). TellsEnds (option_map name_of c.args.batch.now.of) r.hall c.work-visit.new.self c.work-visit.new.ends) c.self.view_is c.work-visit.ensures.ends;
      room = ap (λ (r : RoomState). record r { hall = c.work-visit.new.self }) c.self.view_is;
      counted = c.count.ensures.tally;
    }
