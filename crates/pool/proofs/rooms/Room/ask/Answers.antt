use Rattle.std.proofs.Common.{◌∙◌, ◌++◌, ◌∷◌, [], ap, sym, length, subst, refl, List}
use Rattle.pool.specs.declared.turns.Item.{Item}
use Rattle.pool.specs.declared.turns.Noted.TheVariants as noted
use Rattle.pool.specs.Histories.{Reaches, item_of}
use Rattle.pool.specs.Passes.{PassState}
use Rattle.pool.specs.Rooms.{RoomState}
use Rattle.pool.proofs.Reaching.{told_noted, legal_at}
use Rattle.pool.proofs.Served.{served_same}
use Rattle.pool.proofs.Polled.{stop_seen}
use Rattle.pool.proofs.Told.{next_item, noted_told}
use Rattle.pool.proofs.rooms.Room.ask.Goals as goal

pub hear-requires : goal.hear-requires
hear-requires g c =
    let reached = told_noted g.L.Naming.roster c.self.inside.keeper c.self.inside.hall c.journal_len-before.ensures.sound c.self.invariant.5 c.args.pass.now.name c.ask_hall-result.new.hall
    c.tenant-who.result c.args.request c.ask_hall-result.result c.of-asked.result c.of-told.result c.ask_hall-result.ensures.served c.of-asked.ensures c.of-told.ensures in record {
      legal = legal_at g.L.Naming.roster _ c.ask_hall-result.new.hall reached;
      total = c.self.invariant.0 ∙ sym c.journal_len-before.ensures.length;
      before = c.journal_len-before.ensures.length ∙ ap length c.self.invariant.5.journal;
      after = c.journal_len-after.ensures.length ∙ ap length reached.journal;
    }

pub invariant_of-self : goal.invariant_of-self
invariant_of-self g c =
    let reached = told_noted g.L.Naming.roster c.self.inside.keeper c.self.inside.hall c.journal_len-before.ensures.sound c.self.invariant.5 c.args.pass.now.name c.ask_hall-result.new.hall
    c.tenant-who.result c.args.request c.ask_hall-result.result c.of-asked.result c.of-told.result c.ask_hall-result.ensures.served c.of-asked.ensures c.of-told.ensures in (
      c.hear.ensures.total ∙ c.journal_len-after.ensures.length,
      c.self.invariant.1,
      c.self.invariant.2,
      c.self.invariant.3,
      c.self.invariant.4,
      subst (λ (l : List Item). Reaches g.L.Naming.roster l c.ask_hall-result.new.hall) (sym c.hear.ensures.keeper) reached,
      λ is. stop_seen _ _ (c.self.invariant.6 is) (_, sym c.hear.ensures.keeper),
    )

pub returns : goal.returns
returns g c =
    let next = next_item c.args.pass.now _ c.self.inside.keeper _ _ _ c.hear.ensures.began c.hear.ensures.own c.hear.ensures.pass c.hear.ensures.keeper refl in record {
      served = served_same c.self.inside.hall c.args.self.now.hall c.ask_hall-result.new.hall c.tenant-who.result c.args.pass.now.tenant c.args.request _
          (ap (λ (r : RoomState). r.hall) c.self.view_is) c.tenant-who.ensures c.ask_hall-result.ensures.served;
      told = noted_told c.args.pass.now _ c.tenant-who.result c.args.request c.ask_hall-result.result c.of-asked.result c.of-told.result next c.tenant-who.ensures c.of-asked.ensures c.of-told.ensures;
      seen = (
        item_of c.args.pass.now.name (noted.Told c.tenant-who.result c.of-asked.result c.of-told.result) ∷ [],
        ap (λ (r : RoomState). r.told ++ item_of c.args.pass.now.name (noted.Told c.tenant-who.result c.of-asked.result c.of-told.result) ∷ []) (sym c.self.view_is) ∙ sym c.hear.ensures.keeper ∙ sym (ap (λ (p : PassState). p.seen) c.hear.ensures.pass),
      );
    }
