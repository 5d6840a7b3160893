use Rattle.std.proofs.Common.{◌≡◌, ◌∙◌, ap, inl, length, refl, subst, sym, List, ℕ, None, option_map}
use Rattle.hall.specs.declared.calls.requests.Request.TheVariants.{Poll}
use Rattle.hall.specs.Hall.{Running, search_at}
use Rattle.pool.specs.declared.turns.Item.{Item}
use Rattle.pool.specs.Histories.{Reaches}
use Rattle.pool.specs.Rooms.{RoomState, IsKept}
use Rattle.pool.proofs.Reaching.{read_noted, legal_at}
use Rattle.pool.proofs.Polled.{stop_seen}
use Rattle.pool.proofs.Lent.{found_truth, lent_here, lent_polled}
use Rattle.pool.proofs.rooms.Room.poll.Goals as goal

pub refuse-requires : goal.refuse-requires
refuse-requires g c =
    subst (λ (r : RoomState). None ≡ option_map (λ (one : Running). one.search) (search_at r.hall c.args.pass.now.tenant c.args.number)) c.self.view_is
    (subst (λ (n : List ℕ). None ≡ option_map (λ (one : Running). one.search) (search_at c.self.inside.hall n c.args.number)) c.tenant-who.ensures c.in_default.ensures)

pub returns-in_default : goal.returns-in_default
returns-in_default g c = record { polled = c.refuse.ensures.polled; seen = c.refuse.ensures.seen; working = tt }

pub hear-requires-clause-legal : goal.hear-requires-clause-legal
hear-requires-clause-legal g c =
    legal_at g.L.Naming.roster _ c.self.inside.hall
    (read_noted g.L.Naming.roster c.self.inside.keeper c.self.inside.hall c.journal_len-length.ensures.sound c.self.invariant.5 c.args.pass.now.name
    c.tenant-who.result (Poll c.args.number) c.in-Some.search.now c.of-asked.result c.of-read.result (sym c.in-Some.ensures) c.of-asked.ensures c.of-read.ensures)

pub hear-requires-clause-after : goal.hear-requires-clause-after
hear-requires-clause-after g c =
    let reached =
    read_noted g.L.Naming.roster c.self.inside.keeper c.self.inside.hall c.journal_len-length.ensures.sound c.self.invariant.5 c.args.pass.now.name
    c.tenant-who.result (Poll c.args.number) c.in-Some.search.now c.of-asked.result c.of-read.result (sym c.in-Some.ensures) c.of-asked.ensures c.of-read.ensures in
    c.journal_len-length.ensures.length ∙ ap length reached.journal

pub verdict_on-requires : goal.verdict_on-requires
verdict_on-requires g c = found_truth c.self.inside.hall c.tenant-who.result c.args.number c.in-Some.search.now c.journal_len-length.ensures.sound (sym c.in-Some.ensures)

pub invariant_of-self : goal.invariant_of-self
invariant_of-self g c =
    let reached =
    read_noted g.L.Naming.roster c.self.inside.keeper c.self.inside.hall c.journal_len-length.ensures.sound c.self.invariant.5 c.args.pass.now.name
    c.tenant-who.result (Poll c.args.number) c.in-Some.search.now c.of-asked.result c.of-read.result (sym c.in-Some.ensures) c.of-asked.ensures c.of-read.ensures in (
      c.hear.ensures.total ∙ c.journal_len-length.ensures.length,
      c.self.invariant.1,
      c.self.invariant.2,
      c.self.invariant.3,
      c.self.invariant.4,
      subst (λ (l : List Item). Reaches g.L.Naming.roster l c.self.inside.hall) (sym c.hear.ensures.keeper) reached,
      λ is. stop_seen _ _ (c.self.invariant.6 is) (_, sym c.hear.ensures.keeper),
    )

pub returns : goal.returns
returns g c =
    let kept = subst IsKept c.self.view_is (record { sound = c.journal_len-length.ensures.sound; stop = c.self.invariant.6 }) in
    lent_polled c.args.self.now c.args.pass.now c.hear.new.self c.args.number c.in-Some.search.now
    (lent_here g.L.Naming.roster c.self.inside.keeper c.hear.new.keeper c.self.inside.hall c.args.self.now c.args.pass.now c.hear.new.self c.tenant-who.result (Poll c.args.number) c.args.number
    c.in-Some.search.now c.of-asked.result c.of-read.result (ap (λ (r : RoomState). r.hall) c.self.view_is) (ap (λ (r : RoomState). r.told) c.self.view_is) c.tenant-who.ensures c.of-asked.ensures
    c.of-read.ensures kept c.self.invariant.5 (inl refl) (sym c.in-Some.ensures) (sym c.in-Some.ensures)
    c.hear.ensures.began c.hear.ensures.own c.hear.ensures.pass c.hear.ensures.keeper) c.verdict_on.result c.verdict_on.ensures
