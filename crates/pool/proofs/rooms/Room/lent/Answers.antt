use Rattle.std.proofs.Common.{◌∙◌, ap, length, subst, sym, List}
use Rattle.hall.specs.Hall.{HallState, IsSound}
use Rattle.hall.specs.Work.{IsCompletedAt}
use Rattle.pool.specs.declared.turns.Item.{Item}
use Rattle.pool.specs.Histories.{Reaches, ReadsIn}
use Rattle.pool.specs.Rooms.{RoomState, IsKept}
use Rattle.pool.proofs.Reaching.{read_noted, legal_at}
use Rattle.pool.proofs.Polled.{stop_seen}
use Rattle.pool.proofs.Lent.{names_same, completed_there, completed_read, lent_here}
use Rattle.pool.proofs.rooms.Room.lent.Goals as goal
use Rattle.pool.proofs.rooms.Room.lent.Goals.{in-Poll, in-Poll-2}

pub hear-requires-clause-legal : goal.hear-requires-clause-legal
hear-requires-clause-legal g c =
    let s = c.in-Ok-Some.search.value in
    let at : IsCompletedAt c.self.inside.hall c.tenant-who.result c.match-request.number s = rw c.in-Ok-Some.field-0-is at c.in-Ok-Some.ensures.completed in
    let reads : ReadsIn c.self.inside.hall c.tenant-who.result c.args.request.now s = elim c.match-request.branch [
      | in-Poll w ↦ completed_read c.self.inside.hall c.tenant-who.result c.args.request.now c.match-request.number s
          (names_same c.args.request.now c.match-request.number w.in-Poll.number w.in-Poll.is w.number-is) at
      | in-Poll-2 w ↦ completed_read c.self.inside.hall c.tenant-who.result c.args.request.now c.match-request.number s
          (names_same c.args.request.now c.match-request.number w.in-Poll.number w.in-Poll.is w.number-is) at
    ] in
    legal_at g.L.Naming.roster _ c.self.inside.hall
    (read_noted g.L.Naming.roster c.self.inside.keeper c.self.inside.hall (subst IsSound c.completed.ensures.same c.journal_len-length.ensures.sound) c.self.invariant.5 c.args.pass.now.name
    c.tenant-who.result c.args.request.now s c.of-asked.result c.of-read.result reads c.of-asked.ensures (c.of-read.ensures ∙ c.deref-found.ensures))

pub hear-requires-clause-after : goal.hear-requires-clause-after
hear-requires-clause-after g c =
    let s = c.in-Ok-Some.search.value in
    let at : IsCompletedAt c.self.inside.hall c.tenant-who.result c.match-request.number s = rw c.in-Ok-Some.field-0-is at c.in-Ok-Some.ensures.completed in
    let reads : ReadsIn c.self.inside.hall c.tenant-who.result c.args.request.now s = elim c.match-request.branch [
      | in-Poll w ↦ completed_read c.self.inside.hall c.tenant-who.result c.args.request.now c.match-request.number s
          (names_same c.args.request.now c.match-request.number w.in-Poll.number w.in-Poll.is w.number-is) at
      | in-Poll-2 w ↦ completed_read c.self.inside.hall c.tenant-who.result c.args.request.now c.match-request.number s
          (names_same c.args.request.now c.match-request.number w.in-Poll.number w.in-Poll.is w.number-is) at
    ] in
    let reached =
    read_noted g.L.Naming.roster c.self.inside.keeper c.self.inside.hall (subst IsSound c.completed.ensures.same c.journal_len-length.ensures.sound) c.self.invariant.5 c.args.pass.now.name
    c.tenant-who.result c.args.request.now s c.of-asked.result c.of-read.result reads c.of-asked.ensures (c.of-read.ensures ∙ c.deref-found.ensures) in
    c.journal_len-length.ensures.length ∙ ap (λ (h : HallState). length h.journal) c.completed.ensures.same ∙ ap length reached.journal

pub invariant_of-self-2 : goal.invariant_of-self-2
invariant_of-self-2 g c =
    let s = c.in-Ok-Some.search.value in
    let at : IsCompletedAt c.self.inside.hall c.tenant-who.result c.match-request.number s = rw c.in-Ok-Some.field-0-is at c.in-Ok-Some.ensures.completed in
    let reads : ReadsIn c.self.inside.hall c.tenant-who.result c.args.request.now s = elim c.match-request.branch [
      | in-Poll w ↦ completed_read c.self.inside.hall c.tenant-who.result c.args.request.now c.match-request.number s
          (names_same c.args.request.now c.match-request.number w.in-Poll.number w.in-Poll.is w.number-is) at
      | in-Poll-2 w ↦ completed_read c.self.inside.hall c.tenant-who.result c.args.request.now c.match-request.number s
          (names_same c.args.request.now c.match-request.number w.in-Poll.number w.in-Poll.is w.number-is) at
    ] in
    let reached =
    read_noted g.L.Naming.roster c.self.inside.keeper c.self.inside.hall (subst IsSound c.completed.ensures.same c.journal_len-length.ensures.sound) c.self.invariant.5 c.args.pass.now.name
    c.tenant-who.result c.args.request.now s c.of-asked.result c.of-read.result reads c.of-asked.ensures (c.of-read.ensures ∙ c.deref-found.ensures) in (
      c.hear.ensures.total ∙ c.journal_len-length.ensures.length,
      c.self.invariant.1,
      c.self.invariant.2,
      c.self.invariant.3,
      c.self.invariant.4,
      subst (λ (h : HallState). Reaches g.L.Naming.roster c.hear.new.keeper h) (sym c.completed.ensures.same)
          (subst (λ (l : List Item). Reaches g.L.Naming.roster l c.self.inside.hall) (sym c.hear.ensures.keeper) reached),
      λ is. stop_seen _ _ (c.self.invariant.6 is) (_, sym c.hear.ensures.keeper),
    )

pub returns-clause-lent : goal.returns-clause-lent
returns-clause-lent g c =
    let s = c.in-Ok-Some.search.value in
    let h = c.self.inside.hall in
    let q = c.args.request.now in
    let number = c.match-request.number in
    let at : IsCompletedAt h c.tenant-who.result number s = rw c.in-Ok-Some.field-0-is at c.in-Ok-Some.ensures.completed in
    let kept = subst IsKept c.self.view_is (record { sound = subst IsSound c.completed.ensures.same c.journal_len-length.ensures.sound; stop = c.self.invariant.6 }) in
    elim c.match-request.branch [
      | in-Poll w ↦ let names = names_same q number w.in-Poll.number w.in-Poll.is w.number-is in
          lent_here g.L.Naming.roster c.self.inside.keeper c.hear.new.keeper h c.args.self.now c.args.pass.now c.hear.new.self c.tenant-who.result q number s c.of-asked.result c.of-read.result
          (ap (λ (r : RoomState). r.hall) c.self.view_is) (ap (λ (r : RoomState). r.told) c.self.view_is) c.tenant-who.ensures c.of-asked.ensures (c.of-read.ensures ∙ c.deref-found.ensures) kept
          c.self.invariant.5 names (completed_there h c.tenant-who.result number s at) (completed_read h c.tenant-who.result q number s names at)
          c.hear.ensures.began c.hear.ensures.own c.hear.ensures.pass c.hear.ensures.keeper
      | in-Poll-2 w ↦ let names = names_same q number w.in-Poll.number w.in-Poll.is w.number-is in
          lent_here g.L.Naming.roster c.self.inside.keeper c.hear.new.keeper h c.args.self.now c.args.pass.now c.hear.new.self c.tenant-who.result q number s c.of-asked.result c.of-read.result
          (ap (λ (r : RoomState). r.hall) c.self.view_is) (ap (λ (r : RoomState). r.told) c.self.view_is) c.tenant-who.ensures c.of-asked.ensures (c.of-read.ensures ∙ c.deref-found.ensures) kept
          c.self.invariant.5 names (completed_there h c.tenant-who.result number s at) (completed_read h c.tenant-who.result q number s names at)
          c.hear.ensures.began c.hear.ensures.own c.hear.ensures.pass c.hear.ensures.keeper
    ]
