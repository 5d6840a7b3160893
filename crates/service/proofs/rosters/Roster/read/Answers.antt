-- Each line adds a tenant, ends the roster, or ends the reading.
use Rattle.std.proofs.Common.{◌≡◌, ◌<◌, Bool, false, length, arith, refl, sym, ◌∙◌}
use Rattle.std.specs.Prelude.{IsTrue}
use Rattle.std.proofs.lemmas.Bool.{eqb-false, eqb-true}
use Rattle.std.proofs.lemmas.List.{nil_from_length}
use Rattle.std.proofs.lemmas.Result.{err_from_is_err_and}
use Rattle.service.proofs.RosterLemmas.{IsDistinct-none, AddsRow-refused}
use Rattle.service.proofs.RosterSteps.{SoFar-start, SoFar-blank, SoFar-row, ReadsRoster-refused, ReadsRoster-begin, ReadsRoster-failed, HasNoRoster-ended, AddsRow-writes_nothing}
use Rattle.service.proofs.rosters.Roster.read.Goals as goal
use Rattle.service.proofs.rosters.Roster.read.Goals.{then-is_blank, in-Text-3+in_ok-add_row-in-Text-3, then-not-is_empty+else-is_word, else-not-is_empty}

apart : {b : Bool} → IsTrue b → b ≡ false → ⊥
apart is other = cc

pub loop-init : goal.loop-init
loop-init g c = rw c.new-rows.ensures.items (record { left = SoFar-start c.args.lines.now; distinct = IsDistinct-none; most = omega arith })

pub returns-in-Text-2 : goal.returns-in-Text-2
returns-in-Text-2 g c =
    let some : 0 < length c.loop.rows.items = omega (arith, eqb-false c.loop.rows.len 0 (sym c.is_empty.ensures ∙ c.if-not-is_empty.true), c.loop.rows.ok.0) in
    record {
      roster = ReadsRoster-begin c.args.lines.now c.loop.lines c.next.follows.lender-at-none c.loop.rows.items c.next.result c.in-Text.text.now
          c.loop.invariant.left c.next.follows.holds-at-none (rw c.in-Text.is refl)
          (record { distinct = c.loop.invariant.distinct; some = some; most = c.loop.invariant.most }) (sym c.if-is_blank.ensures) (c.is_word.ensures.0 c.if-is_word.true);
      reads_alone = tt;
    }

pub returns-in_err-add_row-in-Text-3 : goal.returns-in_err-add_row-in-Text-3
returns-in_err-add_row-in-Text-3 g c =
    let out = err_from_is_err_and c.from_residual.result c.from_residual.ensures.1 in
    let ensures = c.in_err-add_row-in-Text-3.ensures in
    let adds = AddsRow-refused c.loop.rows.items c.add_row.new.rows.items c.in-Text.text.now _ ensures.none ensures.fault in
    rw (out.1, out.2) (record {
      roster = ReadsRoster-refused c.args.lines.now c.loop.lines c.next.follows.lender-at-none c.loop.rows.items c.next.result c.in-Text.text.now
          c.loop.invariant.left c.next.follows.holds-at-none (rw c.in-Text.is refl)
          c.add_row.new.rows.items _ (sym c.if-is_blank.ensures)
          (λ begin. elim c.if-not-is_empty.branch [
            | then-not-is_empty+else-is_word w ↦ absurd (apart (w.is_word.ensures.1 begin) w.if-is_word.false)
            | else-not-is_empty w ↦
                nil_from_length c.loop.rows.items (omega (arith, eqb-true c.loop.rows.len 0 (sym c.is_empty.ensures ∙ w.if-not-is_empty.false), c.loop.rows.ok.0))
          ])
          adds;
      reads_alone = AddsRow-writes_nothing c.args.lines.now c.loop.lines c.next.follows.lender-at-none c.loop.rows.items c.next.result c.in-Text.text.now
          c.loop.invariant.left c.next.follows.holds-at-none (rw c.in-Text.is refl) c.add_row.new.rows.items _ adds;
    })

pub returns-in-Fault : goal.returns-in-Fault
returns-in-Fault g c = record { roster = ReadsRoster-failed c.args.lines.now; reads_alone = λ is. cc }

pub returns-in_default : goal.returns-in_default
returns-in_default g c = record {
  roster = HasNoRoster-ended c.args.lines.now c.loop.lines c.next.follows.lender-at-none c.loop.rows.items c.next.result
      c.loop.invariant.left c.next.follows.holds-at-none c.in_default.not-Text c.in_default.not-Fault;
  reads_alone = λ is. cc;
}

pub returns : goal.returns
returns g c = record { roster = ReadsRoster-failed c.args.lines.now; reads_alone = λ is. cc }

pub loop-preserved : goal.loop-preserved
loop-preserved g c =
    elim c.if-is_blank.branch [
      | then-is_blank w ↦ rw (w.lines-is, w.rows-is) (record {
        left = SoFar-blank c.args.lines.now c.loop.lines c.next.follows.lender-at-none c.loop.rows.items c.next.result c.in-Text.text.now
            c.loop.invariant.left c.next.follows.holds-at-none (rw c.in-Text.is refl) (sym w.if-is_blank.ensures);
        distinct = c.loop.invariant.distinct;
        most = c.loop.invariant.most;
      })
      | in-Text-3+in_ok-add_row-in-Text-3 w ↦
          let adds = w.in_ok-add_row-in-Text-3.ensures.added in
          let roster = rw adds.2 at (adds.3 c.loop.invariant.distinct) in
          rw (w.lines-is, w.rows-is, adds.2) (record {
            left = SoFar-row c.args.lines.now c.loop.lines c.next.follows.lender-at-none c.loop.rows.items c.next.result c.in-Text.text.now
                c.loop.invariant.left c.next.follows.holds-at-none (rw c.in-Text.is refl) adds.0 (sym w.if-is_blank.ensures) adds.1;
            distinct = roster.distinct;
            most = roster.most;
          })
    ]
