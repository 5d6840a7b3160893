-- What was read ahead goes up to the newline.
use Rattle.std.proofs.Common.{arith, sym, ap, subst, ◌∙◌, ◌+◌, ◌≤◌, ◌++◌, ◌∷◌, [], ◌≡◌, List, ℕ, Some, length, take, take_all}
use Rattle.std.proofs.BufReadLemmas.{Consumes_shown}
use Rattle.std.proofs.KnownBytes.{Consumes-nil, Consumes-kept}
use Rattle.std.proofs.Math.Seq.{take-append-add}
use Rattle.std.proofs.lemmas.List.{length-append}
use Rattle.std.proofs.lemmas.Bool.{eqb-true}
use Rattle.std.specs.Io.Buffered.{reader_buffer}
use Rattle.std.specs.Io.BufRead.{FillKeeps, DropsConsumable}
use Rattle.service.specs.LineReader.{unread_bytes}
use Rattle.service.proofs.LineLemmas.{HasNoNewline}
use Rattle.service.proofs.TakenLemmas.{before-newline, no-newline, shown-nothing, take-behind, take-nothing}
use Rattle.service.proofs.lines.take_part.Goals as goal
use Rattle.service.proofs.lines.take_part.Goals.{in-Some, in-None, in-None-2}

pub returns-in-Err-clause-taken : goal.returns-in-Err-clause-taken
returns-in-Err-clause-taken g c =
    let old = unread_bytes g.R.Read.remaining c.args.ahead.now in
    let new = unread_bytes g.R.Read.remaining c.fill_buf.follows.lender-at-none in
    let line = c.args.line.now in (
      [],
      no-newline,
      take-nothing 4098 line.items (omega (arith, c.requires.few, line.ok.0)),
      Consumes-kept old old new [] (Consumes-nil old) c.fill_buf.follows.holds-at-none.0,
    )

pub returns-in-Err-2-clause-taken : goal.returns-in-Err-2-clause-taken
returns-in-Err-2-clause-taken g c =
    let line = c.args.line.now in
    ([], no-newline, take-nothing 4098 line.items (omega (arith, c.requires.few, line.ok.0)), tt)

pub returns-clause-taken : goal.returns-clause-taken
returns-clause-taken g c =
    let bytes = c.in-Ok.bytes.now in
    let part = c.cut.result.0.now in
    let line = c.args.line.now in
    let none : HasNoNewline part = subst (λ (t : List ℕ). HasNoNewline t) (sym c.cut.ensures.before) (before-newline bytes) in
    let kept = take-behind 4098 c.min-kept.result line.items part c.extend_from_slice.new.self.items (omega (arith, c.requires.few, line.ok.0))
    (omega (arith, c.min-kept.ensures, c.len.ensures, line.ok.0)) (rw c.unwrap.ensures at c.extend_from_slice.ensures.items) in
    let shown = c.in-Ok.ensures in
    let rested = c.fill_buf.follows.lender-at-none in
    let old = unread_bytes g.R.Read.remaining c.args.ahead.now in
    let ahead = unread_bytes g.R.Read.remaining rested in
    let new = unread_bytes g.R.Read.remaining c.consume.new.self in
    let held = Some (length (reader_buffer rested)) in
    let filled = subst (λ r. FillKeeps old ahead held r) c.in-Ok.is c.fill_buf.follows.holds-at-none in
    elim c.match-rest.branch [
      | in-Some w ↦
          let rest = w.in-Some._rest.now in
          let whole : bytes ≡ part ++ 10 ∷ rest = rw w.in-Some.is at c.cut.ensures.whole in
          let within : length part + 1 ≤ length bytes = omega (arith, ap length whole, length-append part (10 ∷ rest)) in
          let drops : DropsConsumable ahead new held (length part + 1) = rw w.count-is at c.consume.ensures.bytes in
          let taken = (Consumes_shown old ahead new held bytes (length part + 1) within shown.front shown.end filled.0 filled.1 drops).0 in
          let through : take (length part + 1) bytes ≡ part ++ 10 ∷ [] = ap (λ t. take (length part + 1) t) whole ∙ take-append-add part (10 ∷ rest) 1 in
          rw w.count-is (part, none, kept, rw through at taken)
      | in-None w ↦
          let whole = rw w.in-None.is at c.cut.ensures.whole in
          let nothing = eqb-true (length part) 0 (sym w.is_empty.ensures ∙ w.if-is_empty.true) in
          rw w.count-is (part, none, kept, shown-nothing old bytes part shown.end whole nothing)
      | in-None-2 w ↦
          let whole : bytes ≡ part = rw w.in-None.is at c.cut.ensures.whole in
          let within : length part ≤ length bytes = omega (arith, ap length whole) in
          let drops : DropsConsumable ahead new held (length part) = rw w.count-is at c.consume.ensures.bytes in
          let taken = (Consumes_shown old ahead new held bytes (length part) within shown.front shown.end filled.0 filled.1 drops).0 in
          let all : take (length part) bytes ≡ part = ap (λ t. take (length part) t) whole ∙ take_all (length part) part (omega arith) in
          rw w.count-is (part, none, kept, rw all at taken)
    ]
