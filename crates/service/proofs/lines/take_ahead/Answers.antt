-- What was read ahead goes up to the newline.
use Rattle.std.proofs.Common.{arith, sym, ap, subst, ◌∙◌, ◌+◌, ◌≤◌, ◌++◌, ◌∷◌, [], ◌≡◌, List, ℕ, length, take}
use Rattle.std.proofs.Math.Seq.{take-append-add}
use Rattle.std.proofs.lemmas.List.{length-append}
use Rattle.std.specs.Prelude.{◌==◌, Some}
use Rattle.std.specs.Io.BufRead.{DropsConsumable}
use Rattle.std.specs.Io.Buffered.{reader_buffer, reader_capacity}
use Rattle.service.specs.LineReader.{unread_bytes}
use Rattle.service.proofs.LineLemmas.{HasNoNewline}
use Rattle.service.proofs.TakenLemmas.{before-newline, take-behind, taken-ahead}
use Rattle.service.proofs.lines.take_ahead.Goals as goal

pub returns-clause-taken : goal.returns-clause-taken
returns-clause-taken g c =
    let ahead = c.args.ahead.now in
    let bytes = reader_buffer ahead in
    let shown : c.buffer.result.now ≡ bytes = c.buffer.ensures in
    let part = c.cut.result.0.now in
    let rest = c.in-Some._rest.now in
    let none : HasNoNewline part = subst (λ (t : List ℕ). HasNoNewline t) (sym c.cut.ensures.before) (before-newline c.buffer.result.now) in
    let whole : c.buffer.result.now ≡ part ++ 10 ∷ rest = rw c.in-Some.is at c.cut.ensures.whole in
    let whole_ahead : bytes ≡ part ++ 10 ∷ rest = sym shown ∙ whole in
    let within : length part + 1 ≤ length bytes = omega (arith, ap length whole_ahead, length-append part (10 ∷ rest)) in
    let through : take (length part + 1) bytes ≡ part ++ 10 ∷ [] = ap (λ t. take (length part + 1) t) whole_ahead ∙ take-append-add part (10 ∷ rest) 1 in
    let new = unread_bytes g.R.Read.remaining c.consume.new.self in
    let drops : DropsConsumable (unread_bytes g.R.Read.remaining ahead) new (Some (length bytes)) (length part + 1) = c.consume.ensures.bytes in
    let taken = taken-ahead (reader_capacity ahead == 0) bytes (g.R.Read.remaining ahead.inner.inner) new (length part + 1) within drops in
    let kept = take-behind 4098 c.min-kept.result [] part c.extend_from_slice.new.self.items (omega arith) (omega (arith, c.min-kept.ensures))
    (rw (c.unwrap.ensures, c.clear.ensures.items) at c.extend_from_slice.ensures.items) in
    λ _. (part, none, kept, rw through at taken)
