use Rattle.std.proofs.Common.{◌+◌, ◌-◌, ◌≤◌, Ok, Err, OnOk, refl, ap, vec_capacity, vec_len, ◌∙◌, arith}
use Rattle.scholten_core.specs.LetterTable.{standing}
use Rattle.scholten_core.proofs.letter_tables.LetterTable.reserve.Goals as goal
use Rattle.scholten_core.proofs.letter_tables.LetterTable.reserve.Goals.{then-should_drop_holes, else-should_drop_holes}

pub returns-then-count-eq0 : goal.returns-then-count-eq0
returns-then-count-eq0 g c = record { room = omega (arith, c.if-count-eq0.true); letters = refl; sent = refl }

pub invariant_of-self : goal.invariant_of-self
invariant_of-self g c = rw c.reserve.ensures.items c.self-2.invariant

pub returns : goal.returns
returns g c =
    record {
      room = elim c.reserve.result as (λ r. OnOk r (vec_len c.reserve.new.self + c.args.count ≤ vec_capacity c.reserve.new.self) → OnOk r (c.args.count ≤ vec_capacity c.reserve.new.self - vec_len c.reserve.new.self)) [
        | Ok u ↦ λ more. omega (arith, more)
        | Err f ↦ λ _. tt
      ] c.reserve.ensures.ok;
      letters = ap standing c.reserve.ensures.items ∙ ap (λ s. s.letters) c.self-2.view_is ∙ elim c.if-should_drop_holes.branch [
        | then-should_drop_holes w ↦ ap (λ s. s.letters) w.self-is ∙ w.drop_holes.ensures.letters
        | else-should_drop_holes w ↦ ap (λ s. s.letters) w.self-is
      ];
      sent = ap (λ s. s.sent) c.self-2.view_is ∙ elim c.if-should_drop_holes.branch [
        | then-should_drop_holes w ↦ ap (λ s. s.sent) w.self-is ∙ w.drop_holes.ensures.sent
        | else-should_drop_holes w ↦ ap (λ s. s.sent) w.self-is
      ];
    }
