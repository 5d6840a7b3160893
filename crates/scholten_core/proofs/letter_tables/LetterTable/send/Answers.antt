use Rattle.std.proofs.Common.{◌+◌, ◌++◌, ◌∷◌, [], ◌∙◌, false, refl, sym, ap, append_assoc, arith}
use Rattle.std.proofs.lemmas.List.{append-nil, nil_from_length}
use Rattle.scholten_core.specs.Step.{numbered}
use Rattle.scholten_core.proofs.letter_tables.LetterTable.send.Goals as goal

pub loop-to-init : goal.loop-to-init
loop-to-init g c = record { letters = refl; sent = refl; room = c.requires.room; numbers = c.requires.numbers }

pub push-requires : goal.push-requires
push-requires g c = record {
  room = omega (arith, c.loop-to.invariant.room, c.in-Some.ensures.len);
  numbers = omega (arith, c.loop-to.invariant.numbers, c.in-Some.ensures.len);
  from = c.requires.from;
}

pub loop-to-smaller : goal.loop-to-smaller
loop-to-smaller g c = omega (arith, c.in-Some.ensures.len)

pub loop-to-preserved : goal.loop-to-preserved
loop-to-preserved g c =
    let before = c.loop-to.invariant in
    let letters = c.loop-to.self.letters in
    let sent = c.loop-to.self.sent in
    let rest = c.pop_front.new.self.items in
    record {
      letters = (λ i. c.push.ensures.letters i ++ numbered c.args.from (c.push.ensures.sent i + 1) rest)
          ∙ append_assoc letters ((sent + 1, record { from = c.args.from; to = c.in-Some.to; held = false; load = c.in-Some.load }) ∷ []) (numbered c.args.from (sent + 1 + 1) rest)
          ∙ ap (λ items. letters ++ numbered c.args.from (sent + 1) items) (sym c.in-Some.ensures.items)
          ∙ before.letters;
      sent = omega (arith, c.push.ensures.sent, c.in-Some.ensures.len, before.sent);
      room = omega (arith, c.push.ensures.room, c.in-Some.ensures.len, before.room);
      numbers = omega (arith, c.push.ensures.sent, c.in-Some.ensures.len, before.numbers);
    }

pub returns : goal.returns
returns g c =
    let before = c.loop-to.invariant in
    let none = nil_from_length c.loop-to.outs.items (omega (arith, c.in_default.ensures.len, c.in_default.ensures.cases, c.loop-to.outs.ok)) in
    record {
      letters = sym (append-nil c.loop-to.self.letters) ∙ ap (λ items. c.loop-to.self.letters ++ numbered c.args.from (c.loop-to.self.sent + 1) items) (sym none) ∙ before.letters;
      sent = omega (arith, before.sent, c.in_default.ensures.cases);
      emptied = sym c.in_default.ensures.items ∙ none;
    }
