use Rattle.std.proofs.Common.{ℕ, ◌+◌, ◌++◌, ◌==◌, not, filter, option_to_list, refl, sym, ap, subst, ◌∙◌, arith}
use Rattle.std.proofs.lemmas.Result.{err_from_is_err_and}
use Rattle.std.specs.Map.{lookup}
use Rattle.scholten_core.specs.declared.parents.Parent.TheVariants.{Node}
use Rattle.scholten_core.specs.Kept.{Receives, engaged_from, held_in}
use Rattle.scholten_core.specs.Step.{numbered}
use Rattle.scholten_core.proofs.Fields.{unchanged_kept}
use Rattle.scholten_core.proofs.Finished.{IsFinishedIn, finished_fields}
use Rattle.scholten_core.proofs.Standing.{held_found}
use Rattle.scholten_core.proofs.Steps.{deficit-le-outstanding}
use Rattle.scholten_core.specs.Computation.{IsHeld}
use Rattle.scholten_core.proofs.diffusions.Diffusion.finish_with.Given.{Over}
use Rattle.scholten_core.proofs.diffusions.Diffusion.finish_with.Goals as goal
use Rattle.scholten_core.proofs.diffusions.Diffusion.finish_with.Goals.{After-reserve, After-send}

pub returns-in_err-reserve : goal.returns-in_err-reserve
returns-in_err-reserve g c =
    let p = err_from_is_err_and c.from_residual.result c.from_residual.ensures.1 in
    rw p.1 record {
      finished = tt;
      emptied = tt;
      unchanged = (λ i. record {
        sent = c.reserve.ensures.sent i;
        letters = c.reserve.ensures.letters i;
        signals = c.self.inside.signals.items;
        engaged = engaged_from 0 c.self.inside.nodes.items;
      }) ∙ c.self.view_is;
      kept = refl;
      sound = (unchanged_kept c.self.inside.letters c.reserve.new.self c.self.inside.signals.items c.self.inside.signals.items c.self.inside.environment c.self.inside.nodes.items c.self.inside.nodes.items c.reserve.ensures.letters c.reserve.ensures.sent refl refl c.self.invariant).sound;
    }

pub returns-in_err-reserve-2 : goal.returns-in_err-reserve-2
returns-in_err-reserve-2 g c =
    let p = err_from_is_err_and c.from_residual-in_err-reserve-2.result c.from_residual-in_err-reserve-2.ensures.1 in
    rw p.1 record {
      finished = tt;
      emptied = tt;
      unchanged = (λ i. record {
        sent = c.reserve.ensures.sent i;
        letters = c.reserve.ensures.letters i;
        signals = c.reserve-2.ensures.items i;
        engaged = engaged_from 0 c.self.inside.nodes.items;
      }) ∙ c.self.view_is;
      kept = refl;
      sound = (unchanged_kept c.self.inside.letters c.reserve.new.self c.self.inside.signals.items c.reserve-2.new.self.items c.self.inside.environment c.self.inside.nodes.items c.self.inside.nodes.items c.reserve.ensures.letters c.reserve.ensures.sent c.reserve-2.ensures.items refl c.self.invariant).sound;
    }

pub receive-requires : goal.receive-requires
receive-requires g c =
    let keeps = c.self.invariant in
    let to = Node c.letter_there-letter.result.now.to in
    let room = rw (← c.self.view_is) at c.requires.room in
    omega (arith, room, keeps.counts to, deficit-le-outstanding (held_in c.self.inside.letters c.self.inside.signals.items c.self.inside.nodes.items) to, keeps.sound.one_each, c.len-2.ensures)

pub invariant_of-self-in_err-by : goal.invariant_of-self-in_err-by
invariant_of-self-in_err-by g c =
    unchanged_kept c.self.inside.letters c.reserve.new.self c.self.inside.signals.items c.reserve-2.new.self.items c.self.inside.environment c.self.inside.nodes.items c.receive.new.nodes.items c.reserve.ensures.letters c.reserve.ensures.sent c.reserve-2.ensures.items c.in_err-by.ensures.unchanged c.self.invariant

pub returns-in_err-by : goal.returns-in_err-by
returns-in_err-by g c =
    let p = err_from_is_err_and c.from_residual-in_err-by.result c.from_residual-in_err-by.ensures.1 in
    rw p.1 record {
      finished = tt;
      emptied = tt;
      unchanged = (λ i. record {
        sent = c.reserve.ensures.sent i;
        letters = c.reserve.ensures.letters i;
        signals = c.reserve-2.ensures.items i;
        engaged = engaged_from 0 (c.in_err-by.ensures.unchanged i);
      }) ∙ c.self.view_is;
      kept = refl;
      sound = (invariant_of-self-in_err-by g c).sound;
    }

-- the fields hold the computation with the letter finished
done : (g : Over) (c : After-send g) → IsFinishedIn (held_in c.self.inside.letters c.self.inside.signals.items c.self.inside.nodes.items) c.args.number c.args.outs.now.items (held_in c.send.new.self c.put.new.signals.items c.receive.new.nodes.items) c.self.inside.environment c.receive.new.nodes.items
done g c =
    let l = c.letter_there-letter.result.now in
    let outs = c.args.outs.now.items in
    let stands = c.place-at.ensures in
    let got = c.letter_there-letter.ensures c.args.number stands in
    let found = sym (ap (lookup (λ n. n == c.args.number)) c.reserve.ensures.letters) ∙ got in
    let to = Node l.to in
    let many = c.args.outs.now.ok.0 in
    let receives = subst (λ (n : ℕ). Receives c.self.inside.nodes.items c.receive.new.nodes.items l.from l.to n c.in_ok-by.by) (c.len-2.ensures ∙ many) c.in_ok-by.ensures.received in
    let left = c.finish.ensures.letters c.args.number stands ∙ ap (filter (λ x. not (x.0 == c.args.number))) c.reserve.ensures.letters in
    let sent = c.finish.ensures.sent ∙ c.reserve.ensures.sent in
    let letters = c.send.ensures.letters ∙ (λ i. left i ++ numbered to (sent i + 1) outs) in
    finished_fields c.self.inside.letters c.self.inside.signals.items c.self.inside.environment c.self.inside.nodes.items c.self.invariant c.args.number l found outs c.receive.new.nodes.items c.in_ok-by.by receives c.send.new.self letters (c.send.ensures.sent ∙ (λ i. sent i + many i)) c.put.new.signals.items (c.put.ensures ∙ ap (λ s. s ++ option_to_list c.in_ok-by.by) c.reserve-2.ensures.items)

pub invariant_of-self-2 : goal.invariant_of-self-2
invariant_of-self-2 g c = (done g (goal.at.invariant_of-self-2 g c).After-send).kept

pub returns : goal.returns
returns g c = record {
  finished = rw (← c.self.view_is) (done g (goal.at.returns g c).After-send).step;
  emptied = c.send.ensures.emptied;
  unchanged = tt;
  kept = tt;
  sound = (invariant_of-self-2 g c).sound;
}

pub invariant_of-self : goal.invariant_of-self
invariant_of-self g c =
    unchanged_kept c.self.inside.letters c.reserve.new.self c.self.inside.signals.items c.self.inside.signals.items c.self.inside.environment c.self.inside.nodes.items c.self.inside.nodes.items c.reserve.ensures.letters c.reserve.ensures.sent refl refl c.self.invariant

pub invariant_of-self-in_err-reserve-2 : goal.invariant_of-self-in_err-reserve-2
invariant_of-self-in_err-reserve-2 g c =
    unchanged_kept c.self.inside.letters c.reserve.new.self c.self.inside.signals.items c.reserve-2.new.self.items c.self.inside.environment c.self.inside.nodes.items c.self.inside.nodes.items c.reserve.ensures.letters c.reserve.ensures.sent c.reserve-2.ensures.items refl c.self.invariant

pub put-requires : goal.put-requires
put-requires g c = omega (arith, c.in_ok-reserve-2.ensures.ok)

-- the letter is held, also where the table made room
held : (g : Over) (c : After-reserve g) → IsHeld c.reserve.new.self.letters c.args.number
held g c =
    let is_held = rw (← c.self.view_is) at c.requires.held in
    subst (λ letters. IsHeld letters c.args.number) (sym c.reserve.ensures.letters) is_held

pub place-at-requires : goal.place-at-requires
place-at-requires g c = held g (goal.at.place-at-requires g c).After-reserve

pub letter_there-letter-requires : goal.letter_there-letter-requires
letter_there-letter-requires g c =
    let stands = c.place-at.ensures in
    let is_held = held g (goal.at.letter_there-letter-requires g c).After-reserve in
    (c.args.number, stands, held_found c.reserve.new.self.letters c.args.number is_held (lookup (λ n. n == c.args.number) c.reserve.new.self.letters) (λ none. none))

pub finish-requires : goal.finish-requires
finish-requires g c = (c.args.number, c.place-at.ensures, held g (goal.at.finish-requires g c).After-reserve)

pub send-requires : goal.send-requires
send-requires g c =
    let room = rw (← c.self.view_is) at c.requires.room in
    record {
      room = omega (arith, c.in_ok-reserve.ensures.room, c.len.ensures, c.finish.ensures.room);
      numbers = omega (arith, room, c.finish.ensures.sent, c.reserve.ensures.sent);
      from = refl;
    }
