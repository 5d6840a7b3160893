use Rattle.std.proofs.Common.{Bool, ◌∷◌, [], false, sym, subst, refl, rules, if◌then◌else◌}
use Rattle.search.specs.declared.queries.Hint.{Hint}
use Rattle.search.specs.Finish.{Finishes}
use Rattle.hall.specs.Hall.{StepsEach, finish_answer}
use Rattle.hall.specs.Batches.{letter_of, named}
use Rattle.hall.specs.Work.{HandsIn}
use Rattle.hall.proofs.Batched.{puts_back, given_back, done_by, one_handed_in}
use Rattle.hall.proofs.working.hand_in_letter.Goals as goal

pub returns-then-back : goal.returns-then-back
returns-then-back c =
    let s = c.args.search.now in
    let t = c.put_back.new.self in
    let back = c.put_back.result in
    subst (λ (b : Bool). HandsIn (StepsEach s t) b (named c.args.of.now) (letter_of c.args.held_letter.now ∷ []) 0) (sym c.if-back.true)
    (one_handed_in s t _ (named c.args.of.now) (letter_of c.args.held_letter.now) _ false (record {
      is_made = (back, puts_back s t c.args.held_letter.now.letter back c.put_back.ensures.held c.put_back.ensures.unchanged c.put_back.ensures.waits, refl);
      settles = c.put_back.ensures.settles;
      sound = c.kept.ensures.sound;
    }) (given_back back))

pub returns : goal.returns
returns c =
    let s = c.args.search.now in
    let e = c.args.held_letter.now in
    let t = c.finish-finished.new.self in
    let told = c.finish-finished.result in
    subst (λ (b : Bool). HandsIn (StepsEach s t) b (named c.args.of.now) (letter_of e ∷ []) (if c.eq.result then 1 else 0)) (sym c.if-back.false)
    (one_handed_in s t _ (named c.args.of.now) (letter_of e) (finish_answer told) c.eq.result (record {
      is_made = (told, subst (λ (h : Hint). Finishes s t e.letter h told) c.requires c.finish-finished.ensures.finishes, refl);
      settles = c.finish-finished.ensures.settles;
      sound = c.kept-2.ensures.sound;
    }) (done_by told c.eq.result (search rules)))
