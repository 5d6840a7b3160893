use Rattle.std.proofs.Common.{◌∙◌, ◌∷◌, [], arith, map, ap, sym, subst, refl, true, None, Some, option_copied}
use Rattle.std.proofs.lemmas.List.{map-append, append-nil}
use Rattle.hall.specs.declared.batches.HeldLetter.{HeldLetter}
use Rattle.search.specs.declared.queries.Hint.TheVariants.{Nothing}
use Rattle.search.specs.Finish.{need_for}
use Rattle.search.specs.{Search.SearchState, Stage.Delivers, Stage.IsQuiet}
use Rattle.hall.specs.{Hall.StepsEach, Work.GoesOn}
use Rattle.hall.specs.Batches.{letter_of}
use Rattle.search.proofs.Driven.{first_goes, nothing_first}
use Rattle.search.proofs.Finishing.{takes_needing, taken_there}
use Rattle.hall.proofs.Batched.{delivered_sound, none_made, one_made}
use Rattle.hall.proofs.SearchSteps.{stage_alone}
use Rattle.hall.proofs.working.make_step.Goals as goal

pub returns-then-signals-gt0-clause-made : goal.returns-then-signals-gt0-clause-made
returns-then-signals-gt0-clause-made c =
    let s = c.args.search.now in
    let t = c.signal.new.self in
    let delivered : Delivers s.stage t.stage 0 true = first_goes s.stage t.stage c.signal.result (omega (arith, c.if-signals-gt0.true, c.signals.ensures)) c.signal.ensures.delivered in (
      [],
      sym (append-nil (map letter_of c.args.held_letters.now.items)),
      λ name. one_made s t name None (record {
        is_made = (true, delivered, stage_alone s t c.signal.ensures.findings.0 c.signal.ensures.findings.1 c.signal.ensures.question, refl);
        settles = c.signal.ensures.settles;
        sound = delivered_sound s.stage t.stage delivered;
      }),
    )

pub returns-in_default-clause-made : goal.returns-in_default-clause-made
returns-in_default-clause-made c = (
  [],
  sym (append-nil (map letter_of c.args.held_letters.now.items)),
  λ name. subst (λ (t : SearchState). GoesOn (StepsEach c.args.search.now t) name 0 ⊥ []) (sym c.in_default.ensures.taken.1) (none_made c.args.search.now name),
)

pub returns-in_default-clause-quiet : goal.returns-in_default-clause-quiet
returns-in_default-clause-quiet c = λ none.
    let taken = c.in_default.ensures.taken in
    subst (λ (t : SearchState). IsQuiet t.stage) (sym taken.1) (nothing_first c.args.search.now.stage (omega (arith, c.if-signals-gt0.false, c.signals.ensures)) taken.0)

pub rows_for-requires : goal.rows_for-requires
rows_for-requires c =
    taken_there c.args.search.now c.take_held.new.self 0 c.in-Some.letter c.in-Some.held c.in-Some.ensures.taken

pub returns-clause-made : goal.returns-clause-made
returns-clause-made c =
    let need = need_for (option_copied c.rows_for.result) in
    let one : HeldLetter = record { letter = c.in-Some.letter; need = need; hint = Nothing } in (
      letter_of one ∷ [],
      ap (map letter_of) c.note.ensures.items ∙ map-append letter_of c.args.held_letters.now.items (one ∷ []),
      λ name. one_made c.args.search.now c.take_held.new.self name (Some (letter_of one)) (record {
        is_made = (Some (letter_of one), takes_needing c.args.search.now c.take_held.new.self 0 c.in-Some.letter c.in-Some.held need c.in-Some.ensures.taken c.rows_for.ensures, refl);
        settles = c.in-Some.ensures.settles;
        sound = c.kept.ensures.sound;
      }),
    )
