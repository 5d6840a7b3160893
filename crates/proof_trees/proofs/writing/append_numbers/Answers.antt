use Rattle.std.proofs.Common.{◌≡◌, ◌∙◌, ℕ, List, ◌+◌, ◌++◌, ◌∷◌, [], ap, sym, refl, arith, append_assoc, get_or, take}
use Rattle.std.proofs.lemmas.List.{flat_map_more, take_all, take_more}
use Rattle.std.specs.Fmt.{decimal}
use Rattle.credential_text.proofs.Keeping.{keeps_more, keeps_same, nothing_written}
use Rattle.proof_trees.specs.Text.{numbers_text}
use Rattle.proof_trees.proofs.writing.append_numbers.Goals as goal

pub returns-in_err-push : goal.returns-in_err-push
returns-in_err-push c = record {
  written = nothing_written c.from_residual.result _ c.from_residual.ensures.0;
  kept = keeps_more c.args.out.now.items c.loop-place.out.items _ _ c.loop-place.invariant.written (keeps_same _ _ c.in_err-push.ensures.items);
  capacity = omega arith;
}

pub returns-in_err-append_number : goal.returns-in_err-append_number
returns-in_err-append_number c = record {
  written = nothing_written c.from_residual-in_err-append_number.result _ c.from_residual-in_err-append_number.ensures.0;
  kept =
      keeps_more c.args.out.now.items c.loop-place.out.items _ _ c.loop-place.invariant.written
      (keeps_more c.loop-place.out.items c.push.new.self.items _ _ c.in_ok-push.ensures.items (keeps_same _ _ c.in_err-append_number.ensures.unchanged));
  capacity = omega arith;
}

pub loop-place-preserved : goal.loop-place-preserved
loop-place-preserved c =
    let text = λ (place : ℕ). 32 ∷ decimal (place + 1) in
    let place : ℕ = get_or c.args.places.now c.loop-place.place-index 0 in
    let start : List ℕ = c.args.out.now.items in
    record {
      written =
          c.in_ok-append_number.ensures.written
          ∙ ap (λ (l : List ℕ). l ++ decimal (place + 1)) (c.in_ok-push.ensures.items ∙ ap (λ (l : List ℕ). l ++ 32 ∷ []) c.loop-place.invariant.written)
          ∙ append_assoc (start ++ numbers_text (take c.loop-place.place-index c.args.places.now)) (32 ∷ []) (decimal (place + 1))
          ∙ flat_map_more text start (take c.loop-place.place-index c.args.places.now) place
          ∙ ap (λ (l : List ℕ). start ++ numbers_text l) (sym (take_more c.args.places.now c.loop-place.place-index 0 c.loop-place-test.true));
      capacity = omega arith;
    }

pub returns : goal.returns
returns c =
    let written : c.loop-place.out.items ≡ c.args.out.now.items ++ numbers_text c.args.places.now =
    c.loop-place.invariant.written ∙ ap (λ (ps : List ℕ). c.args.out.now.items ++ numbers_text ps) (take_all c.loop-place.place-index c.args.places.now c.loop-place-test.false) in
    record { written = written; kept = keeps_more c.args.out.now.items c.loop-place.out.items _ _ written (keeps_same _ _ refl); capacity = c.loop-place.invariant.capacity }
