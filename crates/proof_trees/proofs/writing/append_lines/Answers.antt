use Rattle.std.proofs.Common.{◌≡◌, ◌∙◌, ◌+◌, ◌++◌, [], ◌∷◌, ap, sym, refl, List, ℕ, take, length, arith, append_assoc}
use Rattle.std.proofs.lemmas.List.{take_all, take_more, length-take-le}
use Rattle.std.proofs.lemmas.Result.{err_from_is_err_and}
use Rattle.credential_text.proofs.Keeping.{keeps_more, keeps_same}
use Rattle.proof_trees.specs.declared.steps.Step.{Step}
use Rattle.proof_trees.specs.Text.{line_text, lines_from}
use Rattle.proof_trees.proofs.TextLemmas.{lines_push}
use Rattle.proof_trees.proofs.writing.append_lines.Goals as goal

pub returns-in_err-append_line : goal.returns-in_err-append_line
returns-in_err-append_line c =
    let p = err_from_is_err_and c.from_residual.result c.from_residual.ensures.1 in
    rw p.1 record {
      written = tt;
      growth = omega (arith, c.loop-place-test.true);
      kept = keeps_more _ _ _ _ c.loop-place.invariant.written c.append_line.ensures.kept;
      capacity = omega (arith, c.loop-place.invariant.capacity, c.append_line.ensures.capacity);
    }

pub returns : goal.returns
returns c =
    let steps : List Step = c.args.steps.now in
    let written : c.loop-place.out.items ≡ c.args.out.now.items ++ lines_from steps 1 steps =
    c.loop-place.invariant.written ∙ ap (λ (some : List Step). c.args.out.now.items ++ lines_from steps 1 some) (take_all c.loop-place.place steps c.loop-place-test.false) in
    record { written = written; growth = tt; kept = keeps_more _ _ _ _ written (keeps_same _ _ refl); capacity = c.loop-place.invariant.capacity }

next_line : (c : goal.In_ok-append_line) → take (c.loop-place.place + 1) c.args.steps.now ≡ take c.loop-place.place c.args.steps.now ++ c.index-steps-place.result ∷ []
next_line c =
    take_more c.args.steps.now c.loop-place.place c.index-steps-place.result c.loop-place-test.true
    ∙ ap (λ (s : Step). take c.loop-place.place c.args.steps.now ++ s ∷ []) (sym c.index-steps-place.is)

pub loop-place-preserved : goal.loop-place-preserved
loop-place-preserved c =
    let steps : List Step = c.args.steps.now in
    let place : ℕ = c.loop-place.place in
    let s : Step = c.index-steps-place.result in
    let so_far : length (take place steps) ≡ place = length-take-le place steps (omega (arith, c.loop-place-test.true)) in
    record {
      written =
          c.in_ok-append_line.ensures.written
          ∙ ap (λ (text : List ℕ). text ++ line_text steps (place + 1) s) c.loop-place.invariant.written
          ∙ append_assoc c.args.out.now.items (lines_from steps 1 (take place steps)) (line_text steps (place + 1) s)
          ∙ ap (λ (text : List ℕ). c.args.out.now.items ++ text) (sym (lines_push steps 1 (take place steps) s (place + 1) (omega (arith, so_far))) ∙ ap (lines_from steps 1) (sym (next_line c)));
      capacity = omega (arith, c.loop-place.invariant.capacity, c.append_line.ensures.capacity);
    }
