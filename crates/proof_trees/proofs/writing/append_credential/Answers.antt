use Rattle.std.proofs.Common.{◌≡◌, ◌∙◌, List, ℕ, ◌++◌, ap, sym, refl, arith, codes}
use Rattle.std.proofs.lemmas.List.{append-nil}
use Rattle.std.proofs.lemmas.Option.{slice_get_past, slice_get_read}
use Rattle.std.proofs.lemmas.Result.{on_ok_weaker}
use Rattle.credential_text.proofs.Keeping.{keeps_more, keeps_same, nothing_written}
use Rattle.credential_text.specs.Expr.{expr_text}
use Rattle.proof_trees.specs.declared.steps.Step.{Step}
use Rattle.proof_trees.proofs.TextLemmas.{claim_text, keeps_written}
use Rattle.proof_trees.proofs.writing.append_credential.Goals as goal

pub returns-in_err-write_expr : goal.returns-in_err-write_expr
returns-in_err-write_expr c = record {
  written = nothing_written c.from_residual.result _ c.from_residual.ensures.0;
  kept = keeps_same _ _ c.in_err-write_expr.ensures.unchanged;
  capacity = c.write_expr.ensures.capacity;
}

pub returns-in_err-extend_from_slice : goal.returns-in_err-extend_from_slice
returns-in_err-extend_from_slice c = record {
  written = nothing_written c.from_residual-in_err-extend_from_slice.result _ c.from_residual-in_err-extend_from_slice.ensures.0;
  kept = keeps_more _ _ _ _ c.in_ok-write_expr.ensures.written (keeps_same _ _ c.in_err-extend_from_slice.ensures.items);
  capacity = omega arith;
}

pub returns-in-Some : goal.returns-in-Some
returns-in-Some c =
    let body : Step = c.in-Some.body.now in
    let start : List ℕ = c.args.out.now.items ++ expr_text c.args.head.now ++ codes " <- " in
    let so_far : c.extend_from_slice.new.self.items ≡ start = c.in_ok-extend_from_slice.ensures.items ∙ ap (λ (l : List ℕ). l ++ codes " <- ") c.in_ok-write_expr.ensures.written in
    let claim = ap claim_text (slice_get_read c.args.steps.now _ c.args.place body refl c.in-Some.ensures.lookup.3.0 c.in-Some.ensures.lookup.1) in
    record {
      written =
          on_ok_weaker c.write_expr-in-Some.result
          (λ last. last ∙ ap (λ (l : List ℕ). l ++ expr_text body.claim) so_far ∙ ap (λ (l : List ℕ). start ++ l) (sym claim)) c.write_expr-in-Some.ensures.written;
      kept =
          keeps_more _ _ _ _ c.in_ok-write_expr.ensures.written
          (keeps_more _ _ _ _ c.in_ok-extend_from_slice.ensures.items
          (keeps_written c.write_expr-in-Some.result _ _ _ c.write_expr-in-Some.ensures.written c.write_expr-in-Some.ensures.unchanged));
      capacity = omega arith;
    }

pub returns-in-None : goal.returns-in-None
returns-in-None c =
    let start : List ℕ = c.args.out.now.items ++ expr_text c.args.head.now ++ codes " <- " in
    let so_far : c.extend_from_slice.new.self.items ≡ start = c.in_ok-extend_from_slice.ensures.items ∙ ap (λ (l : List ℕ). l ++ codes " <- ") c.in_ok-write_expr.ensures.written in
    let claim = ap claim_text (slice_get_past c.args.steps.now c.args.place c.in-None.ensures.lookup.3) in
    record {
      written = so_far ∙ sym (append-nil start) ∙ ap (λ (l : List ℕ). start ++ l) (sym claim);
      kept = keeps_more _ _ _ _ c.in_ok-write_expr.ensures.written (keeps_more _ _ _ _ c.in_ok-extend_from_slice.ensures.items (keeps_same _ _ refl));
      capacity = omega arith;
    }
