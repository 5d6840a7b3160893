use Rattle.std.proofs.Common.{◌∙◌, List, ℕ, ◌++◌, ap, arith}
use Rattle.std.proofs.lemmas.Result.{on_ok_weaker}
use Rattle.credential_text.proofs.Keeping.{keeps_more, keeps_same, nothing_written}
use Rattle.proof_trees.proofs.TextLemmas.{joined, twice, keeps_written}
use Rattle.proof_trees.proofs.writing.append_claim.Goals as goal

pub returns-in_err-append_number : goal.returns-in_err-append_number
returns-in_err-append_number c = record {
  written = nothing_written c.from_residual.result _ c.from_residual.ensures.0;
  kept = keeps_same _ _ c.in_err-append_number.ensures.unchanged;
  capacity = c.append_number.ensures.capacity;
}

pub returns-in_err-push : goal.returns-in_err-push
returns-in_err-push c = record {
  written = nothing_written c.from_residual-in_err-push.result _ c.from_residual-in_err-push.ensures.0;
  kept = keeps_more _ _ _ _ c.in_ok-append_number.ensures.written (keeps_same _ _ c.in_err-push.ensures.items);
  capacity = omega arith;
}

pub returns-in_err-extend_from_slice : goal.returns-in_err-extend_from_slice
returns-in_err-extend_from_slice c = record {
  written = nothing_written c.from_residual-in_err-extend_from_slice.result _ c.from_residual-in_err-extend_from_slice.ensures.0;
  kept =
      keeps_more _ _ _ _ c.in_ok-append_number.ensures.written
      (keeps_more _ _ _ _ c.in_ok-push.ensures.items (keeps_same _ _ c.in_err-extend_from_slice.ensures.items));
  capacity = omega arith;
}

pub returns-in_err-extend_from_slice-2 : goal.returns-in_err-extend_from_slice-2
returns-in_err-extend_from_slice-2 c = record {
  written = nothing_written c.from_residual-in_err-extend_from_slice-2.result _ c.from_residual-in_err-extend_from_slice-2.ensures.0;
  kept =
      keeps_more _ _ _ _ c.in_ok-append_number.ensures.written
      (keeps_more _ _ _ _ c.in_ok-push.ensures.items
      (keeps_more _ _ _ _ c.in_ok-extend_from_slice.ensures.items (keeps_same _ _ c.in_err-extend_from_slice-2.ensures.items)));
  capacity = omega arith;
}

pub returns : goal.returns
returns c =
    let who = c.in_ok-extend_from_slice.ensures.items ∙ ap (λ (l : List ℕ). c.push.new.self.items ++ l) c.bytes.ensures.value in
    let written = joined _ _ _ _ _ c.in_ok-append_number.ensures.written c.in_ok-push.ensures.items who c.in_ok-extend_from_slice-2.ensures.items in
    record {
      written = on_ok_weaker c.write_expr.result (λ last. twice _ _ _ written last) c.write_expr.ensures.written;
      kept = keeps_more _ _ _ _ written (keeps_written c.write_expr.result _ _ _ c.write_expr.ensures.written c.write_expr.ensures.unchanged);
      capacity = omega arith;
    }
