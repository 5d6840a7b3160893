use Rattle.std.proofs.Common.{refl, arith}
use Rattle.credential_text.proofs.Keeping.{keeps_more, keeps_same, nothing_written}
use Rattle.proof_trees.proofs.TextLemmas.{joined}
use Rattle.proof_trees.proofs.writing.append_line.Goals as goal

pub returns-in_err-append_claim : goal.returns-in_err-append_claim
returns-in_err-append_claim c = record {
  written = nothing_written c.from_residual.result _ c.from_residual.ensures.0;
  kept = c.append_claim.ensures.kept;
  capacity = c.append_claim.ensures.capacity;
}

pub returns-in_err-extend_from_slice : goal.returns-in_err-extend_from_slice
returns-in_err-extend_from_slice c = record {
  written = nothing_written c.from_residual-in_err-extend_from_slice.result _ c.from_residual-in_err-extend_from_slice.ensures.0;
  kept = keeps_more _ _ _ _ c.in_ok-append_claim.ensures.written (keeps_same _ _ c.in_err-extend_from_slice.ensures.items);
  capacity = omega arith;
}

pub returns-in_err-append_rule : goal.returns-in_err-append_rule
returns-in_err-append_rule c = record {
  written = nothing_written c.from_residual-in_err-append_rule.result _ c.from_residual-in_err-append_rule.ensures.0;
  kept = keeps_more _ _ _ _ c.in_ok-append_claim.ensures.written (keeps_more _ _ _ _ c.in_ok-extend_from_slice.ensures.items c.append_rule.ensures.kept);
  capacity = omega arith;
}

pub returns-in_err-push : goal.returns-in_err-push
returns-in_err-push c = record {
  written = nothing_written c.from_residual-in_err-push.result _ c.from_residual-in_err-push.ensures.0;
  kept =
      keeps_more _ _ _ _ c.in_ok-append_claim.ensures.written
      (keeps_more _ _ _ _ c.in_ok-extend_from_slice.ensures.items (keeps_more _ _ _ _ c.in_ok-append_rule.ensures.written (keeps_same _ _ c.in_err-push.ensures.items)));
  capacity = omega arith;
}

pub returns : goal.returns
returns c =
    let written = joined _ _ _ _ _ c.in_ok-append_claim.ensures.written c.in_ok-extend_from_slice.ensures.items c.in_ok-append_rule.ensures.written c.in_ok-push.ensures.items in
    record { written = written; kept = keeps_more _ _ _ _ written (keeps_same _ _ refl); capacity = omega arith }
