use Rattle.std.proofs.Common.{◌≡◌, ◌∙◌, List, ℕ, ◌++◌, ap, sym, arith, codes}
use Rattle.std.proofs.lemmas.Result.{on_ok_weaker}
use Rattle.credential_text.proofs.Keeping.{keeps_through, keeps_more, keeps_same, keeps_last, written_last, nothing_written}
use Rattle.credential_text.specs.declared.exprs.Expr.{Expr}
use Rattle.proof_trees.specs.declared.steps.Step.{Step}
use Rattle.proof_trees.specs.declared.steps.Rule.{Rule}
use Rattle.proof_trees.specs.declared.steps.Rule.TheVariants.{Leaf, Cred, Link, Parts}
use Rattle.proof_trees.specs.Text.{numbers_text, rule_text}
use Rattle.proof_trees.proofs.TextLemmas.{cited, twice}
use Rattle.proof_trees.proofs.writing.append_rule.Goals as goal

-- the text of the rule, once it is known which one it is
by_rule : (start : List ℕ) (steps : List Step) (claim : Expr) (r : Rule) {s : Rule} → s ≡ r → start ++ rule_text steps claim r ≡ start ++ rule_text steps claim s
by_rule start steps claim r is = ap (λ (t : Rule). start ++ rule_text steps claim t) (sym is)

pub returns-in-Leaf : goal.returns-in-Leaf
returns-in-Leaf c = record {
  written =
      written_last c.extend_from_slice.result c.args.out.now.items (codes "itself") _ _ c.extend_from_slice.ensures.items (by_rule c.args.out.now.items c.args.steps.now c.args.step.now.claim Leaf c.in-Leaf.is);
  kept = keeps_last c.extend_from_slice.result _ _ _ c.extend_from_slice.ensures.items;
  capacity = c.extend_from_slice.ensures.capacity;
}

pub returns-in_err-append_credential-in-Cred : goal.returns-in_err-append_credential-in-Cred
returns-in_err-append_credential-in-Cred c = record {
  written = nothing_written c.from_residual.result _ c.from_residual.ensures.0;
  kept = c.append_credential.ensures.kept;
  capacity = c.append_credential.ensures.capacity;
}

pub returns-in_err-extend_from_slice-in-Cred : goal.returns-in_err-extend_from_slice-in-Cred
returns-in_err-extend_from_slice-in-Cred c = record {
  written = nothing_written c.from_residual-in_err-extend_from_slice-in-Cred.result _ c.from_residual-in_err-extend_from_slice-in-Cred.ensures.0;
  kept = keeps_through _ c.append_credential.new.out.items _ c.append_credential.ensures.kept (keeps_same _ _ c.in_err-extend_from_slice-in-Cred.ensures.items);
  capacity = omega arith;
}

pub returns-in_ok-extend_from_slice-in-Cred : goal.returns-in_ok-extend_from_slice-in-Cred
returns-in_ok-extend_from_slice-in-Cred c = record {
  written =
      on_ok_weaker c.append_numbers.result
      (λ last.
      cited _ _ _ _ _ _ c.in_ok-append_credential-in-Cred.ensures.written c.in_ok-extend_from_slice-in-Cred.ensures.items last
      ∙ by_rule c.args.out.now.items c.args.steps.now c.args.step.now.claim (Cred c.in-Cred.body) c.in-Cred.is)
      c.append_numbers.ensures.written;
  kept =
      keeps_through _ c.append_credential.new.out.items _ c.append_credential.ensures.kept
      (keeps_more _ _ _ _ c.in_ok-extend_from_slice-in-Cred.ensures.items c.append_numbers.ensures.kept);
  capacity = omega arith;
}

pub returns-in_err-extend_from_slice-in-Link : goal.returns-in_err-extend_from_slice-in-Link
returns-in_err-extend_from_slice-in-Link c = record {
  written = nothing_written c.from_residual-in_err-extend_from_slice-in-Link.result _ c.from_residual-in_err-extend_from_slice-in-Link.ensures.0;
  kept = keeps_same _ _ c.in_err-extend_from_slice-in-Link.ensures.items;
  capacity = c.extend_from_slice-in-Link.ensures.capacity;
}

pub returns-in_ok-extend_from_slice-in-Link : goal.returns-in_ok-extend_from_slice-in-Link
returns-in_ok-extend_from_slice-in-Link c = record {
  written =
      on_ok_weaker c.append_numbers-in-Link.result
      (λ last.
      twice _ _ _ c.in_ok-extend_from_slice-in-Link.ensures.items last
      ∙ by_rule c.args.out.now.items c.args.steps.now c.args.step.now.claim (Link c.in-Link.base c.in-Link.role) c.in-Link.is)
      c.append_numbers-in-Link.ensures.written;
  kept = keeps_more _ _ _ _ c.in_ok-extend_from_slice-in-Link.ensures.items c.append_numbers-in-Link.ensures.kept;
  capacity = omega arith;
}

pub returns-in_err-extend_from_slice-in-Parts : goal.returns-in_err-extend_from_slice-in-Parts
returns-in_err-extend_from_slice-in-Parts c = record {
  written = nothing_written c.from_residual-in_err-extend_from_slice-in-Parts.result _ c.from_residual-in_err-extend_from_slice-in-Parts.ensures.0;
  kept = keeps_same _ _ c.in_err-extend_from_slice-in-Parts.ensures.items;
  capacity = c.extend_from_slice-in-Parts.ensures.capacity;
}

pub returns-in_ok-extend_from_slice-in-Parts : goal.returns-in_ok-extend_from_slice-in-Parts
returns-in_ok-extend_from_slice-in-Parts c = record {
  written =
      on_ok_weaker c.append_numbers-in-Parts.result
      (λ last.
      twice _ _ _ c.in_ok-extend_from_slice-in-Parts.ensures.items last
      ∙ ap (λ (l : List ℕ). c.args.out.now.items ++ (codes "parts from" ++ numbers_text l)) c.as_slice.ensures
      ∙ by_rule c.args.out.now.items c.args.steps.now c.args.step.now.claim (Parts c.in-Parts.premises) c.in-Parts.is)
      c.append_numbers-in-Parts.ensures.written;
  kept = keeps_more _ _ _ _ c.in_ok-extend_from_slice-in-Parts.ensures.items c.append_numbers-in-Parts.ensures.kept;
  capacity = omega arith;
}
