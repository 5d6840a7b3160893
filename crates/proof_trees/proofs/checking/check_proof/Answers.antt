use Rattle.std.proofs.Common.{◌↔◌, IsTrue, List, ap, length, subst, arith}
use Rattle.proof_trees.specs.declared.steps.Step.{Step}
use Rattle.proof_trees.specs.Proof.{IsProof}
use Rattle.proof_trees.proofs.RuleLemmas.{never}
use Rattle.proof_trees.proofs.checking.check_proof.Goals as goal

pub returns-in_default : goal.returns-in_default
returns-in_default c =
    never (λ p. omega (arith, p.concludes.1, ap length c.steps-steps.ensures, c.in_default.ensures))

pub returns-then-claims : goal.returns-then-claims
returns-then-claims c =
    let proves : List Step → Type 0 = IsProof c.args.credentials.now c.args.role.now c.args.who.now in
    subst (λ (steps : List Step). IsTrue c.are_by_rules.result ↔ proves steps) c.steps-steps.ensures (
      λ yes. record {
        by_rules = c.are_by_rules.ensures.0 yes;
        concludes = (c.in-Some.last, omega (arith, c.in-Some.ensures), c.claims.ensures.0 c.if-claims.true);
      },
      λ p. c.are_by_rules.ensures.1 p.by_rules,
    )
