use Rattle.std.proofs.Common.{sym, subst}
use Rattle.credential_text.specs.declared.exprs.Expr.TheVariants.{Rol}
use Rattle.cred_graph.specs.Graph.{GraphState, IsNode}
use Rattle.search.specs.Search.{rows_of, asked_role}
use Rattle.proof_trees.specs.Proof.{Concludes}
use Rattle.proof_trees.specs.PlacedSolution.{AreByRows}
use Rattle.proof_trees.proofs.ProvingLemmas.{by_rows}
use Rattle.proof_trees.proofs.proving.proof_of.Goals as goal

pub returns-clause-proof : goal.returns-clause-proof
returns-clause-proof c =
    let s = c.args.search.now in
    let asked = c.in-Some.ensures.found in
    let role = Rol (asked_role s.query) in
    let node = subst (λ (g : GraphState). IsNode g c.in-Some.asked.solution.node role) (sym c.graph.ensures.graph) asked.node in
    record {
      by_rules = c.in_ok-proof.ensures.by_rules (rows_of s) (subst (AreByRows (rows_of s)) (sym c.graph.ensures.graph) (by_rows s c.asked_solution.ensures.justified));
      concludes = subst (λ w. Concludes c.in_ok-proof.proof w role) asked.entity (c.in_ok-proof.ensures.concludes role node);
    }
