use Rattle.std.proofs.Common.{ℕ, ◌≡◌, List, [], ◌∷◌, Option, Some, IfSome}
use Rattle.std.proofs.lemmas.Option.{MatchOption-at_some}
use Rattle.std.proofs.lemmas.List.Elements.{All-nil, All-cons, All-same}
use Rattle.credential_text.specs.declared.exprs.Expr.TheVariants.{Meet}
use Rattle.credential_text.specs.declared.intersections.Part.{Part}
use Rattle.credential_text.specs.Expr.{part_expr}
use Rattle.cred_graph.specs.declared.solutions.Reason.TheVariants as reason
use Rattle.cred_graph.specs.Graph.{GraphState, IsNode, Known, Fits}
use Rattle.cred_graph.proofs.Found.{solution_at_place}
use Rattle.proof_trees.proofs.tests_below.of_cred_graph.solve_meet.Goals as goal

-- an intersection of two parts that both know the entity
both_know : (g : GraphState) (n : ℕ) (who : List ℕ) (p q : Part) (made : Option (List Part)) (parts : List Part) →
    IfSome made (λ ps. ps ≡ p ∷ q ∷ []) → made ≡ Some parts → IsNode g n (Meet parts) → Known g who (part_expr p) → Known g who (part_expr q) → Fits g n who reason.Parts
both_know g n who p q made parts two is node one other =
    let known : Part → Type 0 = λ part. Known g who (part_expr part) in
    let parts_are : parts ≡ p ∷ q ∷ [] = MatchOption-at_some _ (λ (ps : List Part). ps ≡ p ∷ q ∷ []) parts is two in
    (parts, node, All-same known parts (p ∷ q ∷ []) parts_are (All-cons known p (q ∷ []) one (All-cons known q [] other (All-nil known))))

pub add_solution-requires : goal.add_solution-requires
add_solution-requires c =
    both_know c.args.graph.now _ _ c.args.first c.args.second _ _ c.in_ok-parts.ensures c.in-Some.is c.in-Some-node.ensures.node
    (c.in-Some-number_of.m, c.in-Some-number_of.ensures.node, solution_at_place _ _ _ _ _ c.in-Some-reason.ensures.found)
    (c.in-Some-number_of-2.k, c.in-Some-number_of-2.ensures.node, solution_at_place _ _ _ _ _ c.in-Some-reason-2.ensures.found)
