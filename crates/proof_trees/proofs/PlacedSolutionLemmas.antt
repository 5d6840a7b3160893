-- A solution stands once, and its premises were found before it.
use Rattle.std.proofs.Common.{ℕ, ◌<◌, ◌≡◌, ◌∙◌, inl, inr, ap, sym, subst, List, Contains, take}
use Rattle.std.proofs.lemmas.List.Elements.{All-contains, All-weaker}
use Rattle.credential_text.specs.declared.intersections.Part.{Part}
use Rattle.credential_text.specs.declared.exprs.Expr.{Expr}
use Rattle.credential_text.specs.declared.exprs.Expr.TheVariants.{Rol}
use Rattle.credential_text.specs.Expr.{part_expr}
use Rattle.cred_graph.specs.declared.solutions.Reason.{Reason}
use Rattle.cred_graph.specs.declared.solutions.Reason.TheVariants as reason
use Rattle.cred_graph.specs.Graph.{GraphState, IsNode, IsSolution, Known, before, Fits, IsGraph}
use Rattle.cred_graph.proofs.NodeListLemmas.{Contains-at_place, place_of_Contains}
use Rattle.proof_trees.specs.declared.placed_solutions.PlacedSolution.{PlacedSolution}
use Rattle.proof_trees.specs.PlacedSolution.{Stands, IsPremiseOf, IsPremise}
use Rattle.proof_trees.proofs.Taken.{from_front}

module _ (g : GraphState) (k : ℕ) where
  solution_later : (n : ℕ) (who : List ℕ) → IsSolution (before k g) n who → IsSolution g n who
  solution_later n who (why, among) =
      let at = place_of_Contains (take k g.solutions) (record { node = n; who = who; reason = why }) among in
      (why, Contains-at_place g.solutions at.0 _ (from_front g.solutions k at.0 _ at.1).1)

  known_later : (who : List ℕ) (e : Expr) → Known (before k g) who e → Known g who e
  known_later who e (n, node, solution) = (n, node, solution_later n who solution)

  -- what was found by earlier solutions is found by all
  pub fits_later : (n : ℕ) (who : List ℕ) (why : Reason ℕ (List ℕ)) → Fits (before k g) n who why → Fits g n who why
  fits_later n who reason.Leaf fits = fits
  fits_later n who (reason.Body m) (r, e, head, body, solution) = (r, e, head, body, solution_later m who solution)
  fits_later n who (reason.Via b) (r, t, node, in_base, in_role) =
      (r, t, node, known_later b (Rol r) in_base, known_later who (Rol (record { owner = b; name = t })) in_role)
  fits_later n who reason.Parts (parts, node, each) =
      (parts, node, All-weaker (λ (p : Part). Known (before k g) who (part_expr p)) (λ p. Known g who (part_expr p)) (λ p. known_later who (part_expr p)) parts each)

module _ (g : GraphState) (graph : IsGraph g) where
  pub placed_fits : (f : PlacedSolution) → Stands g f → Fits g f.solution.node f.solution.who f.solution.reason
  placed_fits f stands = fits_later g f.place f.solution.node f.solution.who f.solution.reason (graph.justified f.place f.solution stands)

  -- what is known by the first k solutions was found among them
  known_earlier : (k : ℕ) (p : PlacedSolution) (e : Expr) → Stands g p → IsNode g p.solution.node e → Known (before k g) p.solution.who e → p.place < k
  known_earlier k p e stands node (n, same_node, (why, among)) =
      let at = place_of_Contains (take k g.solutions) (record { node = n; who = p.solution.who; reason = why }) among in
      let front = from_front g.solutions k at.0 _ at.1 in
      let nodes : n ≡ p.solution.node = graph.one_node n p.solution.node e same_node node in
      let found : at.0 ≡ p.place = graph.one_solution at.0 p.place (record { node = n; who = p.solution.who; reason = why }) p.solution front.1 stands nodes (λ i. p.solution.who) in
      subst (λ m. m < k) found front.0

-- a premise of a solution that fits is known
premise_known : (g : GraphState) (n : ℕ) (who : List ℕ) (why : Reason ℕ (List ℕ)) (d : List ℕ) (e : Expr) → Fits g n who why → IsPremiseOf g n who why d e → Known g d e
premise_known g n who reason.Leaf d e fits premise = absurd premise
premise_known g n who (reason.Body m) d e (r, f, head, body, solution) (same, node) =
    subst (λ w. Known g w e) (sym same) (m, node, solution)
premise_known g n who (reason.Via b) d e (r, t, node, in_base, in_role) (base, name, again, inl (same, is)) =
    let bases : r ≡ base = cc in
    subst (λ w. Known g w e) (sym same) (subst (Known g b) (ap Rol bases ∙ sym is) in_base)
premise_known g n who (reason.Via b) d e (r, t, node, in_base, in_role) (base, name, again, inr (same, is)) =
    let names : t ≡ name = cc in
    subst (λ w. Known g w e) (sym same) (subst (Known g who) (ap (λ (x : List ℕ). Rol (record { owner = b; name = x })) names ∙ sym is) in_role)
premise_known g n who reason.Parts d e (parts, node, each) (parts', part, again, among, same, is) =
    let lists : parts' ≡ parts = cc in
    let known = All-contains (λ (p : Part). Known g who (part_expr p)) parts part each (subst (λ ps. Contains ps part) lists among) in
    subst (λ w. Known g w e) (sym same) (subst (Known g who) (sym is) known)

-- a premise was found before
pub premise_earlier : (g : GraphState) → IsGraph g → (f p : PlacedSolution) (e : Expr) → Stands g f → Stands g p → IsNode g p.solution.node e → IsPremise g f.solution p.solution.who e → p.place < f.place
premise_earlier g graph f p e stands other node premise =
    known_earlier g graph f.place p e other node
    (premise_known (before f.place g) f.solution.node f.solution.who f.solution.reason p.solution.who e (graph.justified f.place f.solution stands) premise)
