-- What stands in the lists of a graph.
use Rattle.std.proofs.Common.{ℕ, ◌≡◌, Contains, List, Some, slice_get}
use Rattle.cred_graph.specs.declared.solutions.Solution.{Solution}
use Rattle.cred_graph.specs.declared.solutions.Reason.{Reason}
use Rattle.cred_graph.specs.Graph.{GraphState, before, Fits, IsGraph}
use Rattle.cred_graph.proofs.NodeListLemmas.{Contains-at_place}

pub solution_at_place : (solutions : List Solution) (place n : ℕ) (who : List ℕ) (why : Reason ℕ (List ℕ)) → slice_get solutions place ≡ Some (record { node = n; who = who; reason = why }) → (reason : Reason ℕ (List ℕ)) × Contains solutions (record { node = n; who = who; reason = reason })
solution_at_place solutions place n who why at = (why, Contains-at_place solutions place (record { node = n; who = who; reason = why }) at)

-- the reason that is found is justified by what was found before
pub found_earlier : (g : GraphState) → IsGraph g → (n place : ℕ) (who : List ℕ) (why : Reason ℕ (List ℕ)) →
    slice_get g.solutions place ≡ Some (record { node = n; who = who; reason = why }) → Fits (before place g) n who why
found_earlier g graph n place who why found = graph.justified place (record { node = n; who = who; reason = why }) found
