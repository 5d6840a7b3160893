-- What a completed search found of the asked role.
use Rattle.std.proofs.Common.{ℕ, ◌≡◌, sym, subst, refl, List, Option, Some, None, MatchOption}
use Rattle.credential_text.specs.declared.exprs.Expr.TheVariants.{Rol}
use Rattle.rt0_rules.specs.Asks.{asked_role as asked_itself}
use Rattle.rt0_rules.specs.FixedPoint.{IsExact}
use Rattle.cred_graph.proofs.NodeListLemmas.{Contains-at_place}
use Rattle.cred_graph.specs.Graph.{IsSolution, IsNode, Known}
use Rattle.scholten_core.specs.Computation.{Computation}
use Rattle.search.specs.declared.letters.Load.{Load}
use Rattle.search.specs.declared.stages.Stage.{Stage}
use Rattle.search.specs.declared.stages.Stage.TheVariants as stage
use Rattle.search.specs.Search.{SearchState, IsCompleted, rows_of, asked_role}
use Rattle.search.specs.Net.{IsJustified}
use Rattle.proof_trees.specs.declared.placed_solutions.PlacedSolution.{PlacedSolution}
use Rattle.proof_trees.specs.PlacedSolution.{Stands, AreByRows}
use Rattle.proof_trees.specs.Fault.{IsNoMember, IsAsked}

-- a completed search ran
pub if_completed : (P : Type 0) (s : Stage) → IsCompleted s → ((c : Computation (Load ℕ)) → s ≡ stage.Running c → P) → P
if_completed P (stage.Running c) completed runs = runs c refl
if_completed P stage.Spent completed runs = absurd completed
if_completed P stage.Broken completed runs = absurd completed

module _ (s : SearchState) (who : List ℕ) (justified : IsJustified (rows_of s) (asked_role s.query) s.graph)
    (exact : IsExact (rows_of s) (asked_role s.query) (Known s.graph)) where
  pub asked_found : (found : Option PlacedSolution) →
      MatchOption found (IsSolution s.graph 0 who → ⊥) (λ f. Stands s.graph f × (f.solution.node ≡ 0) × (f.solution.who ≡ who)) →
      MatchOption found (IsNoMember s who) (IsAsked s who)
  asked_found None none = λ member.
      let (n, node, solution) = (exact who (Rol (asked_role s.query)) asked_itself).1 member in
      let first : n ≡ 0 = justified.graph.one_node n 0 (Rol (asked_role s.query)) node justified.root_node in
      none (subst (λ k. IsSolution s.graph k who) first solution)
  asked_found (Some f) (stands, node, whose) =
      let at : IsNode s.graph f.solution.node (Rol (asked_role s.query)) = subst (λ k. IsNode s.graph k (Rol (asked_role s.query))) (sym node) justified.root_node in
      let solution : IsSolution s.graph f.solution.node who = subst (IsSolution s.graph f.solution.node) whose (f.solution.reason, Contains-at_place s.graph.solutions f.place f.solution stands) in
      record {
        stands = stands;
        node = at;
        entity = whose;
        member = (exact who (Rol (asked_role s.query)) asked_itself).0 (f.solution.node, at, solution);
      }

pub by_rows : (s : SearchState) → IsJustified (rows_of s) (asked_role s.query) s.graph → AreByRows (rows_of s) s.graph
by_rows s justified t among = (justified.solutions_fit t among).by_row
