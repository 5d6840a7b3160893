-- When a search gives a proof, and why it gives none.
use Rattle.std.specs.Prelude.{ℕ, ◌≡◌, List}
use Rattle.credential_text.specs.declared.exprs.Expr.TheVariants.{Rol}
use Rattle.rt0_rules.specs.Membership.{IsMember}
use Rattle.cred_graph.specs.Graph.{IsNode}
use Rattle.search.specs.Search.{SearchState, IsCompleted, asked_role, rows_of}
use Rattle.proof_trees.specs.declared.faults.ProofFault.{ProofFault}
use Rattle.proof_trees.specs.declared.faults.ProofFault.TheVariants.{NotDone, NoProof, Memory}
use Rattle.proof_trees.specs.declared.placed_solutions.PlacedSolution.{PlacedSolution}
use Rattle.proof_trees.specs.PlacedSolution.{Stands}

-- the number of each fault
abbrev pub proof_fault_number : ProofFault → ℕ
proof_fault_number NotDone = 52
proof_fault_number NoProof = 53
proof_fault_number Memory = 90

-- the entity is not in the asked role, over the rows that the search reads
abbrev pub IsNoMember : SearchState → List ℕ → Type 0
IsNoMember s who = IsMember (rows_of s) who (asked_role s.query) → ⊥

-- why there is no proof: the search is not completed, or its rows do not give the membership; want of memory comes last
abbrev pub WhyRefused : SearchState → List ℕ → ProofFault → Type 0
WhyRefused s who NotDone = IsCompleted s.stage → ⊥
WhyRefused s who NoProof = IsCompleted s.stage × IsNoMember s who
WhyRefused s who Memory = IsCompleted s.stage × IsMember (rows_of s) who (asked_role s.query)

-- the search found the entity in the asked role, and that is so
pub record IsAsked (s : SearchState) (who : List ℕ) (f : PlacedSolution) : Type 0 where
  pub stands : Stands s.graph f
  pub node : IsNode s.graph f.solution.node (Rol (asked_role s.query))
  pub entity : f.solution.who ≡ who
  pub member : IsMember (rows_of s) who (asked_role s.query)
