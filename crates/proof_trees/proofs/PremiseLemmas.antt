-- The premises of a solution: one that no step claims yet, or a rule from the steps of all.
use Rattle.std.proofs.Common.{ℕ, ◌≡◌, ◌∙◌, Some, inl, inr, sym, subst, refl, List, Result, Err, IfErr}
use Rattle.names.specs.declared.roles.Role.{Role}
use Rattle.credential_text.specs.declared.intersections.Part.{Part}
use Rattle.credential_text.specs.declared.exprs.Expr.TheVariants.{Rol, Link, Meet}
use Rattle.credential_text.specs.Expr.{part_expr}
use Rattle.cred_graph.specs.declared.solutions.Reason.TheVariants as reason
use Rattle.cred_graph.specs.Graph.{GraphState, IsNode, Known, Fits}
use Rattle.proof_trees.specs.declared.placed_solutions.PlacedSolution.{PlacedSolution}
use Rattle.proof_trees.specs.Draft.{DraftState, IsMissing, IsMissingPart, IsMissingPremise}

module _ (g : GraphState) (d : DraftState) (n : ℕ) (who : List ℕ) (f : PlacedSolution) where
  pub base_missing : (b : List ℕ) (base : Role) (name : List ℕ) → IsNode g n (Link base name) → IsNode g f.solution.node (Rol base) → IsMissing g d b f →
      IsMissingPremise g d (record { node = n; who = who; reason = reason.Via b }) f
  base_missing b base name node found missing =
      record { expr = Rol base; node = found; premise = (base, name, node, inl (missing.entity, refl)); stands = missing.stands; absent = missing.absent }

  pub role_missing : (b : List ℕ) (base : Role) (name : List ℕ) → IsNode g n (Link base name) → IsNode g f.solution.node (Rol (record { owner = b; name = name })) → IsMissing g d who f →
      IsMissingPremise g d (record { node = n; who = who; reason = reason.Via b }) f
  role_missing b base name node found missing =
      record {
        expr = Rol (record { owner = b; name = name });
        node = found;
        premise = (base, name, node, inr (missing.entity, refl));
        stands = missing.stands;
        absent = missing.absent;
      }

  pub part_missing : (parts : List Part) → IsNode g n (Meet parts) → IsMissingPart g d parts who f → IsMissingPremise g d (record { node = n; who = who; reason = reason.Parts }) f
  part_missing parts node missed =
      record {
        expr = part_expr missed.part;
        node = missed.node;
        premise = (parts, missed.part, node, missed.among, missed.missing.entity, refl);
        stands = missed.missing.stands;
        absent = missed.missing.absent;
      }

-- a linked role's base and the role of its member are known
pub via_known : (g : GraphState) (n : ℕ) (who b : List ℕ) (base : Role) (name : List ℕ) → IsNode g n (Link base name) → Fits g n who (reason.Via b) →
    Known g b (Rol base) × Known g who (Rol (record { owner = b; name = name }))
via_known g n who b base name node (r, t, again, in_base, in_role) =
    let links : Some (Link r t) ≡ Some (Link base name) = sym again ∙ node in
    let bases : r ≡ base = cc in
    let names : t ≡ name = cc in
    (subst (λ (x : Role). Known g b (Rol x)) bases in_base, subst (λ (x : List ℕ). Known g who (Rol (record { owner = b; name = x }))) names in_role)

-- what holds of the finding that a call answers holds of the answer
pub missing_err : {T : Type 0} (P : PlacedSolution → Type 0) (r : Result T PlacedSolution) (f h : PlacedSolution) → r ≡ Err f → f ≡ h → P h → IfErr r P
missing_err P r f h is same p = subst (λ x. IfErr x P) (sym is) (subst P (sym same) p)
