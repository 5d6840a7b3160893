use Rattle.std.proofs.Common.{ℕ, List, ◌∷◌, ◌++◌, ◌≡◌, ◌∙◌, IsTrue, ap, sym, refl, subst, arith}
use Rattle.std.proofs.lemmas.Bool.{and_from}
use Rattle.std.proofs.lemmas.Result.{on_ok_weaker}
use Rattle.names.specs.Role.{role_text}
use Rattle.names.specs.Texts.{dot}
use Rattle.credential_text.specs.declared.intersections.Part.{Part}
use Rattle.credential_text.specs.Part.{has_names, part_text}
use Rattle.credential_text.proofs.Keeping.{keeps_same, keeps_more, keeps_last, keeps_through, nothing_written, written_last, written_around, on_ok, on_ok_both}
use Rattle.credential_text.proofs.writing.append_part.Goals as goal

pub returns-in_err-append_role-in-Link : goal.returns-in_err-append_role-in-Link
returns-in_err-append_role-in-Link c = record {
  written = nothing_written c.from_residual.result _ c.from_residual.ensures.0;
  names = nothing_written c.from_residual.result _ c.from_residual.ensures.0;
  kept = c.append_role-in-Link.ensures.kept;
  capacity = c.append_role-in-Link.ensures.capacity;
}

pub returns-in_err-push-in-Link : goal.returns-in_err-push-in-Link
returns-in_err-push-in-Link c = record {
  written = nothing_written c.from_residual-in_err-push-in-Link.result _ c.from_residual-in_err-push-in-Link.ensures.0;
  names = nothing_written c.from_residual-in_err-push-in-Link.result _ c.from_residual-in_err-push-in-Link.ensures.0;
  kept =
      keeps_through c.args.out.now.items c.append_role-in-Link.new.out.items c.push.new.self.items c.append_role-in-Link.ensures.kept
      (keeps_same c.append_role-in-Link.new.out.items c.push.new.self.items c.in_err-push-in-Link.ensures.items);
  capacity = omega (arith, c.append_role-in-Link.ensures.capacity, c.push.ensures.capacity);
}

pub returns-in-Ent : goal.returns-in-Ent
returns-in-Ent c =
    let old : List ℕ = c.args.out.now.items in
    let last = c.extend_from_slice.ensures.items in
    let whole : old ++ c.bytes.result.now ≡ old ++ part_text c.args.part.now =
    ap (λ (t : List ℕ). old ++ t) c.bytes.ensures.value ∙ ap (λ (p : Part). old ++ part_text p) (sym c.in-Ent.is) in
    record {
      written = written_last c.extend_from_slice.result old c.bytes.result.now c.extend_from_slice.new.self.items _ last whole;
      names =
          on_ok c.extend_from_slice.result _
          (subst (λ (p : Part). IsTrue (has_names p)) (sym c.in-Ent.is) (and_from _ _ c.bytes.ensures.name refl));
      kept = keeps_last c.extend_from_slice.result old c.bytes.result.now c.extend_from_slice.new.self.items last;
      capacity = c.extend_from_slice.ensures.capacity;
    }

pub returns-in-Rol : goal.returns-in-Rol
returns-in-Rol c = record {
  written =
      on_ok_weaker c.append_role.result (λ now. now ∙ ap (λ (p : Part). c.args.out.now.items ++ part_text p) (sym c.in-Rol.is))
      c.append_role.ensures.written;
  names =
      on_ok_both c.append_role.result _ _ _
      (λ owner name. subst (λ (p : Part). IsTrue (has_names p)) (sym c.in-Rol.is) (and_from _ _ owner (and_from _ _ name refl)))
      c.append_role.ensures.owner c.append_role.ensures.name;
  kept = c.append_role.ensures.kept;
  capacity = c.append_role.ensures.capacity;
}

pub returns-in_ok-push-in-Link : goal.returns-in_ok-push-in-Link
returns-in_ok-push-in-Link c =
    let old : List ℕ = c.args.out.now.items in
    let base : List ℕ = c.append_role-in-Link.new.out.items in
    let mid : List ℕ = c.push.new.self.items in
    let name : List ℕ = c.bytes-in-Link.result.now in
    let last = c.extend_from_slice-in-Link.ensures.items in
    let whole : mid ++ name ≡ old ++ part_text c.args.part.now =
    written_around old _ mid name dot base c.in_ok-append_role-in-Link.ensures.written c.in_ok-push-in-Link.ensures.items
    ∙ ap (λ (n : List ℕ). old ++ (role_text c.in-Link.base ++ dot ∷ n)) c.bytes-in-Link.ensures.value
    ∙ ap (λ (p : Part). old ++ part_text p) (sym c.in-Link.is) in
    record {
      written = written_last c.extend_from_slice-in-Link.result mid name c.extend_from_slice-in-Link.new.self.items _ last whole;
      names =
          on_ok c.extend_from_slice-in-Link.result _
          (subst (λ (p : Part). IsTrue (has_names p)) (sym c.in-Link.is)
          (and_from _ _ c.in_ok-append_role-in-Link.ensures.owner (and_from _ _ c.in_ok-append_role-in-Link.ensures.name
          (and_from _ _ c.bytes-in-Link.ensures.name refl))));
      kept =
          keeps_through old base c.extend_from_slice-in-Link.new.self.items c.append_role-in-Link.ensures.kept
          (keeps_more base mid c.extend_from_slice-in-Link.new.self.items _ c.in_ok-push-in-Link.ensures.items
          (keeps_last c.extend_from_slice-in-Link.result mid name c.extend_from_slice-in-Link.new.self.items last));
      capacity =
          omega (arith, c.append_role-in-Link.ensures.capacity, c.push.ensures.capacity, c.extend_from_slice-in-Link.ensures.capacity);
    }
