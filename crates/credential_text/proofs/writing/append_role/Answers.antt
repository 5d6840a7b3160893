use Rattle.std.proofs.Common.{ℕ, List, ◌++◌, ◌≡◌, arith, append_assoc}
use Rattle.names.specs.Role.{role_text}
use Rattle.credential_text.proofs.Keeping.{keeps_more, keeps_same, keeps_last, written_last, nothing_written, on_ok}
use Rattle.credential_text.proofs.writing.append_role.Goals as goal

pub returns-in_err-extend_from_slice : goal.returns-in_err-extend_from_slice
returns-in_err-extend_from_slice c = record {
  written = nothing_written c.from_residual.result _ c.from_residual.ensures.0;
  owner = nothing_written c.from_residual.result _ c.from_residual.ensures.0;
  name = nothing_written c.from_residual.result _ c.from_residual.ensures.0;
  kept = keeps_same c.args.out.now.items c.extend_from_slice.new.self.items c.in_err-extend_from_slice.ensures.items;
  capacity = c.extend_from_slice.ensures.capacity;
}

pub returns-in_err-push : goal.returns-in_err-push
returns-in_err-push c = record {
  written = nothing_written c.from_residual-in_err-push.result _ c.from_residual-in_err-push.ensures.0;
  owner = nothing_written c.from_residual-in_err-push.result _ c.from_residual-in_err-push.ensures.0;
  name = nothing_written c.from_residual-in_err-push.result _ c.from_residual-in_err-push.ensures.0;
  kept =
      keeps_more c.args.out.now.items c.extend_from_slice.new.self.items c.push.new.self.items _ c.in_ok-extend_from_slice.ensures.items
      (keeps_same c.extend_from_slice.new.self.items c.push.new.self.items c.in_err-push.ensures.items);
  capacity = omega (arith, c.extend_from_slice.ensures.capacity, c.push.ensures.capacity);
}

pub returns : goal.returns
returns c =
    let old : List ℕ = c.args.out.now.items in
    let role = c.args.role.now in
    let last = c.extend_from_slice-2.ensures.items in
    let whole : c.push.new.self.items ++ c.bytes-2.result.now ≡ old ++ role_text role =
    rw (c.in_ok-push.ensures.items, c.in_ok-extend_from_slice.ensures.items, c.bytes.ensures.value, c.bytes-2.ensures.value) (simp append_assoc) in
    record {
      written = written_last c.extend_from_slice-2.result c.push.new.self.items c.bytes-2.result.now c.extend_from_slice-2.new.self.items (old ++ role_text role) last whole;
      owner = on_ok c.extend_from_slice-2.result _ c.bytes.ensures.name;
      name = on_ok c.extend_from_slice-2.result _ c.bytes-2.ensures.name;
      kept =
          keeps_more old c.extend_from_slice.new.self.items c.extend_from_slice-2.new.self.items _ c.in_ok-extend_from_slice.ensures.items
          (keeps_more c.extend_from_slice.new.self.items c.push.new.self.items c.extend_from_slice-2.new.self.items _ c.in_ok-push.ensures.items
          (keeps_last c.extend_from_slice-2.result c.push.new.self.items c.bytes-2.result.now c.extend_from_slice-2.new.self.items last));
      capacity = omega (arith, c.extend_from_slice.ensures.capacity, c.push.ensures.capacity, c.extend_from_slice-2.ensures.capacity);
    }
