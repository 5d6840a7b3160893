use Rattle.std.proofs.Common.{List, ◌++◌, ◌≡◌, ◌∙◌, ap, sym, refl, take, codes, arith}
use Rattle.std.specs.List.{list_all}
use Rattle.std.proofs.lemmas.List.{take_all}
use Rattle.credential_text.specs.declared.intersections.Part.{Part}
use Rattle.credential_text.specs.Part.{has_names, part_text}
use Rattle.credential_text.specs.Expr.{parts_text}
use Rattle.credential_text.proofs.Keeping.{keeps_more, keeps_same, nothing_written}
use Rattle.credential_text.proofs.Left.{list_all_push}
use Rattle.credential_text.proofs.PartLists.{parts_text-push, take_behind, some_front, written_more}
use Rattle.credential_text.proofs.writing.append_parts.Goals as goal

pub loop-part-preserved : goal.loop-part-preserved
loop-part-preserved c =
    let parts : List Part = c.args.parts.now in
    let others : List Part = c.in-Some.others.now in
    let so_far : List Part = take 1 parts ++ take c.loop-part.part-index others in
    let more = take_behind (take 1 parts) others c.loop-part.part-index c.part-item.result c.loop-part-test.true c.part-item.is in
    record {
      whole = c.loop-part.invariant.whole;
      written =
          written_more c.args.out.now.items (parts_text so_far) (codes " & ") (part_text c.part-item.result) c.loop-part.out.items c.extend_from_slice.new.self.items c.append_part-in-loop-part.new.out.items
          c.loop-part.invariant.written c.in_ok-extend_from_slice.ensures.items c.in_ok-append_part-2.ensures.written
          ∙ ap (λ t. c.args.out.now.items ++ t)
          (sym (parts_text-push so_far c.part-item.result (some_front parts others (take c.loop-part.part-index others) c.loop-part.invariant.whole (omega arith))) ∙ ap parts_text (sym more));
      names = ap (list_all has_names) more ∙ list_all_push has_names so_far c.part-item.result c.loop-part.invariant.names c.in_ok-append_part-2.ensures.names;
      capacity = omega (arith, c.loop-part.invariant.capacity, c.extend_from_slice.ensures.capacity, c.append_part-in-loop-part.ensures.capacity);
    }

pub returns-in_err-append_part : goal.returns-in_err-append_part
returns-in_err-append_part c = record {
  written = nothing_written c.from_residual.result _ c.from_residual.ensures.0;
  names = nothing_written c.from_residual.result _ c.from_residual.ensures.0;
  kept = c.append_part.ensures.kept;
  capacity = c.append_part.ensures.capacity;
}

pub returns-in_err-extend_from_slice : goal.returns-in_err-extend_from_slice
returns-in_err-extend_from_slice c = record {
  written = nothing_written c.from_residual-in_err-extend_from_slice.result _ c.from_residual-in_err-extend_from_slice.ensures.0;
  names = nothing_written c.from_residual-in_err-extend_from_slice.result _ c.from_residual-in_err-extend_from_slice.ensures.0;
  kept =
      keeps_more c.args.out.now.items c.loop-part.out.items c.extend_from_slice.new.self.items _ c.loop-part.invariant.written
      (keeps_same c.loop-part.out.items c.extend_from_slice.new.self.items c.in_err-extend_from_slice.ensures.items);
  capacity = omega (arith, c.loop-part.invariant.capacity, c.extend_from_slice.ensures.capacity);
}

pub returns-in_err-append_part-2 : goal.returns-in_err-append_part-2
returns-in_err-append_part-2 c = record {
  written = nothing_written c.from_residual-in_err-append_part-2.result _ c.from_residual-in_err-append_part-2.ensures.0;
  names = nothing_written c.from_residual-in_err-append_part-2.result _ c.from_residual-in_err-append_part-2.ensures.0;
  kept =
      keeps_more c.args.out.now.items c.loop-part.out.items c.append_part-in-loop-part.new.out.items _ c.loop-part.invariant.written
      (keeps_more c.loop-part.out.items c.extend_from_slice.new.self.items c.append_part-in-loop-part.new.out.items _ c.in_ok-extend_from_slice.ensures.items c.append_part-in-loop-part.ensures.kept);
  capacity = omega (arith, c.loop-part.invariant.capacity, c.extend_from_slice.ensures.capacity, c.append_part-in-loop-part.ensures.capacity);
}

pub returns : goal.returns
returns c =
    let parts : List Part = c.args.parts.now in
    let others : List Part = c.in-Some.others.now in
    let all : take 1 parts ++ take c.loop-part.part-index others ≡ parts =
    ap (λ (ps : List Part). take 1 parts ++ ps) (take_all c.loop-part.part-index others c.loop-part-test.false) ∙ sym c.loop-part.invariant.whole in
    let written : c.loop-part.out.items ≡ c.args.out.now.items ++ parts_text parts =
    c.loop-part.invariant.written ∙ ap (λ (ps : List Part). c.args.out.now.items ++ parts_text ps) all in
    record {
      written = written;
      names = ap (list_all has_names) (sym all) ∙ c.loop-part.invariant.names;
      kept = keeps_more c.args.out.now.items c.loop-part.out.items c.loop-part.out.items _ written (keeps_same c.loop-part.out.items c.loop-part.out.items refl);
      capacity = c.loop-part.invariant.capacity;
    }
