use Rattle.std.proofs.Common.{◌≡◌, ◌≤◌, ◌++◌, take, true, vec_capacity}
use Rattle.std.specs.List.{list_all}
use Rattle.credential_text.specs.Part.{has_names}
use Rattle.credential_text.specs.Expr.{parts_text}
use Rattle.credential_text.proofs.writing.append_parts.Given as goal

abbrev pub invariant-loop-part : goal.invariant-loop-part
invariant-loop-part l = record {
  whole : l.parts ≡ take 1 l.parts ++ l.others;
  written : l.out.items ≡ l.fn.out.items ++ parts_text (take 1 l.parts ++ take l.part-index l.others);
  names : list_all has_names (take 1 l.parts ++ take l.part-index l.others) ≡ true;
  capacity : vec_capacity l.fn.out ≤ vec_capacity l.out;
}
