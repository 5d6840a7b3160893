use Rattle.std.proofs.Common.{ℕ, List, [], ◌≡◌, ◌++◌, Option, Some, None, Bor}
use Rattle.std.specs.List.{flat_map}
use Rattle.credential_text.proofs.Left.{bytes_left}
use Rattle.service.specs.Reply.{front_of, line_after, text_lines}
use Rattle.service.proofs.replies.write_lines.Given as goal

-- the lines of what is left
abbrev pub lines_left : Option (Bor (List ℕ)) → List (List ℕ)
lines_left None = []
lines_left (Some text) = text_lines text.now

-- what is there and the lines that are left come to all lines
abbrev pub invariant-loop-left : goal.invariant-loop-left
invariant-loop-left l = l.buffer ++ flat_map (line_after (front_of l.who)) (lines_left l.left) ≡ l.fn.buffer ++ flat_map (line_after (front_of l.who)) (text_lines l.text)

abbrev pub decreases-loop-left : goal.decreases-loop-left
decreases-loop-left l = bytes_left l.left
