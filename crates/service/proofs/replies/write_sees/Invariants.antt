use Rattle.std.proofs.Common.{◌≡◌, ◌++◌, map, take, codes}
use Rattle.service.specs.Reply.{front_of, listed, seen_text}
use Rattle.service.proofs.replies.write_sees.Given as goal

-- the first names stand in the line
abbrev pub invariant-loop-one : goal.invariant-loop-one
invariant-loop-one l = l.buffer ≡ front_of l.who ++ codes "sees" ++ listed (map seen_text (take l.one-index l.seen))
