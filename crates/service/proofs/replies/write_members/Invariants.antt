use Rattle.std.proofs.Common.{◌≡◌, ◌++◌, take, codes}
use Rattle.service.specs.Reply.{front_of, listed}
use Rattle.service.proofs.replies.write_members.Given as goal

-- the first names stand in the line
abbrev pub invariant-loop-name : goal.invariant-loop-name
invariant-loop-name l = l.buffer ≡ front_of l.who ++ codes "members" ++ listed (take l.name-index l.names)
