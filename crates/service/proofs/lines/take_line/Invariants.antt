use Rattle.std.proofs.Common.{◌≤◌, [], None, vec_len, vec_capacity}
use Rattle.service.specs.LineReader.{TakesBytes, unread_bytes}
use Rattle.service.proofs.lines.take_line.Given as goal

-- the line goes on behind the bytes so far
abbrev pub invariant-loop-turn : goal.invariant-loop-turn
invariant-loop-turn g l = record {
  taken : TakesBytes (unread_bytes g.R.Read.remaining l.initial.ahead) [] None (unread_bytes g.R.Read.remaining l.ahead) l.line.items;
  few : vec_len l.line ≤ 4098;
  room : 4098 ≤ vec_capacity l.line;
}
