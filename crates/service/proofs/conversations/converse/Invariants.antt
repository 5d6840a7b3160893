use Rattle.service.specs.LineReader.{IfKnown}
use Rattle.service.proofs.ConversationLemmas.{SoFar}
use Rattle.service.proofs.conversations.converse.Given as goal

-- the lines so far are answered, and what of their replies didn't go out waits
abbrev pub invariant-loop : goal.invariant-loop
invariant-loop g l =
    IfKnown l.initial.lines (λ lines. SoFar g.H.Host.Answers l.initial.host lines l.lines l.host (g.W.Write.contents l.initial.writer) (g.W.Write.contents l.writer) l.out)
