-- Each turn answers one line more, or ends the conversation.
use Rattle.std.proofs.Common.{◌≡◌, ℕ, List, [], ◌∙◌, refl, sym, ap, subst, inl, inr}
use Rattle.service.specs.declared.lines.NextLine.{NextLine, TheVariants.Text}
use Rattle.service.specs.Line.{text, too_long, not_ascii}
use Rattle.service.specs.LineReader.{IfKnown}
use Rattle.service.proofs.ConversationLemmas.{SoFar, SoFar-start, SoFar-sends, SoFar-blank, SoFar-line, Hears, Hears-line}
use Rattle.service.proofs.ConversationLemmas.{Conversed-cut, Conversed-end, Conversed-read, Conversed-part, Conversed-quit, Conversed-quit_cut}
use Rattle.service.proofs.WrittenLemmas.{sent_all}
use Rattle.service.proofs.conversations.converse.Given as given
use Rattle.service.proofs.conversations.converse.Goals as goal
use Rattle.service.proofs.conversations.converse.Goals.{After-as_slice, in-Text-2+in-Ok-answer, in-Long, in-NotAscii}

pub loop-init : goal.loop-init
loop-init g c =
    let contents = g.W.Write.contents c.args.writer.now in
    subst (λ (waits : List ℕ). IfKnown c.args.lines.now (λ lines. SoFar g.H.Host.Answers c.args.host.now lines c.args.lines.now c.args.host.now contents contents waits))
    (sym c.requires.nothing_waits) (SoFar-start g.H.Host.Answers c.args.lines.now c.args.host.now contents)

-- the bytes of a text
abbrev shown : NextLine → List ℕ
shown (Text t) = t.now
shown _ = []

-- the line that isn't blank was answered
heard : (g : given.Over) (c : After-as_slice g) → IfKnown c.loop.lines (λ lines. Hears g.H.Host.Answers c.loop.host lines c.match-line.lines c.match-line.flow c.match-line.host c.match-line.reply)
heard g c =
    let gives = rw c.in-Ok.is at c.next_after.follows.holds-at-none in
    elim c.match-line.branch [
      | in-Text-2+in-Ok-answer w ↦
          let same : w.in-Text-2.line.now ≡ w.in-Text.line.now = ap shown (sym w.in-Text-2.is ∙ w.in-Text.is) in
          rw (w.host-is, w.lines-is, w.reply-is, w.flow-is)
          (Hears-line g.H.Host.Answers c.loop.lines c.next_after.follows.lender-at-none c.loop.host w.answer.new.host w.in-Ok-answer.flow w.answer.new.reply c.in-Ok.line (text w.in-Text.line.now)
          gives (rw w.in-Text.is refl) (sym w.is_blank.ensures ∙ w.if-is_blank.false)
          (subst (λ (line : List ℕ). g.H.Host.Answers c.loop.host (text line) w.answer.new.reply w.in-Ok-answer.flow w.answer.new.host) same w.in-Ok-answer.ensures.answers))
      | in-Long w ↦ rw (w.host-is, w.lines-is, w.reply-is, w.flow-is)
          (Hears-line g.H.Host.Answers c.loop.lines c.next_after.follows.lender-at-none c.loop.host c.loop.host w.refuse-flow.result w.refuse-flow.new.reply c.in-Ok.line too_long
          gives (rw w.in-Long.is refl) refl (w.refuse-flow.ensures.long refl))
      | in-NotAscii w ↦ rw (w.host-is, w.lines-is, w.reply-is, w.flow-is)
          (Hears-line g.H.Host.Answers c.loop.lines c.next_after.follows.lender-at-none c.loop.host c.loop.host w.refuse-flow-in-NotAscii.result w.refuse-flow-in-NotAscii.new.reply c.in-Ok.line not_ascii
          gives (rw w.in-NotAscii.is refl) refl (w.refuse-flow-in-NotAscii.ensures.not_ascii refl))
    ]

-- what waits of the replies to the lines before
ready : (g : given.Over) (c : After-as_slice g) → IfKnown c.args.lines.now
    (λ lines. SoFar g.H.Host.Answers c.args.host.now lines c.loop.lines c.loop.host (g.W.Write.contents c.args.writer.now) (g.W.Write.contents c.match-line.writer) c.match-line.out)
ready g c =
    let first = SoFar-sends g.H.Host.Answers c.args.lines.now c.loop.lines c.args.host.now c.loop.host _ _ c.loop.out c.loop.invariant (g.W.Write.contents c.next_after.new.writer) c.next_after.new.out
    c.in-Ok.ensures.sent in
    elim c.match-line.branch [
      | in-Text-2+in-Ok-answer w ↦ rw (w.out-is, w.writer-is)
          (SoFar-sends g.H.Host.Answers c.args.lines.now c.loop.lines c.args.host.now c.loop.host _ _ c.next_after.new.out first _ w.answer.new.out w.in-Ok-answer.ensures.sent)
      | in-Long w ↦ rw (w.out-is, w.writer-is) first
      | in-NotAscii w ↦ rw (w.out-is, w.writer-is) first
    ]

pub returns-in_default : goal.returns-in_default
returns-in_default g c =
    Conversed-cut g.H.Host.Answers c.args.lines.now c.loop.lines c.args.host.now c.loop.host _ _ c.loop.out c.loop.invariant _ c.in_default.ensures.err

pub loop-preserved-in-Text : goal.loop-preserved-in-Text
loop-preserved-in-Text g c =
    let first = SoFar-sends g.H.Host.Answers c.args.lines.now c.loop.lines c.args.host.now c.loop.host _ _ c.loop.out c.loop.invariant (g.W.Write.contents c.next_after.new.writer) c.next_after.new.out
    c.in-Ok.ensures.sent in
    SoFar-blank g.H.Host.Answers c.args.lines.now c.loop.lines c.args.host.now c.loop.host _ _ c.next_after.new.out first c.next_after.follows.lender-at-none c.in-Ok.line (text c.in-Text.line.now)
    (rw c.in-Ok.is at c.next_after.follows.holds-at-none) (rw c.in-Text.is refl) (sym c.if-is_blank.ensures)

pub returns-in_default-answer : goal.returns-in_default-answer
returns-in_default-answer g c =
    let first = SoFar-sends g.H.Host.Answers c.args.lines.now c.loop.lines c.args.host.now c.loop.host _ _ c.loop.out c.loop.invariant (g.W.Write.contents c.next_after.new.writer) c.next_after.new.out
    c.in-Ok.ensures.sent in
    rw c.in_default-answer.ensures.unanswered
    (Conversed-cut g.H.Host.Answers c.args.lines.now c.loop.lines c.args.host.now c.loop.host _ _ c.next_after.new.out first _ c.in_default-answer.ensures.err)

pub returns-in-End : goal.returns-in-End
returns-in-End g c =
    Conversed-end g.H.Host.Answers c.args.lines.now c.loop.lines c.args.host.now c.loop.host _ _ c.loop.out c.loop.invariant c.next_after.follows.lender-at-none _
    (rw (c.in-Ok.is, c.in-End.is) at c.next_after.follows.holds-at-none) (sent_all _ _ c.loop.out c.next_after.new.out (c.in-Ok.ensures.all (inl c.in-End.is)) c.in-Ok.ensures.sent)

pub returns-in-Fault : goal.returns-in-Fault
returns-in-Fault g c =
    Conversed-read g.H.Host.Answers c.args.lines.now c.loop.lines c.args.host.now c.loop.host _ _ c.loop.out c.loop.invariant _ (sent_all _ _ c.loop.out c.next_after.new.out (c.in-Ok.ensures.all (inr c.in-Fault.is)) c.in-Ok.ensures.sent)

pub returns-in_default-put : goal.returns-in_default-put
returns-in_default-put g c =
    let at_put = (goal.at.returns-in_default-put g c).After-as_slice in
    Conversed-part g.H.Host.Answers c.args.lines.now c.loop.lines c.args.host.now c.loop.host _ _ c.match-line.out (ready g at_put) c.match-line.lines _ c.match-line.flow c.match-line.host c.match-line.reply
    (heard g at_put) (rw c.as_slice.ensures at c.in_default-put.ensures.err)

pub loop-preserved : goal.loop-preserved
loop-preserved g c =
    let at_put = (goal.at.loop-preserved g c).After-as_slice in
    SoFar-line g.H.Host.Answers c.args.lines.now c.loop.lines c.args.host.now c.loop.host _ _ c.match-line.out (ready g at_put) c.match-line.lines _ c.match-line.flow c.match-line.host c.match-line.reply
    (heard g at_put) c.put.new.self (rw c.as_slice.ensures at c.in-Ok-put.ensures.ok) c.in-GoesOn.is

pub returns-in-Ends : goal.returns-in-Ends
returns-in-Ends g c =
    let at_put = (goal.at.returns-in-Ends g c).After-as_slice in
    Conversed-quit g.H.Host.Answers c.args.lines.now c.loop.lines c.args.host.now c.loop.host _ _ c.match-line.out (ready g at_put) c.match-line.lines _ c.match-line.flow c.match-line.host c.match-line.reply
    (heard g at_put) c.put.new.self (rw c.as_slice.ensures at c.in-Ok-put.ensures.ok) _ c.in-Ends.is c.in-Ok-send.ensures.ok

pub returns-in_default-send : goal.returns-in_default-send
returns-in_default-send g c =
    let at_put = (goal.at.returns-in_default-send g c).After-as_slice in
    Conversed-quit_cut g.H.Host.Answers c.args.lines.now c.loop.lines c.args.host.now c.loop.host _ _ c.match-line.out (ready g at_put) c.match-line.lines _ c.match-line.flow c.match-line.host c.match-line.reply
    (heard g at_put) c.put.new.self (rw c.as_slice.ensures at c.in-Ok-put.ensures.ok) _ c.in_default-send.ensures.err

pub returns-in_default-send-2 : goal.returns-in_default-send-2
returns-in_default-send-2 g c =
    Conversed-cut g.H.Host.Answers c.args.lines.now c.loop.lines c.args.host.now c.loop.host _ _ c.loop.out c.loop.invariant _ c.in_default-send-2.ensures.err

pub returns : goal.returns
returns g c =
    Conversed-read g.H.Host.Answers c.args.lines.now c.loop.lines c.args.host.now c.loop.host _ _ c.loop.out c.loop.invariant _ c.in-Ok-send-2.ensures.ok
