-- A line that doesn't end the session is told.
use Rattle.std.proofs.Common.{◌≡◌, ◌∙◌, Bool, false, sym, subst, Option, Ok, Err}
use Rattle.std.specs.Prelude.{IsTrue, IfSome}
use Rattle.pool.specs.Histories.{IsLegal}
use Rattle.pool.specs.Passes.{PassState}
use Rattle.service.specs.Session.{IsLetIn}
use Rattle.service.proofs.ToldLemmas.{no_pass, Tells-held, Tells-new}
use Rattle.service.proofs.sessions.SessionHost.answer.Goals as goal

apart : {b : Bool} → IsTrue b → b ≡ false → ⊥
apart is other = cc

pub returns-in-Some : goal.returns-in-Some
returns-in-Some g c =
    let told = Tells-held c.args.self.now c.self.inside.roster.now c.in-Some.caller c.tell.new.caller c.args.line.now c.tell.new.reply
    (rw c.in-Some.is at c.self.view_is) c.tell.ensures in
    (λ quit. apart (c.is_word.ensures.1 quit) c.if-is_word.false, told.0, told.1, c.legal.ensures)

pub returns-in-Ok : goal.returns-in-Ok
returns-in-Ok g c =
    let none = no_pass c.self.inside.caller c.in_default.not-Some in
    let told = Tells-new c.args.self.now c.self.inside.roster.now c.self.inside.caller c.let_in.new.self.pass c.args.line.now c.let_in.new.reply (Ok c.in-Ok.who)
    c.self.view_is none c.in-Ok.ensures c.let_in.ensures.let_in in
    (λ quit. apart (c.is_word.ensures.1 quit) c.if-is_word.false, c.let_in.ensures.rows ∙ told.0, told.1, c.let_in.ensures.legal)

pub returns-in-Err : goal.returns-in-Err
returns-in-Err g c =
    let none = no_pass c.self.inside.caller c.in_default.not-Some in
    let line = rw c.number.ensures at c.fill_error.ensures in
    let told = Tells-new c.args.self.now c.self.inside.roster.now c.self.inside.caller c.self.inside.caller c.args.line.now c.fill_error.new.buffer (Err c.in-Err.why)
    c.self.view_is none c.in-Err.ensures (subst (λ (p : Option PassState). IsLetIn (Err c.in-Err.why) c.fill_error.new.buffer p) (sym none) line) in (
      λ quit. apart (c.is_word.ensures.1 quit) c.if-is_word.false,
      told.0,
      told.1,
      subst (λ (p : Option PassState). IfSome p (λ q. IsLegal g.L.Naming.roster q.seen)) (sym none) tt,
    )
