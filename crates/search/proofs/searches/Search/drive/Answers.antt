-- What holds of each drive holds of the steps that were made: the first signal, or the first letter where no signal is under way.
use Rattle.std.proofs.Common.{arith, inl, sym, subst}
use Rattle.search.specs.Stage.{IsQuiet}
use Rattle.search.specs.Search.{SearchState}
use Rattle.search.specs.Finish.{IsDriven}
use Rattle.search.proofs.Driven.{Made, driven_more, driven_holds, driven_question, driven_settles, finishes_first, first_goes, made_left, none_held_on, nothing_first}
use Rattle.search.proofs.searches.Search.drive.Goals as goal
use Rattle.search.proofs.searches.Search.drive.Goals.{After-signal, After-receive_held-finished}

-- a signal was delivered
signalled : (c : After-signal) → Made c.loop-self.self c.signal.new.self
signalled c = inl (record {
  delivered = first_goes c.loop-self.self.stage c.signal.new.self.stage c.signal.result (omega (arith, c.if-signals-gt0.true, c.signals.ensures)) c.signal.ensures.delivered;
  graph = c.signal.ensures.findings.0;
  monitors = c.signal.ensures.findings.1;
  question = c.signal.ensures.question;
  settles = c.signal.ensures.settles;
})

-- a letter was finished
finished : (c : After-receive_held-finished) → Made c.loop-self.self c.receive_held-finished.new.self
finished c =
    finishes_first c.loop-self.self c.take_held.new.self c.receive_held-finished.new.self c.in-Some.letter c.in-Some.held c.receive_held-finished.result (omega (arith, c.if-signals-gt0.false, c.signals.ensures))
    c.in-Some.ensures.taken c.in-Some.ensures.settles c.receive_held-finished.ensures.receives c.receive_held-finished.ensures.settles

pub loop-self-init : goal.loop-self-init
loop-self-init c = IsDriven.rests

pub loop-self-smaller-then-signals-gt0 : goal.loop-self-smaller-then-signals-gt0
loop-self-smaller-then-signals-gt0 c = made_left c.loop-self.self c.signal.new.self (signalled c)

pub loop-self-preserved-then-signals-gt0 : goal.loop-self-preserved-then-signals-gt0
loop-self-preserved-then-signals-gt0 c = driven_more c.args.self.now c.loop-self.self c.signal.new.self c.loop-self.invariant (signalled c)

pub loop-self-smaller : goal.loop-self-smaller
loop-self-smaller c = made_left c.loop-self.self c.receive_held-finished.new.self (finished c)

pub loop-self-preserved : goal.loop-self-preserved
loop-self-preserved c = driven_more c.args.self.now c.loop-self.self c.receive_held-finished.new.self c.loop-self.invariant (finished c)

pub receive_held-finished-requires : goal.receive_held-finished-requires
receive_held-finished-requires c = record { held = c.in-Some.ensures.taken.2; span = λ e at. tt }

pub returns : goal.returns
returns c =
    let s = c.args.self.now in
    let over = c.in_default.ensures.taken.1 in
    let t = c.take_held.new.self in
    let driven = subst (IsDriven s) (sym over) c.loop-self.invariant in
    let quiet = subst (λ (x : SearchState). IsQuiet x.stage) (sym over) (nothing_first c.loop-self.self.stage (omega (arith, c.if-signals-gt0.false, c.signals.ensures)) c.in_default.ensures.taken.0) in
    let held = driven_holds s t driven in record {
      driven = driven;
      quiet = quiet;
      settled = λ none outstanding. c.is_quiet-settled.ensures.settled quiet (none_held_on s.stage t.stage held none) outstanding;
      held = held;
      none_held = none_held_on s.stage t.stage held;
      question = driven_question s t driven;
      settles = driven_settles s t driven;
    }
