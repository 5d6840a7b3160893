-- The signal at the place is delivered.
use Rattle.std.proofs.Common.{ℕ, ◌≡◌, ◌<◌, ◌≤◌, ap, arith, length, refl, sym, subst, true}
use Rattle.scholten_core.specs.Computation.{Computation}
use Rattle.search.specs.Net.{Said}
use Rattle.search.specs.declared.stages.Stage.{Stage}
use Rattle.search.specs.declared.stages.Stage.TheVariants as stage
use Rattle.search.specs.Stage.{signals_in, Delivers}
use Rattle.search.proofs.stages.deliver.Goals as goal
use Rattle.search.proofs.stages.deliver.Goals.{After-signal}

-- where nothing runs no signal is under way
none_sent : (st : Stage) (place : ℕ) → ((d : Computation Said) → st ≡ stage.Running d → ⊥) → length (signals_in st) ≤ place
none_sent (stage.Running d) place never = absurd (never d refl)
none_sent _ place never = omega arith

pub returns-in_default : goal.returns-in_default
returns-in_default c = record { delivers = (none_sent c.args.stage.now c.args.place c.in_default.not-Running, refl); findings = (refl, refl) }

-- where the signal was delivered
delivers : (c : After-signal) → Delivers c.args.stage.now (stage.Running c.signal.new.self) c.args.place true
delivers c = (c.in-Running.running, c.signal.new.self, c.in-Running.is, refl, subst (λ (n : ℕ). c.args.place < n) c.signals.ensures c.if-place-signals.false, c.signal.ensures)

pub returns-then-is_complete : goal.returns-then-is_complete
returns-then-is_complete c = record {
  delivers = subst (λ (s : Stage). Delivers c.args.stage.now s c.args.place true) (sym c.rest.ensures.same) (delivers (goal.at.returns-then-is_complete c).After-signal);
  findings = c.rest.ensures.findings;
}

pub returns-else-is_complete : goal.returns-else-is_complete
returns-else-is_complete c = record { delivers = delivers (goal.at.returns-else-is_complete c).After-signal; findings = (refl, refl) }

pub returns-then-place-signals : goal.returns-then-place-signals
returns-then-place-signals c =
    let count = ap (λ (s : Stage). length (signals_in s)) c.in-Running.is in
    record { delivers = (omega (arith, c.signals.ensures, c.if-place-signals.true, count), sym c.in-Running.is); findings = (refl, refl) }

pub signal-requires : goal.signal-requires
signal-requires c = subst (λ (n : ℕ). c.args.place < n) c.signals.ensures c.if-place-signals.false
