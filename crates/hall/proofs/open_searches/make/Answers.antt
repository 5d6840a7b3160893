use Rattle.std.proofs.Common.{true, false, sym, subst, refl}
use Rattle.hall.specs.Hall.{IsMade}
use Rattle.hall.specs.declared.calls.steps.Step.{Step}
use Rattle.search.specs.Stage.{Delivers}
use Rattle.hall.proofs.SearchSteps.{stage_alone}
use Rattle.hall.proofs.open_searches.make.Goals as goal

pub returns-then-signal-clause-made : goal.returns-then-signal-clause-made
returns-then-signal-clause-made c =
    subst (λ (made : Step). IsMade c.args.search.now made _ c.signal.new.self) (sym c.in-Signal.is) (
      true,
      subst (Delivers c.args.search.now.stage c.signal.new.self.stage c.in-Signal.place) c.if-signal.true c.signal.ensures.delivered,
      stage_alone c.args.search.now c.signal.new.self c.signal.ensures.findings.0 c.signal.ensures.findings.1 c.signal.ensures.question,
      refl,
    )

pub returns-else-signal-clause-made : goal.returns-else-signal-clause-made
returns-else-signal-clause-made c =
    subst (λ (made : Step). IsMade c.args.search.now made _ c.signal.new.self) (sym c.in-Signal.is) (
      false,
      subst (Delivers c.args.search.now.stage c.signal.new.self.stage c.in-Signal.place) c.if-signal.false c.signal.ensures.delivered,
      stage_alone c.args.search.now c.signal.new.self c.signal.ensures.findings.0 c.signal.ensures.findings.1 c.signal.ensures.question,
      refl,
    )
