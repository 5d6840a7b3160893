-- The letters sent with these are compared with the work limit.
use Rattle.std.proofs.Common.{ℕ, ◌≤◌, ◌≡◌, ◌∙◌, All, List, ap, refl, sym, subst, length, arith}
use Rattle.cred_graph.specs.Graph.{GraphState}
use Rattle.scholten_core.specs.Computation.{Computation, IsHeld}
use Rattle.search.specs.Net.{IsLoad, Said, outs_at}
use Rattle.search.specs.declared.outcomes.Finished.{Finished}
use Rattle.search.specs.declared.outcomes.Finished.TheVariants.{Done, Spent, Broken}
use Rattle.search.specs.declared.stages.Stage.{Stage}
use Rattle.search.specs.declared.stages.Stage.TheVariants as stage
use Rattle.search.specs.declared.findings.NumberedMonitor.{NumberedMonitor}
use Rattle.search.specs.Answers.{Progress}
use Rattle.search.specs.Numbered.{AreNumbered, progress_at}
use Rattle.search.specs.Stage.{Sends}
use Rattle.search.proofs.Searching.{same_running}
use Rattle.search.proofs.stages.send.Goals as goal
use Rattle.search.proofs.stages.send.Goals.{After-sent}

-- the computation is the one that the letter is held in
same : (c : After-sent) → c.requires.0 ≡ c.in-Running.running
same c = same_running c.requires.0 c.in-Running.running (sym c.requires.1 ∙ c.in-Running.is)

within : (c : After-sent) → c.in-Running.running.sent ≤ c.args.work
within c = subst (λ (d : Computation Said). d.sent ≤ c.args.work) (same c) c.requires.3

-- what is sent, and is seen in words
abbrev SendsSome : Stage → Stage → ℕ → ℕ → Finished → Progress → Type 0
SendsSome old new work number result s =
    (outs : List (ℕ × Said)) × (outs_at s.graph.nodes outs ≡ s.outs) × All (λ o. IsLoad s.graph.nodes o.1) outs × Sends old new work number outs result

some : (old new : Stage) (work number : ℕ) (result : Finished) (g : GraphState) (ms : List NumberedMonitor) (outs : List (ℕ × Said)) {s : Progress} → progress_at g ms outs ≡ s → AreNumbered g ms outs →
    Sends old new work number outs result → SendsSome old new work number result s
some old new work number result g ms outs is are sends = subst (SendsSome old new work number result) is (outs, refl, are.loads, sends)

pub returns-then-work-sent-clause-sends : goal.returns-then-work-sent-clause-sends
returns-then-work-sent-clause-sends c =
    let after = (goal.at.returns-then-work-sent-clause-sends c).After-sent in
    let count : c.len.result ≡ length c.found.inside.outs.items = c.len.ensures ∙ c.found.inside.outs.ok.0 in
    some c.args.stage.now stage.Spent c.args.work c.args.number Spent c.found.inside.graph c.found.inside.monitors.items c.found.inside.outs.items c.found.view_is c.found.invariant (c.in-Running.running, c.in-Running.is, omega (arith, within after, c.if-work-sent.true, c.sent.ensures, count), refl)

pub returns-in_default-finish_with-clause-sends : goal.returns-in_default-finish_with-clause-sends
returns-in_default-finish_with-clause-sends c =
    let after = (goal.at.returns-in_default-finish_with-clause-sends c).After-sent in
    let count : c.len.result ≡ length c.found.inside.outs.items = c.len.ensures ∙ c.found.inside.outs.ok.0 in
    some c.args.stage.now stage.Broken c.args.work c.args.number Broken c.found.inside.graph c.found.inside.monitors.items c.found.inside.outs.items c.found.view_is c.found.invariant (c.in-Running.running, c.in-Running.is, omega (arith, within after, c.if-work-sent.false, c.sent.ensures, count), refl)

pub returns-clause-sends : goal.returns-clause-sends
returns-clause-sends c =
    let after = (goal.at.returns-clause-sends c).After-sent in
    let count : c.len.result ≡ length c.found.inside.outs.items = c.len.ensures ∙ c.found.inside.outs.ok.0 in
    some c.args.stage.now (stage.Running c.finish_with.new.self) c.args.work c.args.number Done c.found.inside.graph c.found.inside.monitors.items c.found.inside.outs.items c.found.view_is c.found.invariant
    (c.in-Running.running, c.finish_with.new.self, c.in-Running.is, refl, omega (arith, within after, c.if-work-sent.false, c.sent.ensures, count), c.in-Ok.ensures.finished)

pub finish_with-requires : goal.finish_with-requires
finish_with-requires c =
    let after = (goal.at.finish_with-requires c).After-sent in
    record { held = subst (λ (d : Computation Said). IsHeld d.letters c.args.number) (same after) c.requires.2; room = omega (arith, within after, c.if-work-sent.false, c.sent.ensures, c.len.ensures) }

pub returns-clause-findings : goal.returns-clause-findings
returns-clause-findings c = (ap (λ (s : Progress). s.graph) c.found.view_is, ap (λ (s : Progress). s.monitors) c.found.view_is)

pub returns-in_default-finish_with-clause-findings : goal.returns-in_default-finish_with-clause-findings
returns-in_default-finish_with-clause-findings c = (ap (λ (s : Progress). s.graph) c.found.view_is, ap (λ (s : Progress). s.monitors) c.found.view_is)
