-- The status is that of the answer, once nothing is outstanding.
use Rattle.std.proofs.Common.{◌≡◌, ◌∙◌, ◌==◌, Bool, IsTrue, true, ap, eq-eqb, sym, subst}
use Rattle.std.specs.Prelude.{if◌then◌else◌}
use Rattle.cred_graph.specs.declared.solutions.Solution.{Solution}
use Rattle.cred_graph.proofs.NodeListLemmas.{Contains-at_place}
use Rattle.scholten_core.specs.Computation.{outstanding}
use Rattle.search.specs.declared.outcomes.Status.{Status}
use Rattle.search.specs.declared.outcomes.Status.TheVariants.{Yes, No}
use Rattle.search.specs.declared.queries.Query.{Query}
use Rattle.search.specs.declared.stages.Stage.{Stage}
use Rattle.search.specs.Ending.{Nothing}
use Rattle.search.specs.Search.{come_to, found, status_of, IsSoundStage}
use Rattle.search.proofs.Answered.{found_yes, found_no}
use Rattle.search.proofs.searches.status_at.Goals.{After-is_complete}
use Rattle.search.proofs.searches.status_at.Goals as goal

sound : (c : After-is_complete) → IsSoundStage c.args.stage.now
sound c = subst IsSoundStage (sym c.in-Running.is) c.is_complete.ensures.sound

-- the status of a completed computation is its answer's
completed : (c : After-is_complete) → IsTrue c.is_complete.result → (status : Status) → status ≡ status_of (found c.args.graph.now c.args.query.now) →
    status ≡ status_of (come_to c.args.stage.now c.args.graph.now c.args.query.now)
completed c complete status is =
    let d = c.in-Running.running in
    let g = c.args.graph.now in
    let q = c.args.query.now in
    let done : (outstanding d == 0) ≡ true = eq-eqb (outstanding d) 0 (c.is_complete.ensures.complete.0 complete) in
    subst (λ (s : Stage). status ≡ status_of (come_to s g q)) (sym c.in-Running.is) (is ∙ ap (λ (b : Bool). status_of (if b then found g q else Nothing)) (sym done))

pub returns-in-Some : goal.returns-in-Some
returns-in-Some c =
    let at = (goal.at.returns-in-Some c).After-is_complete in
    let s : Solution = record { node = 0; who = c.in-Ask.who; reason = c.in-Some._reason.1 } in
    let yes = found_yes c.args.graph.now c.in-Ask._role c.in-Ask.who (c.in-Some._reason.1, Contains-at_place c.args.graph.now.solutions c.in-Some._reason.0 s c.in-Some.ensures.found) in
    record { is = completed at c.if-not-is_complete.false Yes (ap status_of (sym yes) ∙ ap (λ (q : Query). status_of (found c.args.graph.now q)) (sym c.in-Ask.is)); sound = sound at }

pub returns-in-None : goal.returns-in-None
returns-in-None c =
    let at = (goal.at.returns-in-None c).After-is_complete in
    let no = found_no c.args.graph.now c.in-Ask._role c.in-Ask.who c.in-None.ensures.found in
    record { is = completed at c.if-not-is_complete.false No (ap status_of (sym no) ∙ ap (λ (q : Query). status_of (found c.args.graph.now q)) (sym c.in-Ask.is)); sound = sound at }
