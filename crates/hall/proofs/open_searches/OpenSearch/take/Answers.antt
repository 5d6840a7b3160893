use Rattle.std.proofs.Common.{◌≡◌, ◌∙◌, None, ap, sym, subst, slice_get}
use Rattle.std.specs.{Prelude.MatchOption, Arc.arc_value}
use Rattle.search.specs.{Search.SearchState, Search.Settles, Stage.waiting_in, Finish.Takes}
use Rattle.hall.specs.{Kept.lendable_search, Hall.Running}
use Rattle.hall.proofs.Carrying.{task_taken}
use Rattle.hall.proofs.Continued.{continues_taken}
use Rattle.hall.proofs.open_searches.OpenSearch.take.Goals as goal
use Rattle.hall.proofs.open_searches.OpenSearch.take.Goals.{In_ok-task}

before : (c : In_ok-task) → c.in-Own.search ≡ c.args.self.now.search
before c = ap lendable_search (sym c.in-Own.is) ∙ ap (λ (r : Running). r.search) c.self.view_is

pub returns-clause-taken : goal.returns-clause-taken
returns-clause-taken c =
    let s = c.in-Own.search in
    let t = c.take.new.self in
    let from = before (goal.at.returns-clause-taken c).In_ok-task in
    subst (λ (r : SearchState). MatchOption c.in_ok-task.task ((slice_get (waiting_in r.stage) c.args.place ≡ None) × (t ≡ r)) (λ task. Takes r t c.args.place task.letter task.need × (arc_value task.snap ≡ r.snapshot))) from
    (task_taken c.args.place s t c.in_ok-task.task c.in_ok-task.ensures.none c.in_ok-task.ensures.task c.in_ok-task.ensures.snapshot)

pub returns-clause-continues : goal.returns-clause-continues
returns-clause-continues c =
    let from = before (goal.at.returns-clause-continues c).In_ok-task in
    continues_taken c.args.self.now (record { opened_at = c.self.inside.opened_at; search = c.take.new.self }) c.args.place c.in_ok-task.task (returns-clause-taken c)
    (subst (λ (r : SearchState). Settles r c.take.new.self) from c.in_ok-task.ensures.settles) c.kept-2.ensures.sound
    (ap (λ (r : Running). r.opened_at) c.self.view_is)
