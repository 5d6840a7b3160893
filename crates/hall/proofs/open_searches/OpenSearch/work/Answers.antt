use Rattle.std.proofs.Common.{◌≡◌, ◌∙◌, sym, ap, subst}
use Rattle.hall.specs.Kept.{lendable_search}
use Rattle.hall.specs.Hall.{Running}
use Rattle.search.specs.Search.{SearchState, IsSoundStage}
use Rattle.hall.specs.Work.{WorksThrough}
use Rattle.hall.proofs.Continued.{continues_same, continues_worked}
use Rattle.hall.proofs.Stays.{lent}
use Rattle.hall.proofs.InRow.{stays_through}
use Rattle.hall.proofs.open_searches.OpenSearch.work.Goals as goal

pub returns-in_default : goal.returns-in_default
returns-in_default c =
    let s = lendable_search c.self.inside.carried in
    let runs = subst (λ (u : SearchState). IsSoundStage u.stage) c.search.ensures c.kept.ensures.sound in
    let before : s ≡ c.args.self.now.search = ap (λ (r : Running). r.search) c.self.view_is in
    record {
      worked = subst (λ (r : SearchState). WorksThrough c.args.order c.args.most (c.args.who.now, c.args.number) r c.args.batch.now 0 _ s c.let_go.new.self) before
          (stays_through c.args.order c.args.most (c.args.who.now, c.args.number) s (lent c.self.inside.carried c.self.invariant c.in_default.not-Own) runs c.args.batch.now c.let_go.new.self
          c.let_go.ensures.empty c.let_go.ensures.room);
      continues = continues_same c.args.self.now _ c.self.view_is;
    }

pub returns-clause-continues : goal.returns-clause-continues
returns-clause-continues c =
    let before : c.in-Own.search ≡ c.args.self.now.search = ap lendable_search (sym c.in-Own.is) ∙ ap (λ (r : Running). r.search) c.self.view_is in
    continues_worked c.args.self.now (record { opened_at = c.self.inside.opened_at; search = c.work.new.search }) c.args.order c.args.most (c.args.who.now, c.args.number) c.args.batch.now
    c.work.result.0 c.work.result.1 c.work.new.batch
    (subst (λ (r : SearchState). WorksThrough c.args.order c.args.most (c.args.who.now, c.args.number) r c.args.batch.now c.work.result.0 c.work.result.1 c.work.new.search c.work.new.batch) before c.work.ensures)
    (ap (λ (r : Running). r.opened_at) c.self.view_is)
