use Rattle.std.proofs.Common.{◌≡◌, ◌∙◌, ap, sym, subst, subst₂}
use Rattle.hall.specs.Kept.{lendable_search}
use Rattle.search.specs.Search.{SearchState, IsSoundStage}
use Rattle.hall.specs.Answers.{answer_of}
use Rattle.hall.specs.Hall.{Running, IsCarriedOn}
use Rattle.hall.proofs.Telling.{works}
use Rattle.hall.proofs.Stays.{lent, stays_driven}
use Rattle.hall.proofs.Continued.{continues_driven}
use Rattle.hall.proofs.open_searches.OpenSearch.drive.Goals as goal
use Rattle.hall.proofs.open_searches.OpenSearch.drive.Goals.{in-Own, in_default}

pub returns-clause-driven : goal.returns-clause-driven
returns-clause-driven c =
    let s = lendable_search c.match-self.self-inside.carried in
    let runs = subst (λ (u : SearchState). IsSoundStage u.stage) c.search-search.ensures c.kept.ensures.sound in
    let before : lendable_search c.self.inside.carried ≡ c.args.self.now.search = ap (λ (r : Running). r.search) c.self.view_is in
    elim c.match-self.branch [
      | in-Own w ↦
          let from : w.in-Own.search ≡ c.args.self.now.search = ap lendable_search (sym w.in-Own.is) ∙ before in
          let to : w.drive.new.self ≡ s = ap (λ o. lendable_search o.carried) (sym w.self-inside-is) in
          subst₂ IsCarriedOn from to (record {
            driven = w.drive.ensures.driven;
            quiet = w.drive.ensures.quiet;
            sound = subst (λ (u : SearchState). IsSoundStage u.stage) (sym to) runs;
            settled = λ held. (w.drive.ensures.none_held held, λ nothing. w.drive.ensures.settled held (works w.drive.new.self (sym (ap answer_of nothing))));
          })
      | in_default w ↦
          let to : s ≡ lendable_search c.self.inside.carried = ap (λ o. lendable_search o.carried) w.self-inside-is in
          subst₂ IsCarriedOn before (sym to)
          (stays_driven (lendable_search c.self.inside.carried) (lent c.self.inside.carried c.self.invariant w.in_default.not-Own)
          (subst (λ (u : SearchState). IsSoundStage u.stage) to runs))
    ]

pub returns-clause-continues : goal.returns-clause-continues
returns-clause-continues c =
    continues_driven c.args.self.now (record { opened_at = c.match-self.self-inside.opened_at; search = lendable_search c.match-self.self-inside.carried }) (returns-clause-driven c)
    (elim c.match-self.branch [
      | in-Own w ↦ ap (λ o. o.opened_at) w.self-inside-is ∙ ap (λ (r : Running). r.opened_at) c.self.view_is
      | in_default w ↦ ap (λ o. o.opened_at) w.self-inside-is ∙ ap (λ (r : Running). r.opened_at) c.self.view_is
    ])
