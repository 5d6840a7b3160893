use Rattle.std.proofs.Common.{◌≡◌, ◌∙◌, ap, sym, refl, subst, subst₂, inl}
use Rattle.hall.specs.Kept.{lendable_search}
use Rattle.search.specs.Search.{SearchState, Settles, IsSoundStage}
use Rattle.hall.specs.declared.calls.steps.Stepped.{Stepped}
use Rattle.hall.specs.Hall.{Running}
use Rattle.hall.specs.Hall.{IsMade, StepsSearch}
use Rattle.hall.proofs.Stays.{lent}
use Rattle.hall.proofs.Continued.{continues_stepped}
use Rattle.hall.proofs.open_searches.OpenSearch.step.Goals as goal
use Rattle.hall.proofs.open_searches.OpenSearch.step.Goals.{in-Own, in_default}

pub returns-clause-stepped : goal.returns-clause-stepped
returns-clause-stepped c =
    let made = c.args.step.now in
    let s = lendable_search c.match-self.self-inside.carried in
    let runs = subst (λ (u : SearchState). IsSoundStage u.stage) c.search.ensures c.kept.ensures.sound in
    let before : lendable_search c.self.inside.carried ≡ c.args.self.now.search = ap (λ (r : Running). r.search) c.self.view_is in
    elim c.match-self.branch [
      | in-Own w ↦
          let from : w.in-Own.search ≡ c.args.self.now.search = ap lendable_search (sym w.in-Own.is) ∙ before in
          let to : w.make-stepped.new.search ≡ s = ap (λ o. lendable_search o.carried) (sym w.self-inside-is) in
          subst (λ (a : Stepped). StepsSearch c.args.self.now.search made a s) (sym w.stepped-is) record {
            is_made = subst₂ (λ (r u : SearchState). IsMade r made w.make-stepped.result u) from to w.make-stepped.ensures.made;
            settles = subst₂ Settles from to w.make-stepped.ensures.settles;
            sound = runs;
          }
      | in_default w ↦
          let same : s ≡ lendable_search c.self.inside.carried = ap (λ o. lendable_search o.carried) w.self-inside-is in
          subst (λ (a : Stepped). StepsSearch c.args.self.now.search made a s) (sym w.stepped-is)
          (subst₂ (λ (r u : SearchState). StepsSearch r made w.unmoved-stepped.result u) before (sym same) record {
            is_made = w.unmoved-stepped.ensures (lendable_search c.self.inside.carried) (lent c.self.inside.carried c.self.invariant w.in_default.not-Own);
            settles = inl refl;
            sound = subst (λ (u : SearchState). IsSoundStage u.stage) same runs;
          })
    ]

pub returns-clause-continues : goal.returns-clause-continues
returns-clause-continues c =
    continues_stepped c.args.self.now (record { opened_at = c.match-self.self-inside.opened_at; search = lendable_search c.match-self.self-inside.carried }) _ _ (returns-clause-stepped c)
    (elim c.match-self.branch [
      | in-Own w ↦ ap (λ o. o.opened_at) w.self-inside-is ∙ ap (λ (r : Running). r.opened_at) c.self.view_is
      | in_default w ↦ ap (λ o. o.opened_at) w.self-inside-is ∙ ap (λ (r : Running). r.opened_at) c.self.view_is
    ])
