-- The computation that runs counts what is outstanding.
use Rattle.std.proofs.Common.{◌≡◌, ◌∙◌, ◌↔◌, IsTrue, ap, inl, inr, not, refl, subst, sym}
use Rattle.std.proofs.lemmas.Bool.{cases_Bool, false≢true}
use Rattle.scholten_core.specs.Computation.{Computation}
use Rattle.search.specs.declared.stages.Stage.{Stage}
use Rattle.search.specs.declared.stages.Stage.TheVariants as stage
use Rattle.search.specs.Net.{Said}
use Rattle.search.specs.Search.{IsOutstanding}
use Rattle.search.proofs.Answered.{is_outstanding}
use Rattle.search.proofs.searches.Search.is_outstanding.Goals as goal

pub returns : goal.returns
returns c =
    let complete = c.is_complete.ensures.complete in
    let tells = is_outstanding c.self.view_is (subst (λ (s : Stage). IsTrue (not c.is_complete.result) ↔ IsOutstanding s) (sym c.in-Running.is) (
      λ yes none. false≢true (sym (ap not (complete.1 none)) ∙ yes),
      λ busy. elim (cases_Bool c.is_complete.result) [ inl done ↦ absurd (busy (complete.0 done)) | inr isn't ↦ ap not isn't ],
    )) in
    record { outstanding = tells.0; unsettled = tells.1 }

-- what doesn't run has nothing outstanding
not_running : (s : Stage) → ((d : Computation Said) → s ≡ stage.Running d → ⊥) → IsOutstanding s → ⊥
not_running (stage.Running d) never busy = never d refl
not_running stage.Spent never busy = busy
not_running stage.Broken never busy = busy

pub returns-in_default : goal.returns-in_default
returns-in_default c =
    let tells = is_outstanding c.self.view_is (
      λ yes. absurd (false≢true yes),
      λ busy. absurd (not_running c.self.inside.stage c.in_default.not-Running busy),
    ) in
    record { outstanding = tells.0; unsettled = tells.1 }
