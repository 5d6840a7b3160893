-- A letter says the same where it waits again.
use Rattle.std.proofs.Common.{◌≡◌, ◌∙◌, ap, false, subst, sym, Some}
use Rattle.scholten_core.specs.Computation.{Computation, IsHeld}
use Rattle.search.specs.Net.{Said}
use Rattle.search.proofs.Searching.{same_running, marked_stage_kept, marked_view}
use Rattle.search.specs.declared.stages.Stage.{Stage}
use Rattle.search.specs.declared.stages.Stage.TheVariants as stage
use Rattle.search.specs.Stage.{held_in, letter_in, stage_marked}
use Rattle.search.specs.Search.{SearchState}
use Rattle.search.specs.contracts.searches.Search.{the_view}
use Rattle.search.proofs.Finishing.{held_letter_is}
use Rattle.search.proofs.Answered.{held_outstanding, same_question, settles}
use Rattle.search.proofs.searches.Search.put_back.Goals.{After-put_back}
use Rattle.search.proofs.searches.Search.put_back.Goals as goal

-- the letter waits
waits : (c : After-put_back) → stage.Running c.put_back.new.self ≡ stage_marked c.args.letter false c.self.inside.stage
waits c = ap stage.Running c.put_back.ensures.waits ∙ ap (stage_marked c.args.letter false) (sym c.in-Running.is)

pub invariant_of-self : goal.invariant_of-self
invariant_of-self c =
    marked_stage_kept (the_view c.self.inside) (stage.Running c.put_back.new.self) c.args.letter false c.self.invariant (waits (goal.at.invariant_of-self c).After-put_back)

pub returns-clause-waits : goal.returns-clause-waits
returns-clause-waits c =
    λ _. (
      (letter_in c.in-Some._held, subst (λ (s : SearchState). held_in s.stage c.args.letter ≡ Some (letter_in c.in-Some._held)) c.self.view_is (held_letter_is c.self.inside.stage c.args.letter c.in-Some._held c.in-Some.ensures)),
      marked_view (the_view c.self.inside) c.args.self.now (stage.Running c.put_back.new.self) c.args.letter false c.self.view_is (waits (goal.at.returns-clause-waits c).After-put_back),
    )

pub returns-clause-settles : goal.returns-clause-settles
returns-clause-settles c =
    let s = the_view c.self.inside in
    let now : Stage = stage.Running c.put_back.new.self in
    settles c.self.view_is (same_question s s.graph s.monitors now)
    (marked_stage_kept s now c.args.letter false c.self.invariant (waits (goal.at.returns-clause-settles c).After-put_back))
    (held_outstanding s.stage c.args.letter (letter_in c.in-Some._held) (held_letter_is s.stage c.args.letter c.in-Some._held c.in-Some.ensures))

pub put_back-requires : goal.put_back-requires
put_back-requires c =
    subst (λ (d : Computation Said). IsHeld d.letters c.args.letter) (same_running c.in-Some.ensures.running c.in-Running.running (sym c.in-Some.ensures.runs ∙ c.in-Running.is)) c.in-Some.ensures.held

pub returns-in_default-clause-held : goal.returns-in_default-clause-held
returns-in_default-clause-held c = λ _. rw (← c.self.view_is) c.in_default.ensures
