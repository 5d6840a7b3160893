use Rattle.std.proofs.Common.{rules, arith, ◌≡◌, ◌∙◌, ◌+◌, ℕ, List, Bool, true, false, map, sym, subst, subst₂, ap, inl, inr, if◌then◌else◌}
use Rattle.std.proofs.lemmas.Grind.{common_steps}
use Rattle.search.specs.{declared.queries.Need.Need}
use Rattle.hall.specs.Hall.{StepsEach}
use Rattle.hall.specs.Batches.{letter_of}
use Rattle.hall.specs.Work.{GoesOn}
use Rattle.hall.proofs.Batched.{none_made, more_made, all_made}
use Rattle.hall.proofs.working.take_each.Goals as goal
use Rattle.hall.proofs.working.take_each.Goals.{After-make_step}

pub loop-step-init : goal.loop-step-init
loop-step-init c = record {
  goes_on = λ name. subst (GoesOn (StepsEach c.args.search.now c.args.search.now) name 0 ⊥) (sym (ap (map letter_of) c.requires.empty)) (none_made c.args.search.now name);
  bound = grind (arith, common_steps, c.requires.empty);
  capacity = search rules;
}

-- it goes on by the step that was made, if there was one
further : (c : After-make_step) (went : Bool) → c.make_step.result ≡ went → (name : List ℕ × ℕ) →
    GoesOn (StepsEach c.args.search.now c.make_step.new.search) name (c.loop-step._step + (if went then 1 else 0)) ⊥ (map letter_of c.make_step.new.held_letters.items)
further c went is name =
    let (letters, more, made) = c.make_step.ensures.made in
    subst₂ (λ (b : Bool) (ls : List (ℕ × Need)). GoesOn (StepsEach c.args.search.now c.make_step.new.search) name (c.loop-step._step + (if b then 1 else 0)) ⊥ ls) is (sym more)
    (more_made c.args.search.now c.loop-step.search c.make_step.new.search name c.loop-step._step _ (map letter_of c.loop-step.held_letters.items) letters (c.loop-step.invariant.goes_on name) (made name))

pub loop-step-preserved : goal.loop-step-preserved
loop-step-preserved c =
    let went : c.make_step.result ≡ true = search rules in
    record {
      goes_on = λ name. further (goal.at.loop-step-preserved c).After-make_step true went name;
      bound = omega (arith, c.make_step.ensures.bound, c.loop-step.invariant.bound);
      capacity = c.make_step.ensures.capacity ∙ c.loop-step.invariant.capacity;
    }

pub returns-after-loop-step-clause-goes_on : goal.returns-after-loop-step-clause-goes_on
returns-after-loop-step-clause-goes_on c = λ name.
    all_made c.args.search.now c.loop-step.search name c.loop-step._step c.args.most _ _ (c.loop-step.invariant.goes_on name) c.loop-step.auto._step-end (inl (omega (arith, c.loop-step.auto._step-end, c.loop-step-test.false)))

pub returns-then-not-make_step-clause-goes_on : goal.returns-then-not-make_step-clause-goes_on
returns-then-not-make_step-clause-goes_on c = λ name.
    let went : c.make_step.result ≡ false = search rules in
    all_made c.args.search.now c.make_step.new.search name _ c.args.most _ _ (further (goal.at.returns-then-not-make_step-clause-goes_on c).After-make_step false went name)
    (omega (arith, c.loop-step.auto._step-end)) (inr (c.make_step.ensures.quiet went))
