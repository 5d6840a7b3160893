use Rattle.std.proofs.Common.{◌≡◌, ◌-◌, vec_capacity, vec_len, ℕ, ◌++◌, [], ◌∷◌, None, refl, sym, ◌∙◌, arith, ap, subst, length, ◌≤◌, length-append}
use Rattle.scholten_core.specs.Computation.{waiting}
use Rattle.scholten_core.specs.LetterTable.{standing}
use Rattle.scholten_core.proofs.Standing.{length-waiting, popped_hole, standing-none}
use Rattle.scholten_core.proofs.Tables.{cut_ends, holes-popped, numbered-popped, standing-popped, take-popped, waits-popped}
use Rattle.scholten_core.proofs.letter_tables.LetterTable.pop_holes.Given.{Over}
use Rattle.scholten_core.proofs.letter_tables.LetterTable.pop_holes.Goals as goal
use Rattle.scholten_core.proofs.letter_tables.LetterTable.pop_holes.Goals.{After-pop, Then-self-len}

-- the last entry was a hole
popped : (g : Over) (c : After-pop g) → (k : ℕ) × (c.loop-self.self-inside.letters.items ≡ c.pop.new.self.items ++ (k, None) ∷ [])
popped g c =
    popped_hole c.loop-self.self-inside.letters.items c.pop.new.self.items c.pop.result c.pop.ensures.items (λ some. c.pop.ensures.variant.1 (omega (arith, some, c.loop-self.self-inside.letters.ok.0))) (sym c.ends_in_hole.ensures ∙ c.loop-self-test.true)

pub overflow_sub-self : goal.overflow_sub-self
overflow_sub-self g c =
    let hole = popped g (goal.at.overflow_sub-self g c).After-pop in
    omega (arith, c.loop-self.invariant.gone, holes-popped _ _ hole.0 hole.1)

pub loop-self-preserved : goal.loop-self-preserved
loop-self-preserved g c =
    let hole = popped g (goal.at.loop-self-preserved g c).After-pop in
    let before = c.loop-self.invariant in
    record {
      letters = standing-popped _ _ hole.0 hole.1 ∙ before.letters;
      sent = before.sent;
      room = omega (arith, before.room, c.pop.ensures.len, c.pop.ensures.capacity);
      numbers = numbered-popped _ _ hole.0 hole.1 _ before.numbers;
      waiting = before.waiting ∙ waits-popped _ _ hole.0 hole.1;
      gone = omega (arith, before.gone, holes-popped _ _ hole.0 hole.1);
      before = take-popped _ _ hole.0 hole.1 _ ∙ before.before;
      all = take-popped _ _ hole.0 hole.1 _ ∙ before.all;
    }

-- where nothing but holes stands no letter does
none : (g : Over) (c : Then-self-len g) → standing c.self.inside.letters.items ≡ []
none g c = standing-none c.self.inside.letters.items (omega (arith, c.self.invariant.gone, c.len.ensures, c.self.inside.letters.ok, c.if-self-len.true))

pub invariant_of-self : goal.invariant_of-self
invariant_of-self g c =
    let bare = none g (goal.at.invariant_of-self g c).Then-self-len in
    let idle = c.self.invariant.waiting ∙ sym (length-waiting c.self.inside.letters.items) ∙ ap (λ ls. length (waiting ls)) bare in
    rw c.clear.ensures.items (record { numbers = omega arith; waiting = idle; gone = refl; before = refl; all = sym idle; within_first = omega arith; within_last = omega arith })

pub returns-then-self-len : goal.returns-then-self-len
returns-then-self-len g c =
    rw (← c.self.view_is) (record {
      letters = ap standing c.clear.ensures.items ∙ sym (none g (goal.at.returns-then-self-len g c).Then-self-len);
      sent = refl;
      room = omega (arith, c.clear.ensures.len, c.clear.ensures.capacity);
    })

pub loop-self-init : goal.loop-self-init
loop-self-init g c = record {
  letters = ap (λ s. s.letters) c.self.view_is;
  sent = ap (λ s. s.sent) c.self.view_is;
  room = subst (λ n. n ≤ vec_capacity c.self.inside.letters - vec_len c.self.inside.letters) (ap (λ s. s.room) c.self.view_is) (omega arith);
  numbers = c.self.invariant.numbers;
  waiting = c.self.invariant.waiting;
  gone = c.self.invariant.gone;
  before = c.self.invariant.before;
  all = c.self.invariant.all;
}

pub loop-self-smaller : goal.loop-self-smaller
loop-self-smaller g c =
    let hole = popped g (goal.at.loop-self-smaller g c).After-pop in
    omega (arith, ap length hole.1 ∙ length-append c.pop.new.self.items ((hole.0, None) ∷ []))

pub invariant_of-self-2 : goal.invariant_of-self-2
invariant_of-self-2 g c =
    let kept = c.loop-self.invariant in
    rw (c.min-self-inside.ensures, c.min-self-inside-2.ensures, c.len-2.ensures ∙ c.loop-self.self-inside.letters.ok.0, c.len-3.ensures ∙ c.loop-self.self-inside.letters.ok.0) (cut_ends _ _ _ c.loop-self.self-inside.first c.loop-self.self-inside.last c.loop-self.self-inside.letters.items kept.numbers kept.waiting kept.gone kept.before kept.all)

pub returns : goal.returns
returns g c = record { letters = c.loop-self.invariant.letters; sent = c.loop-self.invariant.sent; room = c.loop-self.invariant.room }
