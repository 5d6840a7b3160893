-- What each step of a drive does, and what a drive leaves.
use Rattle.std.proofs.Common.{ℕ, ◌<◌, ◌≤◌, ◌==◌, ◌≡◌, ◌∙◌, ◌⊎◌, inl, inr, refl, sym, subst, ap, Bool, true, false, List, [], ◌∷◌, Some, None, length, slice_get, arith}
use Rattle.std.proofs.lemmas.Bool.{cases_Bool}
use Rattle.std.proofs.lemmas.Map.Views.{exact_unsigned_eq}
use Rattle.credential_text.specs.declared.exprs.Expr.{Expr}
use Rattle.cred_graph.specs.Graph.{IsNode}
use Rattle.scholten_core.specs.declared.letters.Letter.{Letter}
use Rattle.scholten_core.specs.Computation.{Computation, outstanding}
use Rattle.search.specs.declared.letters.Load.{Load}
use Rattle.search.specs.declared.letters.Held.{Held}
use Rattle.search.specs.declared.queries.Need.{Need}
use Rattle.search.specs.declared.outcomes.Finished.{Finished}
use Rattle.search.specs.declared.stages.Stage.{Stage}
use Rattle.search.specs.Finish.{need_of, right_hint, Needs, Takes, TakesHeld, IsRightly, Received, Receives, Finishes, SignalsFirst, FinishesFirst, IsDriven}
use Rattle.search.specs.Stage.{waiting_in, signals_in, held_in, letter_in, Delivers, IsQuiet, NoneHeld, HoldsAsBefore}
use Rattle.search.specs.Search.{SearchState, SameQuestion, Settles, IsCompleted}
use Rattle.search.proofs.Kept.{one_expr}
use Rattle.search.proofs.Answered.{settles_on}
use Rattle.search.proofs.Finishing.{finishes_rightly, rightly_needed, hand_needs}
use Rattle.search.proofs.Searching.{finished_gone, finished_other, marked_other, signalled_holds, steps_left, marked_left, held_left, finished_left, signalled_left}
use Rattle.std.proofs.lemmas.List.{nil_from_length}
use Rattle.search.specs.Net.{Said}
use Rattle.search.specs.declared.outcomes.Finished.TheVariants as finished
use Rattle.search.specs.declared.stages.Stage.TheVariants as stage

-- the letter that was taken was received, or the search has ended with it
data IsReceipt (held t : SearchState) (number : ℕ) : Type 0 where
  goes_on : (l : Letter (Load ℕ)) → held_in held.stage number ≡ Some l → Received held t number l → SameQuestion held t → IsReceipt held t number
  ends : (l : Letter (Load ℕ)) → held_in held.stage number ≡ Some l → ((c : Computation (Load ℕ)) → t.stage ≡ stage.Running c → ⊥) → steps_left t.work t.stage ≡ 0 → SameQuestion held t → IsReceipt held t number

module _ (s held t : SearchState) (number : ℕ) (need : Need) (takes : Takes s held 0 number need) where
  -- the letter that was taken needs what it was taken for
  pub same_need : (l : Letter (Load ℕ)) (other : Need) → held_in held.stage number ≡ Some l → Needs held l other → other ≡ need
  same_need l other is (f, there, so) =
      let both : Some l ≡ Some (record takes.letter { held = true }) = sym is ∙ takes.holds.held in
      let same : l ≡ record takes.letter { held = true } = cc in
      let e : Expr = takes.needs.0 in
      let at : IsNode s.graph l.to e = subst (λ (x : Letter (Load ℕ)). IsNode s.graph x.to e) (sym same) takes.needs.1 in
      let at' : IsNode s.graph l.to f = subst (λ (x : SearchState). IsNode x.graph l.to f) takes.after there in
      so ∙ ap (λ (x : Expr). need_of x l.load) (one_expr s.graph l.to f e at' at) ∙ ap (λ (x : Letter (Load ℕ)). need_of e x.load) same ∙ sym takes.needs.2

  -- so its finish with what the snapshot says is never refused
  receipt_of : (told : Finished) → Finishes held t number (right_hint s.snapshot.vaults need) told → IsReceipt held t number
  receipt_of finished.Done (l, rightly, (received, same)) = goes_on l rightly.held received same
  receipt_of finished.Spent (l, rightly, (exceeds, is, same)) =
      ends l rightly.held (λ c runs. let clash : stage.Spent ≡ stage.Running c = sym is ∙ runs in cc) (ap (steps_left t.work) is) same
  receipt_of finished.Broken (l, rightly, (is, same)) =
      ends l rightly.held (λ c runs. let clash : stage.Broken ≡ stage.Running c = sym is ∙ runs in cc) (ap (steps_left t.work) is) same
  receipt_of finished.NotHeld (none, same) = let clash = sym none ∙ takes.holds.held in cc
  receipt_of finished.BadHint (l, other, is, needs, wrong, after) =
      absurd (wrong (ap (λ (x : SearchState). right_hint x.snapshot.vaults need) (sym takes.after) ∙ ap (right_hint held.snapshot.vaults) (sym (same_need l other is needs))))

  taken_question : SameQuestion s held
  taken_question = record {
    query = ap (λ (x : SearchState). x.query) takes.after;
    work = ap (λ (x : SearchState). x.work) takes.after;
    snapshot = ap (λ (x : SearchState). x.snapshot) takes.after;
  }

  taken_left : steps_left held.work held.stage ≡ steps_left s.work s.stage
  taken_left = ap (λ (x : SearchState). steps_left x.work x.stage) takes.after ∙ ap (steps_left s.work) takes.holds.marked ∙ marked_left s.work number true s.stage

  receipt_left : IsReceipt held t number → steps_left t.work t.stage < steps_left s.work s.stage
  receipt_left (goes_on l is received same) =
      let is' = subst (λ (x : Stage). held_in x number ≡ Some l) received.ran is in
      let less = finished_left held.work received.before received.after number received.outs l received.finishes is' received.within in
      let after = ap (λ n. steps_left n t.stage) same.work ∙ ap (steps_left held.work) received.runs in
      let before = ap (steps_left held.work) received.ran in
      omega (arith, less, after, before, taken_left)
  receipt_left (ends l is stops none same) = omega (arith, none, held_left held.work number l held.stage is, taken_left)

  receipt_holds : IsReceipt held t number → HoldsAsBefore s.stage t.stage
  receipt_holds (goes_on l is received same) c now n =
      elim (cases_Bool (number == n)) [
        | inl one ↦ subst (λ m. held_in t.stage m ≡ held_in s.stage m) (exact_unsigned_eq number n one)
            (ap (λ (x : Stage). held_in x number) received.runs ∙ finished_gone received.before received.after number received.outs received.finishes ∙ sym takes.holds.free)
        | inr other ↦ ap (λ (x : Stage). held_in x n) received.runs ∙ finished_other received.before received.after number received.outs received.finishes n other
            ∙ ap (λ (x : Stage). held_in x n) (sym received.ran) ∙ ap (λ (x : Stage). held_in x n) takes.holds.marked ∙ marked_other number n true s.stage other
      ]
  receipt_holds (ends l is stops none same) c now n = absurd (stops c now)

  receipt_question : IsReceipt held t number → SameQuestion held t
  receipt_question (goes_on l is received same) = same
  receipt_question (ends l is stops none same) = same

question_on : (s m t : SearchState) → SameQuestion s m → SameQuestion m t → SameQuestion s t
question_on s m t one other = record { query = other.query ∙ one.query; work = other.work ∙ one.work; snapshot = other.snapshot ∙ one.snapshot }

waiting_runs : (st : Stage) (x : ℕ × Letter (Load ℕ)) → slice_get (waiting_in st) 0 ≡ Some x → (c : Computation (Load ℕ)) × (st ≡ stage.Running c)
waiting_runs (stage.Running c) x at = (c, refl)
waiting_runs _ x at = cc

-- a step of a drive
abbrev pub Made : SearchState → SearchState → Type 0
Made s t = SignalsFirst s t ⊎ ((number : ℕ) × (need : Need) × (told : Finished) × FinishesFirst s t number need told)

-- a search that makes a step runs
made_runs : (s t : SearchState) → Made s t → (c : Computation (Load ℕ)) × (s.stage ≡ stage.Running c)
made_runs s t (inl made) = (made.delivered.0, made.delivered.2)
made_runs s t (inr (number, need, told, made)) = waiting_runs s.stage (number, made.takes.letter) made.takes.holds.waited

made_question : (s t : SearchState) → Made s t → SameQuestion s t
made_question s t (inl made) = made.question
made_question s t (inr (number, need, told, made)) =
    question_on s made.held t (taken_question s made.held t number need made.takes)
    (receipt_question s made.held t number need made.takes (receipt_of s made.held t number need made.takes told made.finishes))

made_holds : (s t : SearchState) → Made s t → HoldsAsBefore s.stage t.stage
made_holds s t (inl made) c now n =
    let d = made.delivered in signalled_holds s.stage t.stage d.0 d.1 0 n d.2 d.3 d.5
made_holds s t (inr (number, need, told, made)) c now n =
    receipt_holds s made.held t number need made.takes (receipt_of s made.held t number need made.takes told made.finishes) c now n

-- fewer steps are left after each
pub made_left : (s t : SearchState) → Made s t → steps_left t.work t.stage < steps_left s.work s.stage
made_left s t (inl made) =
    let d = made.delivered in
    let less = signalled_left s.work d.0 d.1 0 d.5 in
    let after = ap (λ n. steps_left n t.stage) made.question.work ∙ ap (steps_left s.work) d.3 in
    let before = ap (steps_left s.work) d.2 in
    omega (arith, less, after, before)
made_left s t (inr (number, need, told, made)) =
    receipt_left s made.held t number need made.takes (receipt_of s made.held t number need made.takes told made.finishes)

made_settles : (s t : SearchState) → Made s t → Settles s t
made_settles s t (inl made) = made.settles
made_settles s t (inr (number, need, told, made)) =
    settles_on s made.held t (taken_question s made.held t number need made.takes) made.takes_settles made.finish_settles

-- one step more
pub driven_more : (s m t : SearchState) → IsDriven s m → Made m t → IsDriven s t
driven_more s m t driven (inl made) = IsDriven.signal driven made
driven_more s m t driven (inr (number, need, told, made)) = IsDriven.letter driven made

holds_more : (s m t : SearchState) → HoldsAsBefore s.stage m.stage → Made m t → HoldsAsBefore s.stage t.stage
holds_more s m t before made c now n =
    let runs = made_runs m t made in made_holds m t made c now n ∙ before runs.0 runs.1 n

-- a drive leaves held letters where they are
pub driven_holds : (s t : SearchState) → IsDriven s t → HoldsAsBefore s.stage t.stage
driven_holds s t IsDriven.rests = λ c now n. refl
driven_holds s t (IsDriven.signal {middle} before made) = holds_more s middle t (driven_holds s middle before) (inl made)
driven_holds s t (IsDriven.letter {middle} {number} {need} {told} before made) =
    holds_more s middle t (driven_holds s middle before) (inr (number, need, told, made))

pub driven_question : (s t : SearchState) → IsDriven s t → SameQuestion s t
driven_question s t IsDriven.rests = record { query = refl; work = refl; snapshot = refl }
driven_question s t (IsDriven.signal {middle} before made) = question_on s middle t (driven_question s middle before) (made_question middle t (inl made))
driven_question s t (IsDriven.letter {middle} {number} {need} {told} before made) =
    question_on s middle t (driven_question s middle before) (made_question middle t (inr (number, need, told, made)))

pub driven_settles : (s t : SearchState) → IsDriven s t → Settles s t
driven_settles s t IsDriven.rests = inl refl
driven_settles s t (IsDriven.signal {middle} before made) =
    settles_on s middle t (driven_question s middle before) (driven_settles s middle before) (made_settles middle t (inl made))
driven_settles s t (IsDriven.letter {middle} {number} {need} {told} before made) =
    settles_on s middle t (driven_question s middle before) (driven_settles s middle before) (made_settles middle t (inr (number, need, told, made)))

pub none_held_on : (old new : Stage) → HoldsAsBefore old new → NoneHeld old → NoneHeld new
none_held_on old (stage.Running c) holds none n = holds c refl n ∙ none n
none_held_on old _ holds none n = refl

-- where there is neither a first signal nor a first letter nothing moves
no_first : {X : Type 0} (xs : List X) → slice_get xs 0 ≡ None → xs ≡ []
no_first [] none = refl
no_first (x ∷ xs) none = cc

no_element : {X : Type 0} (xs : List X) → length xs ≤ 0 → xs ≡ []
no_element [] none = refl
no_element (x ∷ xs) none = absurd (omega arith)

pub nothing_first : (st : Stage) → length (signals_in st) ≤ 0 → slice_get (waiting_in st) 0 ≡ None → IsQuiet st
nothing_first st few none = (no_first (waiting_in st) none, no_element (signals_in st) few)

-- where there is a signal, the first one is delivered
pub first_goes : (old new : Stage) (delivered : Bool) → 0 < length (signals_in old) → Delivers old new 0 delivered → Delivers old new 0 true
first_goes old new true some delivers = delivers
first_goes old new false some delivers = absurd (omega (arith, some, delivers.0))

-- the first letter is taken and received
pub finishes_first : (s held t : SearchState) (number : ℕ) (h : Held (Load ℕ)) (told : Finished) → length (signals_in s.stage) ≤ 0 →
    TakesHeld s held 0 number h → Settles s held → Receives held t number (letter_in h) told → Settles held t → Made s t
finishes_first s held t number h told few takes takes_settles receives finish_settles =
    let need : Need = takes.0 in
    let after = takes.1.after in
    let (e, at, is_need) = hand_needs s held 0 number h takes in
    let node = subst (λ (x : SearchState). IsNode x.graph h.to e) (sym after) at in
    let right = subst (λ (n : Need). IsRightly held number (right_hint held.snapshot.vaults n) (letter_in h)) (sym is_need) (rightly_needed held number h e node takes.2) in
    let finishes = finishes_rightly held t number (right_hint held.snapshot.vaults need) (letter_in h) right told receives in
    inr (
      number,
      need,
      told,
      record {
        held = held;
        no_signal = no_element (signals_in s.stage) few;
        takes = takes.1;
        takes_settles = takes_settles;
        finishes = subst (λ (x : SearchState). Finishes held t number (right_hint x.snapshot.vaults need) told) after finishes;
        finish_settles = finish_settles;
      },
    )

-- a completed search holds no letter, and nothing of it moves: it stays as it is

no_letters : (c : Computation Said) → outstanding c ≡ 0 → c.letters ≡ []
no_letters c done = nil_from_length c.letters (omega (arith, done))

-- no letter waits
pub waits_none : (st : Stage) → IsCompleted st → waiting_in st ≡ []
waits_none (stage.Running c) done = ap (λ ls. waiting_in (stage.Running (record c { letters = ls }))) (no_letters c done)
waits_none _ done = refl

-- no signal is under way
pub signals_none : (st : Stage) → IsCompleted st → signals_in st ≡ []
signals_none (stage.Running c) done = nil_from_length c.signals (omega (arith, done))
signals_none _ done = refl

-- no letter is held
pub held_none : (st : Stage) → IsCompleted st → (number : ℕ) → held_in st number ≡ None
held_none (stage.Running c) done number = ap (λ ls. held_in (stage.Running (record c { letters = ls })) number) (no_letters c done)
held_none _ done number = refl
