-- Letters of a batch: which they are, how they are looked up, and how they are taken and handed in one after another.
use Rattle.std.proofs.Common.{subst₂, ◌≡◌, ◌∙◌, ◌+◌, ◌++◌, ◌∷◌, ◌<◌, ◌≤◌, ◌⊎◌, ℕ, Bool, true, false, List, [], length, map, get_or, ap, sym, subst, refl, inl, inr, not, zero-add, arith, None, Some, Option, option_map, if◌then◌else◌, length-append, cond}
use Rattle.std.specs.Prelude.{slice_get, slice_set, count_by, IsTrue, MatchBool, ◌↔◌}
use Rattle.std.specs.List.{filter_map}
use Rattle.std.proofs.Math.Seq.{map-set_same}
use Rattle.std.proofs.lemmas.Bool.{cases_eq}
use Rattle.std.proofs.lemmas.List.{map-append, length-set, get_or-set_same, get_or-set_other}
use Rattle.std.proofs.lemmas.List.Elements.{filter_map-append}
use Rattle.std.proofs.lemmas.List.Sums.{sum_by-append}
use Rattle.std.proofs.lemmas.Option.{slice_get-map}
use Rattle.std.specs.Arc.{arc_value}
use Rattle.scholten_core.specs.declared.letters.Letter.{Letter}
use Rattle.search.specs.declared.{queries.Hint.Hint, queries.Need.Need, stages.Stage.Stage}
use Rattle.search.specs.{Finish.right_hint, Net.Said, Search.SearchState, Search.IsSoundStage, Stage.held_in, Stage.stage_marked, Stage.Delivers}
use Rattle.hall.specs.declared.batches.{HeldLetter.HeldLetter, NamedSearch.NamedSearch}
use Rattle.hall.specs.declared.calls.steps.{Step.Step, Stepped.Stepped}
use Rattle.hall.specs.declared.calls.steps.Stepped.TheVariants as stepped
use Rattle.search.specs.declared.outcomes.Finished.{Finished}
use Rattle.search.specs.declared.outcomes.Finished.TheVariants as finished
use Rattle.hall.specs.Hall.{StepsSearch, StepsEach, finish_answer}
use Rattle.hall.specs.Batches.{Named, BatchState, batch_of, IsBatch, IsLookedUpIn, named, letter_of}
use Rattle.hall.specs.Work.{HandsIn, GoesOn, handing_in, going_on, went_on, is_done}
use Rattle.hall.proofs.InRow.{each_more}

-- what a batch of these fields is
abbrev pub batch : Option NamedSearch → List HeldLetter → ℕ → ℕ → BatchState
batch of es looked room = record { of = option_map named of; letters = map letter_of es; looked = looked; room = room }

-- a batch of letters that were just taken
pub filled : (o : Option NamedSearch) (of : Named) (es : List HeldLetter) (has room : ℕ) → option_map named o ≡ Some of → (es ≡ [] → ⊥) → has ≡ room →
    batch o es 0 has ≡ batch_of of (map letter_of es) room
filled o of [] has room is some same = absurd (some refl)
filled o of (e ∷ es) has room is some same = λ i. record { of = is i; letters = map letter_of (e ∷ es); looked = 0; room = same i }

pub filled_none : (of : Named) (es : List HeldLetter) (has room : ℕ) → es ≡ [] → has ≡ room → batch None es 0 has ≡ batch_of of (map letter_of es) room
filled_none of [] has room none same = λ i. record { of = None; letters = []; looked = 0; room = same i }
filled_none of (e ∷ es) has room none same = cc

-- the letter that is looked up next
pub next_letter : (of : Option NamedSearch) (es : List HeldLetter) (looked room : ℕ) (e : HeldLetter) → slice_get es looked ≡ Some e →
    (need : Need) × (slice_get (map letter_of es) looked ≡ Some (e.letter, need))
next_letter of es looked room e at = (e.need, slice_get-map letter_of es looked ∙ ap (option_map letter_of) at)

-- where a letter is left to look up a search is named
pub names_one : (o : Option NamedSearch) (es : List HeldLetter) (looked : ℕ) → IsBatch o es looked → looked < length es → o ≡ None → ⊥
names_one None es looked is within none = omega (arith, within, ap length is.0)
names_one (Some of) es looked is within none = cc

module _ (of : NamedSearch) (es : List HeldLetter) (looked room : ℕ) (e : HeldLetter) (hint : Hint) (at : e ≡ get_or es looked e) (within : looked < length es) where
  abbrev pub with_hint : List HeldLetter
  with_hint = slice_set es looked (record e { hint = hint })

  -- what is looked up for a letter changes none
  pub looked_up_batch : batch (Some of) with_hint (looked + 1) room ≡ record (batch (Some of) es looked room) { looked = looked + 1 }
  looked_up_batch =
      ap (λ (ls : List (ℕ × Need)). record (batch (Some of) es looked room) { letters = ls; looked = looked + 1 })
      (map-set_same letter_of es looked (record e { hint = hint }) e (ap letter_of at))

  -- the letter has its right hint then, as those before it
  pub looked_up_more : hint ≡ right_hint (arc_value of.snapshot).vaults e.need → IsBatch (Some of) es looked → IsBatch (Some of) with_hint (looked + 1)
  looked_up_more right is = (
    λ none. omega (arith, within, length-set es looked (record e { hint = hint }), ap length none),
    omega (arith, length-set es looked (record e { hint = hint }), within),
    λ k d first below. elim (cases_eq k looked) [
      | inl same ↦ subst (IsLookedUpIn of) (sym (ap (λ j. get_or with_hint j d) same ∙ get_or-set_same es looked (record e { hint = hint }) d within)) right
      | inr other ↦ subst (IsLookedUpIn of) (sym (get_or-set_other es looked k (record e { hint = hint }) d other)) (is.2 k d first (omega (arith, below, other)))
    ],
  )

-- by what the search answered
pub puts_back : (s t : SearchState) (number : ℕ) (back : Bool) → (back ≡ false → held_in s.stage number ≡ None) → (back ≡ false → t ≡ s) →
    (back ≡ true → ((l : Letter Said) × (held_in s.stage number ≡ Some l)) × (t ≡ record s { stage = stage_marked number false s.stage })) →
    MatchBool back (((l : Letter Said) × (held_in s.stage number ≡ Some l)) × (t ≡ record s { stage = stage_marked number false s.stage }))
    ((held_in s.stage number ≡ None) × (t ≡ s))
puts_back s t number false held same waits = (held refl, same refl)
puts_back s t number true held same waits = waits refl

-- a search that delivered a signal runs soundly
pub delivered_sound : (old new : Stage) → Delivers old new 0 true → IsSoundStage new
delivered_sound old new (c, d, ran, runs, there, delivers) = subst IsSoundStage (sym runs) delivers.sound

-- nothing was done yet
pub none_made : (s : SearchState) (name : List ℕ × ℕ) → GoesOn (StepsEach s s) name 0 ⊥ []
none_made s name = record { moves = []; steps = refl; taken = refl; within = omega arith; whole = inl refl }

pub none_handed_in : (s : SearchState) (back : Bool) (of : Named) → HandsIn (StepsEach s s) back of [] 0
none_handed_in s back of = record { answers = []; steps = refl; count = refl }

exactly : (n m : ℕ) → (n ≡ m) ⊎ ⊥ → n ≡ m
exactly n m (inl is) = is
exactly n m (inr none) = absurd none

-- a step that goes on with the search, and none
pub one_made : (s t : SearchState) (name : List ℕ × ℕ) (move : Option (ℕ × Need)) → StepsSearch s (going_on name move) (went_on move) t →
    GoesOn (StepsEach s t) name 1 ⊥ (filter_map (λ o. o) (move ∷ []))
one_made s t name move steps = record { moves = move ∷ []; steps = (t, steps, refl); taken = refl; within = omega arith; whole = inl refl }

-- more steps
pub more_made : (s m t : SearchState) (name : List ℕ × ℕ) (n k : ℕ) (held letters : List (ℕ × Need)) → GoesOn (StepsEach s m) name n ⊥ held →
    GoesOn (StepsEach m t) name k ⊥ letters → GoesOn (StepsEach s t) name (n + k) ⊥ (held ++ letters)
more_made s m t name n k held letters first later =
    let long = length-append first.moves later.moves in
    let one = exactly (length first.moves) n first.whole in
    let two = exactly (length later.moves) k later.whole in
    record {
      moves = first.moves ++ later.moves;
      steps = subst₂ (StepsEach s t) (sym (map-append (going_on name) first.moves later.moves)) (sym (map-append went_on first.moves later.moves))
          (each_more s m t (map (going_on name) first.moves) (map (going_on name) later.moves) (map went_on first.moves) (map went_on later.moves) first.steps later.steps);
      taken = ap (λ ls. ls ++ letters) first.taken ∙ ap (λ ls. filter_map (λ o. o) first.moves ++ ls) later.taken ∙ sym (filter_map-append (λ o. o) first.moves later.moves);
      within = omega (arith, one, two, long);
      whole = inl (omega (arith, one, two, long));
    }

-- whether anything is left is told
pub left_or_not : (quiet : Bool) (Q : Type 0) → IsTrue quiet ↔ Q → MatchBool (not quiet) (Q → ⊥) Q
left_or_not true Q is = is.0 refl
left_or_not false Q is = λ q. cc (is.1 q)

-- the steps were as many as were asked for, or nothing is left
pub all_made : (s t : SearchState) (name : List ℕ × ℕ) (n most : ℕ) (left : Type 0) (letters : List (ℕ × Need)) → GoesOn (StepsEach s t) name n ⊥ letters →
    n ≤ most → (n ≡ most) ⊎ left → GoesOn (StepsEach s t) name most left letters
all_made s t name n most left letters made within whole = record {
  moves = made.moves;
  steps = made.steps;
  taken = made.taken;
  within = omega (arith, made.within, within);
  whole = by whole;
}
  where
    by : (n ≡ most) ⊎ left → (length made.moves ≡ most) ⊎ left
    by (inl all) = inl (exactly (length made.moves) n made.whole ∙ all)
    by (inr none) = inr none

-- one letter, and more of them
pub one_handed_in : (s t : SearchState) (back : Bool) (of : Named) (l : ℕ × Need) (answer : Stepped) (done : Bool) → StepsSearch s (handing_in back of l) answer t →
    done ≡ is_done answer → HandsIn (StepsEach s t) back of (l ∷ []) (if done then 1 else 0)
one_handed_in s t back of l answer done steps is = record {
  answers = answer ∷ [];
  steps = (t, steps, refl);
  count = ap (λ (b : Bool). if b then 1 else 0) is ∙ sym (zero-add (cond (is_done answer) 1 0));
}

pub more_handed_in : (s m t : SearchState) (back : Bool) (of : Named) (letters more : List (ℕ × Need)) (n k : ℕ) → HandsIn (StepsEach s m) back of letters n →
    HandsIn (StepsEach m t) back of more k → HandsIn (StepsEach s t) back of (letters ++ more) (n + k)
more_handed_in s m t back of letters more n k first later = record {
  answers = first.answers ++ later.answers;
  steps = subst (λ (steps : List Step). StepsEach s t steps (first.answers ++ later.answers)) (sym (map-append (handing_in back of) letters more))
      (each_more s m t (map (handing_in back of) letters) (map (handing_in back of) more) first.answers later.answers first.steps later.steps);
  count = ap (λ j. j + k) first.count ∙ ap (λ j. count_by is_done first.answers + j) later.count
      ∙ sym (sum_by-append (λ (y : Stepped). cond (is_done y) 1 0) first.answers later.answers);
}

isnt : (done : Bool) → (IsTrue done → ⊥) → done ≡ false
isnt true never = absurd (never refl)
isnt false never = refl

-- what is given back isn't done, and a letter is where its search says so
pub given_back : (back : Bool) → false ≡ is_done (if back then stepped.Back else stepped.NotHeld)
given_back true = refl
given_back false = refl

pub done_by : (told : Finished) (done : Bool) → IsTrue done ↔ (told ≡ finished.Done) → done ≡ is_done (finish_answer told)
done_by finished.Done done is = is.1 refl
done_by finished.BadHint done is = isnt done (λ yes. cc (is.0 yes))
done_by finished.Spent done is = isnt done (λ yes. cc (is.0 yes))
done_by finished.Broken done is = isnt done (λ yes. cc (is.0 yes))
done_by finished.NotHeld done is = isnt done (λ yes. cc (is.0 yes))
