-- Steps of one search in a row, and what the hall makes of them.
use Rattle.std.proofs.Common.{◌≡◌, ◌∙◌, ◌++◌, ◌∷◌, ℕ, Bool, true, false, List, [], map, ap, sym, subst, subst₂, refl, inl, Option, None, Some, cond, ◌+◌, zero-add}
use Rattle.std.specs.Prelude.{count_by, MatchOption}
use Rattle.std.proofs.lemmas.List.Sums.{sum_by-cons}
use Rattle.search.specs.{declared.queries.Need.Need, Search.SearchState, Search.IsCompleted, Search.IsSoundStage}
use Rattle.search.specs.declared.outcomes.Finished.TheVariants as finished
use Rattle.search.proofs.Driven.{held_none}
use Rattle.hall.specs.declared.calls.steps.{Step.Step, Stepped.Stepped}
use Rattle.hall.specs.declared.calls.steps.Stepped.TheVariants as stepped
use Rattle.hall.specs.Hall.{StepsSearch, StepsEach}
use Rattle.hall.specs.Hall.{HallState, Running, GoesOnAt, IsStepped, search_at, search_of_step, with_search}
use Rattle.hall.specs.Batches.{Named, BatchState, IsEmpty}
use Rattle.hall.specs.declared.orders.Order.{Order}
use Rattle.hall.specs.Work.{Makes, HandsIn, WorksThrough, handing_in, going_on, gives_back, is_done}
use Rattle.hall.proofs.Placed.{found_after, put_back, put_twice}
use Rattle.hall.proofs.Stays.{quiet}
use Rattle.hall.proofs.SearchSteps.{SearchGoesOn, step_goes_on}
use Rattle.hall.proofs.laws.HallSteps.{goes_nowhere, goes_twice}

-- more steps
pub each_more : (s m t : SearchState) (steps more : List Step) (answers told : List Stepped) → StepsEach s m steps answers → StepsEach m t more told →
    StepsEach s t (steps ++ more) (answers ++ told)
each_more s m t [] more [] told is last = subst (λ (x : SearchState). StepsEach x t more told) is last
each_more s m t (first ∷ steps) more (answer ∷ answers) told (u, goes, rest) last = (u, goes, each_more u m t steps more answers told rest last)
each_more s m t [] more (answer ∷ answers) told none last = absurd none
each_more s m t (first ∷ steps) more [] told none last = absurd none

-- a search goes on by them, and runs soundly
pub each_goes_on : (s t : SearchState) (steps : List Step) (answers : List Stepped) → StepsEach s t steps answers → SearchGoesOn s t
each_goes_on s t [] [] is = subst (SearchGoesOn s) (sym is) (goes_nowhere s)
each_goes_on s t (made ∷ steps) (answer ∷ answers) (m, first, rest) =
    goes_twice s m t (step_goes_on s m made answer first) (each_goes_on m t steps answers rest)
each_goes_on s t [] (answer ∷ answers) none = absurd none
each_goes_on s t (made ∷ steps) [] none = absurd none

pub each_sound : (s t : SearchState) (steps : List Step) (answers : List Stepped) → StepsEach s t steps answers → IsSoundStage s.stage → IsSoundStage t.stage
each_sound s t [] [] is sound = subst (λ (x : SearchState). IsSoundStage x.stage) (sym is) sound
each_sound s t (made ∷ steps) (answer ∷ answers) (m, first, rest) sound = each_sound m t steps answers rest first.sound
each_sound s t [] (answer ∷ answers) none sound = absurd none
each_sound s t (made ∷ steps) [] none sound = absurd none

-- a step that is made of the search that is there
pub stepped_there : (h : HallState) (made : Step) (answer : Stepped) (new : HallState) (who : List ℕ) (k : ℕ) (r : Running) (s : SearchState) → (search_of_step made).0 ≡ who →
    (search_of_step made).1 ≡ k → search_at h who k ≡ Some r → StepsSearch r.search made answer s → new ≡ with_search h who k (record r { search = s }) → IsStepped h made answer new
stepped_there h made answer new who k r s whose number at steps is =
    subst (λ (o : Option Running). GoesOnAt h (search_of_step made).0 (search_of_step made).1 o (answer ≡ stepped.Gone) (λ s t. StepsSearch s made answer t) new) (sym (subst₂ (λ (n : List ℕ) (m : ℕ). search_at h n m ≡ Some r) (sym whose) (sym number) at))
    (s, steps, subst₂ (λ (n : List ℕ) (m : ℕ). new ≡ with_search h n m (record r { search = s })) (sym whose) (sym number) is)

-- steps that are all of one search
module _ {X : Type 0} (step : X → Step) (who : List ℕ) (k : ℕ) (whose : (x : X) → (search_of_step (step x)).0 ≡ who) (number : (x : X) → (search_of_step (step x)).1 ≡ k) where
  module _ (h : HallState) (r : Running) (at : search_at h who k ≡ Some r) where
    abbrev running : SearchState → Running
    running s = record r { search = s }

    abbrev hall : SearchState → HallState
    hall s = with_search h who k (running s)

    each_in : (s t : SearchState) (xs : List X) (answers : List Stepped) → StepsEach s t (map step xs) answers → Makes (hall s) (hall t) (map step xs) answers
    each_in s t [] [] is = ap hall is
    each_in s t (x ∷ xs) (answer ∷ answers) (m, first, rest) = (
      hall m,
      (
        answer,
        refl,
        stepped_there (hall s) (step x) answer (hall m) who k (running s) m (whose x) (number x) (found_after h who k r at (running s)) first
            (sym (put_twice h who k r at (running s) (running m))),
      ),
      each_in m t xs answers rest,
    )
    each_in s t [] (answer ∷ answers) none = absurd none
    each_in s t (x ∷ xs) [] none = absurd none

    -- the hall makes them
    pub each_made : (t : SearchState) (xs : List X) (answers : List Stepped) → StepsEach r.search t (map step xs) answers → (new : HallState) → new ≡ hall t →
        Makes h new (map step xs) answers
    each_made t xs answers steps new is =
        subst₂ (λ (g n : HallState). Makes g n (map step xs) answers) (put_back h who k r at) (sym is) (each_in r.search t xs answers steps)

  -- where there is no such search none of them does anything
  pub each_gone : (h : HallState) → search_at h who k ≡ None → (xs : List X) → Makes h h (map step xs) (map (λ x. stepped.Gone) xs)
  each_gone h none [] = refl
  each_gone h none (x ∷ xs) = (
    h,
    (
      stepped.Gone,
      refl,
      subst (λ (o : Option Running). GoesOnAt h (search_of_step (step x)).0 (search_of_step (step x)).1 o (stepped.Gone ≡ stepped.Gone) (λ s t. StepsSearch s (step x) stepped.Gone t) h) (sym (subst₂ (λ (n : List ℕ) (m : ℕ). search_at h n m ≡ None) (sym (whose x)) (sym (number x)) none))
          (refl, refl),
    ),
    each_gone h none xs,
  )

-- letters that are handed in to a completed search change nothing
one_stays : (s : SearchState) → IsCompleted s.stage → IsSoundStage s.stage → (back : Bool) (of : Named) (letter : ℕ × Need) → StepsSearch s (handing_in back of letter) stepped.NotHeld s
one_stays s done sound false of letter = record { is_made = (finished.NotHeld, (held_none s.stage done letter.0, refl), refl); settles = inl refl; sound = sound }
one_stays s done sound true of letter = record { is_made = (false, (held_none s.stage done letter.0, refl), refl); settles = inl refl; sound = sound }

pub each_stays : (s : SearchState) → IsCompleted s.stage → IsSoundStage s.stage → (back : Bool) (of : Named) (letters : List (ℕ × Need)) →
    StepsEach s s (map (handing_in back of) letters) (map (λ l. stepped.NotHeld) letters)
each_stays s done sound back of [] = refl
each_stays s done sound back of (letter ∷ letters) = (s, one_stays s done sound back of letter, each_stays s done sound back of letters)

-- none of which is done
pub none_done : {X : Type 0} (answer : Stepped) → is_done answer ≡ false → (xs : List X) → 0 ≡ count_by is_done (map (λ x. answer) xs)
none_done answer isnt [] = refl
none_done answer isnt (x ∷ xs) =
    none_done answer isnt xs ∙ sym (zero-add (count_by is_done (map (λ x. answer) xs))) ∙ ap (λ (b : Bool). cond b 1 0 + count_by is_done (map (λ x. answer) xs)) (sym isnt)
    ∙ sym (sum_by-cons (λ (a : Stepped). cond (is_done a) 1 0) answer (map (λ x. answer) xs))

-- a completed search takes no letter, and has nothing left to do
pub stays_through : (asked : Order) (most : ℕ) (name : List ℕ × ℕ) (s : SearchState) → IsCompleted s.stage → IsSoundStage s.stage → (had has : BatchState) → IsEmpty has →
    has.room ≡ had.room → WorksThrough asked most name s had 0 None s has
stays_through asked most name s done sound had has none room = record {
  middle = s;
  handed_in = by had.of;
  goes_on = (λ goes. quiet s.stage done, refl, none, room);
}
  where
    by : (o : Option Named) → MatchOption o ((s ≡ s) × (◌≡◌ {A = ℕ} 0 0)) (λ of. HandsIn (StepsEach s s) (gives_back asked) of had.letters 0)
    by None = (refl, refl)
    by (Some of) = record {
      answers = map (λ l. stepped.NotHeld) had.letters;
      steps = each_stays s done sound (gives_back asked) of had.letters;
      count = none_done stepped.NotHeld refl had.letters;
    }

-- whose search it is
pub handed_to : (back : Bool) (of : Named) (letter : ℕ × Need) → (search_of_step (handing_in back of letter)).0 ≡ of.who
handed_to false of letter = refl
handed_to true of letter = refl

pub handed_to_number : (back : Bool) (of : Named) (letter : ℕ × Need) → (search_of_step (handing_in back of letter)).1 ≡ of.number
handed_to_number false of letter = refl
handed_to_number true of letter = refl

pub goes_on_of : (name : List ℕ × ℕ) (move : Option (ℕ × Need)) → (search_of_step (going_on name move)).0 ≡ name.0
goes_on_of name None = refl
goes_on_of name (Some letter) = refl

pub goes_on_number : (name : List ℕ × ℕ) (move : Option (ℕ × Need)) → (search_of_step (going_on name move)).1 ≡ name.1
goes_on_number name None = refl
goes_on_number name (Some letter) = refl
