-- What is done to one search in a visit is done to the hall.
use Rattle.std.proofs.Common.{◌≡◌, ◌∙◌, ◌⊎◌, ℕ, List, length, map, ap, sym, subst, subst₂, refl, inl, inr, Option, Some, None, Bool, true, false, option_map}
use Rattle.std.proofs.lemmas.Option.{same_Some}
use Rattle.std.specs.Prelude.{MatchOption, MatchBool, IsSomeAnd}
use Rattle.search.specs.{Search.SearchState, Stage.IsQuiet}
use Rattle.hall.specs.declared.{orders.Order.Order, orders.Next.Next}
use Rattle.hall.specs.declared.orders.Order.TheVariants.{GoOn}
use Rattle.hall.specs.declared.orders.Next.TheVariants.{Worked, Idle, NoMemory, Unasked}
use Rattle.hall.specs.declared.calls.steps.Stepped.TheVariants.{Gone}
use Rattle.hall.specs.Hall.{StepsEach}
use Rattle.hall.specs.Hall.{HallState, Running, GoesOnAt, search_at, with_search}
use Rattle.hall.specs.Batches.{Named, BatchState, IsEmpty, name_of}
use Rattle.hall.specs.Work.{HandsIn, HandsInBatch, Makes, GoesOnAs, WorksOn, WentAs, WorksThrough, IsNextSearch, IsVisit, AsksForSteps, SearchIsQuiet, gives_back, handing_in, going_on}
use Rattle.hall.proofs.Placed.{found_after, put_back, put_twice}
use Rattle.hall.proofs.Carrying.{none_quiet, quiet_in}
use Rattle.hall.proofs.InRow.{each_made, each_gone, none_done, handed_to, handed_to_number, goes_on_of, goes_on_number}

-- the letters of the batch, if it has any, are of the search of that name
abbrev AreOf : List ℕ × ℕ → Option Named → Type 0
AreOf name o = MatchOption o (Unit {0}) (λ of. name_of of ≡ name)

are_of : (name : List ℕ × ℕ) (o : Option Named) → option_map name_of o ≡ Some name → AreOf name o
are_of name None is = tt
are_of name (Some of) is = same_Some (name_of of) name is

-- what becomes of the hall: the letters are handed in, and the search of that name goes on so, or doesn't, where that wasn't asked or nothing of it is left
record WorksOnOne (asked : Order) (most : ℕ) (old : HallState) (name : List ℕ × ℕ) (had : BatchState) (finished : ℕ) (next : Option Next) (new : HallState)
    (has : BatchState) : Type 0 where
  middle : HallState
  handed_in : HandsInBatch Makes (gives_back asked) old had finished middle
  goes_on : MatchOption next ((asked ≡ GoOn → SearchIsQuiet middle name.0 name.1) × (new ≡ middle) × IsEmpty has × (has.room ≡ had.room))
      (λ next. (asked ≡ GoOn) × GoesOnAs asked most had.room middle had.of next new has)

module _ (asked : Order) (most : ℕ) (old : HallState) (who : List ℕ) (k : ℕ) (had : BatchState) (are : AreOf (who, k) had.of) where
  -- there is no such search
  gone_one : search_at old who k ≡ None → (new : HallState) → new ≡ old → (has : BatchState) → IsEmpty has → has.room ≡ had.room →
      WorksOnOne asked most old (who, k) had 0 None new has
  gone_one none new same has empty room = record {
    middle = old;
    handed_in = by had.of are;
    goes_on = (λ goes. none_quiet old who k none, same, empty, room);
  }
    where
      by : (o : Option Named) → AreOf (who, k) o → MatchOption o ((old ≡ old) × (◌≡◌ {A = ℕ} 0 0)) (λ of. HandsIn (Makes old old) (gives_back asked) of had.letters 0)
      by None is = (refl, refl)
      by (Some of) is = record {
        answers = map (λ l. Gone) had.letters;
        steps = each_gone (handing_in (gives_back asked) of) who k (λ l. handed_to (gives_back asked) of l ∙ ap (λ n. n.0) is) (λ l. handed_to_number (gives_back asked) of l ∙ ap (λ n. n.1) is) old none had.letters;
        count = none_done Gone refl had.letters;
      }

  module _ (r : Running) (at : search_at old who k ≡ Some r) (s : SearchState) (new : HallState) (is : new ≡ with_search old who k (record r { search = s }))
      (finished : ℕ) (next : Option Next) (has : BatchState) (works : WorksThrough asked most (who, k) r.search had finished next s has) where
    -- between the two
    abbrev halfway : Running
    halfway = record r { search = works.middle }

    abbrev middle : HallState
    middle = with_search old who k halfway

    found_middle : search_at middle who k ≡ Some halfway
    found_middle = found_after old who k r at halfway

    found_new : search_at new who k ≡ Some (record r { search = s })
    found_new = ap (λ (h : HallState). search_at h who k) is ∙ found_after old who k r at (record r { search = s })

    from_middle : new ≡ with_search middle who k (record halfway { search = s })
    from_middle = is ∙ sym (put_twice old who k r at halfway (record r { search = s }))

    left_so : s ≡ works.middle → new ≡ middle
    left_so same = is ∙ (λ i. with_search old who k (record r { search = same i }))

    handed_in : (o : Option Named) → AreOf (who, k) o →
        MatchOption o ((works.middle ≡ r.search) × (finished ≡ 0)) (λ of. HandsIn (StepsEach r.search works.middle) (gives_back asked) of had.letters finished) →
        MatchOption o ((middle ≡ old) × (finished ≡ 0)) (λ of. HandsIn (Makes old middle) (gives_back asked) of had.letters finished)
    handed_in None is (same, none) = ((λ i. with_search old who k (record r { search = same i })) ∙ put_back old who k r at, none)
    handed_in (Some of) is hands = record {
      answers = hands.answers;
      steps = each_made (handing_in (gives_back asked) of) who k (λ l. handed_to (gives_back asked) of l ∙ ap (λ n. n.0) is) (λ l. handed_to_number (gives_back asked) of l ∙ ap (λ n. n.1) is)
          old r at works.middle had.letters hands.answers hands.steps middle refl;
      count = hands.count;
    }

    abbrev this : Named
    this = record { who = who; number = k; snapshot = works.middle.snapshot }

    is_next : (IsQuiet works.middle.stage → ⊥) → IsNextSearch asked middle had.of this
    is_next moves = (
      λ quiet. moves (quiet halfway found_middle),
      subst (λ (o : Option Running). IsSomeAnd o (λ x. x.search.snapshot ≡ works.middle.snapshot)) (sym found_middle) refl,
      λ goes. by had.of are,
    )
      where
        by : (o : Option Named) → AreOf (who, k) o → MatchOption o (Unit {0}) (λ n. (name_of this ≡ name_of n) ⊎ SearchIsQuiet middle n.who n.number)
        by None is = tt
        by (Some of) is = inl (sym is)

    quiet_there : IsQuiet s.stage → SearchIsQuiet new who k
    quiet_there quiet = quiet_in new who k (record r { search = s }) found_new quiet

    -- steps of the search are steps of the hall
    works_on : (left : Bool) → WorksOn (StepsEach works.middle s) (IsQuiet s.stage) most had.room this left has →
        WorksOn (Makes middle new) (SearchIsQuiet new who k) most had.room this left has
    works_on left made = record {
      letters = made.letters;
      goes_on = record {
        moves = made.goes_on.moves;
        steps = each_made (going_on (who, k)) who k (goes_on_of (who, k)) (goes_on_number (who, k)) middle halfway found_middle s made.goes_on.moves _ made.goes_on.steps new from_middle;
        taken = made.goes_on.taken;
        within = made.goes_on.within;
        whole = by made.goes_on.whole;
      };
      batch = made.batch;
      more = more left made.more;
    }
      where
        by : (length made.goes_on.moves ≡ most) ⊎ IsQuiet s.stage → (length made.goes_on.moves ≡ most) ⊎ SearchIsQuiet new who k
        by (inl all) = inl all
        by (inr quiet) = inr (quiet_there quiet)

        more : (left : Bool) → MatchBool left (IsQuiet s.stage → ⊥) (IsQuiet s.stage) → MatchBool left (SearchIsQuiet new who k → ⊥) (SearchIsQuiet new who k)
        more true busy = λ quiet. busy (quiet (record r { search = s }) found_new)
        more false quiet = quiet_there quiet

    goes_on : (next : Option Next) → WentAs asked most had.room (who, k) works.middle next s has →
        MatchOption next ((asked ≡ GoOn → SearchIsQuiet middle who k) × (new ≡ middle) × IsEmpty has × (has.room ≡ had.room))
        (λ next. (asked ≡ GoOn) × GoesOnAs asked most had.room middle had.of next new has)
    goes_on None (quiet, same, empty, room) = (λ goes. quiet_in middle who k halfway found_middle (quiet goes), left_so same, empty, room)
    goes_on (Some (Worked left)) (goes, moves, made) = (goes, (inl goes, (this, is_next moves, works_on left made)))
    goes_on (Some NoMemory) (goes, moves, same, empty, room) = (goes, (inl goes, (this, is_next moves), left_so same, empty, room))
    goes_on (Some Idle) never = absurd never
    goes_on (Some Unasked) never = absurd never

    -- there is one
    there_one : WorksOnOne asked most old (who, k) had finished next new has
    there_one = record { middle = middle; handed_in = handed_in had.of are works.handed_in; goes_on = goes_on next works.goes_on }

  -- whether there is one or not
  works_one : (told : ℕ × Option Next) (new : HallState) (has : BatchState) →
      GoesOnAt old who k (search_at old who k) ((told ≡ (0, None)) × IsEmpty has × (has.room ≡ had.room)) (λ s t. WorksThrough asked most (who, k) s had told.0 told.1 t has) new →
      WorksOnOne asked most old (who, k) had told.0 told.1 new has
  works_one told new has = by (search_at old who k) refl
    where
      by : (o : Option Running) → search_at old who k ≡ o →
          GoesOnAt old who k o ((told ≡ (0, None)) × IsEmpty has × (has.room ≡ had.room)) (λ s t. WorksThrough asked most (who, k) s had told.0 told.1 t has) new →
          WorksOnOne asked most old (who, k) had told.0 told.1 new has
      by None none ((is, empty, room), same) =
          subst (λ (x : ℕ × Option Next). WorksOnOne asked most old (who, k) had x.0 x.1 new has) (sym is) (gone_one none new same has empty room)
      by (Some r) at (s, works, is) = there_one r at s new is told.0 told.1 has works

-- how a search went on whose turn it was
turned : (asked : Order) (most room : ℕ) (h : HallState) (o : Option Named) (next : Next) (new : HallState) (has : BatchState) → AsksForSteps asked →
    GoesOnAs GoOn most room h o next new has → GoesOnAs asked most room h None next new has
turned asked most room h o (Worked left) new has asks (goes, (of, (moves, reads, which), works)) = (asks, (of, (moves, reads, λ is. tt), works))
turned asked most room h o Idle new has asks (goes, idle, same, empty, long) = (asks, idle, same, empty, long)
turned asked most room h o NoMemory new has asks (goes, (of, (moves, reads, which)), same, empty, long) = (asks, (of, (moves, reads, λ is. tt)), same, empty, long)
turned asked most room h o Unasked new has asks (none, same, empty, long) = absurd (none (inl refl))

-- the same of a batch without letters
pub turn_of : (asked : Order) (most : ℕ) (old : HallState) (name : List ℕ × ℕ) (had : BatchState) → IsEmpty had → (told : ℕ × Option Next) (new : HallState) (has : BatchState) →
    GoesOnAt old name.0 name.1 (search_at old name.0 name.1) ((told ≡ (0, None)) × IsEmpty has × (has.room ≡ had.room)) (λ s t. WorksThrough GoOn most name s had told.0 told.1 t has) new →
    (next : Next) → told.1 ≡ Some next → AsksForSteps asked → GoesOnAs asked most had.room old None next new has
turn_of asked most old name had empty told new has works next is asks =
    let none = ap (λ (b : BatchState). b.of) empty in
    let did = works_one GoOn most old name.0 name.1 had (subst (AreOf name) (sym none) tt) told new has works in
    let one : WorksOnOne GoOn most old name had told.0 (Some next) new has = subst (λ (o : Option Next). WorksOnOne GoOn most old name had told.0 o new has) is did in
    let (same, all) = subst (λ (o : Option Named). MatchOption o ((one.middle ≡ old) × (told.0 ≡ 0)) (λ of. HandsIn (Makes old one.middle) false of had.letters told.0)) none one.handed_in in
    turned asked most had.room old had.of next new has asks (subst (λ (h : HallState). GoesOnAs GoOn most had.room h had.of next new has) same one.goes_on.1)

-- and how one did where nothing was left of that of the letters
after_letters : (asked : Order) (most room : ℕ) (h : HallState) (o : Option Named) (next : Next) (new : HallState) (has : BatchState) →
    (asked ≡ GoOn → MatchOption o (Unit {0}) (λ n. SearchIsQuiet h n.who n.number)) → GoesOnAs asked most room h None next new has → GoesOnAs asked most room h o next new has
after_letters asked most room h o next new has quiet = by next
  where
    which : (of : Named) → IsNextSearch asked h None of → IsNextSearch asked h o of
    which of (moves, reads, none) = (moves, reads, λ goes. one o (quiet goes))
      where
        one : (o : Option Named) → MatchOption o (Unit {0}) (λ n. SearchIsQuiet h n.who n.number) → MatchOption o (Unit {0}) (λ n. (name_of of ≡ name_of n) ⊎ SearchIsQuiet h n.who n.number)
        one None is = tt
        one (Some n) is = inr is

    by : (next : Next) → GoesOnAs asked most room h None next new has → GoesOnAs asked most room h o next new has
    by (Worked left) (goes, (of, this, works)) = (goes, (of, which of this, works))
    by Idle (goes, idle, same, empty, long) = (goes, idle, same, empty, long)
    by NoMemory (goes, (of, this), same, empty, long) = (goes, (of, which of this), same, empty, long)
    by Unasked (none, same, empty, long) = (none, same, empty, long)

module _ (asked : Order) (most : ℕ) (old : HallState) (had : BatchState) where
  -- a visit without letters
  pub visit_of_none : IsEmpty had → (next : Next) (new : HallState) (has : BatchState) → GoesOnAs asked most had.room old None next new has →
      IsVisit asked most old had (record { finished = 0; next = next }) new has
  visit_of_none empty next new has goes =
      subst (λ (b : BatchState). IsVisit asked most old b (record { finished = 0; next = next }) new has) (sym empty) record { middle = old; handed_in = (refl, refl); next = goes }

  module _ (name : List ℕ × ℕ) (some : option_map name_of had.of ≡ Some name) (told : ℕ × Option Next) (between : HallState) (left : BatchState)
      (works : GoesOnAt old name.0 name.1 (search_at old name.0 name.1) ((told ≡ (0, None)) × IsEmpty left × (left.room ≡ had.room))
      (λ s t. WorksThrough asked most name s had told.0 told.1 t left) between) where
    did : (o : Option Next) → told.1 ≡ o → WorksOnOne asked most old name had told.0 o between left
    did o is =
        subst (λ (p : Option Next). WorksOnOne asked most old name had told.0 p between left) is
        (works_one asked most old name.0 name.1 had (are_of name had.of some) told between left works)

    -- a visit that goes on with the search of its letters
    pub visit_of_one : (next : Next) → told.1 ≡ Some next → IsVisit asked most old had (record { finished = told.0; next = next }) between left
    visit_of_one next is = let goes = did (Some next) is in record { middle = goes.middle; handed_in = goes.handed_in; next = goes.goes_on.1 }

    -- and one that doesn't
    pub visit_of_two : told.1 ≡ None → (next : Next) (new : HallState) (has : BatchState) → GoesOnAs asked most left.room between None next new has →
        IsVisit asked most old had (record { finished = told.0; next = next }) new has
    visit_of_two none next new has goes =
        let ends = did None none in
        let (quiet, same, empty, room) = ends.goes_on in record {
          middle = ends.middle;
          handed_in = ends.handed_in;
          next = after_letters asked most had.room ends.middle had.of next new has (λ asks. quiet_of ends.middle had.of some (quiet asks))
              (subst₂ (λ (n : ℕ) (h : HallState). GoesOnAs asked most n h None next new has) room same goes);
        }
      where
        quiet_of : (h : HallState) (p : Option Named) → option_map name_of p ≡ Some name → SearchIsQuiet h name.0 name.1 → MatchOption p (Unit {0}) (λ n. SearchIsQuiet h n.who n.number)
        quiet_of h None is quiet = tt
        quiet_of h (Some of) is quiet = subst (λ (n : List ℕ × ℕ). SearchIsQuiet h n.0 n.1) (sym (same_Some (name_of of) name is)) quiet
