-- A search that was lent goes on from what it was, whatever was done to it.
use Rattle.std.proofs.Common.{◌≡◌, ℕ, Bool, List, ap, sym, subst, Option, Some, None}
use Rattle.std.specs.{Prelude.MatchOption, Prelude.slice_get, Arc.arc_value}
use Rattle.search.specs.{declared.queries.Need.Need, declared.queries.Task.Task, Stage.waiting_in, Finish.Takes}
use Rattle.search.specs.Search.{SearchState, SameQuestion, Settles, IsSoundStage}
use Rattle.hall.specs.declared.{calls.steps.Step.Step, calls.steps.Stepped.Stepped, orders.Order.Order, orders.Next.Next}
use Rattle.hall.specs.declared.orders.Next.TheVariants.{Worked, Idle, NoMemory, Unasked}
use Rattle.hall.specs.Hall.{StepsSearch, StepsEach}
use Rattle.hall.specs.Hall.{Running, IsCarriedOn}
use Rattle.hall.specs.Kept.{Continues}
use Rattle.hall.specs.Batches.{Named, BatchState}
use Rattle.hall.specs.Work.{HandsIn, WentAs, WorksThrough, gives_back}
use Rattle.hall.proofs.InRow.{each_goes_on, each_sound}
use Rattle.hall.proofs.SearchSteps.{SearchGoesOn, staged, step_goes_on}
use Rattle.hall.proofs.laws.HallSteps.{drives_on, goes_nowhere, goes_twice}

-- what goes on, and runs soundly where it did before
record GoesSoundly (s t : SearchState) : Type 0 where
  goes : SearchGoesOn s t
  sound : IsSoundStage s.stage → IsSoundStage t.stage

stays_so : (s t : SearchState) → t ≡ s → GoesSoundly s t
stays_so s t same = record {
  goes = subst (SearchGoesOn s) (sym same) (goes_nowhere s);
  sound = subst (λ (x : SearchState). IsSoundStage s.stage → IsSoundStage x.stage) (sym same) (λ sound. sound);
}

both : (s t u : SearchState) → GoesSoundly s t → GoesSoundly t u → GoesSoundly s u
both s t u first second = record { goes = goes_twice s t u first.goes second.goes; sound = λ sound. second.sound (first.sound sound) }

continues : (r s : Running) → s.opened_at ≡ r.opened_at → GoesSoundly r.search s.search → Continues r s
continues r s opened goes = record { opened = opened; question = goes.goes.question; settles = goes.goes.settles; sound = goes.sound }

pub continues_same : (r s : Running) → s ≡ r → Continues r s
continues_same r s same = continues r s (ap (λ (x : Running). x.opened_at) same) (stays_so r.search s.search (ap (λ (x : Running). x.search) same))

pub continues_stepped : (r s : Running) (made : Step) (answer : Stepped) → StepsSearch r.search made answer s.search → s.opened_at ≡ r.opened_at → Continues r s
continues_stepped r s made answer steps opened =
    continues r s opened (record { goes = step_goes_on r.search s.search made answer steps; sound = λ before. steps.sound })

pub continues_taken : (r s : Running) (place : ℕ) (o : Option Task) →
    MatchOption o ((slice_get (waiting_in r.search.stage) place ≡ None) × (s.search ≡ r.search)) (λ t. Takes r.search s.search place t.letter t.need × (arc_value t.snap ≡ r.search.snapshot)) →
    Settles r.search s.search → IsSoundStage s.search.stage → s.opened_at ≡ r.opened_at → Continues r s
continues_taken r s place o taken settles sound opened =
    continues r s opened (record { goes = record { question = by o taken; settles = settles }; sound = λ before. sound })
  where
    by : (o : Option Task) →
        MatchOption o ((slice_get (waiting_in r.search.stage) place ≡ None) × (s.search ≡ r.search)) (λ t. Takes r.search s.search place t.letter t.need × (arc_value t.snap ≡ r.search.snapshot)) →
        SameQuestion r.search s.search
    by None (none, same) = staged r.search s.search r.search.stage same
    by (Some t) (takes, reads) = staged r.search s.search _ takes.after

pub continues_driven : (r s : Running) → IsCarriedOn r.search s.search → s.opened_at ≡ r.opened_at → Continues r s
continues_driven r s carried opened =
    continues r s opened (record { goes = drives_on r.search s.search carried.driven; sound = λ before. carried.sound })

-- letters that are handed in, and steps that are made then
each : (s t : SearchState) (steps : List Step) (answers : List Stepped) → StepsEach s t steps answers → GoesSoundly s t
each s t steps answers made = record { goes = each_goes_on s t steps answers made; sound = each_sound s t steps answers made }

handed_in : (back : Bool) (s t : SearchState) (letters : List (ℕ × Need)) (n : ℕ) (o : Option Named) → MatchOption o ((t ≡ s) × (n ≡ 0)) (λ of. HandsIn (StepsEach s t) back of letters n) →
    GoesSoundly s t
handed_in back s t letters n None (same, none) = stays_so s t same
handed_in back s t letters n (Some of) hands = each s t _ hands.answers hands.steps

went : (asked : Order) (most room : ℕ) (name : List ℕ × ℕ) (s t : SearchState) (next : Option Next) (has : BatchState) → WentAs asked most room name s next t has → GoesSoundly s t
went asked most room name s t None has (quiet, same, none, long) = stays_so s t same
went asked most room name s t (Some (Worked left)) has (goes, moves, works) = each s t _ _ works.goes_on.steps
went asked most room name s t (Some NoMemory) has (goes, moves, same, none, long) = stays_so s t same
went asked most room name s t (Some Idle) has never = absurd never
went asked most room name s t (Some Unasked) has never = absurd never

pub continues_worked : (r s : Running) (asked : Order) (most : ℕ) (name : List ℕ × ℕ) (had : BatchState) (finished : ℕ) (next : Option Next) (has : BatchState) →
    WorksThrough asked most name r.search had finished next s.search has → s.opened_at ≡ r.opened_at → Continues r s
continues_worked r s asked most name had finished next has works opened =
    continues r s opened (both r.search works.middle s.search (handed_in (gives_back asked) r.search works.middle had.letters finished had.of works.handed_in)
    (went asked most had.room name works.middle s.search next has works.goes_on))
