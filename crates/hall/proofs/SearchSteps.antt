-- A step of a search goes on with one question, and what is known of a new search.
use Rattle.std.specs.Prelude.{MatchOption, MatchBool, slice_get}
use Rattle.std.proofs.Common.{refl, ◌+◌, ◌==◌, ℕ, Bool, true, false, cond, [], ◌∷◌, ◌≡◌, ap, Option, Some, None, ne_eqb, arith}
use Rattle.snapshots.specs.Snapshot.{SnapshotState}
use Rattle.search.specs.declared.queries.Query.{Query}
use Rattle.search.specs.declared.queries.Hint.{Hint}
use Rattle.search.specs.declared.queries.Need.{Need}
use Rattle.search.specs.declared.outcomes.Finished.{Finished}
use Rattle.search.specs.declared.outcomes.Finished.TheVariants as finished
use Rattle.scholten_core.specs.Computation.{outstanding}
use Rattle.scholten_core.specs.Step.{started}
use Rattle.credential_text.specs.declared.exprs.Expr.TheVariants.{Rol}
use Rattle.search.specs.declared.letters.Load.{Load}
use Rattle.search.specs.declared.letters.Load.TheVariants as load
use Rattle.search.specs.declared.stages.Stage.{Stage}
use Rattle.search.specs.Ending.{Settled, Nothing, asked_role}
use Rattle.search.specs.Search.{found, SearchState, new_search, SameQuestion, Settles, settled_of}
use Rattle.search.specs.{Net.Said, Finish.Takes, Finish.Finishes}
use Rattle.search.specs.Stage.{if_held, NoneHeld, waiting_in, held_in, stage_marked}
use Rattle.scholten_core.specs.declared.letters.Letter.{Letter}
use Rattle.scholten_core.specs.declared.parents.Parent.TheVariants.{Environment}
use Rattle.hall.specs.declared.calls.steps.Step.{Step}
use Rattle.hall.specs.declared.calls.steps.Step.TheVariants as step
use Rattle.hall.specs.declared.calls.steps.Stepped.{Stepped}
use Rattle.hall.specs.Hall.{IsMade, StepsSearch}

-- another stage is no other question
pub staged : (old new : SearchState) (at : Stage) → new ≡ record old { stage = at } → SameQuestion old new
staged old new at is = record {
  query = ap (λ (s : SearchState). s.query) is;
  work = ap (λ (s : SearchState). s.work) is;
  snapshot = ap (λ (s : SearchState). s.snapshot) is;
}

-- what changes its stage alone
pub stage_alone : (old new : SearchState) → new.graph ≡ old.graph → new.monitors ≡ old.monitors → SameQuestion old new → new ≡ record old { stage = new.stage }
stage_alone old new graph monitors question = λ i. record {
  query = question.query i;
  work = question.work i;
  snapshot = question.snapshot i;
  graph = graph i;
  monitors = monitors i;
  stage = new.stage;
}

pub finish_keeps : (old new : SearchState) (letter : ℕ) (hint : Hint) (f : Finished) → Finishes old new letter hint f → SameQuestion old new
finish_keeps old new letter hint finished.NotHeld finishes = staged old new old.stage finishes.1
finish_keeps old new letter hint finished.BadHint (l, need, held, needs, wrong, is) = staged old new _ is
finish_keeps old new letter hint finished.Done (l, rightly, (received, question)) = question
finish_keeps old new letter hint finished.Spent (l, rightly, (exceeds, spent, question)) = question
finish_keeps old new letter hint finished.Broken (l, rightly, (broken, question)) = question

made_keeps : (old new : SearchState) (made : Step) (answer : Stepped) → IsMade old made answer new → SameQuestion old new
made_keeps old new (step.Take name k place) answer (got, takes, is) = by got takes
  where
    by : (got : Option (ℕ × Need)) → MatchOption got ((slice_get (waiting_in old.stage) place ≡ None) × (new ≡ old)) (λ l. Takes old new place l.0 l.1) → SameQuestion old new
    by None takes = staged old new old.stage takes.1
    by (Some g) takes = staged old new _ takes.after
made_keeps old new (step.GiveBack name k letter) answer (back, puts, is) = by back puts
  where
    by : (back : Bool) →
        MatchBool back
        (((l : Letter Said) × (held_in old.stage letter ≡ Some l)) × (new ≡ record old { stage = stage_marked letter false old.stage }))
        ((held_in old.stage letter ≡ None) × (new ≡ old)) → SameQuestion old new
    by false puts = staged old new old.stage puts.1
    by true puts = staged old new _ puts.1
made_keeps old new (step.Finish name k letter hint) answer (f, finishes, is) = finish_keeps old new letter hint f finishes
made_keeps old new (step.Signal name k place) answer (delivered, delivers, same, is) = staged old new new.stage same

-- the search goes on with its question, and may settle
pub record SearchGoesOn (old new : SearchState) : Type 0 where
  pub question : SameQuestion old new
  pub settles : Settles old new

pub step_goes_on : (old new : SearchState) (made : Step) (answer : Stepped) → StepsSearch old made answer new → SearchGoesOn old new
step_goes_on old new made answer steps = record { question = made_keeps old new made answer steps.is_made; settles = steps.settles }

-- what the first letter says, which is outstanding
abbrev first_load : Load ℕ
first_load = load.Start

first_waits : outstanding (started 0 first_load) ≡ 0 → ⊥
first_waits none = omega (arith, none)

-- a new search has come to nothing
pub nothing_yet : (q : Query) (work : ℕ) (snapshot : SnapshotState) → settled_of (new_search q work snapshot) ≡ Nothing
unfolding settled_of new_search
nothing_yet q work snapshot = ap (λ (b : Bool). cond b (come q) Nothing) (ne_eqb (outstanding (started 0 first_load)) 0 first_waits)
  where
    come : Query → Settled
    come q = found (record { nodes = Rol (asked_role q) ∷ []; listeners = [] ∷ []; solutions = [] }) q

-- and none of its letters is held
pub none_held_yet : (q : Query) (work : ℕ) (snapshot : SnapshotState) → NoneHeld (new_search q work snapshot).stage
unfolding new_search
none_held_yet q work snapshot number = by (0 + 1 == number)
  where
    by : (b : Bool) → if_held (cond b (Some (record { from = Environment; to = 0; held = false; load = load.Start })) None) ≡ None
    by true = refl
    by false = refl
