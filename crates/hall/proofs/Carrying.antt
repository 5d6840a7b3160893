-- A step of a search, a letter that is taken, and a search that is driven, as a hall has them.
use Rattle.std.proofs.Common.{◌≡◌, ◌∙◌, ℕ, List, ap, sym, refl, subst, subst₂, inl, slice_get, option_map, IfSome, IsSomeAnd, Option, Some, None, Result}
use Rattle.std.specs.FinMap.{get}
use Rattle.std.specs.{Prelude.MatchOption, Arc.arc_value}
use Rattle.search.specs.declared.queries.Task.{Task}
use Rattle.search.specs.Search.{SearchState, Settles, IsSoundStage}
use Rattle.search.specs.Stage.{IsQuiet, waiting_in}
use Rattle.search.specs.Finish.{Takes}
use Rattle.hall.specs.declared.faults.Fault.{Fault}
use Rattle.hall.specs.declared.calls.answers.Answer.{Answer}
use Rattle.hall.specs.declared.calls.requests.Request.TheVariants.{Poll}
use Rattle.hall.specs.declared.calls.replies.Reply.TheVariants.{Answered, Refused}
use Rattle.hall.specs.declared.calls.steps.Step.{Step}
use Rattle.hall.specs.declared.calls.steps.Step.TheVariants.{Take}
use Rattle.hall.specs.declared.calls.steps.Stepped.TheVariants.{Gone}
use Rattle.hall.specs.declared.calls.steps.Stepped.TheVariants as stepped
use Rattle.hall.specs.Hall.{StepsSearch}
use Rattle.hall.specs.Run.{waits}
use Rattle.hall.specs.Hall.{Running, HallState, search_at, with_search, search_of_step, GoesOnAt, IsStepped}
use Rattle.hall.specs.Hall.{IsCarriedOn, CarriesOut, known, told_as}
use Rattle.hall.specs.Answers.{IsToldOver}
use Rattle.hall.specs.Work.{TakenLetter, IsTaken, SearchIsQuiet}
use Rattle.hall.specs.Kept.{IsNowhere}
use Rattle.hall.proofs.Polled.{none_there}
use Rattle.hall.proofs.Viewed.{nowhere_polled, served_over}
use Rattle.hall.proofs.Placed.{found_after, put_back}
use Rattle.hall.proofs.InRow.{stepped_there}

module _ (h : HallState) (who : List ℕ) (k : ℕ) where
  -- a name that is no tenant's, and a number of no search
  pub none_quiet : search_at h who k ≡ None → SearchIsQuiet h who k
  none_quiet none r at = let clash : Some r ≡ None = sym at ∙ none in cc

  none_driven : search_at h who k ≡ None → GoesOnAt h who k (search_at h who k) (Unit {0}) IsCarriedOn h
  none_driven none = subst (λ (o : Option Running). GoesOnAt h who k o (Unit {0}) IsCarriedOn h) (sym none) (tt, refl)

  pub nowhere_driven : (f : Fault) → IsNowhere k (get h.tenants who) f → CarriesOut h who (waits k) (Refused f) h
  nowhere_driven f is = (h, none_driven (none_there h who k f is), nowhere_polled h who k f is)

  -- no step of such a search does anything
  pub gone : (made : Step) → who ≡ (search_of_step made).0 → k ≡ (search_of_step made).1 → search_at h who k ≡ None → IsStepped h made Gone h
  gone made whose number none =
      subst (λ (o : Option Running). GoesOnAt h (search_of_step made).0 (search_of_step made).1 o (Gone ≡ Gone) (λ s t. StepsSearch s made Gone t) h) (sym (subst₂ (λ (n : List ℕ) (m : ℕ). search_at h n m ≡ None) whose number none)) (refl, refl)

  module _ (r : Running) (at : search_at h who k ≡ Some r) where
    -- a search that is found there and quiet is so in the hall
    pub quiet_in : IsQuiet r.search.stage → SearchIsQuiet h who k
    quiet_in quiet q found =
        let both : Some r ≡ Some q = sym at ∙ found in
        let same : r ≡ q = cc in
        subst (λ (x : Running). IsQuiet x.search.stage) same quiet

module _ (h : HallState) (who : List ℕ) (k : ℕ) (r : Running) (at : search_at h who k ≡ Some r) (s : Running) (opened : s.opened_at ≡ r.opened_at) (new : HallState)
    (is : new ≡ with_search h who k s) where
  -- the search was lent, and what was left of it is in its place
  pub left_as : new ≡ with_search h who k (record r { search = s.search })
  left_as = is ∙ (λ i. with_search h who k (record { opened_at = opened i; search = s.search }))

  -- one that is left as it was leaves the hall so
  pub left_so : s.search ≡ r.search → new ≡ h
  left_so same = left_as ∙ (λ i. with_search h who k (record r { search = same i })) ∙ put_back h who k r at

  pub found_left : search_at new who k ≡ Some s
  found_left = ap (λ (g : HallState). search_at g who k) is ∙ found_after h who k r at s

  -- a search that is driven, and told of
  pub drives_as : IsCarriedOn r.search s.search → (told : Result Answer Fault) → IsToldOver (known s.search) Poll (told_as Answered told) →
      CarriesOut h who (waits k) (told_as Answered told) new
  drives_as carried told tells = (
    new,
    subst (λ (o : Option Running). GoesOnAt h who k o (Unit {0}) IsCarriedOn new) (sym at) (s.search, carried, left_as),
    served_over new who k s.search Poll (told_as Answered told) refl (sym (ap (option_map (λ (x : Running). x.search)) found_left)) tells,
  )

  pub drives_quiet : IsQuiet s.search.stage → SearchIsQuiet new who k
  drives_quiet quiet = quiet_in new who k s found_left quiet

  -- a letter that is taken, with the job that it gives; or none
  module _ (place : ℕ) (settles : Settles r.search s.search) (sound : IsSoundStage s.search.stage) where
    pub none_taken : slice_get (waiting_in r.search.stage) place ≡ None → s.search ≡ r.search → IsTaken h who k place None new
    none_taken none same = (
      stepped.Nothing,
      inl refl,
      stepped_there h (Take who k place) stepped.Nothing new who k r s.search refl refl at (record { is_made = (None, (none, same), refl); settles = settles; sound = sound }) left_as,
    )

    pub job_taken : (job : TakenLetter) → job.who ≡ who → job.number ≡ k → job.snapshot ≡ r.search.snapshot → Takes r.search s.search place job.letter job.need →
        IsTaken h who k place (Some job) new
    job_taken job whose number reads takes = (
      whose,
      number,
      subst (λ (o : Option Running). IsSomeAnd o (λ r. job.snapshot ≡ r.search.snapshot)) (sym at) reads,
      stepped_there h (Take who k place) (stepped.Took job.letter job.need) new who k r s.search refl refl at
          (record { is_made = (Some (job.letter, job.need), takes, refl); settles = settles; sound = sound }) left_as,
    )

-- what a search answers to a take
pub task_taken : (place : ℕ) (s t : SearchState) (o : Option Task) → (o ≡ None → (slice_get (waiting_in s.stage) place ≡ None) × (t ≡ s)) →
    IfSome o (λ task. Takes s t place task.letter task.need) → IfSome o (λ task. arc_value task.snap ≡ s.snapshot) →
    MatchOption o ((slice_get (waiting_in s.stage) place ≡ None) × (t ≡ s)) (λ task. Takes s t place task.letter task.need × (arc_value task.snap ≡ s.snapshot))
task_taken place s t None none takes reads = none refl
task_taken place s t (Some task) none takes reads = (takes, reads)
