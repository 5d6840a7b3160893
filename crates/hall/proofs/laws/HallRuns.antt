-- To each tenant a run of a hall is a run of its own turns, in which searches settle at any time.
use Rattle.std.proofs.Common.{◌≡◌, ◌∙◌, ℕ, false, List, [], ◌∷◌, Option, Some, None, ap, refl}
use Rattle.names.specs.Name.{is_same}
use Rattle.names.proofs.SameNames.{same_from_is_same}
use Rattle.hall.specs.declared.calls.events.Event.{Event}
use Rattle.hall.specs.declared.calls.requests.Request.{Request}
use Rattle.hall.specs.declared.calls.replies.Reply.{Reply}
use Rattle.hall.specs.declared.calls.steps.Step.{Step}
use Rattle.hall.specs.declared.calls.steps.Stepped.{Stepped}
use Rattle.hall.specs.declared.calls.events.Event.TheVariants as event
use Rattle.hall.specs.Answers.{Account}
use Rattle.hall.specs.Run.{asks, Told, told_in, entered, told_to, any_time, IsRunOf}
use Rattle.hall.specs.declared.calls.steps.Stepped.TheVariants.{Gone}
use Rattle.hall.specs.Hall.{StepsSearch}
use Rattle.hall.specs.Hall.{Running, HallState, account_of, search_at, AnswersTo, IsServed, GoesOnAt, IsStepped, search_of_step}
use Rattle.hall.specs.Hall.{Run, IsSound}
use Rattle.hall.proofs.SearchSteps.{step_goes_on}
use Rattle.hall.proofs.laws.HallRequests.{requested_journal, requested_account}
use Rattle.hall.proofs.laws.HallSound.{events_keep}
use Rattle.hall.proofs.laws.HallTurns.{BetweenOf, nothing_between, later_run, empty_run, TurnsTo, done_told, turn_at, done_first}
use Rattle.hall.proofs.laws.HallAccounts.{goes_between}

-- the journal after a request
pub served_journal : (old new : HallState) (name : List ℕ) (q : Request) (told : Reply) → IsServed old name q told new →
    new.journal ≡ entered old.journal (done_told name (asks q) told)
served_journal old new name q told served = ap (λ (h : HallState). h.journal) served.after ∙ requested_journal old name q told

-- a request is a turn of who asked
pub served_own : (old new : HallState) (name : List ℕ) (q : Request) (told : Reply) → IsServed old name q told new →
    TurnsTo name (account_of old name) (turn_at name old.journal (done_told name (asks q) told)) (account_of new name)
served_own old new name q told served = by (account_of old name) served.answers
  where
    by : (o : Option Account) → AnswersTo old name o q told (account_of new name) →
        TurnsTo name o (turn_at name old.journal (done_told name (asks q) told)) (account_of new name)
    by None answers = answers
    by (Some a) answers = answers

-- and nothing to the others
pub served_other : (old new : HallState) (name : List ℕ) (q : Request) (told : Reply) (tenant : List ℕ) →
    IsServed old name q told new → is_same name tenant ≡ false →
    account_of new tenant ≡ account_of old tenant
served_other old new name q told tenant served apart =
    ap (λ (h : HallState). account_of h tenant) served.after ∙ requested_account old name q told tenant apart

-- a step leaves the journal
pub stepped_journal : (old new : HallState) (made : Step) (answer : Stepped) → IsStepped old made answer new →
    new.journal ≡ old.journal
stepped_journal old new made answer = by (search_at old (search_of_step made).0 (search_of_step made).1)
  where
    by : (o : Option Running) → GoesOnAt old (search_of_step made).0 (search_of_step made).1 o (answer ≡ Gone) (λ s t. StepsSearch s made answer t) new → new.journal ≡ old.journal
    by None steps = ap (λ (h : HallState). h.journal) steps.1
    by (Some r) (s, steps, after) = ap (λ (h : HallState). h.journal) after

-- and to each tenant at most one of its searches settles by it
stepped_between : (old new : HallState) (made : Step) (answer : Stepped) (tenant : List ℕ) → IsSound old →
    IsStepped old made answer new →
    BetweenOf any_time (account_of old tenant) (account_of new tenant)
stepped_between old new made answer tenant sound = by (search_at old (search_of_step made).0 (search_of_step made).1) refl
  where
    by : (o : Option Running) → search_at old (search_of_step made).0 (search_of_step made).1 ≡ o → GoesOnAt old (search_of_step made).0 (search_of_step made).1 o (answer ≡ Gone) (λ s t. StepsSearch s made answer t) new →
        BetweenOf any_time (account_of old tenant) (account_of new tenant)
    by None none steps = rw steps.1 (nothing_between any_time (account_of old tenant))
    by (Some r) at (s, steps, after) =
        rw after (goes_between old (search_of_step made).0 (search_of_step made).1 r s sound at (step_goes_on r.search s made answer steps) tenant)

pub runs_allowed : (old new : HallState) (events : List Event) (replies : List Reply) → IsSound old → Run old events replies new → (tenant : List ℕ) →
    IsRunOf any_time tenant (account_of old tenant) (told_to tenant old.journal (told_in events replies)) (account_of new tenant)
runs_allowed old new [] [] sound run tenant =
    rw run (empty_run any_time tenant (account_of old tenant))
runs_allowed old new [] (told ∷ replies) sound run tenant = absurd run
runs_allowed old new (e ∷ events) [] sound run tenant = absurd run
runs_allowed old new (event.Request name q ∷ events) (told ∷ replies) sound (after, served, run) tenant =
    let t : Told = done_told name (asks q) told in
    done_first any_time tenant old.journal t (account_of old tenant) (account_of after tenant) (account_of new tenant)
    (told_to tenant (entered old.journal t) (told_in events replies))
    (λ same. rw (← same_from_is_same name tenant same) (served_own old after name q told served))
    (served_other old after name q told tenant served)
    (rw (← served_journal old after name q told served)
    (runs_allowed after new events replies (events_keep old after (event.Request name q) told sound served) run tenant))
runs_allowed old new (event.Step made ∷ events) (told ∷ replies) sound (after, (answer, is, stepped), run) tenant =
    later_run any_time tenant (account_of old tenant) (account_of after tenant) (account_of new tenant)
    (told_to tenant old.journal (told_in events replies))
    (stepped_between old after made answer tenant sound stepped)
    (rw (← stepped_journal old after made answer stepped)
    (runs_allowed after new events replies (events_keep old after (event.Step made) told sound (answer, is, stepped)) run tenant))
