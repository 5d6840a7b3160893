-- A whole hall, with how its searches stand: each event is what one account is answered, or a step of one search.
use Rattle.std.specs.Prelude.{◌≡◌, ◌≢◌, ℕ, ◌≤◌, Bool, false, List, [], ◌∷◌, ◌++◌, length, map, take, slice_get, if◌then◌else◌}
use Rattle.std.specs.Prelude.{Option, None, Some, MatchOption, MatchBool, Result, Ok, Err, option_map}
use Rattle.std.specs.{Option.option_map_or, Option.option_and_then, Ordering.nat_cmp}
use Rattle.std.specs.FinMap.{FinMap, empty, get, insert, remove, entries, from_entries, from_sorted}
use Rattle.quotas.specs.Quota.{Quota}
use Rattle.names.specs.Name.{name_order}
use Rattle.vaults.specs.declared.changes.Entry.{Entry}
use Rattle.vaults.specs.Journal.{entries_of, view, credentials}
use Rattle.search.specs.Ending.{Nothing, MaySettle}
use Rattle.search.specs.Search.{SearchState, new_search, Settles, IsSoundStage, settled_of}
use Rattle.search.specs.{Net.Said, Finish.Takes, Finish.Finishes, Finish.IsDriven}
use Rattle.search.specs.Stage.{waiting_in, held_in, stage_marked, Delivers, NoneHeld, IsQuiet}
use Rattle.search.specs.declared.{queries.Query.Query, queries.Need.Need, outcomes.Finished.Finished}
use Rattle.search.specs.declared.outcomes.Finished.TheVariants as finished
use Rattle.scholten_core.specs.declared.letters.Letter.{Letter}
use Rattle.hall.specs.declared.faults.Fault.{Fault, TheVariants.NoTenant}
use Rattle.hall.specs.declared.calls.{requests.Request.Request, replies.Reply.Reply, events.Event.Event}
use Rattle.hall.specs.declared.calls.requests.Request.TheVariants.{Alter, Seek, Poll, Close}
use Rattle.hall.specs.declared.calls.replies.Reply.TheVariants.{Counted, Opened, Closed, Refused, Stepped as Reported}
use Rattle.hall.specs.declared.calls.steps.{Step.Step, Stepped.Stepped}
use Rattle.hall.specs.declared.calls.steps.Step.TheVariants as step
use Rattle.hall.specs.declared.calls.steps.Stepped.TheVariants as stepped
use Rattle.hall.specs.declared.calls.events.Event.TheVariants as event
use Rattle.hall.specs.Answers.{Asked, Account, sight, Answers}
use Rattle.hall.specs.Run.{Deed, asks, waits, Told}

-- a search, with the journal's length at its opening
pub record Running : Type 0 where
  pub opened_at : ℕ
  pub search : SearchState

-- what a tenant may use, how many searches it opened, and those that have not ended
pub record Tenant : Type 0 where
  pub limits : Quota
  pub opens : ℕ
  pub searches : FinMap nat_cmp Running

-- the journal, and the tenants by name
pub record HallState : Type 0 where
  pub journal : List Entry
  pub tenants : FinMap name_order Tenant

-- a search as its asker knows it
abbrev pub known : SearchState → Asked
known s = record { query = s.query; view = s.snapshot.vaults; settled = settled_of s }

abbrev pub seen : Running → Asked
seen r = known r.search

-- a tenant's account
abbrev pub account : List Entry → List ℕ → Tenant → Account
account journal name t = record {
  limits = t.limits;
  entries = entries_of name journal;
  opens = t.opens;
  searches = from_sorted (map (λ e. (e.0, seen e.1)) (entries t.searches));
}

-- the account of a name, where it is a tenant's
abbrev pub account_of : HallState → List ℕ → Option Account
account_of h name = option_map (account h.journal name) (get h.tenants name)

-- the tenant of that name is changed, if there is one
abbrev pub with_tenant : HallState → List ℕ → (Tenant → Tenant) → HallState
with_tenant h name change =
    record h { tenants = option_map_or (λ t. insert h.tenants name (change t)) (get h.tenants name) h.tenants }

-- the tenant's search of that number, if it has not ended
abbrev pub search_at : HallState → List ℕ → ℕ → Option Running
search_at h name k = option_and_then (λ t. get t.searches k) (get h.tenants name)

-- the search of that number is this one from now on
abbrev pub with_search : HallState → List ℕ → ℕ → Running → HallState
with_search h name k r = with_tenant h name (λ t. record t { searches = insert t.searches k r })

-- a search that is opened now: its first letter waits, and nothing else is outstanding
abbrev pub beginning : List Entry → List ℕ → Query → ℕ → Running
beginning journal name query work = record {
  opened_at = length journal;
  search = new_search query work (record { asker = name; vaults = view journal name });
}

-- the hall after a request and its reply: an accepted change is entered, an opened search begins, an ended one is gone
abbrev pub hall_after : HallState → List ℕ → Request → Reply → HallState
hall_after h name (Alter change) (Counted n) = record h { journal = h.journal ++ record { tenant = name; change = change } ∷ [] }
hall_after h name (Seek query) (Opened n) =
    with_tenant h name (λ t. record t { opens = n; searches = insert t.searches n (beginning h.journal name query t.limits.work) })
hall_after h name (Close k) Closed = with_tenant h name (λ t. record t { searches = remove t.searches k })
hall_after h name _ _ = h

-- a name that is no tenant's is refused, and a tenant is answered by its account
abbrev pub AnswersTo : HallState → List ℕ → Option Account → Request → Reply → Option Account → Type 0
AnswersTo h name None q told after = (told ≡ Refused NoTenant) × (after ≡ None)
AnswersTo h name (Some a) q told after = (b : Account) × (after ≡ Some b) × Answers name (sight h.journal name q) a q told b

-- a request is answered by the account of who asks, and the hall changes accordingly
pub record IsServed (old : HallState) (name : List ℕ) (q : Request) (told : Reply) (new : HallState) : Type 0 where
  pub answers : AnswersTo old name (account_of old name) q told (account_of new name)
  pub after : new ≡ hall_after old name q told

-- the reply by what a call came to
abbrev pub told_as : {X : Type 0} → (X → Reply) → Result X Fault → Reply
told_as reply (Ok x) = reply x
told_as reply (Err f) = Refused f

abbrev pub finish_answer : Finished → Stepped
finish_answer finished.Done = stepped.Done
finish_answer finished.BadHint = stepped.BadHint
finish_answer finished.Spent = stepped.Spent
finish_answer finished.Broken = stepped.Broken
finish_answer finished.NotHeld = stepped.NotHeld

-- the step is made, and answered so
abbrev pub IsMade : SearchState → Step → Stepped → SearchState → Type 0
IsMade old (step.Take name k place) answer new = (got : Option (ℕ × Need))
    × MatchOption got ((slice_get (waiting_in old.stage) place ≡ None) × (new ≡ old)) (λ l. Takes old new place l.0 l.1)
    × (answer ≡ option_map_or (λ l. stepped.Took l.0 l.1) got stepped.Nothing)
IsMade old (step.GiveBack name k letter) answer new = (back : Bool)
    × MatchBool back
    (((l : Letter Said) × (held_in old.stage letter ≡ Some l)) × (new ≡ record old { stage = stage_marked letter false old.stage }))
    ((held_in old.stage letter ≡ None) × (new ≡ old))
    × (answer ≡ (if back then stepped.Back else stepped.NotHeld))
IsMade old (step.Finish name k letter hint) answer new = (f : Finished) × Finishes old new letter hint f × (answer ≡ finish_answer f)
IsMade old (step.Signal name k place) answer new =
    (delivered : Bool) × Delivers old.stage new.stage place delivered × (new ≡ record old { stage = new.stage })
    × (answer ≡ (if delivered then stepped.Signalled else stepped.Nothing))

-- a step of a search; where it comes to an end by that, it is the right one, and where it still runs its computation is sound
pub record StepsSearch (old : SearchState) (made : Step) (answer : Stepped) (new : SearchState) : Type 0 where
  pub is_made : IsMade old made answer new
  pub settles : Settles old new
  pub sound : IsSoundStage new.stage

-- one step after another, each answered so
abbrev pub StepsEach : SearchState → SearchState → List Step → List Stepped → Type 0
StepsEach old new [] [] = new ≡ old
StepsEach old new (made ∷ more) (answer ∷ answers) =
    (middle : SearchState) × StepsSearch old made answer middle × StepsEach middle new more answers
StepsEach old new [] (answer ∷ answers) = ⊥
StepsEach old new (made ∷ more) [] = ⊥

-- whose search a step is made of, and its number
abbrev pub search_of_step : Step → List ℕ × ℕ
search_of_step (step.Take name k place) = (name, k)
search_of_step (step.GiveBack name k letter) = (name, k)
search_of_step (step.Finish name k letter hint) = (name, k)
search_of_step (step.Signal name k place) = (name, k)

-- the tenant's search of that number, if there is this one, becomes another one so; else this holds; and nothing else changes
abbrev pub GoesOnAt : HallState → List ℕ → ℕ → Option Running → Type 0 → (SearchState → SearchState → Type 0) → HallState → Type 0
GoesOnAt old name k None otherwise does new = otherwise × (new ≡ old)
GoesOnAt old name k (Some r) otherwise does new =
    (s : SearchState) × does r.search s × (new ≡ with_search old name k (record r { search = s }))

-- a step is made of its search
abbrev pub IsStepped : HallState → Step → Stepped → HallState → Type 0
IsStepped old made answer new =
    GoesOnAt old (search_of_step made).0 (search_of_step made).1 (search_at old (search_of_step made).0 (search_of_step made).1)
    (answer ≡ stepped.Gone) (λ s t. StepsSearch s made answer t) new

-- an event of a run
abbrev pub Happens : HallState → Event → Reply → HallState → Type 0
Happens old (event.Request name q) told new = IsServed old name q told new
Happens old (event.Step made) told new = (answer : Stepped) × (told ≡ Reported answer) × IsStepped old made answer new

-- one reply for each event, one event after another; nothing happens by itself
abbrev pub Run : HallState → List Event → List Reply → HallState → Type 0
Run old [] [] new = new ≡ old
Run old (e ∷ events) (told ∷ replies) new = (middle : HallState) × Happens old e told middle × Run middle events replies new
Run old [] (told ∷ replies) new = ⊥
Run old (e ∷ events) [] new = ⊥

-- the search carries itself on, oldest signal first, else the first waiting letter, until nothing is outstanding but what others hold
pub record IsCarriedOn (old new : SearchState) : Type 0 where
  pub driven : IsDriven old new
  pub quiet : IsQuiet new.stage
  pub sound : IsSoundStage new.stage
  pub settled : NoneHeld old.stage → NoneHeld new.stage × (settled_of new ≢ Nothing)

-- a request is served; a wait lets its search carry itself on, if there is one, and is then a poll
abbrev pub CarriesOut : HallState → List ℕ → Deed → Reply → HallState → Type 0
CarriesOut old name (asks q) told new = IsServed old name q told new
CarriesOut old name (waits k) told new =
    (middle : HallState) × GoesOnAt old name k (search_at old name k) (Unit {0}) IsCarriedOn middle × IsServed middle name (Poll k) told new

-- one deed after another
abbrev pub AreDone : HallState → List Told → HallState → Type 0
AreDone old [] new = new ≡ old
AreDone old (t ∷ more) new = (middle : HallState) × CarriesOut old t.tenant t.deed t.reply middle × AreDone middle more new

-- a search is its tenant's, over its view at the opening and with its limit of work, and has come to nothing yet or to a right end
pub record IsSoundSearch (journal : List Entry) (name : List ℕ) (limits : Quota) (r : Running) : Type 0 where
  pub opened : r.opened_at ≤ length journal
  pub asker : r.search.snapshot.asker ≡ name
  pub view : r.search.snapshot.vaults ≡ view (take r.opened_at journal) name
  pub work : r.search.work ≡ limits.work
  pub settled : MaySettle limits.work (credentials r.search.snapshot.vaults) r.search.query Nothing (settled_of r.search)
  pub computation : IsSoundStage r.search.stage

-- this holds of each search, with its tenant and its number
abbrev pub EachSearch : (List ℕ → Tenant → ℕ → Running → Type 0) → HallState → Type 0
EachSearch P h =
    (name : List ℕ) (t : Tenant) (k : ℕ) (r : Running) → get h.tenants name ≡ Some t → get t.searches k ≡ Some r → P name t k r

-- what holds of every hall: each search has a number that its tenant was given
abbrev pub IsSound : HallState → Type 0
IsSound h = EachSearch (λ name t k r. (1 ≤ k) × (k ≤ t.opens) × IsSoundSearch h.journal name t.limits r) h

-- a tenant that has done nothing
abbrev pub new_tenant : Quota → Tenant
new_tenant limits = record { limits = limits; opens = 0; searches = empty }

-- the hall of these tenants, where nothing was done yet; a name that stands twice has its first limits
abbrev pub new_hall : List (List ℕ × Quota) → HallState
new_hall roster = record { journal = []; tenants = from_entries (map (λ row. (row.0, new_tenant row.1)) roster) }
