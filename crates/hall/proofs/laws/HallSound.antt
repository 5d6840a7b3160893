-- What holds of every hall holds of a new one, and is kept by each request, by each step, and where a search carries itself on.
use Rattle.std.proofs.Common.{[], ◌≡◌, ◌∙◌, ◌≤◌, ◌+◌, ℕ, List, ◌++◌, length, Option, Some, None, inl, sym, ap}
use Rattle.std.proofs.Common.{refl, subst, subst₂, arith, length-append, le_refl}
use Rattle.std.specs.FinMap.{get}
use Rattle.std.proofs.lemmas.List.{take-append-le, take_all}
use Rattle.quotas.specs.Quota.{Quota}
use Rattle.vaults.specs.declared.changes.Entry.{Entry}
use Rattle.vaults.specs.Journal.{view, credentials}
use Rattle.snapshots.specs.Snapshot.{SnapshotState}
use Rattle.scholten_core.proofs.Complete.{sound_started}
use Rattle.search.specs.declared.letters.Load.TheVariants.{Start}
use Rattle.search.specs.declared.queries.Query.{Query}
use Rattle.search.specs.Ending.{Nothing, MaySettle}
use Rattle.search.specs.Search.{SearchState, new_search, IsSoundStage, settled_of}
use Rattle.hall.specs.declared.calls.requests.Request.{Request}
use Rattle.hall.specs.declared.calls.requests.Request.TheVariants as request
use Rattle.hall.specs.declared.calls.replies.Reply.{Reply}
use Rattle.hall.specs.declared.calls.replies.Reply.TheVariants.{Opened}
use Rattle.hall.specs.declared.calls.steps.Step.{Step}
use Rattle.hall.specs.declared.calls.steps.Stepped.{Stepped}
use Rattle.hall.specs.declared.calls.events.Event.TheVariants as event
use Rattle.hall.specs.Run.{Deed, asks, waits}
use Rattle.hall.specs.declared.calls.steps.Stepped.TheVariants.{Gone}
use Rattle.hall.specs.declared.calls.events.Event.{Event}
use Rattle.hall.specs.Hall.{StepsSearch}
use Rattle.hall.specs.Hall.{Running, Tenant, HallState, with_search, search_at, beginning, hall_after}
use Rattle.hall.specs.Hall.{IsServed, GoesOnAt, IsStepped, IsCarriedOn, search_of_step, CarriesOut}
use Rattle.hall.specs.Hall.{EachSearch, IsSoundSearch, IsSound}
use Rattle.hall.specs.Hall.{Happens, new_hall}
use Rattle.hall.proofs.laws.HallChanges.{EachOf, inserted_each, replaced_each, new_each}
use Rattle.hall.proofs.laws.HallSteps.{drives_on}
use Rattle.hall.proofs.laws.HallRequests.{opening, requested_journal, requested_each, entered_more, opened_next}
use Rattle.hall.proofs.Truths.{settles_twice}
use Rattle.hall.proofs.SearchSteps.{SearchGoesOn, step_goes_on, nothing_yet}

-- what holds of a tenant's search in a hall of this journal
abbrev SoundIn : List Entry → List ℕ → Tenant → ℕ → Running → Type 0
SoundIn journal name t k r = (1 ≤ k) × (k ≤ t.opens) × IsSoundSearch journal name t.limits r

-- a search that was opened before the journal grew
search_grown : (journal more : List Entry) (name : List ℕ) (limits : Quota) (r : Running) → IsSoundSearch journal name limits r →
    IsSoundSearch (journal ++ more) name limits r
search_grown journal more name limits r sound = record {
  opened = omega (arith, sound.opened, length-append journal more);
  asker = sound.asker;
  view = sound.view ∙ ap (λ (j : List Entry). view j name) (sym (take-append-le r.opened_at journal more sound.opened));
  work = sound.work;
  settled = sound.settled;
  computation = sound.computation;
}

all_grown : (journal more : List Entry) (h : HallState) → EachSearch (SoundIn journal) h →
    EachSearch (SoundIn (journal ++ more)) h
all_grown journal more h each name t k r found at =
    let sound : SoundIn journal name t k r = each name t k r found at in
    (sound.0, sound.1, search_grown journal more name t.limits r sound.2)

-- a search that is opened now
beginning_sound : (journal : List Entry) (name : List ℕ) (query : Query) (limits : Quota) →
    IsSoundSearch journal name limits (beginning journal name query limits.work)
unfolding new_search
beginning_sound journal name query limits = record {
  opened = le_refl (length journal);
  asker = refl;
  view = ap (λ (j : List Entry). view j name) (sym (take_all (length journal) journal (le_refl (length journal))));
  work = refl;
  settled = inl (nothing_yet query limits.work (record { asker = name; vaults = view journal name }));
  computation = sound_started 0 Start;
}

opening_sound : (h : HallState) (name : List ℕ) (query : Query) (n : ℕ) (t : Tenant) → IsSound h → get h.tenants name ≡ Some t →
    n ≡ t.opens + 1 →
    EachOf (SoundIn h.journal name (opening h.journal name query n t)) (opening h.journal name query n t).searches
opening_sound h name query n t sound found next =
    inserted_each (SoundIn h.journal name (opening h.journal name query n t)) t.searches n
    (beginning h.journal name query t.limits.work)
    (λ k r at. let s : SoundIn h.journal name t k r = sound name t k r found at in (s.0, omega (arith, s.1, next), s.2))
    (omega (arith, next), le_refl n, beginning_sound h.journal name query t.limits)

-- the number that is told is the next one
told_next : (old new : HallState) (name : List ℕ) (query : Query) (told : Reply) →
    IsServed old name (request.Seek query) told new →
    (n : ℕ) (t : Tenant) → told ≡ Opened n → get old.tenants name ≡ Some t → n ≡ t.opens + 1
told_next old new name query told served n t said found =
    let (b, is, answers) = rw found at served.answers in
    opened_next answers n said

pub served_sound : (old new : HallState) (name : List ℕ) (q : Request) (told : Reply) → IsSound old →
    IsServed old name q told new → IsSound new
served_sound old new name q told sound served =
    let (more, grown) = entered_more old.journal (record { tenant = name; deed = asks q; reply = told }) in
    rw served.after
    (subst (λ (j : List Entry). EachSearch (SoundIn j) (hall_after old name q told))
    (sym (requested_journal old name q told ∙ grown))
    (all_grown old.journal more (hall_after old name q told)
    (requested_each old name (SoundIn old.journal) q told sound
    (λ query n t is said found. opening_sound old name query n t sound found
    (told_next old new name query told (rw is at served) n t said found))
    (λ k t found j r at. sound name t j r found at))))

-- a search that goes on
search_goes : (journal : List Entry) (name : List ℕ) (limits : Quota) (r : Running) (s : SearchState) →
    SearchGoesOn r.search s → IsSoundStage s.stage → IsSoundSearch journal name limits r →
    IsSoundSearch journal name limits (record r { search = s })
search_goes journal name limits r s goes computation sound = record {
  opened = sound.opened;
  asker = ap (λ (x : SnapshotState). x.asker) goes.question.snapshot ∙ sound.asker;
  view = ap (λ (x : SnapshotState). x.vaults) goes.question.snapshot ∙ sound.view;
  work = goes.question.work ∙ sound.work;
  settled = subst₂ (λ (x : SnapshotState) (q : Query). MaySettle limits.work (credentials x.vaults) q Nothing (settled_of s))
      (sym goes.question.snapshot) (sym goes.question.query)
      (settles_twice limits.work (credentials r.search.snapshot.vaults) r.search.query
      Nothing (settled_of r.search) (settled_of s) sound.settled (rw (← sound.work) goes.settles));
  computation = computation;
}

pub goes_sound : (h : HallState) (name : List ℕ) (k : ℕ) (r : Running) (s : SearchState) → IsSound h →
    search_at h name k ≡ Some r → SearchGoesOn r.search s → IsSoundStage s.stage →
    IsSound (with_search h name k (record r { search = s }))
goes_sound h name k r s sound at goes computation =
    replaced_each (SoundIn h.journal) h name k r (record r { search = s }) (λ t m j u here. here) at
    (λ t here. (here.0, here.1, search_goes h.journal name t.limits r s goes computation here.2)) sound

pub stepped_sound : (old new : HallState) (made : Step) (answer : Stepped) → IsSound old → IsStepped old made answer new → IsSound new
stepped_sound old new made answer sound = by (search_at old (search_of_step made).0 (search_of_step made).1) refl
  where
    by : (o : Option Running) → search_at old (search_of_step made).0 (search_of_step made).1 ≡ o → GoesOnAt old (search_of_step made).0 (search_of_step made).1 o (answer ≡ Gone) (λ s t. StepsSearch s made answer t) new →
        IsSound new
    by None none steps = rw steps.1 sound
    by (Some r) at (s, steps, after) =
        rw after (goes_sound old (search_of_step made).0 (search_of_step made).1 r s sound at (step_goes_on r.search s made answer steps) steps.sound)

pub events_keep : (old new : HallState) (e : Event) (told : Reply) → IsSound old → Happens old e told new → IsSound new
events_keep old new (event.Request name q) told sound served = served_sound old new name q told sound served
events_keep old new (event.Step made) told sound (answer, is, stepped) = stepped_sound old new made answer sound stepped

driven_sound : (old new : HallState) (name : List ℕ) (k : ℕ) → IsSound old → GoesOnAt old name k (search_at old name k) (Unit {0}) IsCarriedOn new →
    IsSound new
driven_sound old new name k sound = by (search_at old name k) refl
  where
    by : (o : Option Running) → search_at old name k ≡ o → GoesOnAt old name k o (Unit {0}) IsCarriedOn new → IsSound new
    by None none (nothing, is) = rw is sound
    by (Some r) at (s, carried, is) = rw is (goes_sound old name k r s sound at (drives_on r.search s carried.driven) carried.sound)

-- a deed that was carried out keeps what holds of every hall
pub carried_sound : (old new : HallState) (name : List ℕ) (deed : Deed) (told : Reply) → IsSound old →
    CarriesOut old name deed told new → IsSound new
carried_sound old new name (asks q) told sound served = served_sound old new name q told sound served
carried_sound old new name (waits k) told sound (middle, drives, served) =
    served_sound middle new name (request.Poll k) told (driven_sound old middle name k sound drives) served

pub new_sound : (roster : List (List ℕ × Quota)) → IsSound (new_hall roster)
new_sound roster = new_each (SoundIn []) roster
