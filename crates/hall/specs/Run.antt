-- What one tenant is told, one turn after another, by its own account and by what it has in sight alone; and when that is right.
use Rattle.std.specs.Prelude.{◌≡◌, ◌≢◌, ℕ, List, [], ◌∷◌, ◌++◌, Option, None, Some, if◌then◌else◌}
use Rattle.std.specs.{List.AllByRecursion, List.Contains, FinMap.get, FinMap.insert}
use Rattle.names.specs.{Name.is_same, declared.roles.Role.Role}
use Rattle.credential_text.specs.declared.credentials.Credential.{Credential}
use Rattle.rt0_rules.specs.Membership.{IsMember}
use Rattle.quotas.specs.Quota.{Quota}
use Rattle.vaults.specs.declared.changes.Entry.{Entry}
use Rattle.vaults.specs.Journal.{credentials}
use Rattle.search.specs.declared.queries.Query.{Query}
use Rattle.search.specs.Ending.{Settled, Nothing, IsEnding, MaySettle, asked_role}
use Rattle.proof_trees.specs.{declared.steps.Step.Step as ProofStep, Proof.IsProof}
use Rattle.hall.specs.declared.calls.events.Event.{Event}
use Rattle.hall.specs.declared.faults.Fault.TheVariants.{NotDone, NoProof, NoTenant, Memory}
use Rattle.hall.specs.declared.calls.answers.Answer.{Answer, TheVariants.Working, TheVariants.Broken}
use Rattle.hall.specs.declared.calls.requests.Request.{Request, TheVariants.Alter, TheVariants.Poll}
use Rattle.hall.specs.declared.calls.requests.Request.TheVariants as request
use Rattle.hall.specs.declared.calls.replies.Reply.{Reply}
use Rattle.hall.specs.declared.calls.replies.Reply.TheVariants.{Counted, Opened, Answered, Proof, Refused}
use Rattle.hall.specs.declared.calls.events.Event.TheVariants as event
use Rattle.hall.specs.Answers.{Asked, Account, start_of, Sight, sight, answer_of, Answers}

-- a request, or a wait for the search of this number
pub data Deed : Type 0 where
  asks : Request → Deed
  waits : ℕ → Deed

-- a wait counts as a poll
abbrev pub request_of : Deed → Request
request_of (asks q) = q
request_of (waits k) = Poll k

-- what a tenant did, and was told
pub record Told : Type 0 where
  pub tenant : List ℕ
  pub deed : Deed
  pub reply : Reply

-- the requests of a run of a hall, with their replies: a step is no tenant's
abbrev pub told_in : List Event → List Reply → List Told
told_in (event.Request name q ∷ events) (told ∷ replies) = record { tenant = name; deed = asks q; reply = told } ∷ told_in events replies
told_in (event.Step made ∷ events) (told ∷ replies) = told_in events replies
told_in _ _ = []

-- the journal grows by an accepted change, and by nothing else
abbrev pub entered : List Entry → Told → List Entry
entered journal t = by t.deed t.reply where
  by : Deed → Reply → List Entry
  by (asks (Alter change)) (Counted n) = journal ++ record { tenant = t.tenant; change = change } ∷ []
  by _ _ = journal

-- a tenant's deed, with what it had in sight, and what it was told
pub record Turn : Type 0 where
  pub sees : Sight
  pub deed : Deed
  pub reply : Reply

-- the tenant's own turns, each with what it had in sight
abbrev pub told_to : List ℕ → List Entry → List Told → List Turn
told_to tenant journal [] = []
told_to tenant journal (t ∷ more) =
    (if is_same t.tenant tenant
    then record { sees = sight journal tenant (request_of t.deed); deed = t.deed; reply = t.reply } ∷ []
    else [])
    ++ told_to tenant (entered journal t) more

-- when a search may settle: at any time, where others make its steps; or where its tenant waits for it, and then it does
pub data When : Type 0 where
  any_time : When
  at_waits : When

-- a search settles once, and with what it may come to, or stays; no other search comes or goes
abbrev pub GoesOn : ℕ → Option Asked → Option Asked → Type 0
GoesOn limit None new = new ≡ None
GoesOn limit (Some s) new =
    (settled : Settled) × MaySettle limit (credentials s.view) s.query s.settled settled × (new ≡ Some (record s { settled = settled }))

-- between two turns searches may settle where they may at any time, and nothing else happens
abbrev pub Between : When → Account → Account → Type 0
Between at_waits a b = b ≡ a
Between any_time a b =
    (b ≡ record a { searches = b.searches }) × ((k : ℕ) → GoesOn a.limits.work (get a.searches k) (get b.searches k))

-- the search that is waited for has come to its end, where there is one
abbrev pub Ends : Account → ℕ → Option Asked → Account → Type 0
Ends a k None b = b ≡ a
Ends a k (Some s) b =
    (settled : Settled) × (settled ≢ Nothing) × MaySettle a.limits.work (credentials s.view) s.query s.settled settled
    × (b ≡ record a { searches = insert a.searches k (record s { settled = settled }) })

-- a request is answered by the account; a wait ends its search, and is then a poll
abbrev pub IsTaken : List ℕ → Account → Sight → Deed → Reply → Account → Type 0
IsTaken tenant a sees (asks q) told b = Answers tenant sees a q told b
IsTaken tenant a sees (waits k) told b = (m : Account) × Ends a k (get a.searches k) m × Answers tenant sees m (Poll k) told b

-- one turn after another
abbrev pub IsRun : When → List ℕ → Account → List Turn → Account → Type 0
IsRun when tenant a [] c = Between when a c
IsRun when tenant a (turn ∷ more) c =
    (before : Account) × (after : Account) × Between when a before × IsTaken tenant before turn.sees turn.deed turn.reply after
    × IsRun when tenant after more c

-- the same, of a name that may be no tenant's: such a one is refused each time
abbrev pub IsRunOf : When → List ℕ → Option Account → List Turn → Option Account → Type 0
IsRunOf when tenant None turns end = AllByRecursion (λ (t : Turn). t.reply ≡ Refused NoTenant) turns × (end ≡ None)
IsRunOf when tenant (Some a) turns end = (b : Account) × (end ≡ Some b) × IsRun when tenant a turns b

-- to each tenant of a roster what was told is a run of its own turns that begins with nothing done and nothing entered
abbrev pub AreRuns : When → List (List ℕ × Quota) → List Told → Type 0
AreRuns when roster told =
    (tenant : List ℕ) → (end : Option Account) × IsRunOf when tenant (start_of tenant roster) (told_to tenant [] told) end

-- two proofs of one membership, from the same credentials
pub record ProveTheSame (first second : List ProofStep) : Type 0 where
  pub credentials : List Credential
  pub role : Role
  pub who : List ℕ
  pub one : IsProof credentials role who first
  pub other : IsProof credentials role who second

-- that the search still works, or is not done, beside what else may be told of it
pub data IsEarly : Reply → Reply → Type 0 where
  works : {a : Answer} → IsEarly (Answered Working) (Answered a)
  no_proof_yet : IsEarly (Refused NotDone) (Refused NoProof)
  proof_later : {steps : List ProofStep} → IsEarly (Refused NotDone) (Proof steps)

-- two replies to one request are equal or prove the same; where searches may settle at any time, one may be early
pub data Agree (when : When) : Reply → Reply → Type 0 where
  same : {r : Reply} → Agree when r r
  proofs : {p q : List ProofStep} → ProveTheSame p q → Agree when (Proof p) (Proof q)
  first_early : {r s : Reply} → when ≡ any_time → IsEarly r s → Agree when r s
  second_early : {r s : Reply} → when ≡ any_time → IsEarly s r → Agree when r s

-- no memory lacked for a turn, and no search that was asked for was broken by that
abbrev pub HasMemory : List Turn → Type 0
HasMemory turns = AllByRecursion (λ (t : Turn). (t.reply ≢ Refused Memory) × (t.reply ≢ Answered Broken)) turns

-- the same deed, with the same in sight
abbrev pub IsSameDeed : Turn → Turn → Type 0
IsSameDeed s t = (s.sees ≡ t.sees) × (s.deed ≡ t.deed)

-- an opening of this search
abbrev pub opens : ℕ → Query → Sight → Turn
opens k query sees = record { sees = sees; deed = asks (request.Seek query); reply = Opened k }

-- the search of this number was opened, and for each such opening this holds of its query and of the credentials then in sight
pub record OfOpening (before : List Turn) (k : ℕ) (holds : Query → List Credential → Type 0) : Type 0 where
  pub opened : (query : Query) × (sees : Sight) × Contains before (opens k query sees)
  pub right : (query : Query) (sees : Sight) → Contains before (opens k query sees) → holds query (credentials sees.vaults)

-- what is told of a search is right: that it ended, how it did; a proof is one; and where there is none the entity is no member
abbrev pub IsRight : ℕ → List Turn → Request → Reply → Type 0
IsRight work before (request.Poll k) (Answered a) =
    (s : Settled) → a ≡ answer_of s → s ≢ Nothing → OfOpening before k (λ query C. IsEnding work C query s)
IsRight work before (request.Proof k who) (Proof steps) = OfOpening before k (λ query C. IsProof C (asked_role query) who steps)
IsRight work before (request.Proof k who) (Refused NoProof) = OfOpening before k (λ query C. IsMember C who (asked_role query) → ⊥)
IsRight work before _ _ = Unit {0}
