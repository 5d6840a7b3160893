-- What one tenant has, and what answers a request of it: its own account, and what it has in sight, alone. No letter stands here.
use Rattle.std.specs.Prelude.{◌≡◌, ◌⊎◌, ℕ, ◌+◌, nat_le, List, [], ◌∷◌, ◌++◌, length, find, Option, None, Some, option_map, if◌then◌else◌}
use Rattle.std.specs.{Option.option_or, Ordering.nat_cmp}
use Rattle.std.specs.FinMap.{FinMap, empty, get, insert, remove, len}
use Rattle.quotas.specs.Quota.{Quota}
use Rattle.names.specs.Name.{is_same}
use Rattle.rt0_rules.specs.Membership.{IsMember}
use Rattle.vaults.specs.declared.{changes.Change.Change, changes.Entry.Entry, marks.Seen.Seen}
use Rattle.vaults.specs.declared.changes.Change.TheVariants.{Upload, Grant, GrantAll, Revoke, RevokeAll}
use Rattle.vaults.specs.Journal.{Vault, vault, view, marked_names, grant_count, refusal, credentials}
use Rattle.search.specs.declared.queries.Query.{Query}
use Rattle.search.specs.Ending.{Settled, Nothing, Yes, No, Members, Spent, Broken, asked_role}
use Rattle.search.specs.Search.{IsAnswered, status_of}
use Rattle.proof_trees.specs.{declared.steps.Step.Step as ProofStep, Proof.IsProof}
pub use Rattle.proof_trees.specs.Text.{proof_text}
use Rattle.hall.specs.declared.{faults.Fault.Fault, calls.requests.Request.Request, calls.answers.Answer.Answer, calls.replies.Reply.Reply}
use Rattle.hall.specs.declared.faults.Fault.TheVariants as fault
use Rattle.hall.specs.declared.calls.requests.Request.TheVariants as request
use Rattle.hall.specs.declared.calls.answers.Answer.TheVariants as answer
use Rattle.hall.specs.declared.calls.replies.Reply.TheVariants as reply
use Rattle.hall.specs.Fault.{vault_fault}

-- a search that has not ended: what was asked, over which view, and what it has come to
pub record Asked : Type 0 where
  pub query : Query
  pub view : List Vault
  pub settled : Settled

-- a tenant's limits, its entries of the journal, how many searches it opened, and those that it has not ended, by number
pub record Account : Type 0 where
  pub limits : Quota
  pub entries : List Entry
  pub opens : ℕ
  pub searches : FinMap nat_cmp Asked

-- a tenant that has done nothing
abbrev pub new_account : Quota → Account
new_account limits = record { limits = limits; entries = []; opens = 0; searches = empty }

-- what a name of a roster begins with
abbrev pub start_of : List ℕ → List (List ℕ × Quota) → Option Account
start_of name roster = option_map (λ row. new_account row.1) (find (λ row. is_same row.0 name) roster)

-- the limit on credentials or on grants that a change has reached
abbrev pub kind_full : Account → List ℕ → Change → Option Fault
kind_full a tenant (Upload c) = if nat_le a.limits.creds (length (vault a.entries tenant)) then Some fault.Creds else None
kind_full a tenant (Grant reader) = if nat_le a.limits.grants (grant_count a.entries tenant) then Some fault.Grants else None
kind_full a tenant GrantAll = if nat_le a.limits.grants (grant_count a.entries tenant) then Some fault.Grants else None
kind_full a tenant _ = None

-- the refusal that a change is due: that of all changes, that of its kind, then the journal's own
abbrev pub alter_refusal : Account → List ℕ → Change → Option Fault
alter_refusal a tenant change =
    if nat_le a.limits.changes (length a.entries) then Some fault.Changes
    else option_or (kind_full a tenant change) (option_map vault_fault (refusal a.entries tenant change))

-- the refusal that an opening is due
abbrev pub seek_refusal : Account → Option Fault
seek_refusal a =
    if nat_le a.limits.searches (len a.searches) then Some fault.Searches
    else (if nat_le a.limits.opens a.opens then Some fault.Opens else None)

-- what a request looks at of what others hold: the vaults that its tenant reads, or their names with the marks
pub record Sight : Type 0 where
  pub vaults : List Vault
  pub names : List Seen

-- an opening looks at the vaults, `sees` at the names, and no other request at anything
abbrev pub sight : List Entry → List ℕ → Request → Sight
sight journal tenant (request.Seek query) = record { vaults = view journal tenant; names = [] }
sight journal tenant request.Sees = record { vaults = []; names = marked_names journal tenant }
sight journal tenant _ = record { vaults = []; names = [] }

-- what is told of a search
abbrev pub answer_of : Settled → Answer
answer_of Nothing = answer.Working
answer_of Yes = answer.Yes
answer_of No = answer.No
answer_of (Members names) = answer.Members names
answer_of Spent = answer.Spent
answer_of Broken = answer.Broken

-- the search isn't there, has no answer, or the entity is no member
abbrev pub RefusesProof : Option Asked → List ℕ → Fault → Type 0
RefusesProof None who f = f ≡ fault.NoSuchSearch
RefusesProof (Some s) who f =
    ((f ≡ fault.NotDone) × (IsAnswered (status_of s.settled) → ⊥))
    ⊎ ((f ≡ fault.NoProof) × IsAnswered (status_of s.settled) × (IsMember (credentials s.view) who (asked_role s.query) → ⊥))

-- the request is due this refusal
abbrev pub Refuses : List ℕ → Account → Request → Fault → Type 0
Refuses tenant a (request.Alter change) f = alter_refusal a tenant change ≡ Some f
Refuses tenant a (request.Seek query) f = seek_refusal a ≡ Some f
Refuses tenant a (request.Poll k) f = (get a.searches k ≡ None) × (f ≡ fault.NoSuchSearch)
Refuses tenant a (request.Close k) f = (get a.searches k ≡ None) × (f ≡ fault.NoSuchSearch)
Refuses tenant a (request.Proof k who) f = RefusesProof (get a.searches k) who f
Refuses tenant a _ f = ⊥

-- the reply to the request where no refusal is due, and the account after it
abbrev pub Grants : List ℕ → Sight → Account → Request → Reply → Account → Type 0
Grants tenant sees a (request.Alter change) told b =
    (told ≡ reply.Counted (length a.entries + 1))
    × (b ≡ record a { entries = a.entries ++ record { tenant = tenant; change = change } ∷ [] })
Grants tenant sees a (request.Seek query) told b =
    (told ≡ reply.Opened (a.opens + 1))
    × (b ≡ record a {
      opens = a.opens + 1;
      searches = insert a.searches (a.opens + 1) (record { query = query; view = sees.vaults; settled = Nothing });
    })
Grants tenant sees a (request.Poll k) told b =
    (s : Asked) × (get a.searches k ≡ Some s) × (told ≡ reply.Answered (answer_of s.settled)) × (b ≡ a)
Grants tenant sees a (request.Close k) told b = (told ≡ reply.Closed) × (b ≡ record a { searches = remove a.searches k })
Grants tenant sees a request.Vault told b = (told ≡ reply.Vault (vault a.entries tenant)) × (b ≡ a)
Grants tenant sees a request.Sees told b = (told ≡ reply.Sees sees.names) × (b ≡ a)
Grants tenant sees a (request.Proof k who) told b =
    (s : Asked) × (steps : List ProofStep) × (get a.searches k ≡ Some s)
    × IsProof (credentials s.view) (asked_role s.query) who steps × (told ≡ reply.Proof steps) × (b ≡ a)

-- memory may lack for each request but a revocation and an ending, and for a poll only where it lists members
abbrev pub MayLack : Account → Request → Type 0
MayLack a (request.Alter (Revoke reader)) = ⊥
MayLack a (request.Alter RevokeAll) = ⊥
MayLack a (request.Poll k) = (s : Asked) × (names : List (List ℕ)) × (get a.searches k ≡ Some s) × (s.settled ≡ Members names)
MayLack a (request.Close k) = ⊥
MayLack a _ = Unit {0}

-- no refusal is due
abbrev pub IsClear : List ℕ → Account → Request → Type 0
IsClear tenant a q = (f : Fault) → Refuses tenant a q f → ⊥

-- the reply to a request and the account after it: a refusal that is due, else what was asked for, or that memory lacked
pub data Answers (tenant : List ℕ) (sees : Sight) (a : Account) (q : Request) : Reply → Account → Type 0 where
  refuses : (f : Fault) → Refuses tenant a q f → Answers tenant sees a q (reply.Refused f) a
  grants : {told : Reply} {b : Account} → IsClear tenant a q → Grants tenant sees a q told b → Answers tenant sees a q told b
  lacks : IsClear tenant a q → MayLack a q → Answers tenant sees a q (reply.Refused fault.Memory) a

-- whatever account has this search under whatever number, its request for it is told this, and changes nothing
abbrev pub IsToldOver : Asked → (ℕ → Request) → Reply → Type 0
IsToldOver s wanted told =
    (tenant : List ℕ) (sees : Sight) (a : Account) (k : ℕ) → get a.searches k ≡ Some s → Answers tenant sees a (wanted k) told a
