-- What a call by a pass came to, in the one history of all that tenants were told.
use Rattle.std.specs.Prelude.{◌≡◌, ◌⊎◌, ◌++◌, ◌∷◌, [], ℕ, List, Result, Ok, Err, IfOk, IfSome}
use mathlib.Core.List.{IsPrefix}
use Rattle.std.specs.Arc.{arc_value}
use Rattle.snapshots.specs.Snapshot.{SnapshotState}
use Rattle.search.specs.declared.queries.Query.{Query}
use Rattle.search.specs.Search.{SearchState}
use Rattle.hall.specs.declared.faults.Fault.TheVariants.{Memory}
use Rattle.hall.specs.declared.calls.answers.Answer.{Answer, TheVariants.Working}
use Rattle.hall.specs.declared.calls.{requests.Request.Request, replies.Reply.Reply}
use Rattle.hall.specs.declared.calls.requests.Request.TheVariants as request
use Rattle.hall.specs.declared.calls.replies.Reply.TheVariants as reply
use Rattle.hall.specs.Hall.{known}
use Rattle.hall.specs.Work.{StillWorks}
use Rattle.pool.specs.declared.{faults.DeskFault.DeskFault, faults.DeskFault.TheVariants.Hall, turns.Item.Item, verdicts.Verdict.Verdict}
use Rattle.pool.specs.declared.turns.Item.TheVariants as item
use Rattle.pool.specs.Histories.{own_of, HasStop, turn, Admits, ReadsIn, number_read, IsOpening}
use Rattle.pool.specs.Passes.{PassState}
use Rattle.pool.specs.Rooms.{RoomState, IsKept}

-- the history went on from what the pass had seen to this item, which it has seen last: one call more of its own, and the only one
pub record IsNext (old new : PassState) (i : Item) : Type 0 where
  pub before : List Item
  pub began : IsPrefix old.seen before
  pub last : new.seen ≡ before ++ i ∷ []
  pub own : own_of old.name new.seen ≡ own_of old.name old.seen ++ i ∷ []
  pub pass : new ≡ record old { seen = new.seen }

-- the request of the pass's tenant was told this, by such an item
abbrev pub IsTold : PassState → PassState → Request → Reply → Type 0
IsTold old new q told = (i : Item) × IsNext old new i × Admits i (turn old.tenant q told)

-- what a call came to is told so: its value by such a reply, and a refusal, which is the hall's
abbrev pub IsAnswered : {X : Type 0} → (X → Reply) → (Reply → Type 0) → Result X DeskFault → Type 0
IsAnswered tells MayTell (Ok x) = MayTell (tells x)
IsAnswered tells MayTell (Err (Hall fault)) = MayTell (reply.Refused fault)
IsAnswered tells MayTell (Err _) = ⊥

-- a request of each kind is told a reply of its kind, or refused
abbrev pub Suits : Request → Reply → Type 0
Suits q (reply.Refused fault) = Unit {0}
Suits (request.Alter change) (reply.Counted n) = Unit {0}
Suits (request.Seek query) (reply.Opened n) = Unit {0}
Suits (request.Poll k) (reply.Answered answer) = Unit {0}
Suits (request.Close k) reply.Closed = Unit {0}
Suits request.Vault (reply.Vault rows) = Unit {0}
Suits request.Sees (reply.Sees seen) = Unit {0}
Suits (request.Proof k member) (reply.Proof steps) = Unit {0}
Suits q _ = ⊥

-- a verdict tells so what such a search has come to; memory may lack to tell it, or to share what it reads
abbrev pub IsVerdict : (Reply → Type 0) → (Query → SnapshotState → Type 0) → Result Verdict DeskFault → Type 0
IsVerdict MayTell IsOf (Ok v) = MayTell (reply.Answered v.answer) × IsOf v.query (arc_value v.snapshot)
IsVerdict MayTell IsOf (Err (Hall fault)) =
    MayTell (reply.Refused fault) ⊎ ((fault ≡ Memory) × ((answer : Answer) × MayTell (reply.Answered answer)))
IsVerdict MayTell IsOf (Err _) = ⊥

-- a poll is told what its verdict tells, and that is on the search that the history opened
abbrev pub IsPolled : PassState → PassState → ℕ → Result Verdict DeskFault → Type 0
IsPolled old new k result = IsVerdict (IsTold old new (request.Poll k)) (IsOpening new.seen old.tenant k) result

-- a poll by which nothing yet is told only where the pass has seen that the desk was stopped
abbrev pub IsWaited : PassState → PassState → ℕ → Result Verdict DeskFault → Type 0
IsWaited old new k result = IsPolled old new k result × IfOk result (λ v. v.answer ≡ Working → HasStop new.seen)

-- the request of the pass's tenant reads this search, as the last item says; and it is one that the history opened
pub record IsLent (at : RoomState) (old new : PassState) (q : Request) (s : SearchState) : Type 0 where
  pub kept : IsKept at
  pub began : IsPrefix at.told new.seen
  pub next : IsNext old new (item.Read old.name old.tenant q (known s))
  pub reads : ReadsIn at.hall old.tenant q s
  pub opening : IfSome (number_read q) (λ k. IsOpening new.seen old.tenant k s.query s.snapshot)

-- a poll in this room, of which the pass has seen all that was told
pub record IsPolledIn (at : RoomState) (old new : PassState) (k : ℕ) (result : Result Verdict DeskFault) : Type 0 where
  pub polled : IsPolled old new k result
  pub seen : IsPrefix at.told new.seen
  pub working : IfOk result (λ v. v.answer ≡ Working → StillWorks at.hall (old.tenant, k))
