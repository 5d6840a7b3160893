-- All that tenants were told, in one order, whose each item is, and the hall in which the history ends.
use Rattle.std.specs.Prelude.{◌≡◌, ◌==◌, ℕ, Bool, true, false, List, [], ◌∷◌, ◌++◌, Option, None, Some, IsSomeAnd, option_map}
use Rattle.std.specs.{List.filter, List.fold, List.AllZip, List.Contains, FinMap.get}
use Rattle.quotas.specs.Quota.{Quota}
use Rattle.vaults.specs.declared.changes.Entry.{Entry}
use Rattle.vaults.specs.Journal.{view}
use Rattle.snapshots.specs.Snapshot.{SnapshotState}
use Rattle.search.specs.declared.queries.Query.{Query}
use Rattle.search.specs.Search.{SearchState}
use Rattle.hall.specs.declared.calls.{events.Event.Event, replies.Reply.Reply, replies.Reply.TheVariants.Opened}
use Rattle.hall.specs.declared.calls.requests.Request.{Request, TheVariants.Seek, TheVariants.Poll, TheVariants.Proof}
use Rattle.hall.specs.Answers.{Asked, Account, Sight, Answers, start_of}
use Rattle.hall.specs.Run.{asks, Told, told_in, entered, told_to, any_time, IsRunOf, AreRuns}
use Rattle.hall.specs.Hall.{HallState, EachSearch, known, search_at, account_of, IsSound, Run, told_as}
use Rattle.hall.specs.Work.{IsCompletedAt}
use Rattle.pool.specs.declared.turns.{Item.Item, Noted.Noted}
use Rattle.pool.specs.declared.turns.Item.TheVariants as item
use Rattle.pool.specs.declared.turns.Noted.TheVariants as noted

-- the name under which the item was added
abbrev pub name_of : Item → ℕ
name_of (item.Told name who q told) = name
name_of (item.Read name who q s) = name
name_of (item.Stopped name) = name

-- the items of one name, in order
abbrev pub own_of : ℕ → List Item → List Item
own_of name items = filter (λ i. name_of i == name) items

-- the name under which a front adds, and the beginning of the history that it has seen
pub record FrontState : Type 0 where
  pub name : ℕ
  pub seen : List Item

-- the desk was stopped
abbrev pub HasStop : List Item → Type 0
HasStop items = (name : ℕ) × Contains items (item.Stopped name)

-- a request of the tenant, and what it was told
abbrev pub turn : List ℕ → Request → Reply → Told
turn tenant q told = record { tenant = tenant; deed = asks q; reply = told }

-- what was told is a run to each tenant, and the hall is the one in which it ends
pub record EndsIn (roster : List (List ℕ × Quota)) (told : List Told) (h : HallState) : Type 0 where
  pub journal : h.journal ≡ fold entered [] told
  pub runs : (tenant : List ℕ) → IsRunOf any_time tenant (start_of tenant roster) (told_to tenant [] told) (account_of h tenant)

-- what happens to a sound hall goes on with what was told before
abbrev pub HistoriesGoOn : Type 0
HistoriesGoOn =
    (roster : List (List ℕ × Quota)) (told : List Told) (old new : HallState) (events : List Event) (replies : List Reply)
    → IsSound old → EndsIn roster told old → Run old events replies new → EndsIn roster (told ++ told_in events replies) new

-- the number of the search that the request reads
abbrev pub number_read : Request → Option ℕ
number_read (Poll k) = Some k
number_read (Proof k member) = Some k
number_read _ = None

-- whatever account has this search, its request that reads it is told this, and changes nothing
abbrev pub IsReadOff : Asked → Request → Reply → Type 0
IsReadOff s q told =
    (tenant : List ℕ) (sees : Sight) (a : Account) → IsSomeAnd (number_read q) (λ k. get a.searches k ≡ Some s)
    → Answers tenant sees a q told a

-- what a tenant may have been told by an item: one reply, or one that is made of the search that was read
abbrev pub Admits : Item → Told → Type 0
Admits (item.Told name who q told) t = t ≡ turn who q told
Admits (item.Read name who q s) t = (told : Reply) × IsReadOff s q told × (t ≡ turn who q told)
Admits (item.Stopped name) t = ⊥

-- by a stop nobody is told anything
abbrev pub is_turn : Item → Bool
is_turn (item.Stopped name) = false
is_turn _ = true

-- each of these is what was told by an item, and each item by which tenants were told something has one
abbrev pub AreTold : List Item → List Told → Type 0
AreTold items told = AllZip Admits (filter is_turn items) told

-- the journal after one item
abbrev pub entered_by : List Entry → Item → List Entry
entered_by journal (item.Told name who q told) = entered journal (turn who q told)
entered_by journal _ = journal

-- the history is legal: whatever was told by its items is a run to each tenant, and something was
pub record IsLegal (roster : List (List ℕ × Quota)) (items : List Item) : Type 0 where
  pub runs : (told : List Told) → AreTold items told → AreRuns any_time roster told
  pub some : (told : List Told) × AreTold items told

-- by one of the items the tenant opened its search of this number, for this query, over its view of the journal as it was then
pub record IsOpening (items : List Item) (who : List ℕ) (k : ℕ) (query : Query) (shown : SnapshotState) : Type 0 where
  pub name : ℕ
  pub before : List Item
  pub after : List Item
  pub split : items ≡ before ++ item.Told name who (Seek query) (Opened k) ∷ after
  pub sees : shown ≡ record { asker = who; vaults = view (fold entered_by [] before) who }

-- the request reads this search of the hall's and nothing else; for a proof it is completed
abbrev pub ReadsIn : HallState → List ℕ → Request → SearchState → Type 0
ReadsIn h who (Poll k) s = option_map (λ r. r.search) (search_at h who k) ≡ Some s
ReadsIn h who (Proof k member) s = IsCompletedAt h who k s
ReadsIn h who _ s = ⊥

-- the history ends in the hall, whatever was told by its items, and something was; and it has the opening of each search
pub record Reaches (roster : List (List ℕ × Quota)) (items : List Item) (h : HallState) : Type 0 where
  pub journal : h.journal ≡ fold entered_by [] items
  pub ends : (told : List Told) → AreTold items told → EndsIn roster told h
  pub some : (told : List Told) × AreTold items told
  pub opened : EachSearch (λ name t k r. IsOpening items name k r.search.query r.search.snapshot) h

-- the item of what was noted, under the name of a pass
abbrev pub item_of : ℕ → Noted → Item
item_of name (noted.Told who q told) = item.Told name who q.value (told_as (λ r. r) told.value)
item_of name (noted.Read who q s) = item.Read name who q.value (known s.value)
item_of name noted.Stopped = item.Stopped name
