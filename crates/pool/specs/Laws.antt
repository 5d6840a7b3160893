-- What follows for tenants from what a desk told them: of each thing that was told, of each turn, and of each session.
use Rattle.std.specs.Prelude.{◌≡◌, ◌+◌, ◌&&◌, ◌==◌, ℕ, Bool, true, false, List, [], ◌∷◌, ◌++◌, length, map, Some}
use Rattle.std.specs.List.{AllZip, filter, fold, zip}
use Rattle.names.specs.Name.{is_same}
use Rattle.quotas.specs.Quota.{Quota}
use Rattle.vaults.specs.Journal.{entries_of, vault, marked_names}
use Rattle.search.specs.Search.{SearchState}
use Rattle.hall.specs.declared.calls.{requests.Request.Request, replies.Reply.Reply}
use Rattle.hall.specs.declared.calls.requests.Request.TheVariants as request
use Rattle.hall.specs.declared.calls.replies.Reply.TheVariants as reply
use Rattle.hall.specs.{Answers.new_account, Answers.start_of, Hall.HallState, Hall.known, Hall.IsSound}
use Rattle.hall.specs.Run.{Deed, asks, request_of, Told, entered, told_to, any_time, AreRuns, IsRight, IsSameDeed, HasMemory, Agree}
use Rattle.pool.specs.declared.turns.Item.{Item}
use Rattle.pool.specs.Histories.{name_of, own_of, turn, is_turn, AreTold, IsLegal, ReadsIn, IsReadOff}

-- whatever a tenant was told by an item of a legal history is right, by what that tenant was told before
abbrev pub HistoriesAreTrue : Type 0
HistoriesAreTrue =
    (roster : List (List ℕ × Quota)) (items : List Item) (told before after : List Told) (t : Told) (limits : Quota)
    → IsLegal roster items → AreTold items told → told ≡ before ++ t ∷ after → start_of t.tenant roster ≡ Some (new_account limits)
    → IsRight limits.work (told_to t.tenant [] before) (request_of t.deed) t.reply

-- two legal histories, perhaps of services with other tenants, in which a tenant begins alike, does and sees the same tell it what agrees
abbrev pub HistoriesAgree : Type 0
HistoriesAgree =
    (tenant : List ℕ) (roster others : List (List ℕ × Quota)) (items more : List Item) (told said : List Told)
    → IsLegal roster items → AreTold items told → IsLegal others more → AreTold more said
    → start_of tenant roster ≡ start_of tenant others → AllZip IsSameDeed (told_to tenant [] told) (told_to tenant [] said)
    → HasMemory (told_to tenant [] told) → HasMemory (told_to tenant [] said)
    → AllZip (λ s t. Agree any_time s.reply t.reply) (told_to tenant [] told) (told_to tenant [] said)

-- a request that reads a search of a sound hall is told something
abbrev pub ReadsAreTold : Type 0
ReadsAreTold =
    (h : HallState) (who : List ℕ) (q : Request) (s : SearchState) → IsSound h → ReadsIn h who q s
    → (told : Reply) × IsReadOff (known s) q told

-- a search was opened
abbrev pub is_opening : Deed → Reply → Bool
is_opening (asks (request.Seek query)) (reply.Opened n) = true
is_opening _ _ = false

-- An accepted change is told how many of its tenant's were accepted, and an opening how many searches its tenant opened, itself
-- among them; a tenant is told its own vault, and whom it reads, as the journal then has them
abbrev pub IsExactReply : List Told → List ℕ → Request → Reply → Type 0
IsExactReply before who (request.Alter change) (reply.Counted n) = n ≡ length (entries_of who (fold entered [] before)) + 1
IsExactReply before who (request.Seek query) (reply.Opened n) =
    n ≡ length (filter (λ t. is_same t.tenant who && is_opening t.deed t.reply) before) + 1
IsExactReply before who request.Vault (reply.Vault rows) = rows ≡ vault (fold entered [] before) who
IsExactReply before who request.Sees (reply.Sees seen) = seen ≡ marked_names (fold entered [] before) who
IsExactReply before who q answer = Unit {0}

-- what a tenant is told by an item of a legal history is exactly that
abbrev pub RepliesAreExact : Type 0
RepliesAreExact =
    (roster : List (List ℕ × Quota)) (items : List Item) (before after : List Told) (who : List ℕ) (q : Request) (answer : Reply)
    → IsLegal roster items → AreTold items (before ++ turn who q answer ∷ after) → IsExactReply before who q answer

-- what sessions were told by the items of their names stands, and nothing else under these, in one list that is a run to each tenant
abbrev pub SessionsAreRuns : Type 0
SessionsAreRuns =
    (roster : List (List ℕ × Quota)) (items : List Item) (lines : ℕ → List Told) → IsLegal roster items
    → ((name : ℕ) → AreTold (own_of name items) (lines name))
    → (told : List Told) × AreTold items told × AreRuns any_time roster told
    × ((name : ℕ) → map (λ p. p.1) (filter (λ p. name_of p.0 == name) (zip (filter is_turn items) told)) ≡ lines name)
