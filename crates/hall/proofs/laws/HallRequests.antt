-- What a request leaves of a hall: its journal has grown at most, other tenants stay, and so do the searches but one.
use Rattle.std.proofs.Common.{◌≡◌, ◌∙◌, ◌+◌, ℕ, Bool, false, cond, List, [], ◌∷◌, ◌++◌, Some, option_map, sym, ap, refl}
use Rattle.std.proofs.Common.{append-nil}
use Rattle.std.specs.FinMap.{get, insert, remove}
use Rattle.names.specs.Name.{is_same}
use Rattle.vaults.specs.declared.changes.Entry.{Entry}
use Rattle.vaults.specs.Journal.{entries_of}
use Rattle.vaults.proofs.LastEntries.{entries_push}
use Rattle.search.specs.declared.queries.Query.{Query}
use Rattle.hall.specs.declared.calls.requests.Request.{Request}
use Rattle.hall.specs.declared.calls.requests.Request.TheVariants as request
use Rattle.hall.specs.declared.calls.replies.Reply.{Reply}
use Rattle.hall.specs.declared.calls.replies.Reply.TheVariants.{Counted, Opened, Closed}
use Rattle.hall.specs.Answers.{Asked, Account, Sight, Answers, refuses, grants, lacks}
use Rattle.hall.specs.Run.{Deed, asks, Told, entered}
use Rattle.hall.specs.Hall.{Running, Tenant, HallState, EachSearch, account, account_of, beginning, hall_after}
use Rattle.hall.proofs.laws.HallChanges.{EachOf, changed_each, changed_elsewhere, removed_each}

-- a tenant with one search more, which is opened now
abbrev pub opening : List Entry → List ℕ → Query → ℕ → Tenant → Tenant
opening journal name query n t =
    record t { opens = n; searches = insert t.searches n (beginning journal name query t.limits.work) }

-- its account then
abbrev pub with_opened : Account → Asked → Account
with_opened a s = record a { opens = a.opens + 1; searches = insert a.searches (a.opens + 1) s }

-- a tenant with one search less
abbrev pub closing : ℕ → Tenant → Tenant
closing k t = record t { searches = remove t.searches k }

-- an account is by its tenant and by the tenant's own entries
pub same_account : (h g : HallState) (name : List ℕ) → get g.tenants name ≡ get h.tenants name →
    entries_of name g.journal ≡ entries_of name h.journal →
    account_of g name ≡ account_of h name
same_account h g name tenants entries =
    ap (option_map (account g.journal name)) tenants
    ∙ λ i. option_map (λ (t : Tenant). record (account h.journal name t) { entries = entries i }) (get h.tenants name)

module _ (h : HallState) (name : List ℕ) where
  -- the journal after a request
  pub requested_journal : (q : Request) (told : Reply) →
      (hall_after h name q told).journal ≡ entered h.journal (record { tenant = name; deed = asks q; reply = told })
  requested_journal (request.Alter change) (Counted n) = refl
  requested_journal (request.Seek query) (Opened n) = refl
  requested_journal (request.Close k) Closed = refl
  requested_journal _ told = refl

  requested_elsewhere : (q : Request) (told : Reply) (other : List ℕ) → is_same name other ≡ false →
      get (hall_after h name q told).tenants other ≡ get h.tenants other
  requested_elsewhere (request.Alter change) (Counted n) other apart = refl
  requested_elsewhere (request.Seek query) (Opened n) other apart =
      changed_elsewhere h name (opening h.journal name query n) other apart
  requested_elsewhere (request.Close k) Closed other apart = changed_elsewhere h name (closing k) other apart
  requested_elsewhere _ told other apart = refl

  -- what holds of each search holds of each after a request, where it does of one just opened and of those beside one that ended
  pub requested_each : (P : List ℕ → Tenant → ℕ → Running → Type 0) (q : Request) (told : Reply) → EachSearch P h →
      ((query : Query) (n : ℕ) (t : Tenant) → q ≡ request.Seek query → told ≡ Opened n → get h.tenants name ≡ Some t →
      EachOf (P name (opening h.journal name query n t)) (opening h.journal name query n t).searches) →
      ((k : ℕ) (t : Tenant) → get h.tenants name ≡ Some t → EachOf (P name (closing k t)) t.searches) →
      EachSearch P (hall_after h name q told)
  requested_each P (request.Alter change) (Counted n) each opens stays = each
  requested_each P (request.Seek query) (Opened n) each opens stays =
      changed_each P h name (opening h.journal name query n) each (λ t found. opens query n t refl refl found)
  requested_each P (request.Close k) Closed each opens stays =
      changed_each P h name (closing k) each (λ t found. removed_each (P name (closing k t)) t.searches k (stays k t found))
  requested_each P _ told each opens stays = each

-- the journal after something was done: it has grown at most
pub entered_more : (journal : List Entry) (t : Told) → (more : List Entry) × (entered journal t ≡ journal ++ more)
entered_more journal t = by t.deed t.reply
  where
    by : (deed : Deed) (told : Reply) →
        (more : List Entry) × (entered journal (record { tenant = t.tenant; deed = deed; reply = told }) ≡ journal ++ more)
    by (asks (request.Alter change)) (Counted n) = (record { tenant = t.tenant; change = change } ∷ [], refl)
    by _ told = ([], sym (append-nil journal))

-- and by no entry of another tenant
entered_elsewhere : (journal : List Entry) (t : Told) (other : List ℕ) → is_same t.tenant other ≡ false →
    entries_of other (entered journal t) ≡ entries_of other journal
entered_elsewhere journal t other apart = by t.deed t.reply
  where
    by : (deed : Deed) (told : Reply) →
        entries_of other (entered journal (record { tenant = t.tenant; deed = deed; reply = told })) ≡ entries_of other journal
    by (asks (request.Alter change)) (Counted n) =
        let e : Entry = record { tenant = t.tenant; change = change } in
        entries_push journal e other ∙ ap (λ (b : Bool). entries_of other journal ++ cond b (e ∷ []) []) apart
        ∙ append-nil (entries_of other journal)
    by _ told = refl

-- a request of another tenant leaves the account
pub requested_account : (h : HallState) (name : List ℕ) (q : Request) (told : Reply) (other : List ℕ) →
    is_same name other ≡ false →
    account_of (hall_after h name q told) other ≡ account_of h other
requested_account h name q told other apart =
    same_account h (hall_after h name q told) other (requested_elsewhere h name q told other apart)
    (ap (entries_of other) (requested_journal h name q told)
    ∙ entered_elsewhere h.journal (record { tenant = name; deed = asks q; reply = told }) other apart)

-- the number of an opened search is the next one
pub opened_next : {tenant : List ℕ} {sees : Sight} {a b : Account} {query : Query} {told : Reply} →
    Answers tenant sees a (request.Seek query) told b →
    (n : ℕ) → told ≡ Opened n → n ≡ a.opens + 1
opened_next (refuses f due) n e = cc
opened_next (grants clear granted) n e = cc granted.0
opened_next (lacks clear may) n e = cc
