-- What happens to the account of a tenant where one of its searches goes on, and where another's does.
use Rattle.std.proofs.Common.{◌≡◌, ◌≢◌, ◌∙◌, ℕ, Bool, true, false, List, Some, option_map, sym, ap, refl}
use Rattle.std.proofs.Common.{subst}
use Rattle.std.specs.Ordering.{nat_cmp}
use Rattle.std.specs.FinMap.{FinMap, get, insert}
use Rattle.names.specs.Name.{is_same}
use Rattle.names.proofs.SameNames.{same_from_is_same}
use Rattle.vaults.specs.Journal.{credentials}
use Rattle.search.specs.Ending.{Nothing, MaySettle}
use Rattle.search.specs.Search.{SearchState, settled_of}
use Rattle.hall.specs.Answers.{Asked}
use Rattle.hall.specs.Run.{any_time, GoesOn, Ends}
use Rattle.hall.specs.Hall.{Running, Tenant, HallState, seen, account, account_of, with_tenant, with_search, search_at}
use Rattle.hall.specs.Hall.{IsSound}
use Rattle.hall.proofs.Maps.{numbers_exact, each_inserted, get_mapped, mapped_insert}
use Rattle.hall.proofs.SearchSteps.{SearchGoesOn}
use Rattle.hall.proofs.laws.HallChanges.{search_of, changed_here, changed_elsewhere, tenant_of}
use Rattle.hall.proofs.laws.HallRequests.{same_account}
use Rattle.hall.proofs.laws.HallTurns.{goes_itself, BetweenOf, nothing_between}

-- the account of a tenant that was changed
changed_account : (h : HallState) (name : List ℕ) (change : Tenant → Tenant) (t : Tenant) → get h.tenants name ≡ Some t →
    account_of (with_tenant h name change) name ≡ Some (account h.journal name (change t))
changed_account h name change t found = ap (option_map (account h.journal name)) (changed_here h name change t found)

-- and of another
pub other_account : (h : HallState) (name other : List ℕ) (change : Tenant → Tenant) → is_same name other ≡ false →
    account_of (with_tenant h name change) other ≡ account_of h other
other_account h name other change apart =
    same_account h (with_tenant h name change) other (changed_elsewhere h name change other apart) refl

-- a search of a hall that goes on
module _ (h : HallState) (name : List ℕ) (k : ℕ) (r : Running) (s : SearchState) (sound : IsSound h)
    (at : search_at h name k ≡ Some r) (goes : SearchGoesOn r.search s) where
  abbrev next : Running
  next = record r { search = s }

  -- with the tenant's other searches
  abbrev searches_after : Tenant → FinMap nat_cmp Running
  searches_after t = insert t.searches k next

  -- as its asker knows it
  seen_next : seen next ≡ record (seen r) { settled = settled_of s }
  seen_next = λ i. record { query = goes.question.query i; view = (goes.question.snapshot i).vaults; settled = settled_of s }

  module _ (t : Tenant) (found : get h.tenants name ≡ Some t) where
    there : get t.searches k ≡ Some r
    there = sym (ap (search_of k) found) ∙ at

    settles_within :
        MaySettle t.limits.work (credentials r.search.snapshot.vaults) r.search.query (settled_of r.search) (settled_of s)
    settles_within = rw (← (sound name t k r found there).2.work) goes.settles

    -- each search of the account goes on
    each_goes : (j : ℕ) →
        GoesOn t.limits.work (get (account h.journal name t).searches j)
        (get (account h.journal name (record t { searches = searches_after t })).searches j)
    each_goes j =
        rw (get_mapped numbers_exact seen t.searches j, get_mapped numbers_exact seen (searches_after t) j)
        (each_inserted numbers_exact (λ i o. GoesOn t.limits.work (option_map seen (get t.searches i)) (option_map seen o)) t.searches k next
        (rw there (settled_of s, settles_within, ap Some seen_next))
        (λ i apart. goes_itself t.limits.work (option_map seen (get t.searches i))) j)

    -- a search that came to an end
    pub own_ends : settled_of s ≢ Nothing →
        Ends (account h.journal name t) k (get (account h.journal name t).searches k)
        (account h.journal name (record t { searches = searches_after t }))
    own_ends ended =
        rw (get_mapped numbers_exact seen t.searches k, there) (
          settled_of s,
          ended,
          settles_within,
          ap (λ (m : FinMap nat_cmp Asked). record (account h.journal name t) { searches = m })
              (mapped_insert numbers_exact seen t.searches k next ∙ ap (insert (account h.journal name t).searches k) seen_next),
        )

    pub own_account :
        account_of (with_search h name k next) name ≡ Some (account h.journal name (record t { searches = searches_after t }))
    own_account = changed_account h name (λ t. record t { searches = insert t.searches k next }) t found

  own_between : BetweenOf any_time (account_of h name) (account_of (with_search h name k next) name)
  own_between =
      let (t, found, is) = tenant_of h name k r at in
      rw (own_account t found, found) (account h.journal name (record t { searches = searches_after t }), refl, (refl, each_goes t found))

  -- to each tenant at most one of its searches settled
  pub goes_between : (tenant : List ℕ) → BetweenOf any_time (account_of h tenant) (account_of (with_search h name k next) tenant)
  goes_between tenant = by (is_same name tenant) refl
    where
      by : (b : Bool) → is_same name tenant ≡ b →
          BetweenOf any_time (account_of h tenant) (account_of (with_search h name k next) tenant)
      by true same =
          subst (λ (n : List ℕ). BetweenOf any_time (account_of h n) (account_of (with_search h name k next) n))
          (same_from_is_same name tenant same) own_between
      by false apart =
          subst (BetweenOf any_time (account_of h tenant))
          (sym (other_account h name tenant (λ t. record t { searches = insert t.searches k next }) apart))
          (nothing_between any_time (account_of h tenant))
