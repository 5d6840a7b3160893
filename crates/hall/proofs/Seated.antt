-- What the tables of a hall find: a tenant by its name, and its searches by their numbers.
use Rattle.std.proofs.Common.{◌≡◌, ◌∙◌, ◌==◌, ℕ, true, List, slice_get, None, Some, ap, sym}
use Rattle.std.specs.FinMap.{FinMap, get, insert, from_entries}
use Rattle.std.specs.Cmp.{unsigned_tied}
use Rattle.std.specs.Ordering.{nat_cmp}
use Rattle.names.specs.Name.{is_same, name_order}
use Rattle.names.proofs.SameNames.{is_same_tied}
use Rattle.indexmap.specs.IndexMap.{IndexMap, IsUnique, values, with_value_at}
use Rattle.indexmap.specs.IndexMap as table
use Rattle.quotas.specs.Quota.{Quota}
use Rattle.vaults.specs.declared.changes.Entry.{Entry}
use Rattle.vaults.proofs.Elements.{same_from_tied}
use Rattle.vaults.proofs.Orders.{names_exact}
use Rattle.hall.specs.Hall.{Running, Tenant, with_search}
use Rattle.hall.proofs.AtHand.{IsPlaceOf}
use Rattle.hall.proofs.Maps.{numbers_exact}
use Rattle.hall.proofs.Indexed.{looked_up, found_there, written_there}
use Rattle.hall.proofs.Placed.{put_changed}

module _ {S : Type 0} (m : IndexMap (List ℕ) Tenant S) (tenants : FinMap name_order Tenant) (view : from_entries m.entries ≡ tenants) (who : List ℕ) where
  -- the tenant of a name is what the table finds
  pub seat_found : get tenants who ≡ table.get is_same m who
  seat_found = ap (λ (t : FinMap name_order Tenant). get t who) (sym view) ∙ looked_up names_exact is_same is_same_tied m.entries who

  -- where an entry stands at the name's place it is the tenant's
  pub seat_named : (at : ℕ) (name : List ℕ) (t : Tenant) → IsPlaceOf (is_same who) m.entries at → Some (name, t) ≡ slice_get m.entries at →
      table.get is_same m name ≡ Some t → get tenants who ≡ Some t
  seat_named at name t place entry value =
      let same : is_same who name ≡ true = rw (← entry) at place in
      seat_found ∙ ap (table.get is_same m) (same_from_tied names_exact who name (is_same_tied who name ∙ same)) ∙ value

  -- and where none stands there the name is nobody's
  pub seat_lacks : (at : ℕ) → IsPlaceOf (is_same who) m.entries at → None ≡ slice_get m.entries at → get tenants who ≡ None
  seat_lacks at place entry = seat_found ∙ (rw (← entry) at place)

  module _ (at : ℕ) (t : Tenant) (unique : IsUnique is_same m) (place : IsPlaceOf (is_same who) m.entries at) (value : slice_get (values m) at ≡ Some t) where
    -- so it is the one at the name's place
    pub seat_there : get tenants who ≡ Some t
    seat_there = seat_found ∙ found_there names_exact is_same is_same_tied m who at t unique place value

    -- a tenant that is written through a loan is put there
    pub seat_written : (u : Tenant) → from_entries (with_value_at m at u).entries ≡ insert tenants who u
    seat_written u = written_there names_exact is_same is_same_tied m who at t unique place value u ∙ ap (λ (t : FinMap name_order Tenant). insert t who u) view

-- the tenant of a table
abbrev pub tenant_of : {S : Type 0} → Quota → ℕ → IndexMap ℕ Running S → Tenant
tenant_of limits opens m = record { limits = limits; opens = opens; searches = from_entries m.entries }

module _ {S : Type 0} (m : IndexMap ℕ Running S) (k : ℕ) where
  -- the search of a number is what the table finds
  pub search_found : get (from_entries {R = nat_cmp} m.entries) k ≡ table.get (◌==◌) m k
  search_found = looked_up numbers_exact (◌==◌) unsigned_tied m.entries k

  module _ (at : ℕ) (r : Running) (unique : IsUnique (◌==◌) m) (place : IsPlaceOf (λ j. k == j) m.entries at) (value : slice_get (values m) at ≡ Some r) where
    -- so it is the one at the number's place
    pub search_there : get (from_entries {R = nat_cmp} m.entries) k ≡ Some r
    search_there = search_found ∙ found_there numbers_exact (◌==◌) unsigned_tied m k at r unique place value

    -- a search that is written through a loan of one of a tenant's searches goes on in its place
    pub search_written : (tenants : FinMap name_order Tenant) (who : List ℕ) (limits : Quota) (opens : ℕ) → get tenants who ≡ Some (tenant_of limits opens m) →
        (q : Running) (journal : List Entry) →
        record { journal = journal; tenants = insert tenants who (tenant_of limits opens (with_value_at m at q)) } ≡ with_search (record { journal = journal; tenants = tenants }) who k q
    search_written tenants who limits opens here q journal =
        put_changed (record { journal = journal; tenants = tenants }) who (tenant_of limits opens m) (tenant_of limits opens (with_value_at m at q)) here
        (λ v. record v { searches = insert v.searches k q })
        (λ i. record { limits = limits; opens = opens; searches = written_there numbers_exact (◌==◌) unsigned_tied m k at r unique place value q i })
