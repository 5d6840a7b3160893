-- One tenant of a hall is changed, and the others stay.
use Rattle.std.proofs.Common.{◌≡◌, ◌∙◌, ℕ, false, List, Option, Some, None, [], ◌∷◌, map, sym, ap, refl, subst}
use Rattle.std.specs.{List.AllByRecursion, Option.option_map_or, Option.option_and_then, Ordering.nat_cmp}
use Rattle.std.specs.FinMap.{FinMap, empty, get, insert, remove, get-empty}
use Rattle.std.proofs.lemmas.Bool.{false≢true}
use Rattle.std.proofs.lemmas.Option.{same_Some}
use Rattle.quotas.specs.Quota.{Quota}
use Rattle.names.specs.Name.{is_same}
use Rattle.names.proofs.SameNames.{is_same_itself, is_same_tied}
use Rattle.vaults.proofs.Orders.{names_exact}
use Rattle.hall.specs.Hall.{Running, Tenant, HallState, EachSearch, with_tenant, with_search, search_at, new_tenant, new_hall}
use Rattle.hall.proofs.Maps.{numbers_exact, get_inserted, get_insert_other, each_inserted, each_removed}
use Rattle.hall.proofs.Indexed.{all_found}

-- of one tenant the search of that number, if it has not ended
abbrev pub search_of : ℕ → Option Tenant → Option Running
search_of k o = option_and_then (λ t. get t.searches k) o

module _ (h : HallState) (name : List ℕ) (change : Tenant → Tenant) where
  pub changed_here : (t : Tenant) → get h.tenants name ≡ Some t → get (with_tenant h name change).tenants name ≡ Some (change t)
  changed_here t found = rw found (get_inserted names_exact h.tenants name (change t))

  pub changed_elsewhere : (other : List ℕ) → is_same name other ≡ false →
      get (with_tenant h name change).tenants other ≡ get h.tenants other
  changed_elsewhere other apart = by (get h.tenants name)
    where
      by : (o : Option Tenant) → get (option_map_or (λ t. insert h.tenants name (change t)) o h.tenants) other ≡ get h.tenants other
      by None = refl
      by (Some t) =
          get_insert_other names_exact h.tenants name (change t) other
          (λ same. false≢true (sym apart ∙ is_same_itself name other (sym same)))

-- this holds of each search of one tenant
abbrev pub EachOf : (ℕ → Running → Type 0) → FinMap nat_cmp Running → Type 0
EachOf P m = (k : ℕ) (r : Running) → get m k ≡ Some r → P k r

-- where it holds of the searches of the tenant that was changed, it holds of all as before
pub changed_each : (P : List ℕ → Tenant → ℕ → Running → Type 0) (h : HallState) (name : List ℕ) (change : Tenant → Tenant) →
    EachSearch P h →
    ((t : Tenant) → get h.tenants name ≡ Some t → EachOf (P name (change t)) (change t).searches) →
    EachSearch P (with_tenant h name change)
changed_each P h name change each here other t k r found at = by (get h.tenants name) refl found
  where
    by : (o : Option Tenant) → get h.tenants name ≡ o →
        get (option_map_or (λ u. insert h.tenants name (change u)) o h.tenants) other ≡ Some t → P other t k r
    by None none is = each other t k r is at
    by (Some u) there is =
        each_inserted names_exact (λ q p. (v : Tenant) → p ≡ Some v → EachOf (P q v) v.searches) h.tenants name (change u)
        (λ v same. subst (λ (w : Tenant). EachOf (P name w) w.searches) (same_Some (change u) v same) (here u there))
        (λ q apart v among j s. each q v j s among) other t is k r at

-- one search more, or another one in its place
pub inserted_each : (P : ℕ → Running → Type 0) (m : FinMap nat_cmp Running) (k : ℕ) (r : Running) → EachOf P m → P k r →
    EachOf P (insert m k r)
inserted_each P m k r each this j s =
    each_inserted numbers_exact (λ i o. o ≡ Some s → P i s) m k r (λ is. subst (P k) (same_Some r s is) this) (λ i apart. each i s) j

-- one search less
pub removed_each : (P : ℕ → Running → Type 0) (m : FinMap nat_cmp Running) (k : ℕ) → EachOf P m → EachOf P (remove m k)
removed_each P m k each j s = each_removed numbers_exact (λ i o. o ≡ Some s → P i s) m k (λ is. cc) (λ i apart. each i s) j

-- a search that is there is its tenant's
pub tenant_of : (h : HallState) (name : List ℕ) (k : ℕ) (r : Running) → search_at h name k ≡ Some r →
    (t : Tenant) × (get h.tenants name ≡ Some t) × (get t.searches k ≡ Some r)
tenant_of h name k r at = by (get h.tenants name) refl at
  where
    by : (o : Option Tenant) → get h.tenants name ≡ o → search_of k o ≡ Some r →
        (t : Tenant) × (get h.tenants name ≡ Some t) × (get t.searches k ≡ Some r)
    by None none is = cc
    by (Some t) found is = (t, found, is)

-- where a search goes on, it holds of each as before, if it does of that search
pub replaced_each : (P : List ℕ → Tenant → ℕ → Running → Type 0) (h : HallState) (name : List ℕ) (k : ℕ) (r new : Running) →
    ((t : Tenant) (m : FinMap nat_cmp Running) (j : ℕ) (s : Running) → P name t j s → P name (record t { searches = m }) j s) →
    search_at h name k ≡ Some r → ((t : Tenant) → P name t k r → P name t k new) → EachSearch P h →
    EachSearch P (with_search h name k new)
replaced_each P h name k r new stays at goes each =
    changed_each P h name (λ t. record t { searches = insert t.searches k new }) each
    (λ t found.
    let m : FinMap nat_cmp Running = insert t.searches k new in
    inserted_each (P name (record t { searches = m })) t.searches k new
    (λ j s there. stays t m j s (each name t j s found there))
    (stays t m k new (goes t (each name t k r found (sym (ap (search_of k) found) ∙ at)))))

-- what holds of each search holds where there is none
pub new_each : (P : List ℕ → Tenant → ℕ → Running → Type 0) (roster : List (List ℕ × Quota)) → EachSearch P (new_hall roster)
new_each P roster name t k r found at =
    let bare = all_found names_exact is_same is_same_tied (λ (e : List ℕ × Tenant). e.1.searches ≡ empty) _ (fresh roster) name t found in
    let clash : None ≡ Some r = sym (ap (λ (m : FinMap nat_cmp Running). get m k) bare ∙ get-empty nat_cmp k) ∙ at in cc
  where
    fresh : (rows : List (List ℕ × Quota)) →
        AllByRecursion (λ (e : List ℕ × Tenant). e.1.searches ≡ empty) (map (λ row. (row.0, new_tenant row.1)) rows)
    fresh [] = tt
    fresh (row ∷ rows) = (refl, fresh rows)
