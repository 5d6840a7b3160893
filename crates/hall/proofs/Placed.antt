-- A hall where a tenant became another one, and where one of its searches goes on.
use Rattle.std.proofs.Common.{◌≡◌, ◌∙◌, ℕ, List, ap, refl, Some}
use Rattle.std.specs.Ordering.{nat_cmp}
use Rattle.std.specs.FinMap.{FinMap, get, insert}
use Rattle.names.specs.Name.{name_order}
use Rattle.vaults.proofs.Orders.{names_exact}
use Rattle.hall.specs.declared.calls.requests.Request.{Request}
use Rattle.hall.specs.declared.calls.replies.Reply.{Reply}
use Rattle.hall.specs.Answers.{sight, Answers}
use Rattle.hall.specs.Hall.{Running, Tenant, HallState, account, with_tenant, with_search, search_at, hall_after, IsServed}
use Rattle.hall.proofs.Maps.{numbers_exact, get_inserted, insert_again, insert_twice}
use Rattle.hall.proofs.laws.HallChanges.{search_of, changed_here, tenant_of}

-- the tenant of that name is this one
abbrev pub put : HallState → List ℕ → Tenant → HallState
put h who t = record h { tenants = insert h.tenants who t }

module _ (h : HallState) (who : List ℕ) (t u : Tenant) (here : get h.tenants who ≡ Some t) where
  pub put_changed : (change : Tenant → Tenant) → u ≡ change t → put h who u ≡ with_tenant h who change
  put_changed change is = rw (is, here)

  -- a tenant that is as it was changes nothing
  pub put_again : u ≡ t → put h who u ≡ h
  put_again is =
      ap (λ (m : FinMap name_order Tenant). record h { tenants = m })
      (ap (insert h.tenants who) is ∙ insert_again names_exact h.tenants who t here)

  -- a request that is answered by the tenant's account
  pub served_as : (q : Request) (told : Reply) →
      Answers who (sight h.journal who q) (account h.journal who t) q told (account h.journal who u) →
      put h who u ≡ hall_after h who q told → IsServed h who q told (put h who u)
  served_as q told answers after = record {
    answers = rw (here, get_inserted names_exact h.tenants who u) (account h.journal who u, refl, answers);
    after = after;
  }

module _ (h : HallState) (who : List ℕ) (k : ℕ) (r : Running) (at : search_at h who k ≡ Some r) where
  -- the search that goes on is found as it went on
  pub found_after : (q : Running) → search_at (with_search h who k q) who k ≡ Some q
  found_after q =
      let (t, found, there) = tenant_of h who k r at in
      ap (search_of k) (changed_here h who (λ v. record v { searches = insert v.searches k q }) t found)
      ∙ get_inserted numbers_exact t.searches k q

  -- a search that is put back as it was changes nothing
  pub put_back : with_search h who k r ≡ h
  put_back =
      let (t, found, there) = tenant_of h who k r at in
      rw found (put_again h who t (record t { searches = insert t.searches k r }) found
      (ap (λ (m : FinMap nat_cmp Running). record t { searches = m }) (insert_again numbers_exact t.searches k r there)))

  -- of two searches that are put there the later stays
  pub put_twice : (p q : Running) → with_search (with_search h who k p) who k q ≡ with_search h who k q
  put_twice p q =
      let (t, found, there) = tenant_of h who k r at in
      let first : Tenant = record t { searches = insert t.searches k p } in
      rw (found, get_inserted names_exact h.tenants who first)
      (ap (λ (m : FinMap name_order Tenant). record h { tenants = m })
      (insert_twice names_exact h.tenants who first (record t { searches = insert (insert t.searches k p) k q })
      ∙ ap (λ (m : FinMap nat_cmp Running). insert h.tenants who (record t { searches = m })) (insert_twice numbers_exact t.searches k p q)))
