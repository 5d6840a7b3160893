-- An index of the searches that may still go on, beside the hall that has them.
use Rattle.std.proofs.Common.{◌≡◌, ◌≢◌, ◌∙◌, ◌==◌, ℕ, Bool, true, false, cond, List, [], ◌∷◌, length, ap, sym, refl, subst, inl, inr, arith, Option, Some, None, is_some}
use Rattle.std.specs.{Prelude.IsSomeAnd, FinMap.get}
use Rattle.std.specs.List.{list_any}
use Rattle.std.proofs.lemmas.Bool.{false≢true}
use Rattle.std.proofs.lemmas.Bool.Decides.{Decides-eqb}
use Rattle.names.specs.Name.{is_same}
use Rattle.names.proofs.SameNames.{same_from_is_same}
use Rattle.vaults.proofs.Orders.{names_exact}
use Rattle.indexmap.specs.IndexMap.{Updates, WritesThrough}
use Rattle.indexmap.specs.IndexMap as table
use Rattle.indexmap.specs.IndexSet.{IndexSet, contains}
use Rattle.indexmap.specs.IndexSet as set
use Rattle.search.specs.declared.queries.Query.{Query}
use Rattle.search.specs.Search.{SearchState, Settles, settled_of}
use Rattle.search.specs.Ending.{Nothing}
use Rattle.hall.specs.declared.calls.requests.Request.{Request}
use Rattle.hall.specs.declared.calls.requests.Request.TheVariants.{Seek}
use Rattle.hall.specs.declared.calls.replies.Reply.{Reply}
use Rattle.hall.specs.declared.calls.replies.Reply.TheVariants.{Opened}
use Rattle.hall.specs.Hall.{Running, Tenant, HallState, EachSearch, with_search, search_at, IsServed}
use Rattle.hall.specs.Kept.{Index, Lists, KeepsBut}
use Rattle.hall.proofs.Maps.{get_inserted}
use Rattle.hall.proofs.Placed.{put, found_after}
use Rattle.hall.proofs.laws.HallChanges.{search_of, replaced_each, inserted_each}
use Rattle.hall.proofs.laws.HallRequests.{requested_each}

-- the number is one of these, where there are any
abbrev pub IsIn : {Z : Type 0} → ℕ → Option (IndexSet ℕ Z) → Type 0
IsIn k o = IsSomeAnd o (λ numbers. contains (◌==◌) numbers k ≡ true)

-- each search that has come to nothing yet is in the index
abbrev pub ListsUnsettled : {S Z : Type 0} → Index S Z → HallState → Type 0
ListsUnsettled index h = EachSearch (λ name t k r. settled_of r.search ≡ Nothing → Lists index name k) h

-- a search that has come to nothing yet had before
pub unsettled_before : (s t : SearchState) → Settles s t → settled_of t ≡ Nothing → settled_of s ≡ Nothing
unsettled_before s t (inl same) nothing = sym same ∙ nothing
unsettled_before s t (inr ends) nothing = ends.0

module _ {Z : Type 0} (numbers : IndexSet ℕ Z) where
  -- a number that is put in beside others
  pub is_in_more : (more : IndexSet ℕ Z) (n k : ℕ) → set.Updates (◌==◌) numbers more n true → contains (◌==◌) numbers k ≡ true → contains (◌==◌) more k ≡ true
  is_in_more more n k updates there = by (n == k) refl
    where
      by : (b : Bool) → (n == k) ≡ b → contains (◌==◌) more k ≡ true
      by true same = updates.0 k ∙ ap (λ (b : Bool). cond b true (contains (◌==◌) numbers k)) same
      by false apart = updates.2 k apart ∙ there

  -- the same numbers
  pub is_in_same : (others : IndexSet ℕ Z) (k : ℕ) → others.keys ≡ numbers.keys → contains (◌==◌) numbers k ≡ true → contains (◌==◌) others k ≡ true
  is_in_same others k same there = ap (list_any (λ q. k == q)) same ∙ there

module _ {S Z : Type 0} where
  -- where the numbers of one tenant are changed, the index keeps what these have, and all of the others
  changed : (old new : Index S Z) (who : List ℕ) (numbers : Option (IndexSet ℕ Z)) (out : ℕ → Type 0) → Updates is_same old new who numbers →
      ((k : ℕ) → (out k → ⊥) → Lists old who k → IsIn k numbers) → KeepsBut (λ name k. (name ≡ who) × out k) old new
  changed old new who numbers out updates here name k stays listed = by (is_same who name) refl
    where
      by : (b : Bool) → is_same who name ≡ b → Lists new name k
      by false apart = subst (IsIn k) (sym (updates.2 name apart)) listed
      by true same =
          let is : who ≡ name = same_from_is_same who name same in
          subst (λ (n : List ℕ). Lists new n k) is (subst (IsIn k) (sym updates.1)
          (here k (λ left. stays (sym is, left)) (subst (λ (n : List ℕ). Lists old n k) (sym is) listed)))

  -- where one tenant has more numbers, the index keeps all
  pub grown : (old new : Index S Z) (who : List ℕ) (numbers : IndexSet ℕ Z) → Updates is_same old new who (Some numbers) →
      ((k : ℕ) → Lists old who k → contains (◌==◌) numbers k ≡ true) → KeepsBut (λ name k. ⊥) old new
  grown old new who numbers updates here name k stays =
      changed old new who (Some numbers) (λ j. ⊥) updates (λ j out. here j) name k (λ out. out.1)

  module _ (old new : Index S Z) (who : List ℕ) (before after : IndexSet ℕ Z) (k : ℕ) (there : table.get is_same old who ≡ Some before)
      (writes : WritesThrough is_same (is_same who) old after new) (takes : set.Updates (◌==◌) before after k false) where
    updates : Updates is_same old new who (Some after)
    updates = writes.3 (ap is_some there)

    -- a number of a tenant is taken out
    pub left : KeepsBut (λ name j. (name ≡ who) × (j ≡ k)) old new
    left = changed old new who (Some after) (λ j. j ≡ k) updates (λ j other listed. by j other (subst (IsIn j) there listed) (k == j) refl)
      where
        by : (j : ℕ) → (j ≡ k → ⊥) → contains (◌==◌) before j ≡ true → (b : Bool) → (k == j) ≡ b → IsIn j (Some after)
        by j other listed true same = absurd (other (sym ((Decides-eqb k j).0 same)))
        by j other listed false apart = takes.2 j apart ∙ listed

    -- and isn't there any more
    pub gone : Lists new who k → ⊥
    gone listed = false≢true (sym takes.1 ∙ subst (IsIn k) updates.1 listed)

  -- where none of a tenant's numbers is left, it is taken out
  pub left_empty : (old new : Index S Z) (who : List ℕ) (numbers : IndexSet ℕ Z) → table.get is_same old who ≡ Some numbers → length numbers.keys ≡ 0 →
      Updates is_same old new who None → KeepsBut (λ name k. ⊥) old new
  left_empty old new who numbers there empty drops name k stays =
      changed old new who None (λ j. ⊥) drops (λ j out listed. none numbers.keys j empty (subst (IsIn j) there listed)) name k (λ out. out.1)
    where
      none : (keys : List ℕ) (i : ℕ) → length keys ≡ 0 → list_any (λ q. i == q) keys ≡ true → ⊥
      none [] i short there = cc
      none (q ∷ keys) i short there = omega (arith, short)

  -- where a tenant's numbers are taken out, nothing is put in
  pub nothing_new : (old new : Index S Z) (who : List ℕ) → Updates is_same old new who None → (name : List ℕ) (k : ℕ) → Lists new name k → Lists old name k
  nothing_new old new who drops name k listed = by (is_same who name) (subst (IsIn k) (drops.0 name) listed)
    where
      by : (b : Bool) → IsIn k (cond b None (table.get is_same old name)) → Lists old name k
      by true there = absurd there
      by false there = there

  -- what is left out need not be in the index
  pub still_listed : (old new : Index S Z) (h : HallState) (out : List ℕ → ℕ → Type 0) → KeepsBut out old new → ListsUnsettled old h →
      ((name : List ℕ) (k : ℕ) (r : Running) → out name k → search_at h name k ≡ Some r → settled_of r.search ≢ Nothing) → ListsUnsettled new h
  still_listed old new h out keeps listed settled name t k r found at unsettled =
      keeps name k (λ left. settled name k r left (ap (search_of k) found ∙ at) unsettled) (listed name t k r found at unsettled)

  -- a search that was ended is left out
  pub listed_ended : (old new : Index S Z) (h : HallState) (who : List ℕ) (k : ℕ) (u : Tenant) → get u.searches k ≡ None →
      KeepsBut (λ name j. (name ≡ who) × (j ≡ k)) old new → ListsUnsettled old (put h who u) → ListsUnsettled new (put h who u)
  listed_ended old new h who k u gone keeps listed =
      still_listed old new (put h who u) (λ name j. (name ≡ who) × (j ≡ k)) keeps listed
      (λ name j r out at unsettled.
      let clash : None ≡ Some r = rw (out.0, out.1, get_inserted names_exact h.tenants who u, gone) at at in
      cc)

  -- a search that goes on is left out where it has settled
  pub listed_after : (old new : Index S Z) (h : HallState) (who : List ℕ) (k : ℕ) (r : Running) (s : SearchState) → search_at h who k ≡ Some r →
      (settled_of s ≡ Nothing → settled_of r.search ≡ Nothing) → KeepsBut (λ name j. (name ≡ who) × (j ≡ k) × (settled_of s ≢ Nothing)) old new → ListsUnsettled old h →
      ListsUnsettled new (with_search h who k (record r { search = s }))
  listed_after old new h who k r s at before keeps listed =
      still_listed old new (with_search h who k q) (λ name j. (name ≡ who) × (j ≡ k) × (settled_of s ≢ Nothing)) keeps
      (replaced_each (λ name t j x. settled_of x.search ≡ Nothing → Lists old name j) h who k r q (λ t m j x here. here) at
      (λ t here unsettled. here (before unsettled)) listed)
      (λ name j x out found unsettled.
      let both : Some q ≡ Some x = rw (out.0, out.1, found_after h who k r at q) at found in
      let same : q ≡ x = cc in
      out.2 (ap (λ (y : Running). settled_of y.search) same ∙ unsettled))
    where
      q : Running
      q = record r { search = s }

-- where an opened search is in the index, each one is after a request that was in it before
pub listed_requested : {S Z : Type 0} (index : Index S Z) (old new : HallState) (who : List ℕ) (q : Request) (told : Reply) → IsServed old who q told new →
    ListsUnsettled index old → ((query : Query) (n : ℕ) → q ≡ Seek query → told ≡ Opened n → Lists index who n) → ListsUnsettled index new
listed_requested index old new who q told served listed opened =
    subst (ListsUnsettled index) (sym served.after)
    (requested_each old who (λ name t k r. settled_of r.search ≡ Nothing → Lists index name k) q told listed
    (λ query n t is said found. inserted_each (λ k r. settled_of r.search ≡ Nothing → Lists index who k) t.searches n _ (λ k r at. listed who t k r found at)
    (λ unsettled. opened query n is said))
    (λ k t found j r at. listed who t j r found at))

-- what is left out may be said to be so for a reason
pub out_with : {S Z : Type 0} (old new : Index S Z) (who : List ℕ) (k : ℕ) (reason : Type 0) → KeepsBut (λ name j. (name ≡ who) × (j ≡ k)) old new → reason →
    KeepsBut (λ name j. (name ≡ who) × (j ≡ k) × reason) old new
out_with old new who k reason keeps why name j stays = keeps name j (λ out. stays (out.0, out.1, why))
