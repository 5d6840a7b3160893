-- Lines by key and the same by name: a key is found where its name is, and inserted there.
use Rattle.std.proofs.Common.{◌≡◌, ℕ, Bool, true, false, cond, List, [], ◌∷◌, Option, Some, None, refl, sym, ap, ◌∙◌, nat_eq, if◌then◌else◌, true≢false, arith, ◌==◌, ◌&&◌, ◌||◌}
use Rattle.std.specs.Cmp.{IsEquivalence, IsTotalOrder, both_tied, unsigned_ties}
use Rattle.std.specs.Cmp.Lexicographic.{pointwise, texts_ties}
use Rattle.std.specs.List.{IsDistinct, AllByRecursion}
use Rattle.std.specs.Map.{keys_of, lookup}
use Rattle.std.proofs.lemmas.Cmp.{nat_list_eq_equiv, on_total, nat_list_cmp_total}
use Rattle.std.proofs.lemmas.List.Elements.{Contains-get_or, Contains-append_right, All-contains_itself, recursion_from_All}
use Rattle.indexmap.specs.IndexMap.{insert_entry}
use Rattle.monitors.specs.declared.tellers.Tellers.{Tellers}
use Rattle.monitors.specs.MeetMonitor.{TellsApart, named, told_order}
use Rattle.std.proofs.lemmas.Map.Lookups.{exact_bytes}
use Rattle.std.proofs.lemmas.Map.Views.{tells_apart}
use Rattle.std.specs.Ordering.{eq_by_cmp}
use Rattle.std.specs.FinMap.{IsAntisymmetric, nat_cmp-IsAntisymmetric, slice_cmp-IsAntisymmetric}
use Rattle.std.specs.FinSet as set

-- equal names are the same
pub same_name : (x y : List ℕ) → pointwise nat_eq x y ≡ true → x ≡ y
same_name x y e = tells_apart exact_bytes x y (sym (texts_ties x y) ∙ e)

-- the entity's line in the table
abbrev pub tellers_at : List (List ℕ × Tellers) → List ℕ → Option Tellers
tellers_at entries who = lookup (pointwise nat_eq who) entries

module _ {K : Type 0} (eq : K → K → Bool) (laws : IsEquivalence eq) (exact : (x y : K) → eq x y ≡ true → x ≡ y) (name : K → List ℕ) where
  -- two keys are the same where their names are
  same_keys : (who k : K) → (name who ≡ name k → who ≡ k) → eq who k ≡ pointwise nat_eq (name who) (name k)
  same_keys who k apart = by (eq who k) (pointwise nat_eq (name who) (name k)) refl refl
    where
      by : (a b : Bool) → eq who k ≡ a → pointwise nat_eq (name who) (name k) ≡ b → eq who k ≡ pointwise nat_eq (name who) (name k)
      by true b e f = e ∙ sym (ap (λ (x : K). pointwise nat_eq (name who) (name x)) (sym (exact who k e)) ∙ nat_list_eq_equiv.refl (name who))
      by false true e f = absurd (true≢false (sym (ap (eq who) (sym (apart (same_name (name who) (name k) f))) ∙ laws.refl who) ∙ e))
      by false false e f = e ∙ sym f

  abbrev Agrees : K → List (K × Tellers) → Type 0
  Agrees who es = AllByRecursion (λ k. eq who k ≡ pointwise nat_eq (name who) (name k)) (keys_of es)

  agrees : (es : List (K × Tellers)) (who : K) → TellsApart name (who ∷ keys_of es) → Agrees who es
  agrees es who apart =
      recursion_from_All _ (keys_of es) (λ k d below.
      same_keys who _ (apart who _ (Contains-get_or (who ∷ keys_of es) 0 who (omega arith)) (Contains-append_right (who ∷ []) (keys_of es) _ (All-contains_itself (keys_of es) k d below))))

  lookup_agrees : (es : List (K × Tellers)) (who : K) → Agrees who es → tellers_at (named name es) (name who) ≡ lookup (eq who) es
  lookup_agrees [] who same = refl
  lookup_agrees (e ∷ es) who same = λ i. cond (sym same.0 i) (Some e.1) (lookup_agrees es who same.1 i)

  insert_agrees : (es : List (K × Tellers)) (who : K) (t : Tellers) → Agrees who es → named name (insert_entry eq es who t) ≡ insert_entry (pointwise nat_eq) (named name es) (name who) t
  insert_agrees [] who t same = refl
  insert_agrees (e ∷ es) who t same =
      by (eq who e.0) ∙ (λ i. if same.0 i then (name e.0, t) ∷ named name es else (name e.0, e.1) ∷ insert_agrees es who t same.1 i)
    where
      by : (b : Bool) → named name (if b then (e.0, t) ∷ es else e ∷ insert_entry eq es who t) ≡ (if b then (name e.0, t) ∷ named name es else (name e.0, e.1) ∷ named name (insert_entry eq es who t))
      by true = refl
      by false = refl

  -- a line is found by name where it is by key
  pub named_lookup : (es : List (K × Tellers)) (who : K) → TellsApart name (who ∷ keys_of es) → tellers_at (named name es) (name who) ≡ lookup (eq who) es
  named_lookup es who apart = lookup_agrees es who (agrees es who apart)

  -- and a line by key is inserted where it is by name
  pub named_insert : (es : List (K × Tellers)) (who : K) (t : Tellers) → TellsApart name (who ∷ keys_of es) → named name (insert_entry eq es who t) ≡ insert_entry (pointwise nat_eq) (named name es) (name who) t
  named_insert es who t apart = insert_agrees es who t (agrees es who apart)

-- whose line is found after one is inserted
pub inserted_line : (es : List (List ℕ × Tellers)) (who : List ℕ) (u : Tellers) (q : List ℕ) → tellers_at (insert_entry (pointwise nat_eq) es who u) q ≡ cond (pointwise nat_eq who q) (Some u) (tellers_at es q)
inserted_line [] who u q = ap (λ b. cond b (Some u) None) (nat_list_eq_equiv.symm q who)
inserted_line (e ∷ es) who u q = by (pointwise nat_eq who e.0) (pointwise nat_eq who q) refl refl (inserted_line es who u q)
  where
    by : (a b : Bool) → pointwise nat_eq who e.0 ≡ a → pointwise nat_eq who q ≡ b → tellers_at (insert_entry (pointwise nat_eq) es who u) q ≡ cond (pointwise nat_eq who q) (Some u) (tellers_at es q) →
        tellers_at (insert_entry (pointwise nat_eq) (e ∷ es) who u) q ≡ cond (pointwise nat_eq who q) (Some u) (tellers_at (e ∷ es) q)
    by true b here same more =
        let is : pointwise nat_eq q e.0 ≡ pointwise nat_eq who q = ap (pointwise nat_eq q) (sym (same_name who e.0 here)) ∙ nat_list_eq_equiv.symm q who in
        ap (λ a. tellers_at (if a then (e.0, u) ∷ es else e ∷ insert_entry (pointwise nat_eq) es who u) q) here
        ∙ ap (λ a. cond a (Some u) (tellers_at es q)) is
        ∙ later (pointwise nat_eq who q) is
      where
        later : (c : Bool) → pointwise nat_eq q e.0 ≡ c → cond c (Some u) (tellers_at es q) ≡ cond c (Some u) (tellers_at (e ∷ es) q)
        later true is = refl
        later false is = sym (ap (λ d. cond d (Some e.1) (tellers_at es q)) is)
    by false true other same more =
        ap (λ a. tellers_at (if a then (e.0, u) ∷ es else e ∷ insert_entry (pointwise nat_eq) es who u) q) other
        ∙ ap (λ d. cond d (Some e.1) (tellers_at (insert_entry (pointwise nat_eq) es who u) q)) (ap (λ x. pointwise nat_eq x e.0) (sym (same_name who q same)) ∙ other)
        ∙ more ∙ ap (λ d. cond d (Some u) (tellers_at es q)) same ∙ sym (ap (λ d. cond d (Some u) (tellers_at (e ∷ es) q)) same)
    by false false other apart more =
        ap (λ a. tellers_at (if a then (e.0, u) ∷ es else e ∷ insert_entry (pointwise nat_eq) es who u) q) other
        ∙ ap (λ t. cond (pointwise nat_eq q e.0) (Some e.1) t) (more ∙ ap (λ d. cond d (Some u) (tellers_at es q)) apart)
        ∙ sym (ap (λ d. cond d (Some u) (tellers_at (e ∷ es) q)) apart)

others_still : (es : List (List ℕ × Tellers)) (k who : List ℕ) (u : Tellers) → pointwise nat_eq k who ≡ false → AllByRecursion (λ y. pointwise nat_eq k y ≡ false) (keys_of es) →
    AllByRecursion (λ y. pointwise nat_eq k y ≡ false) (keys_of (insert_entry (pointwise nat_eq) es who u))
others_still [] k who u other none = (other, tt)
others_still (e ∷ es) k who u other (first, rest) = by (pointwise nat_eq who e.0) (others_still es k who u other rest)
  where
    by : (b : Bool) → AllByRecursion (λ y. pointwise nat_eq k y ≡ false) (keys_of (insert_entry (pointwise nat_eq) es who u)) → AllByRecursion (λ y. pointwise nat_eq k y ≡ false) (keys_of (if b then (e.0, u) ∷ es else e ∷ insert_entry (pointwise nat_eq) es who u))
    by true more = (first, rest)
    by false more = (first, more)

-- each key stands once after an insert
pub once_still : (es : List (List ℕ × Tellers)) (who : List ℕ) (u : Tellers) → IsDistinct (pointwise nat_eq) (keys_of es) → IsDistinct (pointwise nat_eq) (keys_of (insert_entry (pointwise nat_eq) es who u))
unfolding IsDistinct
once_still [] who u once = (tt, tt)
once_still (e ∷ es) who u (first, rest) = by (pointwise nat_eq who e.0) refl (once_still es who u rest)
  where
    by : (b : Bool) → pointwise nat_eq who e.0 ≡ b → IsDistinct (pointwise nat_eq) (keys_of (insert_entry (pointwise nat_eq) es who u)) → IsDistinct (pointwise nat_eq) (keys_of (if b then (e.0, u) ∷ es else e ∷ insert_entry (pointwise nat_eq) es who u))
    by true same more = (first, rest)
    by false other more = (others_still es e.0 who u (nat_list_eq_equiv.symm e.0 who ∙ other) first, more)

-- pairs of a part and an entity are in order as the lists of the part and the entity's bytes are

abbrev pair_list : ℕ × List ℕ → List ℕ
pair_list t = t.0 ∷ t.1

abbrev list_pair : List ℕ → ℕ × List ℕ
list_pair [] = (0, [])
list_pair (n ∷ name) = (n, name)

pub told_order_total : IsTotalOrder told_order
told_order_total = on_total pair_list nat_list_cmp_total

pub told_order_tied : IsAntisymmetric told_order
told_order_tied t u e = ap list_pair (slice_cmp-IsAntisymmetric nat_cmp-IsAntisymmetric (pair_list t) (pair_list u) e)

-- two pairs are tied where both their parts and both their entities are the same
pub told_order_ties : (t u : ℕ × List ℕ) → eq_by_cmp told_order t u ≡ (t.0 == u.0 && pointwise nat_eq t.1 u.1)
told_order_ties t u = sym (both_tied (t.0 == u.0) (pointwise nat_eq t.1 u.1) _ _ (unsigned_ties t.0 u.0) (texts_ties t.1 u.1))

-- a pair that is there changes nothing
pub told_again : (s : set.FinSet told_order) (pair : ℕ × List ℕ) → set.contains s pair ≡ true → s ≡ set.insert s pair
told_again s pair there =
    sym (set.same_set told_order_total told_order_tied (set.insert s pair) s (λ q. set.contains-insert told_order_total s pair q ∙ by q (eq_by_cmp told_order q pair) refl))
  where
    by : (q : ℕ × List ℕ) (b : Bool) → eq_by_cmp told_order q pair ≡ b → (b || set.contains s q) ≡ set.contains s q
    by q true e = sym (ap (set.contains s) (tells_apart told_order_tied q pair e) ∙ there)
    by q false e = refl
