-- The engaged nodes as a tree
use Rattle.std.proofs.Common.{◌≡◌, true, false, refl, ap, eq-eqb, ◌≢◌, ℕ, ◌+◌, ◌≤◌, ◌==◌, Bool, cond, List, [], ◌∷◌, Some, None, map, count_by, sum_by, is_some, sym, ◌∙◌, arith, ne_eqb, true≢false, Less, Equal, Greater, ◌<◌, subst}
use Rattle.std.proofs.lemmas.Map.Views.{exact_unsigned_eq}
use Rattle.scholten_core.specs.declared.parents.Parent.{Parent}
use Rattle.scholten_core.specs.declared.parents.Parent.TheVariants.{Neutral, Environment, Node}
use Rattle.scholten_core.specs.Computation.{same_parent}
use Rattle.scholten_core.specs.Kept.{hit}
use Rattle.std.specs.Ordering.{nat_cmp, is_eq}
use Rattle.std.specs.Cmp.{nat_cmp_total, unsigned_tied}
use Rattle.std.specs.FinMap.{FinMap, put}
use Rattle.std.specs.FinMap.Entries.{by_order}
use Rattle.std.proofs.lemmas.List.{length-map}
use Rattle.std.proofs.lemmas.List.Sums.{sum_by-cons, count_by-le-length}
use Rattle.std.proofs.lemmas.Bool.{false_from_ne_true}
use Rattle.scholten_core.specs.Sound.{IsTree, bare, grown, is_active}
use Rattle.std.specs.FinMap as fin

-- `same_parent` tells all apart

pub same_true : (p q : Parent) → same_parent p q ≡ true → p ≡ q
same_true Neutral Neutral e = refl
same_true Environment Environment e = refl
same_true (Node m) (Node n) e = ap Node (exact_unsigned_eq m n e)
same_true _ _ e = cc

pub same_parent-self : (p : Parent) → same_parent p p ≡ true
same_parent-self (Node n) = eq-eqb n n refl
same_parent-self _ = refl

pub same_parent-other : (p q : Parent) → (p ≡ q → ⊥) → same_parent p q ≡ false
same_parent-other p q apart =
    elim (same_parent p q) as (λ b. same_parent p q ≡ b → same_parent p q ≡ false) [
      | true ↦ λ e. absurd (apart (same_true p q e))
      | false ↦ λ e. e
    ] refl

pub hit-self : (p : Parent) → hit p p ≡ 1
hit-self p = rw (same_parent-self p)

pub hit-other : (p q : Parent) → (p ≡ q → ⊥) → hit p q ≡ 0
hit-other p q apart = rw (same_parent-other p q apart)

-- finite maps from numbers to parents

-- two numbers are one, or differ
pub one_or_other : (m n : ℕ) {C : Type 0} → (m ≡ n → C) → (m ≢ n → C) → C
one_or_other m n {C} one other =
    elim (m == n) as (λ b. (m == n) ≡ b → C) [
      | true ↦ λ e. one (exact_unsigned_eq m n e)
      | false ↦ λ e. other (λ same. true≢false (sym (eq-eqb m n same) ∙ e))
    ] refl

module _ (m : FinMap nat_cmp Parent) (k : ℕ) where
  pub get-insert_same : (v : Parent) → fin.get (fin.insert m k v) k ≡ Some v
  get-insert_same v = fin.get-insert nat_cmp_total m k v k ∙ ap (λ b. cond b (Some v) (fin.get m k)) (unsigned_tied k k ∙ eq-eqb k k refl)

  pub get-insert_other : (v : Parent) (q : ℕ) → q ≢ k → fin.get (fin.insert m k v) q ≡ fin.get m q
  get-insert_other v q apart = fin.get-insert nat_cmp_total m k v q ∙ ap (λ b. cond b (Some v) (fin.get m q)) (unsigned_tied q k ∙ ne_eqb q k apart)

  pub get-remove_same : fin.get (fin.remove m k) k ≡ None
  get-remove_same = fin.get-remove nat_cmp_total m k k ∙ ap (λ b. cond b None (fin.get m k)) (unsigned_tied k k ∙ eq-eqb k k refl)

  pub get-remove_other : (q : ℕ) → q ≢ k → fin.get (fin.remove m k) q ≡ fin.get m q
  get-remove_other q apart = fin.get-remove nat_cmp_total m k q ∙ ap (λ b. cond b None (fin.get m q)) (unsigned_tied q k ∙ ne_eqb q k apart)

-- two maps that answer alike are one
pub alike : (m n : FinMap nat_cmp Parent) → ((q : ℕ) → fin.get m q ≡ fin.get n q) → m ≡ n
alike = fin.same_map nat_cmp_total fin.nat_cmp-IsAntisymmetric

module _ (m : FinMap nat_cmp Parent) (k : ℕ) (v : Parent) where
  -- to put a new entry in and take it out again
  pub remove-insert : fin.get m k ≡ None → fin.remove (fin.insert m k v) k ≡ m
  remove-insert none =
      alike _ _ (λ q. one_or_other q k
      (λ one. ap (fin.get _) one ∙ get-remove_same _ k ∙ sym none ∙ ap (fin.get m) (sym one))
      (λ other. get-remove_other _ k q other ∙ get-insert_other m k v q other))

  -- to take an entry out and put it in again
  pub insert-remove : fin.get m k ≡ Some v → fin.insert (fin.remove m k) k v ≡ m
  insert-remove some =
      alike _ _ (λ q. one_or_other q k
      (λ one. ap (fin.get _) one ∙ get-insert_same _ k v ∙ sym some ∙ ap (fin.get m) (sym one))
      (λ other. get-insert_other _ k v q other ∙ get-remove_other m k q other))

  -- to put one entry in and take another out
  pub remove-insert_other : (j : ℕ) → j ≢ k → fin.remove (fin.insert m k v) j ≡ fin.insert (fin.remove m j) k v
  remove-insert_other j apart =
      alike _ _ (λ q. one_or_other q k
      (λ one. ap (fin.get _) one ∙ get-remove_other _ j k (λ e. apart (sym e)) ∙ get-insert_same m k v ∙ sym (get-insert_same _ k v) ∙ ap (fin.get _) (sym one))
      (λ other. one_or_other q j
      (λ gone. ap (fin.get _) gone ∙ get-remove_same _ j ∙ sym (get-remove_same m j) ∙ sym (get-insert_other _ k v j apart) ∙ ap (fin.get _) (sym gone))
      (λ kept. get-remove_other _ j q kept ∙ get-insert_other m k v q other ∙ sym (get-remove_other m j q kept) ∙ sym (get-insert_other _ k v q other))))

-- the size of a map with a new entry, and without one
pub len-insert_new : (m : FinMap nat_cmp Parent) (k : ℕ) (v : Parent) → fin.get m k ≡ None → fin.len (fin.insert m k v) ≡ fin.len m + 1
len-insert_new m k v none = fin.len-insert nat_cmp_total m k v ∙ ap (λ o. cond (is_some o) (fin.len m) (fin.len m + 1)) none

pub len-remove_old : (m : FinMap nat_cmp Parent) (k : ℕ) (v : Parent) → fin.get m k ≡ Some v → fin.len (fin.remove m k) + 1 ≡ fin.len m
len-remove_old m k v some = sym (len-insert_new (fin.remove m k) k v (get-remove_same m k)) ∙ ap fin.len (insert-remove m k v some)

-- how many values of the entries pass a test
passing : (Parent → Bool) → List (ℕ × Parent) → ℕ
passing p es = sum_by (λ v. cond (p v) 1 0) (map (λ e. e.1) es)

module _ (p : Parent → Bool) where
  passing-cons : (e : ℕ × Parent) (es : List (ℕ × Parent)) → passing p (e ∷ es) ≡ cond (p e.1) 1 0 + passing p es
  unfolding passing
  passing-cons e es = sum_by-cons (λ v. cond (p v) 1 0) e.1 (map (λ x. x.1) es)

  module _ (k : ℕ) (v : Parent) where
    passing-put : (es : List (ℕ × Parent)) → fin.find nat_cmp k es ≡ None → passing p (put nat_cmp k v es) ≡ passing p es + cond (p v) 1 0
    passing-put [] none = omega (arith, passing-cons (k, v) [])
    passing-put (e ∷ es) none =
        elim (nat_cmp k e.0) as (λ o. cond (is_eq o) (Some e.1) (fin.find nat_cmp k es) ≡ None → passing p (by_order o ((k, v) ∷ e ∷ es) ((e.0, v) ∷ es) (e ∷ put nat_cmp k v es)) ≡ passing p (e ∷ es) + cond (p v) 1 0) [
          | Less ↦ λ _. omega (arith, passing-cons (k, v) (e ∷ es))
          | Equal ↦ λ found. cc
          | Greater ↦ λ rest. omega (arith, passing-cons e (put nat_cmp k v es), passing-cons e es, passing-put es rest)
        ] none

    -- how many values pass a test, once a new entry is in
    pub count-insert : (m : FinMap nat_cmp Parent) → fin.get m k ≡ None → count_by p (fin.values (fin.insert m k v)) ≡ count_by p (fin.values m) + cond (p v) 1 0
    unfolding passing
    count-insert m none = ap (passing p) (fin.entries-insert nat_cmp_total m k v) ∙ passing-put (fin.entries m) (sym (fin.get-entries m k) ∙ none)

    -- and once an entry is out
    pub count-remove : (m : FinMap nat_cmp Parent) → fin.get m k ≡ Some v → count_by p (fin.values (fin.remove m k)) + cond (p v) 1 0 ≡ count_by p (fin.values m)
    count-remove m some = sym (count-insert (fin.remove m k) (get-remove_same m k)) ∙ ap (λ x. count_by p (fin.values x)) (insert-remove m k v some)

  pub count-le-len : (m : FinMap nat_cmp Parent) → count_by p (fin.values m) ≤ fin.len m
  count-le-len m = rw (fin.len-entries m, ← length-map (fin.entries m) (λ (e : ℕ × Parent). e.1)) (count_by-le-length p (fin.values m))

  pub count-empty : count_by p (fin.values (fin.empty {R = nat_cmp})) ≡ 0
  count-empty = omega (arith, count-le-len fin.empty, fin.len-empty nat_cmp Parent)

-- a node that isn't engaged is in no entry
pub none_there : (m : FinMap nat_cmp Parent) (n : ℕ) → fin.contains_key m n ≡ false → fin.get m n ≡ None
none_there m n gone =
    elim (fin.get m n) as (λ o. is_some o ≡ false → o ≡ None) [ None ↦ λ _. refl | Some by ↦ λ e. cc ] gone

module _ (m : FinMap nat_cmp Parent) (k : ℕ) (v : Parent) where
  contains-insert : (q : ℕ) → fin.contains_key m q ≡ true → fin.contains_key (fin.insert m k v) q ≡ true
  contains-insert q there =
      one_or_other q k
      (λ one. ap (fin.contains_key (fin.insert m k v)) one ∙ ap is_some (get-insert_same m k v))
      (λ other. ap is_some (get-insert_other m k v q other) ∙ there)

  -- to engage a node lets nobody go
  pub active-insert : (p : Parent) → is_active m p ≡ true → is_active (fin.insert m k v) p ≡ true
  active-insert Neutral active = active
  active-insert Environment active = refl
  active-insert (Node q) active = contains-insert q active

-- to let a node go lets nobody else go
pub active-remove : (m : FinMap nat_cmp Parent) (j : ℕ) (p : Parent) → p ≢ Node j → is_active m p ≡ true → is_active (fin.remove m j) p ≡ true
active-remove m j Neutral apart active = active
active-remove m j Environment apart active = refl
active-remove m j (Node q) apart active = ap is_some (get-remove_other m j q (λ e. apart (ap Node e))) ∙ active

abbrev engaged_by : FinMap nat_cmp Parent → Parent → ℕ
engaged_by m p = count_by (same_parent p) (fin.values m)

engaged_by-empty : (p : Parent) → engaged_by fin.empty p ≡ 0
engaged_by-empty p = count-empty (same_parent p)

engaged_by-insert : (m : FinMap nat_cmp Parent) (n : ℕ) (by : Parent) (larger : FinMap nat_cmp Parent) → fin.get m n ≡ None → larger ≡ fin.insert m n by → (p : Parent) → engaged_by larger p ≡ engaged_by m p + hit p by
engaged_by-insert m n by larger none is p = ap (λ x. engaged_by x p) is ∙ count-insert (same_parent p) n by m none

-- whoever is neither the environment nor engaged engaged nobody
pub idle_engaged_none : {m : FinMap nat_cmp Parent} → IsTree m → (p : Parent) → is_active m p ≡ false → count_by (same_parent p) (fin.values m) ≡ 0
idle_engaged_none bare p idle = engaged_by-empty p
idle_engaged_none (grown {m} tree n by none active larger is) p idle =
    let before = false_from_ne_true (is_active m p) (λ was. cc (active-insert m n by p was, ap (λ x. is_active x p) is)) in
    let apart : p ≢ by = λ e. cc (ap (is_active m) e) in
    omega (arith, engaged_by-insert m n by larger none is p, idle_engaged_none tree p before, hit-other p by apart)

-- a node that engaged nobody may go
pub tree_remove : {m : FinMap nat_cmp Parent} → IsTree m → (j : ℕ) → fin.contains_key m j ≡ true → count_by (same_parent (Node j)) (fin.values m) ≡ 0 → IsTree (fin.remove m j)
tree_remove bare j there leaf = absurd (cc (ap is_some (fin.get-empty {X = Parent} nat_cmp j)))
tree_remove (grown {m} tree n by none active larger is) j there leaf =
    let engaged = engaged_by-insert m n by larger none is (Node j) in
    let apart : by ≢ Node j = λ e. absurd (omega (arith, engaged, hit-self (Node j), ap (hit (Node j)) e)) in
    one_or_other j n
    (λ one. subst IsTree (sym (ap (λ x. fin.remove x j) is ∙ ap (fin.remove _) one ∙ remove-insert m n by none)) tree)
    (λ other. let was : fin.contains_key m j ≡ true = sym (ap is_some (get-insert_other m n by j other)) ∙ sym (ap (λ x. fin.contains_key x j) is) ∙ there in
    let smaller = tree_remove tree j was (omega (arith, engaged)) in
    grown smaller n by (get-remove_other m j n (λ e. other (sym e)) ∙ none) (active-remove m j by apart active) (fin.remove larger j) (ap (λ x. fin.remove x j) is ∙ remove-insert_other m n by j other))

-- no node is engaged where the environment engaged none
pub no_root : {m : FinMap nat_cmp Parent} → IsTree m → count_by (same_parent Environment) (fin.values m) ≡ 0 → fin.len m ≡ 0
no_root bare none_by = fin.len-empty nat_cmp Parent
no_root (grown {m} tree n by none active larger is) none_by =
    let engaged = engaged_by-insert m n by larger none is Environment in
    let before = no_root tree (omega (arith, engaged)) in
    absurd (nobody_engages m before by active (λ e. omega (arith, engaged, hit-self Environment, ap (hit Environment) e)))
  where
    nobody_engages : (m : FinMap nat_cmp Parent) → fin.len m ≡ 0 → (by : Parent) → is_active m by ≡ true → (by ≡ Environment → ⊥) → ⊥
    nobody_engages m bare_before Neutral active apart = cc
    nobody_engages m bare_before Environment active apart = apart refl
    nobody_engages m bare_before (Node q) active apart =
        cc (ap (λ x. fin.contains_key x q) (fin.empty_of_len m bare_before), ap is_some (fin.get-empty {X = Parent} nat_cmp q))

-- where some node is engaged, one engaged nobody
pub some_leaf : {m : FinMap nat_cmp Parent} → IsTree m → 0 < fin.len m → (n : ℕ) × (fin.contains_key m n ≡ true) × (count_by (same_parent (Node n)) (fin.values m) ≡ 0)
some_leaf bare some = absurd (omega (arith, fin.len-empty nat_cmp Parent))
some_leaf (grown {m} tree n by none active larger is) some =
    let idle : is_active m (Node n) ≡ false = ap is_some none in
    let apart : Node n ≢ by = λ e. cc (ap (is_active m) e) in
    (n, ap (λ x. fin.contains_key x n) is ∙ ap is_some (get-insert_same m n by), omega (arith, engaged_by-insert m n by larger none is (Node n), idle_engaged_none tree (Node n) idle, hit-other (Node n) by apart))
