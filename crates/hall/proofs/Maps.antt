-- Finite maps: what an entry put in or taken out leaves, and a map whose values are all changed by one function.
use Rattle.std.proofs.Common.{◌≡◌, ◌≢◌, ◌∙◌, Bool, true, false, cond, ◌&&◌, T, List, [], ◌∷◌, length, map, Option, Some, None, option_map, is_some, sym, ap, refl, subst}
use Rattle.std.specs.declared.cmp.Ordering.{Ordering}
use Rattle.std.specs.Ordering.{nat_cmp, eq_by_cmp, is_lt}
use Rattle.std.specs.Cmp.{Equal-is}
use Rattle.std.specs.FinMap.{FinMap, empty, get, insert, remove, len, entries, from_sorted, find, is_sorted, get-entries, get-empty, get-insert, get-remove, get-from_sorted, len-entries, entries-from_sorted, entries_sorted, same_map, nat_cmp-IsAntisymmetric}
use Rattle.std.specs.FinMap.Entries.{below_all}
use Rattle.std.proofs.lemmas.Bool.{false≢true}
use Rattle.std.proofs.lemmas.Cmp.{nat_cmp_total, tied_itself}
use Rattle.std.proofs.lemmas.List.{length-map}
use Rattle.vaults.proofs.Elements.{IsExactOrder, same_from_tied}

pub numbers_exact : IsExactOrder nat_cmp
numbers_exact = record { total = nat_cmp_total; exact = nat_cmp-IsAntisymmetric }

-- the entries, each value changed
abbrev pub by_value : {K X Y : Type 0} → (X → Y) → List (K × X) → List (K × Y)
by_value f es = map (λ e. (e.0, f e.1)) es

-- the map with each value changed
abbrev pub mapped : {K X Y : Type 0} {R : K → K → Ordering} → (X → Y) → FinMap R X → FinMap R Y
mapped f m = from_sorted (by_value f (entries m))

module _ {K : Type 0} {R : K → K → Ordering} (o : IsExactOrder R) where
  tied : (k : K) → eq_by_cmp R k k ≡ true
  tied k = (Equal-is (R k k)).1 (tied_itself o.total k)

  -- two keys are one, or differ
  either : {X : Type 0} (P : K → X → Type 0) (k : K) (v w : X) → P k v → (q : K) → (q ≢ k → P q w) → P q (cond (eq_by_cmp R q k) v w)
  either {X} P k v w here q other = by (eq_by_cmp R q k) refl
    where
      by : (b : Bool) → eq_by_cmp R q k ≡ b → P q (cond b v w)
      by true e = subst (λ x. P x v) (sym (same_from_tied o q k e)) here
      by false e = other (λ same. false≢true (sym e ∙ ap (λ x. eq_by_cmp R x k) same ∙ tied k))

module _ {K X : Type 0} {R : K → K → Ordering} (o : IsExactOrder R) where
  -- what holds of the entry that is put in, and of each other, holds of all
  pub each_inserted : (P : K → Option X → Type 0) (m : FinMap R X) (k : K) (v : X) → P k (Some v) →
      ((q : K) → q ≢ k → P q (get m q)) → (q : K) → P q (get (insert m k v) q)
  each_inserted P m k v here others q = rw (get-insert o.total m k v q) (either o P k (Some v) (get m q) here q (others q))

  -- and likewise where one is taken out
  pub each_removed : (P : K → Option X → Type 0) (m : FinMap R X) (k : K) → P k None →
      ((q : K) → q ≢ k → P q (get m q)) → (q : K) → P q (get (remove m k) q)
  each_removed P m k gone others q = rw (get-remove o.total m k q) (either o P k None (get m q) gone q (others q))

  -- an entry that is put in is there, and the others stay
  pub get_inserted : (m : FinMap R X) (k : K) (v : X) → get (insert m k v) k ≡ Some v
  get_inserted m k v = each_inserted (λ q p. q ≡ k → p ≡ Some v) m k v (λ same. refl) (λ q apart same. absurd (apart same)) k refl

  pub get_insert_other : (m : FinMap R X) (k : K) (v : X) (q : K) → q ≢ k → get (insert m k v) q ≡ get m q
  get_insert_other m k v = each_inserted (λ q p. q ≢ k → p ≡ get m q) m k v (λ apart. absurd (apart refl)) (λ q apart also. refl)

  -- an entry that is taken out is gone, and the others stay
  pub get_removed : (m : FinMap R X) (k : K) → get (remove m k) k ≡ None
  get_removed m k = each_removed (λ q p. q ≡ k → p ≡ None) m k (λ same. refl) (λ q apart same. absurd (apart same)) k refl

  pub get_remove_other : (m : FinMap R X) (k q : K) → q ≢ k → get (remove m k) q ≡ get m q
  get_remove_other m k = each_removed (λ q p. q ≢ k → p ≡ get m q) m k (λ apart. absurd (apart refl)) (λ q apart also. refl)

  -- two maps that answer alike are one
  pub same_answers : (m n : FinMap R X) → ((q : K) → get m q ≡ get n q) → m ≡ n
  same_answers m n same = same_map o.total o.exact m n same

  -- a value put in for itself changes nothing
  pub insert_again : (m : FinMap R X) (k : K) (v : X) → get m k ≡ Some v → insert m k v ≡ m
  insert_again m k v there = same_answers _ m (each_inserted (λ q p. p ≡ get m q) m k v (sym there) (λ q apart. refl))

  -- of two values put in for one key the later stays
  pub insert_twice : (m : FinMap R X) (k : K) (v w : X) → insert (insert m k v) k w ≡ insert m k w
  insert_twice m k v w =
      same_answers _ _ (each_inserted (λ q p. p ≡ get (insert m k w) q) (insert m k v) k w (sym (get_inserted m k w))
      (λ q apart. get_insert_other m k v q apart ∙ sym (get_insert_other m k w q apart)))

module _ {K X Y : Type 0} (R : K → K → Ordering) (f : X → Y) where
  below_by_value : (k : K) (es : List (K × X)) → below_all R k (by_value f es) ≡ below_all R k es
  below_by_value k [] = refl
  below_by_value k (e ∷ es) = ap (λ b. is_lt (R k e.0) && b) (below_by_value k es)

  sorted_by_value : (es : List (K × X)) → is_sorted R (by_value f es) ≡ is_sorted R es
  sorted_by_value [] = refl
  sorted_by_value (e ∷ es) = λ i. below_by_value e.0 es i && sorted_by_value es i

  in_order : (m : FinMap R X) → T (is_sorted R (by_value f (entries m)))
  in_order m = rw sorted_by_value (entries_sorted m)

  find_by_value : (q : K) (es : List (K × X)) → find R q (by_value f es) ≡ option_map f (find R q es)
  find_by_value q [] = refl
  find_by_value q (e ∷ es) = by (eq_by_cmp R q e.0) (find_by_value q es)
    where
      by : (b : Bool) → find R q (by_value f es) ≡ option_map f (find R q es) →
          cond b (Some (f e.1)) (find R q (by_value f es)) ≡ option_map f (cond b (Some e.1) (find R q es))
      by true rest = refl
      by false rest = rest

module _ {K X Y : Type 0} {R : K → K → Ordering} (o : IsExactOrder R) (f : X → Y) where
  -- what the changed map has
  pub get_mapped : (m : FinMap R X) (q : K) → get (mapped f m) q ≡ option_map f (get m q)
  get_mapped m q =
      get-from_sorted R (by_value f (entries m)) q (in_order R f m) ∙ find_by_value R f q (entries m)
      ∙ ap (option_map f) (sym (get-entries m q))

  pub len_mapped : (m : FinMap R X) → len (mapped f m) ≡ len m
  len_mapped m =
      len-entries (mapped f m) ∙ ap length (entries-from_sorted R (by_value f (entries m)) (in_order R f m))
      ∙ length-map (entries m) (λ (e : K × X). (e.0, f e.1)) ∙ sym (len-entries m)

  pub mapped_empty : mapped f (empty {X = X} {R = R}) ≡ empty
  mapped_empty = same_answers o _ _ (λ q. get_mapped empty q ∙ ap (option_map f) (get-empty R q) ∙ sym (get-empty R q))

  pub mapped_insert : (m : FinMap R X) (k : K) (v : X) → mapped f (insert m k v) ≡ insert (mapped f m) k (f v)
  mapped_insert m k v =
      let own = get_inserted o (mapped f m) k (f v) in
      same_answers o _ _ (λ q. get_mapped (insert m k v) q
      ∙ each_inserted o (λ q p. option_map f p ≡ get (insert (mapped f m) k (f v)) q) m k v (sym own)
      (λ q apart. sym (get_insert_other o (mapped f m) k (f v) q apart ∙ get_mapped m q)) q)

  pub mapped_remove : (m : FinMap R X) (k : K) → mapped f (remove m k) ≡ remove (mapped f m) k
  mapped_remove m k =
      same_answers o _ _ (λ q. get_mapped (remove m k) q
      ∙ each_removed o (λ q p. option_map f p ≡ get (remove (mapped f m) k) q) m k (sym (get_removed o (mapped f m) k))
      (λ q apart. sym (get_remove_other o (mapped f m) k q apart ∙ get_mapped m q)) q)

-- whether there is a value, as an option
same_presence : {X Y : Type 0} (p : Option X) (q : Option Y) → is_some p ≡ is_some q →
    option_map {U = Unit {0}} (λ x. tt) p ≡ option_map (λ y. tt) q
same_presence None None e = refl
same_presence None (Some y) e = absurd (false≢true e)
same_presence (Some x) None e = absurd (false≢true (sym e))
same_presence (Some x) (Some y) e = refl

-- maps with the same keys are of one length
pub same_len : {K X Y : Type 0} {R : K → K → Ordering} → IsExactOrder R → (m : FinMap R X) (n : FinMap R Y) →
    ((q : K) → is_some (get m q) ≡ is_some (get n q)) → len m ≡ len n
same_len {K} {X} {Y} {R} o m n same =
    let bare : X → Unit {0} = λ x. tt in
    let empty_too : Y → Unit {0} = λ y. tt in
    sym (len_mapped o bare m)
    ∙ ap len (same_answers o (mapped bare m) (mapped empty_too n)
    (λ q. get_mapped o bare m q ∙ same_presence (get m q) (get n q) (same q) ∙ sym (get_mapped o empty_too n q)))
    ∙ len_mapped o empty_too n
