-- How many rows pass, by the block that the cut goes through.
use Rattle.std.proofs.Common.{ℕ, zero, suc, Bool, true, false, List, [], ◌∷◌, ◌++◌, ◌≡◌, ◌∙◌, ◌+◌, ◌<◌, ◌≤◌, sym, ap, refl, subst, length, length-append, append_assoc, filter, take, drop, get_or, arith, Some, inl, inr}
use Rattle.std.specs.List.{slice_get, All}
use Rattle.std.specs.List.Sorted.{IsPartitionedBy, IsStrictlySortedBy}
use Rattle.std.specs.declared.cmp.Ordering.{Ordering}
use Rattle.std.specs.declared.cmp.Ordering.TheVariants.{Less, Equal, Greater}
use Rattle.std.specs.Ordering.{is_lt, is_le}
use Rattle.std.proofs.lemmas.Bool.{cases_lt}
use Rattle.std.proofs.lemmas.List.{drop_all, get_or-append-add, get_or_append_left}
use Rattle.std.proofs.lemmas.List.Elements.{filter-append}
use Rattle.std.proofs.lemmas.Option.{slice_get-get_or}
use Rattle.names.specs.declared.roles.Role.{Role}
use Rattle.names.specs.Role.{role_order}
use Rattle.credential_text.specs.declared.credentials.Credential.{Credential}
use Rattle.credential_text.specs.Credential.{credential_order}
use Rattle.vaults.specs.Blocks.{rows_in}
use Rattle.vaults.proofs.Parts.{sorted_front, sorted_back, behind_at, behind_append, take_one_more}
use Rattle.snapshots.specs.declared.spans.Cut.{Cut}
use Rattle.snapshots.specs.Span.{how_many, is_before, is_through, is_cut, is_cut_by_name}
use Rattle.snapshots.specs.Blocks.{starts_with, EndsBefore, BeginsAt, IsCutThrough}
use Rattle.snapshots.proofs.Counting.{how_many_at, none_pass, fail_behind}
use Rattle.snapshots.proofs.Fronts.{by_name}

how_many-append : (p : Credential → Bool) (xs ys : List Credential) → how_many p (xs ++ ys) ≡ how_many p xs + how_many p ys
how_many-append p xs ys = ap length (filter-append p xs ys) ∙ length-append (filter p xs) (filter p ys)

-- what stands before a row that passes passes, and what stands behind one that fails fails
all_before : (p : Credential → Bool) (xs : List Credential) (c : Credential) (ys : List Credential) → IsPartitionedBy p (xs ++ c ∷ ys) → p c ≡ true → how_many p xs ≡ length xs
all_before p xs c ys parted passes = how_many_at p xs (length xs) (omega arith) (
  λ k d low high.
      let here : get_or (xs ++ c ∷ ys) (length xs + 0) d ≡ c = get_or-append-add xs (c ∷ ys) 0 d in
      ap p (sym (get_or_append_left xs (c ∷ ys) d k high))
      ∙ parted k (length xs + 0) d (omega (arith, high)) (omega (arith, length-append xs (c ∷ ys))) (ap p here ∙ passes),
  λ k d low high. absurd (omega (arith, low, high)),
)

none_behind : (p : Credential → Bool) (xs : List Credential) (c : Credential) (ys : List Credential) → IsPartitionedBy p (xs ++ c ∷ ys) → p c ≡ false → how_many p (c ∷ ys) ≡ 0
none_behind p xs c ys parted fails = none_pass p (c ∷ ys) (λ k d within.
    ap p (sym (get_or-append-add xs (c ∷ ys) k d))
    ∙ fail_behind p (xs ++ c ∷ ys) (length xs + 0) parted (λ e inside. ap p (get_or-append-add xs (c ∷ ys) 0 e) ∙ fails) (length xs + k) d (omega arith)
    (omega (arith, within, length-append xs (c ∷ ys))))

first_before : (p : Credential → Bool) (xs b ys : List Credential) → IsPartitionedBy p (xs ++ (b ++ ys)) → starts_with p b ≡ true → how_many p xs ≡ length xs
first_before p xs [] ys parted passes = cc
first_before p xs (c ∷ b) ys parted passes = all_before p xs c (b ++ ys) parted passes

first_behind : (p : Credential → Bool) (xs b ys : List Credential) → IsPartitionedBy p (xs ++ (b ++ ys)) → 0 < length b → starts_with p b ≡ false → how_many p (b ++ ys) ≡ 0
first_behind p xs [] ys parted some fails = absurd (omega (arith, some))
first_behind p xs (c ∷ b) ys parted some fails = none_behind p xs c (b ++ ys) parted fails

-- the rows before the block that the cut goes through pass, and those behind it don't
pub cut_through : (p : Credential → Bool) (bs : List (List Credential)) (n : ℕ) (b : List Credential) → IsPartitionedBy p (rows_in bs) → IsCutThrough p n bs → slice_get bs n ≡ Some b →
    length (rows_in (drop (suc n) bs)) + how_many p b ≡ how_many p (rows_in bs)
cut_through p bs n b parted through at =
    let front : List Credential = rows_in (drop (suc n) bs) in
    let back : List Credential = rows_in (take n bs) in
    let whole : rows_in bs ≡ front ++ (b ++ back) = behind_at bs n b at in
    let both : IsPartitionedBy p (front ++ (b ++ back)) = subst (IsPartitionedBy p) whole parted in
    let before : how_many p front ≡ length front = elim (cases_lt (n + 1) (length bs)) [
      | inl more ↦ first_before p front b back both (through.there b more at)
      | inr last ↦ let none : front ≡ [] = ap rows_in (drop_all (suc n) bs (omega (arith, last))) in ap (how_many p) none ∙ ap length (sym none)
    ] in
    let behind : how_many p back ≡ 0 = behind_it n both through.before (omega (arith, through.within)) in
    omega (arith, before, behind, ap (how_many p) whole, how_many-append p front (b ++ back), how_many-append p b back)
  where
    behind_it : (k : ℕ) → IsPartitionedBy p (rows_in (drop (suc n) bs) ++ (b ++ rows_in (take k bs))) → EndsBefore p k bs → k ≤ length bs → how_many p (rows_in (take k bs)) ≡ 0
    behind_it zero both ends within = refl
    behind_it (suc m) both ends within =
        let next : List Credential = get_or bs m [] in
        let there : slice_get bs m ≡ Some next = slice_get-get_or bs m [] (omega (arith, within)) in
        let first : rows_in (take (suc m) bs) ≡ next ++ rows_in (take m bs) = ap rows_in (take_one_more bs m next there) ∙ behind_append (take m bs) (next ∷ []) in
        let fails : (0 < length next) × (starts_with p next ≡ false) = ends m next (omega arith) there in
        let front : List Credential = rows_in (drop (suc n) bs) ++ b in
        ap (how_many p) first
        ∙ first_behind p front next (rows_in (take m bs))
        (subst (IsPartitionedBy p) (sym (append_assoc (rows_in (drop (suc n) bs)) b (next ++ rows_in (take m bs)))) (subst (λ (l : List Credential). IsPartitionedBy p (rows_in (drop (suc n) bs) ++ (b ++ l))) first both)) fails.0 fails.1

-- what begins before a role's rows begins before those behind them
pub begins_through : (role : Role) (n : ℕ) (bs : List (List Credential)) → BeginsAt (is_before role) n bs → BeginsAt (is_through role) n bs
begins_through role n bs begins b more at = by b (begins b more at)
  where
    lower : (o : Ordering) → is_lt o ≡ true → is_le o ≡ true
    lower Less less = less
    lower Equal less = cc
    lower Greater less = cc

    by : (b : List Credential) → starts_with (is_before role) b ≡ true → starts_with (is_through role) b ≡ true
    by [] passes = cc
    by (c ∷ b) passes = lower (role_order c.head role) passes

-- the rows of a block
pub block_sorted : (bs : List (List Credential)) (n : ℕ) (b : List Credential) → slice_get bs n ≡ Some b → IsStrictlySortedBy credential_order (rows_in bs) → IsStrictlySortedBy credential_order b
block_sorted bs n b at sorted =
    sorted_front b (rows_in (take n bs)) (sorted_back (rows_in (drop (suc n) bs)) (b ++ rows_in (take n bs)) (subst (IsStrictlySortedBy credential_order) (behind_at bs n b at) sorted))

pub block_own : (owner : List ℕ) (bs : List (List Credential)) (n : ℕ) (b : List Credential) → slice_get bs n ≡ Some b → All (λ c. c.head.owner ≡ owner) (rows_in bs) → All (λ c. c.head.owner ≡ owner) b
block_own owner bs n b at own k d within =
    let front : List Credential = rows_in (drop (suc n) bs) in
    let back : List Credential = rows_in (take n bs) in
    ap (λ (c : Credential). c.head.owner) (sym (get_or_append_left b back d k within) ∙ sym (get_or-append-add front (b ++ back) k d) ∙ ap (λ (l : List Credential). get_or l (length front + k) d) (sym (behind_at bs n b at)))
    ∙ own (length front + k) d (omega (arith, within, ap length (behind_at bs n b at), length-append front (b ++ back), length-append b back))

-- no block has no row
pub none_in : (p : Credential → Bool) (bs : List (List Credential)) → length bs ≡ 0 → 0 ≡ how_many p (rows_in bs)
none_in p [] none = refl
none_in p (b ∷ bs) none = absurd (omega (arith, none))

-- the first of rows of one owner, by the name of its role
pub starts_by_name : (cut : Cut) (role : Role) (rows : List Credential) (r : Credential) → All (λ c. c.head.owner ≡ role.owner) rows → 0 < length rows → r ≡ get_or rows 0 r →
    is_cut_by_name cut role.name r ≡ starts_with (is_cut cut role) rows
starts_by_name cut role [] r own some is = absurd (omega (arith, some))
starts_by_name cut role (c ∷ rows) r own some is = ap (is_cut_by_name cut role.name) is ∙ by_name cut role c (own 0 c (omega arith))

pub starts_nowhere : (p : Credential → Bool) (rows : List Credential) → length rows ≤ 0 → false ≡ starts_with p rows
starts_nowhere p [] none = refl
starts_nowhere p (c ∷ rows) none = absurd (omega (arith, none))
