-- Where blocks start, and which of them has a place.
use Rattle.std.proofs.Common.{ℕ, zero, suc, List, [], ◌∷◌, ◌++◌, ◌≡◌, ◌∙◌, ◌+◌, ◌-◌, ◌<◌, ◌≤◌, sym, ap, refl, subst, length, length-append, get_or, arith, take, drop, Option, Some, unwrap_or, inl, inr}
use Rattle.std.specs.List.{slice_get}
use Rattle.std.proofs.lemmas.Bool.{cases_lt}
use Rattle.std.proofs.lemmas.List.{drop_all, get_or-append-add, get_or_append_left}
use Rattle.std.proofs.lemmas.Option.{slice_get-get_or, slice_get_within, get_or_from_slice_get}
use Rattle.credential_text.specs.declared.credentials.Credential.{Credential}
use Rattle.vaults.specs.Blocks.{rows_in, starts_of, IsHolder}
use Rattle.vaults.proofs.Parts.{behind_at}

-- where blocks start
pub start_of : (bs : List (List Credential)) (n : ℕ) (b : List Credential) → slice_get bs n ≡ Some b → slice_get (starts_of bs) n ≡ Some (length (rows_in (drop (suc n) bs)))
start_of [] n b at = cc
start_of (a ∷ bs) zero b at = refl
start_of (a ∷ bs) (suc n) b at = start_of bs n b at

pub length-starts : (bs : List (List Credential)) → length (starts_of bs) ≡ length bs
length-starts [] = refl
length-starts (b ∷ bs) = ap suc (length-starts bs)

pub drop_at : (bs : List (List Credential)) (n : ℕ) (b : List Credential) → slice_get bs n ≡ Some b → drop n bs ≡ b ∷ drop (suc n) bs
drop_at [] n b at = cc
drop_at (a ∷ bs) zero b at = cc
drop_at (a ∷ bs) (suc n) b at = drop_at bs n b at

-- the place is in the block that has it
pub holder_from : (bs : List (List Credential)) (place n : ℕ) (b : List Credential) → IsHolder place n (starts_of bs) → slice_get bs n ≡ Some b → length (rows_in (drop (suc n) bs)) ≤ place
holder_from bs place n b holder at = elim (cases_lt (n + 1) (length bs)) [
  | inl more ↦ holder.there (length (rows_in (drop (suc n) bs))) (omega (arith, more, length-starts bs)) (start_of bs n b at)
  | inr last ↦ omega (arith, ap (λ (l : List (List Credential)). length (rows_in l)) (drop_all (suc n) bs (omega (arith, last))))
]

pub holder_below : (bs : List (List Credential)) (place n : ℕ) (b : List Credential) → IsHolder place n (starts_of bs) → place < length (rows_in bs) → slice_get bs n ≡ Some b →
    place < length (rows_in (drop (suc n) bs)) + length b
holder_below bs place zero b holder within at =
    omega (arith, within, ap (λ (l : List (List Credential)). length (rows_in l)) (drop_at bs zero b at), length-append (rows_in (drop 1 bs)) b)
holder_below bs place (suc m) b holder within at =
    let inside : m < length bs = omega (arith, slice_get_within bs (suc m) b at) in
    let below : place < length (rows_in (drop (suc m) bs)) =
    holder.before m (length (rows_in (drop (suc m) bs))) (omega arith) (start_of bs m (get_or bs m []) (slice_get-get_or bs m [] inside)) in
    omega (arith, below, ap (λ (l : List (List Credential)). length (rows_in l)) (drop_at bs (suc m) b at), length-append (rows_in (drop (suc (suc m)) bs)) b)

-- a row of a block, among all rows
pub row_held : (bs : List (List Credential)) (n k : ℕ) (b : List Credential) (x : Credential) → slice_get bs n ≡ Some b → slice_get b k ≡ Some x →
    slice_get (rows_in bs) (length (rows_in (drop (suc n) bs)) + k) ≡ Some x
row_held bs n k b x at here =
    let front : List Credential = rows_in (drop (suc n) bs) in
    let back : List Credential = rows_in (take n bs) in
    let inside : k < length b = slice_get_within b k x here in
    ap (λ (l : List Credential). slice_get l (length front + k)) (behind_at bs n b at)
    ∙ slice_get-get_or (front ++ (b ++ back)) (length front + k) x (omega (arith, inside, length-append front (b ++ back), length-append b back))
    ∙ ap Some (get_or-append-add front (b ++ back) k x ∙ get_or_append_left b back x k inside ∙ get_or_from_slice_get b k x x here)

pub some_start : (bs : List (List Credential)) (place : ℕ) → place < length (rows_in bs) → 0 < length (starts_of bs)
some_start [] place within = absurd (omega (arith, within))
some_start (b ∷ bs) place within = omega arith

-- what stands with a block is where it starts
pub start_told : (bs : List (List Credential)) (starts : List ℕ) (n start : ℕ) (b : List Credential) → starts ≡ starts_of bs → slice_get starts n ≡ Some start → slice_get bs n ≡ Some b →
    start ≡ length (rows_in (drop (suc n) bs))
start_told bs starts n start b are told at =
    ap (λ (o : Option ℕ). unwrap_or o 0) (sym told ∙ ap (λ (l : List ℕ). slice_get l n) are ∙ start_of bs n b at)

-- the row at a place, by the block that has it
pub row_found : (bs : List (List Credential)) (starts : List ℕ) (place n start : ℕ) (b : List Credential) (x : Credential) → starts ≡ starts_of bs → IsHolder place n starts →
    slice_get starts n ≡ Some start → slice_get bs n ≡ Some b → slice_get b (place - start) ≡ Some x → slice_get (rows_in bs) place ≡ Some x
row_found bs starts place n start b x are holder told at here =
    let from : start ≡ length (rows_in (drop (suc n) bs)) = start_told bs starts n start b are told at in
    let behind : length (rows_in (drop (suc n) bs)) ≤ place = holder_from bs place n b (subst (IsHolder place n) are holder) at in
    let whole : place ≡ length (rows_in (drop (suc n) bs)) + (place - start) = omega (arith, from, behind) in
    ap (slice_get (rows_in bs)) whole ∙ row_held bs n (place - start) b x at here
