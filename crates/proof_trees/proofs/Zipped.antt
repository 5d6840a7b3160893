-- Two lists, place by place.
use Rattle.std.proofs.Common.{◌≡◌, ℕ, zero, suc, ◌+◌, ◌<◌, List, [], ◌∷◌, length, take, get_or, subst, arith}
use Rattle.std.specs.List.{AllZip}

module _ {A B : Type 0} (R : A → B → Type 0) where
  pub zip_length : (xs : List A) (ys : List B) → AllZip R xs ys → length xs ≡ length ys
  zip_length [] [] each = omega arith
  zip_length [] (y ∷ ys) each = absurd each
  zip_length (x ∷ xs) [] each = absurd each
  zip_length (x ∷ xs) (y ∷ ys) each = omega (arith, zip_length xs ys each.1)

  pub zip_at : (xs : List A) (ys : List B) (i : ℕ) (d : A) (e : B) → AllZip R xs ys → i < length xs → R (get_or xs i d) (get_or ys i e)
  zip_at [] ys i d e each within = absurd (omega arith)
  zip_at (x ∷ xs) [] i d e each within = absurd each
  zip_at (x ∷ xs) (y ∷ ys) zero d e each within = each.0
  zip_at (x ∷ xs) (y ∷ ys) (suc i) d e each within = zip_at xs ys i d e each.1 (omega arith)

  one_more : (xs : List A) (ys : List B) (i : ℕ) (d : A) (e : B) → AllZip R (take i xs) (take i ys) → i < length xs → i < length ys → R (get_or xs i d) (get_or ys i e) → AllZip R (take (suc i) xs) (take (suc i) ys)
  one_more [] ys i d e each within within' here = absurd (omega arith)
  one_more (x ∷ xs) [] i d e each within within' here = absurd (omega arith)
  one_more (x ∷ xs) (y ∷ ys) zero d e each within within' here = (here, tt)
  one_more (x ∷ xs) (y ∷ ys) (suc i) d e each within within' here = (each.0, one_more xs ys i d e each.1 (omega arith) (omega arith) here)

  -- the next place too
  pub zip_more : (xs : List A) (ys : List B) (i : ℕ) (d : A) (e : B) → AllZip R (take i xs) (take i ys) → i < length xs → i < length ys → R (get_or xs i d) (get_or ys i e) → AllZip R (take (i + 1) xs) (take (i + 1) ys)
  zip_more xs ys i d e each within within' here =
      let next : suc i ≡ i + 1 = omega arith in
      subst (λ (n : ℕ). AllZip R (take n xs) (take n ys)) next (one_more xs ys i d e each within within' here)
