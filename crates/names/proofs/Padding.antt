-- Names with zeros behind them.
use Rattle.std.proofs.Common.{ℕ, zero, suc, true, List, [], ◌∷◌, ◌≡◌, ◌+◌, ◌-◌, ◌++◌, ◌<◌, ◌&&◌, ◌∙◌}
use Rattle.std.proofs.Common.{sym, ap, subst, refl, arith, length, take, replicate, get_or}
use Rattle.std.specs.List.{list_all}
use Rattle.std.specs.declared.cmp.Ordering.TheVariants.{Less, Equal, Greater}
use Rattle.std.specs.Ordering.{nat_cmp, ordering_then}
use Rattle.std.specs.Cmp.{nat_cmp_is}
use Rattle.std.proofs.lemmas.Bool.{and_parts}
use Rattle.std.proofs.lemmas.Cmp.{tied_itself, nat_list_cmp_total}
use Rattle.names.specs.Name.{is_name_byte, IsName, name_order}
use Rattle.names.specs.Cells.{EndsInZeros, HoldsName, length_held}
use Rattle.names.proofs.Avoiding.{NameParts, name_parts}

-- all bytes of a name may stand in one
name_bytes : (text : List ℕ) → IsName text → list_all is_name_byte text ≡ true
name_bytes [] name = cc
name_bytes (b ∷ bs) name =
    let parts : NameParts b bs = name_parts b bs name in
    let letter : is_name_byte b ≡ true = simp parts.starts in
    ap (λ t. t && list_all is_name_byte bs) letter ∙ parts.goes_on

-- zero isn't among them
no_zero : (b : ℕ) → is_name_byte b ≡ true → 0 < b
no_zero zero passes = cc
no_zero (suc b) passes = omega arith

abbrev zeros : ℕ → List ℕ
zeros count = replicate count 0

zeros_alone : (count j : ℕ) → get_or (zeros count) j 0 ≡ 0
zeros_alone zero j = refl
zeros_alone (suc count) zero = refl
zeros_alone (suc count) (suc j) = zeros_alone count j

ends_in_zeros : (text : List ℕ) (count : ℕ) → list_all is_name_byte text ≡ true → EndsInZeros (text ++ zeros count)
ends_in_zeros [] count bytes i j behind ended = zeros_alone count j
ends_in_zeros (b ∷ bs) count bytes zero j behind ended =
    let above = no_zero b (and_parts (is_name_byte b) (list_all is_name_byte bs) bytes).0 in
    absurd (omega (arith, above, ended))
ends_in_zeros (b ∷ bs) count bytes (suc i) zero behind ended = absurd (omega (arith, behind))
ends_in_zeros (b ∷ bs) count bytes (suc i) (suc j) behind ended =
    ends_in_zeros bs count (and_parts (is_name_byte b) (list_all is_name_byte bs) bytes).1 i j (omega (arith, behind)) ended

-- zeros behind two names decide nothing
padded_order : (xs ys : List ℕ) (p q : ℕ) → list_all is_name_byte xs ≡ true → list_all is_name_byte ys ≡ true
    → length xs + p ≡ length ys + q
    → name_order (xs ++ zeros p) (ys ++ zeros q) ≡ name_order xs ys
padded_order [] [] p q xs_bytes ys_bytes fits =
    let same : p ≡ q = omega (arith, fits) in
    subst (λ n. name_order (zeros p) (zeros n) ≡ Equal) same (tied_itself nat_list_cmp_total (zeros p))
padded_order [] (y ∷ ys) zero q xs_bytes ys_bytes fits = absurd (omega (arith, fits))
padded_order [] (y ∷ ys) (suc p) q xs_bytes ys_bytes fits =
    let above = no_zero y (and_parts (is_name_byte y) (list_all is_name_byte ys) ys_bytes).0 in
    ap (λ r. ordering_then r (name_order (zeros p) (ys ++ zeros q))) (sym (nat_cmp_is 0 y Less above))
padded_order (x ∷ xs) [] p zero xs_bytes ys_bytes fits = absurd (omega (arith, fits))
padded_order (x ∷ xs) [] p (suc q) xs_bytes ys_bytes fits =
    let above = no_zero x (and_parts (is_name_byte x) (list_all is_name_byte xs) xs_bytes).0 in
    ap (λ r. ordering_then r (name_order (xs ++ zeros p) (zeros q))) (sym (nat_cmp_is x 0 Greater above))
padded_order (x ∷ xs) (y ∷ ys) p q xs_bytes ys_bytes fits =
    ap (ordering_then (nat_cmp x y))
    (padded_order xs ys p q (and_parts (is_name_byte x) (list_all is_name_byte xs) xs_bytes).1
    (and_parts (is_name_byte y) (list_all is_name_byte ys) ys_bytes).1 (omega (arith, fits)))

-- behind a held name there are zeros alone
pub held_ends : (cells : List ℕ) (len : ℕ) → HoldsName cells len → EndsInZeros cells
held_ends cells len held = subst EndsInZeros (sym held.padded) (ends_in_zeros (take len cells) (64 - len) (name_bytes
    (take len cells) held.name))

-- held names are ordered as their cells
pub held_order : (cells others : List ℕ) (len other_len : ℕ) → HoldsName cells len → HoldsName others other_len
    → name_order cells others ≡ name_order (take len cells) (take other_len others)
held_order cells others len other_len held other_held =
    let within = held.within in
    let other_within = other_held.within in
    (λ j. name_order (held.padded j) (other_held.padded j))
    ∙ padded_order (take len cells) (take other_len others) (64 - len) (64 - other_len) (name_bytes (take len cells) held.name)
    (name_bytes (take other_len others) other_held.name)
    (omega (arith, length_held cells len held, length_held others other_len other_held, within, other_within))
