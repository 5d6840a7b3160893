-- Two names are found the same exactly where they are equal.
use Rattle.std.proofs.Common.{ℕ, true, List, ◌≡◌}
use Rattle.std.specs.Ordering.{eq_by_cmp}
use Rattle.std.specs.Cmp.Lexicographic.{bytes_decides}
use Rattle.std.proofs.lemmas.Map.Text.{is_eq-slice_cmp}
use Rattle.names.specs.Name.{name_order, is_same}

pub same_from_is_same : (a b : List ℕ) → is_same a b ≡ true → a ≡ b
same_from_is_same a b e = (bytes_decides a b).0 e

pub is_same_itself : (a b : List ℕ) → a ≡ b → is_same a b ≡ true
is_same_itself a b e = (bytes_decides a b).1 e

-- they are the same where they are tied in their order
pub is_same_tied : (a b : List ℕ) → eq_by_cmp name_order a b ≡ is_same a b
is_same_tied a b = is_eq-slice_cmp a b
