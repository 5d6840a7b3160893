-- Cuts through the rows of a vault, and the rows of a role between two of them.
use Rattle.std.proofs.Common.{ℕ, zero, suc, true, cond, List, [], ◌∷◌, ◌≡◌, ◌∙◌, ◌⊎◌, ◌+◌, ◌<◌, sym, ap, refl, subst, length, filter, arith, Some, inl, inr}
use Rattle.std.specs.List.{slice_get}
use Rattle.std.specs.List.Sorted.{IsPartitionedBy, IsStrictlySortedBy}
use Rattle.std.specs.declared.cmp.Ordering.{Ordering}
use Rattle.std.specs.declared.cmp.Ordering.TheVariants.{Less, Equal, Greater}
use Rattle.std.specs.Ordering.{is_lt, is_le, is_eq, ordering_then}
use Rattle.std.proofs.lemmas.Map.Keys.{sorted_tail}
use Rattle.names.specs.declared.roles.Role.{Role}
use Rattle.names.specs.Role.{role_order}
use Rattle.names.proofs.OrderLemmas.{roles_in_order}
use Rattle.credential_text.specs.declared.credentials.Credential.{Credential}
use Rattle.credential_text.specs.Expr.{expr_order}
use Rattle.credential_text.specs.Credential.{credential_order}
use Rattle.snapshots.specs.declared.spans.Cut.{Cut}
use Rattle.snapshots.specs.declared.spans.Cut.TheVariants.{Before, Through}
use Rattle.snapshots.specs.Span.{how_many, is_row, is_before, is_through, is_cut, is_cut_at}
use Rattle.snapshots.proofs.Counting.{parted_from_sorted, head_fails}

first_decides : (a b : Ordering) → ordering_then a b ≡ Less → (a ≡ Less) ⊎ (a ≡ Equal)
first_decides Less b e = inl refl
first_decides Equal b e = inr refl
first_decides Greater b e = cc

-- of two rows in order the heads are in order, or one
heads : (c d : Credential) → credential_order c d ≡ Less → (role_order c.head d.head ≡ Less) ⊎ (c.head ≡ d.head)
heads c d below = elim (first_decides (role_order c.head d.head) (expr_order c.body d.body) below) [
  | inl less ↦ inl less
  | inr equal ↦ inr ((roles_in_order.tied c.head d.head).0 equal)
]

before_down : (role : Role) (c d : Credential) → credential_order c d ≡ Less → is_before role d ≡ true → is_before role c ≡ true
before_down role c d below passes = elim (heads c d below) [
  | inl less ↦ by less (role_order d.head role) refl passes
  | inr same ↦ ap (λ (r : Role). is_lt (role_order r role)) same ∙ passes
]
  where
    by : role_order c.head d.head ≡ Less → (o : Ordering) → role_order d.head role ≡ o → is_lt o ≡ true → is_lt (role_order c.head role) ≡ true
    by less Less e passes = ap is_lt (roles_in_order.transitive c.head d.head role less e)
    by less Equal e passes = cc
    by less Greater e passes = cc

through_down : (role : Role) (c d : Credential) → credential_order c d ≡ Less → is_through role d ≡ true → is_through role c ≡ true
through_down role c d below passes = elim (heads c d below) [
  | inl less ↦ by less (role_order d.head role) refl passes
  | inr same ↦ ap (λ (r : Role). is_le (role_order r role)) same ∙ passes
]
  where
    by : role_order c.head d.head ≡ Less → (o : Ordering) → role_order d.head role ≡ o → is_le o ≡ true → is_le (role_order c.head role) ≡ true
    by less Less e passes = ap is_le (roles_in_order.transitive c.head d.head role less e)
    by less Equal e passes = ap is_le (subst (λ (r : Role). role_order c.head r ≡ Less) ((roles_in_order.tied d.head role).0 e) less)
    by less Greater e passes = cc

-- a cut, by what the row's role compares to
pub cut_at : (cut : Cut) (role : Role) (c : Credential) → is_cut_at cut (role_order c.head role) ≡ is_cut cut role c
cut_at Before role c = refl
cut_at Through role c = refl

-- the rows before a cut come first
pub parted_rows : (cut : Cut) (role : Role) (rows : List Credential) → IsStrictlySortedBy credential_order rows → IsPartitionedBy (is_cut cut role) rows
parted_rows Before role rows sorted = parted_from_sorted credential_order (is_before role) rows sorted (before_down role)
parted_rows Through role rows sorted = parted_from_sorted credential_order (is_through role) rows sorted (through_down role)

-- the rows of the role are those from the one cut to the other
pub row_between : (role : Role) (rows : List Credential) (i : ℕ) (x : Credential) → IsStrictlySortedBy credential_order rows →
    how_many (is_before role) rows + i < how_many (is_through role) rows → slice_get rows (how_many (is_before role) rows + i) ≡ Some x → slice_get (filter (is_row role) rows) i ≡ Some x
row_between role [] i x sorted within at = absurd (omega arith)
row_between role (c ∷ rows) i x sorted within at =
    by (role_order c.head role) refl i (λ j. row_between role rows j x (sorted_tail credential_order c rows sorted)) within at
  where
    shifted : (a j : ℕ) → slice_get (c ∷ rows) (a + suc j) ≡ slice_get rows (a + j)
    shifted a j = let e : a + suc j ≡ suc (a + j) = omega arith in ap (slice_get (c ∷ rows)) e

    moved : (a j : ℕ) → slice_get (c ∷ rows) (suc a + j) ≡ slice_get rows (a + j)
    moved a j = let e : suc a + j ≡ suc (a + j) = omega arith in ap (slice_get (c ∷ rows)) e

    by : (o : Ordering) → role_order c.head role ≡ o → (j : ℕ) →
        ((k : ℕ) → how_many (is_before role) rows + k < how_many (is_through role) rows → slice_get rows (how_many (is_before role) rows + k) ≡ Some x → slice_get (filter (is_row role) rows) k ≡ Some x) →
        length (cond (is_lt o) (c ∷ filter (is_before role) rows) (filter (is_before role) rows)) + j < length (cond (is_le o) (c ∷ filter (is_through role) rows) (filter (is_through role) rows)) →
        slice_get (c ∷ rows) (length (cond (is_lt o) (c ∷ filter (is_before role) rows) (filter (is_before role) rows)) + j) ≡ Some x →
        slice_get (cond (is_eq o) (c ∷ filter (is_row role) rows) (filter (is_row role) rows)) j ≡ Some x
    by Less e j rest within at = rest j (omega arith) (sym (moved (how_many (is_before role) rows) j) ∙ at)
    by Equal e zero rest within at =
        let none : how_many (is_before role) rows ≡ 0 =
        sym (ap (λ (o : Ordering). length (cond (is_lt o) (c ∷ filter (is_before role) rows) (filter (is_before role) rows))) e)
        ∙ head_fails (is_before role) c rows (parted_rows Before role (c ∷ rows) sorted) (ap is_lt e) in
        let here : how_many (is_before role) rows + 0 ≡ 0 = omega (arith, none) in
        sym (ap (slice_get (c ∷ rows)) here) ∙ at
    by Equal e (suc j) rest within at = rest j (omega arith) (sym (shifted (how_many (is_before role) rows) j) ∙ at)
    by Greater e j rest within at =
        let none : how_many (is_through role) rows ≡ 0 =
        sym (ap (λ (o : Ordering). length (cond (is_le o) (c ∷ filter (is_through role) rows) (filter (is_through role) rows))) e)
        ∙ head_fails (is_through role) c rows (parted_rows Through role (c ∷ rows) sorted) (ap is_le e) in
        absurd (omega (arith, none, within))
