-- Cuts that are found by the names of roles, and among few rows.
use Rattle.std.proofs.Common.{ℕ, zero, suc, true, false, List, [], ◌∷◌, ◌≡◌, ◌∙◌, ◌+◌, ◌-◌, ◌<◌, ◌≤◌, sym, ap, subst, length, length-drop, take, drop, get_or, arith, inl, inr}
use Rattle.std.specs.List.{All}
use Rattle.std.specs.List.Sorted.{IsPartitionedBy, IsPartitionPoint, IsStrictlySortedBy}
use Rattle.std.specs.declared.cmp.Ordering.{Ordering}
use Rattle.std.specs.declared.cmp.Ordering.TheVariants.{Less, Equal, Greater}
use Rattle.std.specs.Ordering.{is_lt, is_le, ordering_then}
use Rattle.std.proofs.lemmas.Bool.{cases_lt}
use Rattle.std.proofs.lemmas.List.{get_or-take, get_or-drop, length-take-le, take_all}
use Rattle.std.proofs.lemmas.Map.Keys.{sorted_tail}
use Rattle.names.specs.declared.roles.Role.{Role}
use Rattle.names.specs.Name.{name_order}
use Rattle.names.specs.Role.{role_order}
use Rattle.names.proofs.OrderLemmas.{names_in_order}
use Rattle.credential_text.specs.declared.credentials.Credential.{Credential}
use Rattle.credential_text.specs.Credential.{credential_order}
use Rattle.snapshots.specs.declared.spans.Cut.{Cut}
use Rattle.snapshots.specs.declared.spans.Cut.TheVariants.{Before, Through}
use Rattle.snapshots.specs.Span.{how_many, is_before, is_through, is_cut_at, is_cut, is_cut_by_name}
use Rattle.snapshots.proofs.Counting.{how_many_at, fail_behind, point_at}
use Rattle.snapshots.proofs.Cuts.{cut_at, parted_rows}

-- among the rows of one owner the names of their roles tell a cut
pub by_name : (cut : Cut) (role : Role) (c : Credential) → c.head.owner ≡ role.owner → is_cut_by_name cut role.name c ≡ is_cut cut role c
by_name cut role c own =
    ap (is_cut_at cut) (sym (ap (λ (o : Ordering). ordering_then o (name_order c.head.name role.name)) ((names_in_order.tied c.head.owner role.owner).1 own)))
    ∙ cut_at cut role c

-- a cut among the first rows, where the one behind them stands behind it
module _ (cut : Cut) (role : Role) (rows front : List Credential) (n : ℕ) (sorted : IsStrictlySortedBy credential_order rows)
    (own : All (λ c. c.head.owner ≡ role.owner) rows) (within : n ≤ length rows) (is : front ≡ take n rows) where
  many : length front ≡ n
  many = ap length is ∙ length-take-le n rows within

  told : (k : ℕ) (d : Credential) → k < n → is_cut_by_name cut role.name (get_or front k d) ≡ is_cut cut role (get_or rows k d)
  told k d low =
      ap (λ (l : List Credential). is_cut_by_name cut role.name (get_or l k d)) is ∙ ap (is_cut_by_name cut role.name) (get_or-take n rows k d low)
      ∙ by_name cut role (get_or rows k d) (own k d (omega (arith, low, within)))

  pub front_parted : IsPartitionedBy (is_cut_by_name cut role.name) front
  front_parted i j d low high passes =
      let inside : j < n = omega (arith, high, many) in
      told i d (omega (arith, low, inside)) ∙ parted_rows cut role rows sorted i j d low (omega (arith, inside, within)) (sym (told j d inside) ∙ passes)

  pub cut_in_front : (i : ℕ) → ((d : Credential) → n < length rows → is_cut_by_name cut role.name (get_or rows n d) ≡ false) → i ≤ length front →
      IsPartitionPoint (λ y. is_cut_by_name cut role.name y ≡ true) (λ y. is_cut_by_name cut role.name y ≡ false) front i → i ≡ how_many (is_cut cut role) rows
  cut_in_front i fails bound point =
      let few : i ≤ n = omega (arith, bound, many) in
      sym (how_many_at (is_cut cut role) rows i (omega (arith, few, within)) (
        λ k d low high. sym (told k d (omega (arith, high, few))) ∙ point.0 k d low high,
        λ k d low high. elim (cases_lt k n) [
          | inl inside ↦ sym (told k d inside) ∙ point.1 k d low (omega (arith, inside, many))
          | inr behind ↦ fail_behind (is_cut cut role) rows n (parted_rows cut role rows sorted)
              (λ e inside. sym (by_name cut role (get_or rows n e) (own n e inside)) ∙ fails e inside) k d behind high
        ],
      ))

-- the rows behind a place
pub behind_is : (n : ℕ) (rows : List Credential) → take (length rows - n) (drop n rows) ≡ drop n rows
behind_is n rows = take_all (length rows - n) (drop n rows) (omega (arith, length-drop n rows))

pub sorted_behind : (n : ℕ) (rows behind : List Credential) → behind ≡ drop n rows → IsStrictlySortedBy credential_order rows → IsStrictlySortedBy credential_order behind
sorted_behind n rows behind is sorted = subst (IsStrictlySortedBy credential_order) (sym is) (by n rows sorted)
  where
    by : (n : ℕ) (rows : List Credential) → IsStrictlySortedBy credential_order rows → IsStrictlySortedBy credential_order (drop n rows)
    by zero rows sorted = sorted
    by (suc n) [] sorted = sorted
    by (suc n) (c ∷ rows) sorted = by n rows (sorted_tail credential_order c rows sorted)

-- the rows through a role's are those before them and, of those behind these, the ones through the role's
pub through_behind : (role : Role) (rows behind : List Credential) (lo hi : ℕ) → IsStrictlySortedBy credential_order rows → lo ≡ how_many (is_before role) rows → behind ≡ drop lo rows →
    hi ≡ how_many (is_through role) behind → lo + hi ≡ how_many (is_through role) rows
through_behind role rows behind lo hi sorted begins is ends =
    sym (how_many_at (is_through role) rows (lo + hi) (omega (arith, within, long, rest.0, ends)) (
      λ k d low high. elim (cases_lt k lo) [
        | inl inside ↦ through (role_order (get_or rows k d).head role) (before.1.0 k d (omega arith) (omega (arith, inside, begins)))
        | inr past ↦ at k d past ∙ rest.1.0 (k - lo) d (omega arith) (omega (arith, past, high, ends))
      ],
      λ k d low high. at k d (omega (arith, low)) ∙ rest.1.1 (k - lo) d (omega (arith, low, ends)) (omega (arith, low, high, long)),
    ))
  where
    before : (how_many (is_before role) rows ≤ length rows) × IsPartitionPoint (λ y. is_before role y ≡ true) (λ y. is_before role y ≡ false) rows (how_many (is_before role) rows)
    before = point_at (is_before role) rows (parted_rows Before role rows sorted)

    within : lo ≤ length rows
    within = omega (arith, before.0, begins)

    long : length behind ≡ length rows - lo
    long = ap length is ∙ length-drop lo rows

    rest : (how_many (is_through role) behind ≤ length behind) × IsPartitionPoint (λ y. is_through role y ≡ true) (λ y. is_through role y ≡ false) behind (how_many (is_through role) behind)
    rest = point_at (is_through role) behind (parted_rows Through role behind (sorted_behind lo rows behind is sorted))

    through : (o : Ordering) → is_lt o ≡ true → is_le o ≡ true
    through Less less = less
    through Equal less = cc
    through Greater less = cc

    at : (k : ℕ) (d : Credential) → lo ≤ k → is_through role (get_or rows k d) ≡ is_through role (get_or behind (k - lo) d)
    at k d past =
        let whole : k ≡ lo + (k - lo) = omega (arith, past) in
        ap (λ (m : ℕ). is_through role (get_or rows m d)) whole
        ∙ ap (is_through role) (sym (get_or-drop lo rows (k - lo) d) ∙ ap (λ (l : List Credential). get_or l (k - lo) d) (sym is))
