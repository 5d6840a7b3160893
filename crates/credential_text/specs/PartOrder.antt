-- The order of parts is total, and two lists of parts are tied only where they are equal.
use Rattle.std.specs.Prelude.{ℕ, List, ◌≡◌, IsTrue}
use Rattle.std.proofs.Common.{ap, sym, ◌∙◌}
use Rattle.std.specs.declared.cmp.Ordering.TheVariants.{Equal}
use Rattle.std.specs.Ordering.{nat_cmp}
use Rattle.std.specs.Cmp.{IsTotalOrder, IsEquivalence, Equal-is}
use Rattle.std.specs.Cmp.Lexicographic.{slice_cmp}
use Rattle.std.specs.FinMap.{IsAntisymmetric, slice_cmp-IsAntisymmetric}
use Rattle.std.proofs.lemmas.Cmp.{nat_cmp_total, nat_list_cmp_total, lists_total, then_total, on_total, eq_by_cmp_equiv}
use Rattle.names.specs.Name.{name_order}
use Rattle.names.proofs.OrderLemmas.{both_tied, name_order_tied}
use Rattle.credential_text.specs.declared.intersections.Part.{Part}
use Rattle.credential_text.specs.declared.intersections.Part.TheVariants.{Ent, Rol, Link}
use Rattle.credential_text.specs.Part.{part_kind, part_names, part_order, parts_order, same_parts}

-- parts of the same names are the same
pub names_tell : (p q : Part) → part_names p ≡ part_names q → p ≡ q
names_tell (Ent e) (Ent f) same = cc
names_tell (Ent e) (Rol f) same = cc
names_tell (Ent e) (Link f n) same = cc
names_tell (Rol e) (Ent f) same = cc
names_tell (Rol e) (Rol f) same =
    let owner : e.owner ≡ f.owner = cc in
    let name : e.name ≡ f.name = cc in
    λ i. Rol (record { owner = owner i; name = name i })
names_tell (Rol e) (Link f n) same = cc
names_tell (Link e m) (Ent f) same = cc
names_tell (Link e m) (Rol f) same = cc
names_tell (Link e m) (Link f n) same =
    let owner : e.owner ≡ f.owner = cc in
    let name : e.name ≡ f.name = cc in
    let last : m ≡ n = cc in
    λ i. Link (record { owner = owner i; name = name i }) (last i)

pub name_lists_tied : IsAntisymmetric (slice_cmp name_order)
name_lists_tied = slice_cmp-IsAntisymmetric name_order_tied

pub part_order_total : IsTotalOrder part_order
part_order_total = then_total (on_total part_kind nat_cmp_total) (on_total part_names (lists_total nat_list_cmp_total))

pub part_order_tied : IsAntisymmetric part_order
part_order_tied p q tied =
    let both :
    (nat_cmp (part_kind p) (part_kind q) ≡ Equal) × (slice_cmp name_order (part_names p) (part_names q) ≡ Equal) =
    both_tied _ _ tied in
    names_tell p q (name_lists_tied (part_names p) (part_names q) both.1)

pub parts_order_total : IsTotalOrder parts_order
parts_order_total = lists_total part_order_total

pub parts_order_tied : IsAntisymmetric parts_order
parts_order_tied = slice_cmp-IsAntisymmetric part_order_tied

pub same_parts_equiv : IsEquivalence same_parts
same_parts_equiv = eq_by_cmp_equiv parts_order_total

-- lists of parts that are found the same are equal
pub same_parts_tell : (ps qs : List Part) → IsTrue (same_parts ps qs) → ps ≡ qs
same_parts_tell ps qs same = parts_order_tied ps qs ((Equal-is (parts_order ps qs)).0 same)

-- equal lists of parts are found the same
pub same_parts_found : (ps qs : List Part) → ps ≡ qs → IsTrue (same_parts ps qs)
same_parts_found ps qs same = ap (same_parts ps) (sym same) ∙ same_parts_equiv.refl ps

-- so whatever is fed of them is alike
pub hashed_alike : (feed : List Part → List (List ℕ)) (ps qs : List Part) → IsTrue (same_parts ps qs) → feed ps ≡ feed qs
hashed_alike feed ps qs same = ap feed (same_parts_tell ps qs same)
