-- Parts of a body: their names, text and order.
use Rattle.std.specs.Prelude.{ℕ, Bool, true, List, [], ◌∷◌, ◌++◌}
use Rattle.std.specs.List.{list_all}
use Rattle.std.specs.declared.cmp.Ordering.{Ordering}
use Rattle.std.specs.Ordering.{nat_cmp, on, then_cmp, eq_by_cmp}
use Rattle.std.specs.Cmp.Lexicographic.{slice_cmp}
use Rattle.names.specs.Name.{is_name, is_same, name_order}
use Rattle.names.specs.Texts.{dot}
use Rattle.names.specs.Role.{role_text}
use Rattle.credential_text.specs.declared.intersections.Part.{Part}
use Rattle.credential_text.specs.declared.intersections.Part.TheVariants.{Ent, Rol, Link}

-- entity, role, linked role
abbrev pub part_kind : Part → ℕ
part_kind (Ent e) = 0
part_kind (Rol r) = 1
part_kind (Link r n) = 2

-- a part's names from left to right
abbrev pub part_names : Part → List (List ℕ)
part_names (Ent e) = e ∷ []
part_names (Rol r) = r.owner ∷ r.name ∷ []
part_names (Link r n) = r.owner ∷ r.name ∷ n ∷ []

-- each of a part's names is one
abbrev pub has_names : Part → Bool
has_names p = list_all is_name (part_names p)

-- name, name '.' name, or name '.' name '.' name
abbrev pub part_text : Part → List ℕ
part_text (Ent e) = e
part_text (Rol r) = role_text r
part_text (Link r n) = role_text r ++ dot ∷ n

-- a linked role's base is a role of this issuer
abbrev pub is_based_on : List ℕ → Part → Bool
is_based_on issuer (Ent e) = true
is_based_on issuer (Rol r) = true
is_based_on issuer (Link r n) = is_same r.owner issuer

-- by kind, then by names from left to right
abbrev pub part_order : Part → Part → Ordering
part_order = then_cmp (on part_kind nat_cmp) (on part_names (slice_cmp name_order))

-- part by part, a prefix first
abbrev pub parts_order : List Part → List Part → Ordering
parts_order = slice_cmp part_order

-- the same parts in the same order
abbrev pub same_parts : List Part → List Part → Bool
same_parts = eq_by_cmp parts_order
