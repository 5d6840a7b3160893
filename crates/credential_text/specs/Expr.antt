-- Expressions: their parts, names, text and order.
use Rattle.std.specs.Prelude.{ℕ, Bool, List, [], ◌∷◌, ◌++◌, ◌≤◌, length, codes}
use Rattle.std.specs.List.{list_all}
use Rattle.std.specs.declared.cmp.Ordering.{Ordering}
use Rattle.std.specs.Ordering.{nat_cmp, on, then_cmp}
use Rattle.std.specs.Cmp.Lexicographic.{slice_cmp}
use Rattle.names.specs.declared.roles.Role.{Role}
use Rattle.names.specs.Name.{name_order}
use Rattle.credential_text.specs.declared.intersections.Part.{Part}
use Rattle.credential_text.specs.declared.intersections.Part.TheVariants as part
use Rattle.credential_text.specs.declared.exprs.Expr.{Expr}
use Rattle.credential_text.specs.declared.exprs.Expr.TheVariants.{Ent, Rol, Link, Meet}
use Rattle.credential_text.specs.Part.{part_text, is_based_on, parts_order}

-- a part as an expression
abbrev pub part_expr : Part → Expr
part_expr (part.Ent e) = Ent e
part_expr (part.Rol r) = Rol r
part_expr (part.Link r n) = Link r n

-- an expression as the list of its parts, one or more
abbrev pub expr_parts : Expr → List Part
expr_parts (Ent e) = part.Ent e ∷ []
expr_parts (Rol r) = part.Rol r ∷ []
expr_parts (Link r n) = part.Link r n ∷ []
expr_parts (Meet ps) = ps

-- every linked role in the body is based on the issuer's own role
abbrev pub keeps_issuer : Role → Expr → Bool
keeps_issuer head body = list_all (is_based_on head.owner) (expr_parts body)

-- an intersection has 2 to 8 parts
abbrev pub HasPartsInRange : Expr → Type 0
HasPartsInRange (Ent e) = Unit {0}
HasPartsInRange (Rol r) = Unit {0}
HasPartsInRange (Link r n) = Unit {0}
HasPartsInRange (Meet ps) = (2 ≤ length ps) × (length ps ≤ 8)

-- an intersection
abbrev pub IsIntersection : Expr → Type 0
IsIntersection (Ent e) = ⊥
IsIntersection (Rol r) = ⊥
IsIntersection (Link r n) = ⊥
IsIntersection (Meet ps) = Unit {0}

-- parts, with " & " between them
abbrev pub parts_text : List Part → List ℕ
parts_text [] = []
parts_text (p ∷ []) = part_text p
parts_text (p ∷ q ∷ ps) = part_text p ++ codes " & " ++ parts_text (q ∷ ps)

-- an expression as text: its parts, with ` & ` between them
abbrev pub expr_text : Expr → List ℕ
expr_text e = parts_text (expr_parts e)

-- entity, role, linked role, intersection
abbrev pub expr_kind : Expr → ℕ
expr_kind (Ent e) = 0
expr_kind (Rol r) = 1
expr_kind (Link r n) = 2
expr_kind (Meet ps) = 3

-- the names of an expression that is no intersection, from left to right
abbrev pub plain_names : Expr → List (List ℕ)
plain_names (Ent e) = e ∷ []
plain_names (Rol r) = r.owner ∷ r.name ∷ []
plain_names (Link r n) = r.owner ∷ r.name ∷ n ∷ []
plain_names (Meet ps) = []

-- the parts of an intersection
abbrev pub met_parts : Expr → List Part
met_parts (Ent e) = []
met_parts (Rol r) = []
met_parts (Link r n) = []
met_parts (Meet ps) = ps

-- by kind, then by names from left to right, intersections part by part, a prefix first
abbrev pub expr_order : Expr → Expr → Ordering
expr_order = then_cmp (on expr_kind nat_cmp) (then_cmp (on plain_names (slice_cmp name_order)) (on met_parts parts_order))
