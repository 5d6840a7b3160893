-- Expressions and their parts.
use Rattle.std.proofs.Common.{true, List, [], ◌∷◌, ◌<◌, ◌≤◌, ◌≡◌, refl, ap, sym, length, map, arith}
use Rattle.std.specs.List.{list_all}
use Rattle.std.proofs.lemmas.Bool.{and_parts}
use Rattle.credential_text.specs.declared.intersections.Part.{Part}
use Rattle.credential_text.specs.declared.intersections.Part.TheVariants as part
use Rattle.credential_text.specs.declared.exprs.Expr.{Expr}
use Rattle.credential_text.specs.declared.exprs.Expr.TheVariants.{Ent, Rol, Link, Meet}
use Rattle.credential_text.specs.Part.{has_names, part_text}
use Rattle.credential_text.specs.Expr.{part_expr, expr_parts, HasPartsInRange}
use Rattle.credential_text.proofs.Readings.{texts_tell}

-- an expression has 1 to 8 parts
pub some_part : (e : Expr) → HasPartsInRange e → 0 < length (expr_parts e)
some_part (Ent e) range = omega arith
some_part (Rol r) range = omega arith
some_part (Link r n) range = omega arith
some_part (Meet ps) range = omega (arith, range.0)

pub few_parts : (e : Expr) → HasPartsInRange e → length (expr_parts e) ≤ 8
few_parts (Ent e) range = omega arith
few_parts (Rol r) range = omega arith
few_parts (Link r n) range = omega arith
few_parts (Meet ps) range = range.1

one_is_few : {C : Type 0} (p : Part) (ps : List Part) → p ∷ [] ≡ ps → 2 ≤ length ps → C
one_is_few p ps same several = absurd (omega (arith, ap length same))

-- expressions of the same parts are the same
pub parts_tell : (e f : Expr) → HasPartsInRange e → HasPartsInRange f → expr_parts e ≡ expr_parts f → e ≡ f
parts_tell (Ent e) (Ent f) r s same = cc
parts_tell (Ent e) (Rol f) r s same = cc
parts_tell (Ent e) (Link f n) r s same = cc
parts_tell (Ent e) (Meet qs) r s same = one_is_few (part.Ent e) qs same s.0
parts_tell (Rol e) (Ent f) r s same = cc
parts_tell (Rol e) (Rol f) r s same = cc
parts_tell (Rol e) (Link f n) r s same = cc
parts_tell (Rol e) (Meet qs) r s same = one_is_few (part.Rol e) qs same s.0
parts_tell (Link e m) (Ent f) r s same = cc
parts_tell (Link e m) (Rol f) r s same = cc
parts_tell (Link e m) (Link f n) r s same = cc
parts_tell (Link e m) (Meet qs) r s same = one_is_few (part.Link e m) qs same s.0
parts_tell (Meet ps) (Ent f) r s same = one_is_few (part.Ent f) ps (sym same) r.0
parts_tell (Meet ps) (Rol f) r s same = one_is_few (part.Rol f) ps (sym same) r.0
parts_tell (Meet ps) (Link f n) r s same = one_is_few (part.Link f n) ps (sym same) r.0
parts_tell (Meet ps) (Meet qs) r s same = ap Meet same

-- lists of parts of the same texts are the same
pub part_lists_tell : (ps qs : List Part) → list_all has_names ps ≡ true → list_all has_names qs ≡ true → map part_text ps ≡ map part_text qs → ps ≡ qs
part_lists_tell [] [] named_ps named_qs same = refl
part_lists_tell [] (q ∷ qs) named_ps named_qs same = cc
part_lists_tell (p ∷ ps) [] named_ps named_qs same = cc
part_lists_tell (p ∷ ps) (q ∷ qs) named_ps named_qs same =
    let of_p : (has_names p ≡ true) × (list_all has_names ps ≡ true) = and_parts _ _ named_ps in
    let of_q : (has_names q ≡ true) × (list_all has_names qs ≡ true) = and_parts _ _ named_qs in
    let first : part_text p ≡ part_text q = cc in
    let others : map part_text ps ≡ map part_text qs = cc in
    let head : p ≡ q = texts_tell p q of_p.0 of_q.0 first in
    let tail : ps ≡ qs = part_lists_tell ps qs of_p.1 of_q.1 others in
    λ i. head i ∷ tail i

-- the parts of a part as an expression
pub parts_of_part : (p : Part) → expr_parts (part_expr p) ≡ p ∷ []
parts_of_part (part.Ent e) = refl
parts_of_part (part.Rol r) = refl
parts_of_part (part.Link r n) = refl

pub range_of_part : (p : Part) → HasPartsInRange (part_expr p)
range_of_part (part.Ent e) = tt
range_of_part (part.Rol r) = tt
range_of_part (part.Link r n) = tt

-- 1 to 8 parts are those of an expression
pub some_expr : (ps : List Part) → 0 < length ps → length ps ≤ 8 → (e : Expr) × (expr_parts e ≡ ps) × HasPartsInRange e
some_expr [] some few = absurd (omega arith)
some_expr (p ∷ []) some few = (part_expr p, parts_of_part p, range_of_part p)
some_expr (p ∷ q ∷ ps) some few = (Meet (p ∷ q ∷ ps), refl, (omega arith, few))
