-- The canonical spelling: it spells its credential, and it is short.
use Rattle.std.proofs.Common.{ℕ, true, List, [], ◌∷◌, ◌++◌, ◌+◌, ◌*◌, ◌<◌, ◌≤◌, ◌≡◌, refl, append_assoc, length, length-append, arith, codes}
use Rattle.std.specs.List.{list_all}
use Rattle.std.proofs.lemmas.List.{append-nil}
use Rattle.std.proofs.lemmas.Bool.{leb-true, and_parts}
use Rattle.names.specs.declared.roles.Role.{Role}
use Rattle.names.specs.Name.{IsName}
use Rattle.names.specs.Texts.{dot}
use Rattle.names.specs.Role.{role_text}
use Rattle.names.proofs.Avoiding.{NameParts, name_parts}
use Rattle.credential_text.specs.declared.intersections.Part.{Part}
use Rattle.credential_text.specs.declared.intersections.Part.TheVariants.{Ent, Rol, Link}
use Rattle.credential_text.specs.Part.{has_names, part_text}
use Rattle.credential_text.specs.Expr.{expr_parts, expr_text, parts_text}
use Rattle.credential_text.specs.Laws.{CanonicalSpells, CanonicalIsShort}
use Rattle.credential_text.proofs.Bytes.{one_name, two_names, three_names}
use Rattle.credential_text.proofs.Joining.{canonical_joins}
use Rattle.credential_text.proofs.ExprLemmas.{some_part, few_parts}

canonical_parts : (head body : List ℕ) → head ++ codes " <- " ++ body ≡ [] ++ head ++ 32 ∷ [] ++ codes "<-" ++ 32 ∷ [] ++ body ++ []
canonical_parts head body = simp (append_assoc, append-nil)

pub canonical_spells : CanonicalSpells
canonical_spells c is_credential = record {
  is_credential = is_credential;
  before = [];
  left = 32 ∷ [];
  right = 32 ∷ [];
  body = expr_text c.body;
  after = [];
  spaces_before = refl;
  spaces_left = refl;
  spaces_right = refl;
  spaces_after = refl;
  joins = canonical_joins (expr_parts c.body) (some_part c.body is_credential.parts);
  spelled = canonical_parts (role_text c.head) (expr_text c.body);
}

name_short : (text : List ℕ) → IsName text → length text ≤ 64
name_short [] name = omega arith
name_short (b ∷ bs) name = let parts : NameParts b bs = name_parts b bs name in leb-true (length (b ∷ bs)) 64 parts.short

role_short : (r : Role) → IsName r.owner → IsName r.name → length (role_text r) ≤ 129
role_short r owner name = omega (arith, name_short r.owner owner, name_short r.name name, length-append r.owner (dot ∷ r.name))

part_short : (p : Part) → has_names p ≡ true → length (part_text p) ≤ 194
part_short (Ent e) named = omega (arith, name_short e (one_name e named))
part_short (Rol r) named =
    let both : IsName r.owner × IsName r.name = two_names r.owner r.name named in
    omega (arith, role_short r both.0 both.1)
part_short (Link r n) named =
    let all : IsName r.owner × IsName r.name × IsName n = three_names r.owner r.name n named in
    omega (arith, role_short r all.0 all.1, name_short n all.2, length-append (role_text r) (dot ∷ n))

length_next : (p rest : List ℕ) → length (p ++ codes " & " ++ rest) ≡ length p + 3 + length rest
length_next p rest = omega (arith, length-append (p ++ codes " & ") rest, length-append p (codes " & "))

-- each part has 194 bytes at most, and three stand between two parts
parts_short : (ps : List Part) → 0 < length ps → list_all has_names ps ≡ true → length (parts_text ps) + 3 ≤ 197 * length ps
parts_short [] some named = absurd (omega arith)
parts_short (p ∷ []) some named =
    let both : (has_names p ≡ true) × (list_all has_names [] ≡ true) = and_parts _ _ named in
    omega (arith, part_short p both.0)
parts_short (p ∷ q ∷ ps) some named =
    let both : (has_names p ≡ true) × (list_all has_names (q ∷ ps) ≡ true) = and_parts _ _ named in
    omega (arith, part_short p both.0, parts_short (q ∷ ps) (omega arith) both.1, length_next (part_text p) (parts_text (q ∷ ps)))

length_canonical : (head body : List ℕ) → length (head ++ codes " <- " ++ body) ≡ length head + 4 + length body
length_canonical head body = omega (arith, length-append (head ++ codes " <- ") body, length-append head (codes " <- "))

pub canonical_is_short : CanonicalIsShort
canonical_is_short c is_credential =
    omega (
      arith,
      length_canonical (role_text c.head) (expr_text c.body),
      role_short c.head is_credential.owner is_credential.name,
      parts_short (expr_parts c.body) (some_part c.body is_credential.parts) is_credential.names,
      few_parts c.body is_credential.parts,
    )
