-- Bytes that stand in no space and in no part.
use Rattle.std.proofs.Common.{ℕ, true, false, List, [], ◌∷◌, ◌≡◌, ◌==◌, refl}
use Rattle.std.specs.List.{list_all}
use Rattle.std.proofs.lemmas.Bool.{and_parts}
use Rattle.names.specs.declared.roles.Role.{Role}
use Rattle.names.specs.Name.{is_name, is_name_byte, IsName}
use Rattle.names.specs.Texts.{dot, IsSpaces}
use Rattle.names.specs.Role.{role_text}
use Rattle.names.proofs.Avoiding.{Avoids, Avoids-cons, Avoids-append, list_avoids, name_avoids}
use Rattle.credential_text.specs.declared.intersections.Part.{Part}
use Rattle.credential_text.specs.declared.intersections.Part.TheVariants.{Ent, Rol, Link}
use Rattle.credential_text.specs.Part.{has_names, part_text}

-- a byte that stands in no name and isn't the dot
pub record IsMark (byte : ℕ) : Type 0 where
  pub in_no_name : is_name_byte byte ≡ false
  pub no_dot : (dot == byte) ≡ false

pub mark_space : IsMark 32
mark_space = record { in_no_name = refl; no_dot = refl }

pub mark_ampersand : IsMark 38
mark_ampersand = record { in_no_name = refl; no_dot = refl }

pub mark_arrow : IsMark 60
mark_arrow = record { in_no_name = refl; no_dot = refl }

pub spaces_avoid : (byte : ℕ) → (byte == 32) ≡ false → (text : List ℕ) → IsSpaces text → Avoids byte text
spaces_avoid byte other text spaces = list_avoids (λ b. b == 32) byte other text spaces

-- the one name of a list that has names alone
pub one_name : (a : List ℕ) → list_all is_name (a ∷ []) ≡ true → IsName a
one_name a named = (and_parts (is_name a) true named).0

pub two_names : (a b : List ℕ) → list_all is_name (a ∷ b ∷ []) ≡ true → IsName a × IsName b
two_names a b named =
    let both : (is_name a ≡ true) × (list_all is_name (b ∷ []) ≡ true) = and_parts _ _ named in
    (both.0, one_name b both.1)

pub three_names : (a b c : List ℕ) → list_all is_name (a ∷ b ∷ c ∷ []) ≡ true → IsName a × IsName b × IsName c
three_names a b c named =
    let both : (is_name a ≡ true) × (list_all is_name (b ∷ c ∷ []) ≡ true) = and_parts _ _ named in
    let others : IsName b × IsName c = two_names b c both.1 in
    (both.0, others.0, others.1)

pub role_avoids : (byte : ℕ) → IsMark byte → (r : Role) → IsName r.owner → IsName r.name → Avoids byte (role_text r)
role_avoids byte mark r owner name =
    Avoids-append byte r.owner (dot ∷ r.name) (name_avoids byte mark.in_no_name r.owner owner)
    (Avoids-cons byte dot r.name mark.no_dot (name_avoids byte mark.in_no_name r.name name))

pub part_avoids : (byte : ℕ) → IsMark byte → (p : Part) → has_names p ≡ true → Avoids byte (part_text p)
part_avoids byte mark (Ent e) named = name_avoids byte mark.in_no_name e (one_name e named)
part_avoids byte mark (Rol r) named =
    let both : IsName r.owner × IsName r.name = two_names r.owner r.name named in role_avoids byte mark r both.0 both.1
part_avoids byte mark (Link r n) named =
    let all : IsName r.owner × IsName r.name × IsName n = three_names r.owner r.name n named in
    Avoids-append byte (role_text r) (dot ∷ n) (role_avoids byte mark r all.0 all.1) (Avoids-cons byte dot n mark.no_dot (name_avoids byte mark.in_no_name n all.2))
