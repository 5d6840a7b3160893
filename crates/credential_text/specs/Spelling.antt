-- The texts that spell a credential, and the one of them that is written.
use Rattle.std.specs.Prelude.{ℕ, List, [], ◌∷◌, ◌++◌, ◌≡◌, codes}
use Rattle.names.specs.Role.{role_text}
use Rattle.names.specs.Texts.{IsSpaces}
use Rattle.credential_text.specs.declared.intersections.Part.{Part}
use Rattle.credential_text.specs.declared.credentials.Credential.{Credential}
use Rattle.credential_text.specs.Part.{part_text}
use Rattle.credential_text.specs.Expr.{expr_parts, expr_text}
use Rattle.credential_text.specs.Credential.{IsCredential}

-- '&'
abbrev pub ampersand : ℕ
ampersand = 38

-- parts, with '&' between them and any spaces round it
abbrev pub JoinsParts : List Part → List ℕ → Type 0
JoinsParts [] text = ⊥
JoinsParts (p ∷ []) text = text ≡ part_text p
JoinsParts (p ∷ q ∷ ps) text =
    (left : List ℕ) × (right : List ℕ) × (rest : List ℕ)
    × IsSpaces left × IsSpaces right × JoinsParts (q ∷ ps) rest
    × (text ≡ part_text p ++ left ++ ampersand ∷ right ++ rest)

-- spaces, the head, spaces, "<-", spaces, the parts of the body, spaces
pub record Spells (text : List ℕ) (c : Credential) : Type 0 where
  pub is_credential : IsCredential c
  pub before : List ℕ
  pub left : List ℕ
  pub right : List ℕ
  pub body : List ℕ
  pub after : List ℕ
  pub spaces_before : IsSpaces before
  pub spaces_left : IsSpaces left
  pub spaces_right : IsSpaces right
  pub spaces_after : IsSpaces after
  pub joins : JoinsParts (expr_parts c.body) body
  pub spelled : text ≡ before ++ role_text c.head ++ left ++ codes "<-" ++ right ++ body ++ after

-- the one spelling that is written
abbrev pub canonical : Credential → List ℕ
canonical c = role_text c.head ++ codes " <- " ++ expr_text c.body
