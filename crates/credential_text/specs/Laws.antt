-- What holds of spellings and orders by their definitions alone.
use Rattle.std.specs.Prelude.{ℕ, List, ◌≡◌, ◌≤◌, ◌↔◌, None, length}
use Rattle.names.specs.Order.{IsOrder}
use Rattle.credential_text.specs.declared.credentials.Credential.{Credential}
use Rattle.credential_text.specs.Expr.{expr_order}
use Rattle.credential_text.specs.Credential.{IsCredential, credential_order}
use Rattle.credential_text.specs.Spelling.{Spells, canonical}
use Rattle.credential_text.specs.Refusal.{refusal}

-- the canonical text spells its credential
abbrev pub CanonicalSpells : Type 0
CanonicalSpells = (c : Credential) → IsCredential c → Spells (canonical c) c

-- it has at most 1,706 bytes
abbrev pub CanonicalIsShort : Type 0
CanonicalIsShort = (c : Credential) → IsCredential c → length (canonical c) ≤ 1706

-- no text spells two credentials
abbrev pub NoTextSpellsTwo : Type 0
NoTextSpellsTwo = (text : List ℕ) (c d : Credential) → Spells text c → Spells text d → c ≡ d

-- a text of at most 4,096 bytes spells a credential exactly where it is not refused
abbrev pub RefusedUnlessSpelled : Type 0
RefusedUnlessSpelled = (text : List ℕ) → (refusal text ≡ None) ↔ ((length text ≤ 4096) × (c : Credential) × Spells text c)

-- the order of expressions is one
abbrev pub ExprsInOrder : Type 0
ExprsInOrder = IsOrder expr_order

-- the order of credentials is one
abbrev pub CredentialsInOrder : Type 0
CredentialsInOrder = IsOrder credential_order
