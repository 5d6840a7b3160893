-- The rows of a vault, as they are shared.
use Rattle.std.specs.Prelude.{⊤, List, [], ◌≡◌, Option, Some, None}
use Rattle.std.specs.declared.sync.Arc.{Arc}
use Rattle.std.specs.Arc.{arc_value}
use Rattle.credential_text.specs.declared.credentials.Credential.{Credential}

-- the rows of a version; no version has none
abbrev pub version_rows : {A : Type 0} → Option (Arc (List Credential) A) → List Credential
version_rows None = []
version_rows (Some version) = arc_value version

-- the version, if there is one, has these rows
abbrev pub IsCurrent : {A : Type 0} → Option (Arc (List Credential) A) → List Credential → Type 0
IsCurrent None rows = ⊤
IsCurrent (Some version) rows = arc_value version ≡ rows
