use Rattle.std.proofs.Common.{◌≡◌, ℕ, ◌<◌, Some}
use Rattle.std.specs.Prelude.{slice_get}
use Rattle.credential_text.specs.declared.credentials.Credential.{Credential}
use Rattle.proof_trees.proofs.listed_credentials.has_credential.Given as goal

abbrev pub invariant-loop-credential : goal.invariant-loop-credential
invariant-loop-credential l = (k : ℕ) (c : Credential) → k < l.credential-index → slice_get l.credentials k ≡ Some c → (c.head ≡ l.head) × (c.body ≡ l.body) → ⊥
