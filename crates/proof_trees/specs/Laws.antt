-- What holds of proofs by their definition alone.
use Rattle.std.specs.Prelude.{ℕ, List, [], ◌≡◌}
use Rattle.names.specs.declared.roles.Role.{Role}
use Rattle.credential_text.specs.declared.credentials.Credential.{Credential}
use Rattle.credential_text.specs.declared.exprs.Expr.TheVariants.{Rol}
use Rattle.credential_text.specs.Spelling.{canonical}
use Rattle.rt0_rules.specs.Membership.{IsMember}
use Rattle.proof_trees.specs.declared.steps.Step.{Step}
use Rattle.proof_trees.specs.Proof.{Claims, IsProof}
use Rattle.proof_trees.specs.Text.{cited_text}

-- who is proved a member is one by the rules
abbrev pub ProofsAreSound : Type 0
ProofsAreSound =
    (credentials : List Credential) (role : Role) (who : List ℕ) (steps : List Step) →
    IsProof credentials role who steps → IsMember credentials who role

-- no list without a step is a proof
abbrev pub NoProofIsEmpty : Type 0
NoProofIsEmpty = (credentials : List Credential) (role : Role) (who : List ℕ) → IsProof credentials role who [] → ⊥

-- a credential that a step is by stands in the step's line as it is spelled
abbrev pub CitedAreCanonical : Type 0
CitedAreCanonical =
    (c : Credential) (steps : List Step) (place : ℕ) (who : List ℕ) →
    Claims steps place who c.body → cited_text steps (Rol c.head) place ≡ canonical c
