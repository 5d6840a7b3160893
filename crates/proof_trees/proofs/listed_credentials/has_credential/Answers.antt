use Rattle.std.proofs.Common.{◌≡◌, ◌∙◌, ℕ, Some, sym, refl, true≢false, arith}
use Rattle.std.specs.Prelude.{slice_get}
use Rattle.std.proofs.lemmas.Option.{slice_get_read}
use Rattle.credential_text.specs.declared.credentials.Credential.{Credential}
use Rattle.proof_trees.proofs.RuleLemmas.{HasCredential, never}
use Rattle.proof_trees.proofs.Taken.{up_to}
use Rattle.proof_trees.proofs.listed_credentials.has_credential.Goals as goal

pub returns : goal.returns
returns c =
    let both = c.is_credential.ensures.0 c.if-is_credential.true in
    (λ e. (c.index-credentials-place.result, (c.in-Ok.place, c.in-Ok.ensures.bound, sym c.index-credentials-place.is), both.0, both.1), λ h. refl)

pub loop-credential-preserved : goal.loop-credential-preserved
loop-credential-preserved c =
    let at : slice_get c.args.credentials.now c.loop-credential.credential-index ≡ Some c.credential-item.result = slice_get_read c.args.credentials.now _ c.loop-credential.credential-index c.credential-item.result refl c.loop-credential-test.true c.credential-item.is in
    up_to (λ (k : ℕ) (d : Credential). (d.head ≡ c.args.head.now) × (d.body ≡ c.args.body.now) → ⊥) c.args.credentials.now c.loop-credential.credential-index c.credential-item.result at c.loop-credential.invariant (λ both. true≢false (sym (c.is_credential-in-loop-credential.ensures.1 both) ∙ c.if-is_credential-2.false))

pub returns-then-is_credential-2 : goal.returns-then-is_credential-2
returns-then-is_credential-2 c =
    let both = c.is_credential-in-loop-credential.ensures.0 c.if-is_credential-2.true in
    (λ e. (c.credential-item.result, (c.loop-credential.credential-index, c.loop-credential-test.true, sym c.credential-item.is), both.0, both.1), λ h. refl)

pub returns-2 : goal.returns-2
returns-2 c = never absent
  where
    absent : HasCredential c.args.credentials.now c.args.head.now c.args.body.now → ⊥
    absent (d, (k, below, is), heads, bodies) =
        c.loop-credential.invariant k d (omega (arith, below, c.loop-credential-test.false))
        (slice_get_read c.args.credentials.now _ k d refl below (sym is)) (heads, bodies)
