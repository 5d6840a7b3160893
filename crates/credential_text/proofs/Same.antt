-- Credentials of the same head and body are the same, whatever proof each has that it keeps to its issuer.
use Rattle.std.specs.Prelude.{true, ◌≡◌, IsTrue}
use Rattle.std.proofs.Math.Bool.{Bool-set}
use mathlib.Core.HLevel.{is_prop→PathP}
use Rattle.credential_text.specs.declared.credentials.Credential.{Credential}
use Rattle.credential_text.specs.Expr.{keeps_issuer}

pub same_credential : (c d : Credential) → c.head ≡ d.head → c.body ≡ d.body → c ≡ d
same_credential c d p q = λ i. record {
  head = p i;
  body = q i;
  issuer_kept = is_prop→PathP (λ j. IsTrue (keeps_issuer (p j) (q j))) (λ j. Bool-set (keeps_issuer (p j) (q j)) true) c.issuer_kept d.issuer_kept i;
}
