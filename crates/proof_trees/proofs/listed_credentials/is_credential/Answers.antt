use Rattle.std.proofs.Common.{◌∙◌, sym}
use Rattle.credential_text.specs.Equality.{exprs_decided}
use Rattle.rt0_rules.proofs.SameTexts.{same_role}
use Rattle.proof_trees.proofs.listed_credentials.is_credential.Goals as goal

pub returns-then-eq : goal.returns-then-eq
returns-then-eq c =
    let heads = same_role c.args.credential.now.head c.args.head.now (sym c.eq.ensures ∙ c.if-eq.true) in
    let decided = exprs_decided c.args.credential.now.body c.args.body.now in
    (λ e. (heads, decided.0 (sym c.eq-then-eq.ensures ∙ e)), λ h. c.eq-then-eq.ensures ∙ decided.1 h.1)
