use Rattle.std.proofs.Common.{◌∙◌, sym}
use Rattle.std.specs.Cmp.Lexicographic.{bytes_decides}
use Rattle.credential_text.specs.Equality.{exprs_decided}
use Rattle.proof_trees.proofs.checking.is_claim.Goals as goal

pub returns-then-eq : goal.returns-then-eq
returns-then-eq c =
    let whose = (bytes_decides c.args.step.now.who c.args.who.now).0 (sym c.eq.ensures ∙ c.if-eq.true) in
    let decided = exprs_decided c.args.step.now.claim c.args.claim.now in
    (λ e. (whose, decided.0 (sym c.eq-then-eq.ensures ∙ e)), λ h. c.eq-then-eq.ensures ∙ decided.1 h.1)
