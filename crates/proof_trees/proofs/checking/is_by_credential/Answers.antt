use Rattle.std.proofs.Common.{◌≡◌, ◌∙◌, Some, sym, true≢false, rules}
use Rattle.std.specs.Prelude.{slice_get}
use Rattle.std.specs.Cmp.Lexicographic.{bytes_decides}
use Rattle.proof_trees.proofs.RuleLemmas.{never, credential_found, credential_of_another}
use Rattle.proof_trees.proofs.checking.is_by_credential.Goals as goal

pub returns-then-eq : goal.returns-then-eq
returns-then-eq c =
    let whose = (bytes_decides c.in-Some.body.now.who c.args.step.now.who).0 (sym c.eq.ensures ∙ c.if-eq.true) in
    let there : slice_get c.args.before.now c.args.place ≡ Some c.in-Some.body.now = sym c.in-Some.ensures in
    credential_found c.args.credentials.now c.args.before.now c.args.step.now.who c.args.step.now.claim c.args.place c.in-Rol.head c.in-Some.body.now
    c.has_credential.result c.in-Rol.is there whose c.has_credential.ensures

pub returns-else-eq : goal.returns-else-eq
returns-else-eq c =
    let there : slice_get c.args.before.now c.args.place ≡ Some c.in-Some.body.now = sym c.in-Some.ensures in
    let other = λ (e : c.in-Some.body.now.who ≡ c.args.step.now.who). true≢false (sym ((bytes_decides c.in-Some.body.now.who c.args.step.now.who).1 e) ∙ sym c.eq.ensures ∙ c.if-eq.false) in
    search (rules, never (credential_of_another c.args.credentials.now c.args.before.now c.args.step.now.who c.args.step.now.claim c.args.place c.in-Some.body.now there other))
