use Rattle.std.proofs.Common.{codes}
use Rattle.std.proofs.lemmas.Result.{on_ok_weaker}
use Rattle.names.specs.Role.{role_text}
use Rattle.credential_text.specs.Expr.{expr_text}
use Rattle.credential_text.proofs.Canonical.{canonical_spells}
use Rattle.credential_text.proofs.Keeping.{keeps_through, keeps_more}
use Rattle.credential_text.proofs.PartLists.{written_more}
use Rattle.credential_text.proofs.writing.append_credential.Goals as goal

pub returns-clause-written : goal.returns-clause-written
returns-clause-written c =
    on_ok_weaker c.append_expr.result
    (λ written. written_more c.args.out.now.items (role_text c.args.credential.now.head) (codes " <- ")
    (expr_text c.args.credential.now.body) c.append_role.new.out.items c.extend_from_slice.new.self.items
    c.append_expr.new.out.items c.in_ok-append_role.ensures.written c.in_ok-extend_from_slice.ensures.items written)
    c.append_expr.ensures.written

pub returns-clause-spells : goal.returns-clause-spells
returns-clause-spells c =
    on_ok_weaker c.append_expr.result
    (λ names. canonical_spells c.args.credential.now (record { owner = c.in_ok-append_role.ensures.owner; name = c.in_ok-append_role.ensures.name; names = names; parts = c.append_expr.ensures.range }))
    c.append_expr.ensures.names

pub returns-clause-kept : goal.returns-clause-kept
returns-clause-kept c =
    keeps_through c.args.out.now.items c.append_role.new.out.items c.append_expr.new.out.items c.append_role.ensures.kept
    (keeps_more c.append_role.new.out.items c.extend_from_slice.new.self.items c.append_expr.new.out.items _ c.in_ok-extend_from_slice.ensures.items c.append_expr.ensures.kept)
