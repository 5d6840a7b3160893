use Rattle.std.proofs.Common.{List, ◌∙◌, ap}
use Rattle.credential_text.specs.Credential.{credential_order}
use Rattle.vaults.specs.declared.changes.Entry.{Entry}
use Rattle.vaults.specs.Journal.{holds}
use Rattle.vaults.specs.Page.{PageState}
use Rattle.vaults.proofs.Elements.{has}
use Rattle.vaults.proofs.Accepted.{has-vault_accepted}
use Rattle.vaults.proofs.PageLemmas.{page_found, page_missing}
use Rattle.vaults.proofs.books.Book.holds.Goals as goal

pub returns-in-Some : goal.returns-in-Some
returns-in-Some c =
    c.has_row.ensures
    ∙ ap (λ (k : PageState). has credential_order k.rows c.args.credential.now) (page_found c.self.inside.journal.kept.0 c.self.inside.pages c.args.owner.now c.in-Some.page.now c.self.invariant.pages_are c.in-Some.ensures.value)
    ∙ has-vault_accepted c.self.inside.journal.kept.0 c.args.owner.now c.args.credential.now c.self.invariant.accepted
    ∙ ap (λ (j : List Entry). holds j c.args.owner.now c.args.credential.now) c.self.view_is

pub returns-in-None : goal.returns-in-None
returns-in-None c =
    ap (λ (k : PageState). has credential_order k.rows c.args.credential.now) (page_missing c.self.inside.journal.kept.0 c.self.inside.pages c.args.owner.now c.self.invariant.pages_are c.in-None.ensures.value)
    ∙ has-vault_accepted c.self.inside.journal.kept.0 c.args.owner.now c.args.credential.now c.self.invariant.accepted
    ∙ ap (λ (j : List Entry). holds j c.args.owner.now c.args.credential.now) c.self.view_is
