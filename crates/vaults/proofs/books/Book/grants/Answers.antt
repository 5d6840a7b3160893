use Rattle.std.proofs.Common.{List, ◌∙◌, ap}
use Rattle.names.specs.Name.{name_order}
use Rattle.vaults.specs.declared.changes.Entry.{Entry}
use Rattle.vaults.specs.Journal.{granted}
use Rattle.vaults.specs.Page.{PageState}
use Rattle.vaults.proofs.Elements.{has}
use Rattle.vaults.proofs.Exactness.{has-readers}
use Rattle.vaults.proofs.PageLemmas.{page_found, page_missing}
use Rattle.vaults.proofs.books.Book.grants.Goals as goal

pub returns-in-Some : goal.returns-in-Some
returns-in-Some c =
    c.has_reader.ensures
    ∙ ap (λ (k : PageState). has name_order k.readers c.args.reader.now) (page_found c.self.inside.journal.kept.0 c.self.inside.pages c.args.owner.now c.in-Some.page.now c.self.invariant.pages_are c.in-Some.ensures.value)
    ∙ has-readers c.self.inside.journal.kept.0 c.args.owner.now c.args.reader.now
    ∙ ap (λ (j : List Entry). granted j c.args.owner.now c.args.reader.now) c.self.view_is

pub returns-in-None : goal.returns-in-None
returns-in-None c =
    ap (λ (k : PageState). has name_order k.readers c.args.reader.now) (page_missing c.self.inside.journal.kept.0 c.self.inside.pages c.args.owner.now c.self.invariant.pages_are c.in-None.ensures.value)
    ∙ has-readers c.self.inside.journal.kept.0 c.args.owner.now c.args.reader.now
    ∙ ap (λ (j : List Entry). granted j c.args.owner.now c.args.reader.now) c.self.view_is
