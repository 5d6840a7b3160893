use Rattle.std.proofs.Common.{◌∙◌, ap, length}
use Rattle.vaults.proofs.books.Book.journal_len.Goals as goal

pub returns : goal.returns
returns c = c.len.ensures ∙ ap length c.self.view_is
