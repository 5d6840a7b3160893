use Rattle.std.proofs.Common.{◌∙◌}
use Rattle.vaults.proofs.books.Book.version_of.Goals as goal

pub invariant_of-self : goal.invariant_of-self
invariant_of-self c = record {
  accepted = c.self.invariant.accepted;
  pages_are = λ tenant. c.version_on_page.ensures.unchanged tenant ∙ c.self.invariant.pages_are tenant;
  granting_are = c.self.invariant.granting_are;
  public_are = c.self.invariant.public_are;
}
