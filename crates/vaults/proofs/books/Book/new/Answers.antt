use Rattle.std.proofs.Common.{refl}
use Rattle.vaults.proofs.Accepted.{accepted_none}
use Rattle.vaults.proofs.PageLemmas.{page_of_nothing}
use Rattle.vaults.proofs.books.Book.new.Goals as goal

pub invariant_of-result : goal.invariant_of-result
invariant_of-result c = rw (c.new.ensures, c.new-2.ensures.empty, c.new-3.ensures.empty, c.new-4.ensures) (record {
  accepted = accepted_none;
  pages_are = page_of_nothing;
  granting_are = λ owner reader. refl;
  public_are = λ owner. refl;
})
