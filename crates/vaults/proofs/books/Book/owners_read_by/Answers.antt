use Rattle.std.proofs.Common.{ℕ, List, ◌∙◌, ap, subst}
use Rattle.vaults.specs.declared.changes.Entry.{Entry}
use Rattle.vaults.specs.Journal.{marked_names}
use Rattle.vaults.specs.Merge.{AreMerged}
use Rattle.vaults.proofs.Granting.{seen_from_merged}
use Rattle.vaults.proofs.books.Book.owners_read_by.Goals as goal

pub returns-clause-names : goal.returns-clause-names
returns-clause-names c =
    seen_from_merged c.self.inside.journal.kept.0 c.args.who c.self.inside.granting c.self.inside.public c.in_ok-owners.owners c.add.new.self c.in_ok-seen.seen.items
    c.self.invariant.granting_are c.self.invariant.public_are c.in_ok-owners.ensures c.in_ok-add.ensures.added
    (subst (λ (l : List (List ℕ)). AreMerged l c.self.inside.public c.in_ok-seen.seen.items) c.names.ensures.names
    (subst (λ (l : List (List ℕ)). AreMerged c.names.result.now l c.in_ok-seen.seen.items) c.names-2.ensures.names c.in_ok-seen.ensures))
    ∙ ap (λ (j : List Entry). marked_names j c.args.who) c.self.view_is
