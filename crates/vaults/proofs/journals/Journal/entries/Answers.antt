use Rattle.std.proofs.Common.{ℕ, List, sym, subst}
use Rattle.vaults.specs.Kept.{AreKept, Kept}
use Rattle.vaults.proofs.journals.Journal.entries.Goals as goal

pub returns : goal.returns
returns c = c.new.ensures c.args.self.now.kept.0 (subst (λ (bytes : List ℕ). AreKept bytes c.args.self.now.kept.0) (sym c.deref.ensures.value) c.args.self.now.kept.1)

pub new-requires : goal.new-requires
new-requires c = subst Kept (sym c.deref.ensures.value) c.args.self.now.kept
