use Rattle.std.proofs.Common.{arith, Some, ◌≡◌, ◌∙◌, ap, sym}
use Rattle.vaults.specs.declared.changes.Change.{Change}
use Rattle.vaults.specs.declared.changes.Change.TheVariants.{Upload, Withdraw, Grant, Revoke, GrantAll, RevokeAll}
use Rattle.vaults.specs.Kept.{kind_of}
use Rattle.vaults.proofs.Keeping.{IsReadOf, one_change}
use Rattle.vaults.proofs.entries.read_entry.Goals as goal
use Rattle.vaults.proofs.entries.read_entry.Goals.{in-4, in-5, in-0+in-Ok-read_credential+then-kind-eq0, in-0+in-Ok-read_credential+else-kind-eq0, in-2+in-Ok-read+then-kind-eq2, in-2+in-Ok-read+else-kind-eq2}

pub returns : goal.returns
returns c = λ e named kind tenant subject.
    let told : (read : Change) → c.args.kind ≡ kind_of read → IsReadOf read c.args.subject.now → c.match-kind.change ≡ read → c.match-kind.change ≡ e.change =
    λ read of_kind is_read is. is ∙ one_change read e.change c.args.subject.now named.1 (sym of_kind ∙ kind) is_read subject in
    let change : c.match-kind.change ≡ e.change =
    elim c.match-kind.branch [
      | in-4 w ↦ told GrantAll w.in-4.is tt w.change-is
      | in-5 w ↦ told RevokeAll w.in-5.is tt w.change-is
      | in-0+in-Ok-read_credential+then-kind-eq0 w ↦ told (Upload w.in-Ok-read_credential.credential) w.if-kind-eq0.true w.in-Ok-read_credential.ensures.read.0 w.change-is
      | in-0+in-Ok-read_credential+else-kind-eq0 w ↦ told (Withdraw w.in-Ok-read_credential.credential) (omega arith) w.in-Ok-read_credential.ensures.read.0 w.change-is
      | in-2+in-Ok-read+then-kind-eq2 w ↦ told (Grant w.in-Ok-read.reader) w.if-kind-eq2.true w.in-Ok-read.ensures.entity w.change-is
      | in-2+in-Ok-read+else-kind-eq2 w ↦ told (Revoke w.in-Ok-read.reader) (omega arith) w.in-Ok-read.ensures.entity w.change-is
    ] in
    ap Some (λ i. record { tenant = (c.in-Ok.ensures.entity ∙ tenant) i; change = change i })
