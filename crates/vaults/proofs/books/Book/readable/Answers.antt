use Rattle.std.proofs.Common.{true, false, ◌≡◌, ◌∙◌, sym}
use Rattle.vaults.specs.Journal.{is_public, reads}
use Rattle.vaults.proofs.books.Book.readable.Goals as goal
use Rattle.vaults.proofs.books.Book.readable.Goals.{then-eq, else-eq}

pub returns-then-grants : goal.returns-then-grants
returns-then-grants c =
    elim c.if-eq.branch [
      | then-eq w ↦
          let is : true ≡ reads c.args.self.now c.args.who c.args.owner = rw (sym c.eq.ensures ∙ w.if-eq.true) in
          c.if-grants.true ∙ is
      | else-eq w ↦
          let given = sym w.grants.ensures ∙ sym w.value-is ∙ c.if-grants.true in
          let is : true ≡ reads c.args.self.now c.args.who c.args.owner =
          rw (sym c.eq.ensures ∙ w.if-eq.false, given) in
          c.if-grants.true ∙ is
    ]

pub returns-else-grants : goal.returns-else-grants
returns-else-grants c =
    elim c.if-eq.branch [
      | then-eq w ↦ let never : true ≡ false = sym w.if-eq.true ∙ sym w.value-is ∙ c.if-grants.false in cc
      | else-eq w ↦
          let given = sym w.grants.ensures ∙ sym w.value-is ∙ c.if-grants.false in
          let is : is_public c.args.self.now c.args.owner ≡ reads c.args.self.now c.args.who c.args.owner =
          rw (sym c.eq.ensures ∙ w.if-eq.false, given) in
          c.is_public.ensures ∙ is
    ]
