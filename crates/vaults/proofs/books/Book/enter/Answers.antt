use Rattle.std.proofs.Common.{ℕ, true, false, arith, List, None, unwrap_or, ◌≡◌, ◌∙◌, sym, subst}
use Rattle.std.proofs.lemmas.Result.{err_from_is_err_and}
use Rattle.std.specs.BTreeMap.{BTreeMap}
use Rattle.vaults.specs.declared.changes.Change.{Change}
use Rattle.vaults.specs.declared.changes.Entry.{Entry}
use Rattle.vaults.specs.declared.faults.VaultFault.TheVariants.{Memory}
use Rattle.vaults.specs.Journal.{refusal, AreAccepted}
use Rattle.vaults.specs.Page.{PageState, page_at, is_due}
use Rattle.vaults.specs.Book.{ArePages, AreGranting, ArePublic, IsBook, early_refusal}
use Rattle.vaults.proofs.Accepted.{accepted_after}
use Rattle.vaults.proofs.Keeping.{kept_fit}
use Rattle.vaults.proofs.OwedLemmas.{revoker_has_page}
use Rattle.vaults.proofs.PageLemmas.{changes_fit, page_due, page_accepts, page_refuses, pages_after, count_after}
use Rattle.vaults.proofs.Granting.{granted_first, granting_after, public_first, public_after}
use Rattle.vaults.proofs.books.Book.enter.Goals as goal

-- nothing refuses the change before its rows are looked at
not_early : (journal now : List Entry) (who : List ℕ) (change : Change) → journal ≡ now → None ≡ early_refusal now who change → early_refusal journal who change ≡ None
not_early journal now who change is early = sym (subst (λ (j : List Entry). None ≡ early_refusal j who change) (sym is) early)

-- so it is accepted where they let it be made
accepts : (journal now : List Entry) (who : List ℕ) (change : Change) (pages : BTreeMap (List ℕ) PageState) → journal ≡ now → None ≡ early_refusal now who change → ArePages journal pages →
    is_due change (page_at pages who).rows ≡ true → refusal journal who change ≡ None
accepts journal now who change pages is early right made = page_accepts journal pages who change right (not_early journal now who change is early) made

pub keep-requires : goal.keep-requires
keep-requires c =
    let early = not_early c.self.inside.journal.kept.0 c.args.self.now c.args.who c.args.change.now c.self.view_is c.in_default.ensures in
    record {
      fits = changes_fit c.self.inside.journal.kept.0 c.self.inside.pages c.args.who c.self.inside.journal.bytes.cap c.self.invariant.pages_are
          (omega (arith, kept_fit c.self.inside.journal.bytes.items c.self.inside.journal.kept.0 c.self.inside.journal.kept.1, c.self.inside.journal.bytes.ok.0, c.self.inside.journal.bytes.ok.1))
          c.self.inside.journal.bytes.small;
      due = page_due c.self.inside.journal.kept.0 c.self.inside.pages c.args.who c.args.change.now c.self.invariant.pages_are early;
      first = granted_first c.self.inside.journal.kept.0 c.args.who c.args.change.now c.self.inside.granting early c.self.invariant.granting_are;
      first_for_all = public_first c.self.inside.journal.kept.0 c.args.who c.args.change.now c.self.inside.public early c.self.invariant.public_are;
    }

pub invariant_of-self : goal.invariant_of-self
invariant_of-self c = subst (λ (j : List Entry). IsBook j c.self.inside.pages c.self.inside.granting c.self.inside.public) (sym c.prepare.ensures.same) c.self.invariant

pub invariant_of-self-in_err-count : goal.invariant_of-self-in_err-count
invariant_of-self-in_err-count c = record {
  accepted = subst AreAccepted (sym c.prepare.ensures.same) c.self.invariant.accepted;
  pages_are = subst (λ (j : List Entry). ArePages j c.keep.new.pages) (sym c.prepare.ensures.same) (λ tenant. c.in_err-count.ensures.unchanged tenant ∙ c.self.invariant.pages_are tenant);
  granting_are = subst (λ (j : List Entry). AreGranting j c.keep.new.granting) (sym c.prepare.ensures.same) (λ owner reader. c.in_err-count.ensures.same_gifts.0 owner reader ∙ c.self.invariant.granting_are owner reader);
  public_are = subst (λ (j : List Entry). ArePublic j c.keep.new.public) (sym c.prepare.ensures.same) (λ owner. c.in_err-count.ensures.same_gifts.1 owner ∙ c.self.invariant.public_are owner);
}

pub invariant_of-self-2 : goal.invariant_of-self-2
invariant_of-self-2 c =
    let none = accepts c.self.inside.journal.kept.0 c.args.self.now c.args.who c.args.change.now c.self.inside.pages c.self.view_is c.in_default.ensures c.self.invariant.pages_are c.in_ok-count.ensures.due in
    record {
      accepted = accepted_after c.self.inside.journal.kept.0 c.prepare.new.self.kept.0 c.enter.new.self.kept.0 c.args.who c.args.change.now
          none c.self.invariant.accepted c.prepare.ensures.same c.enter.ensures;
      pages_are = pages_after c.self.inside.journal.kept.0 c.prepare.new.self.kept.0 c.enter.new.self.kept.0 c.args.who c.args.change.now c.self.inside.pages c.keep.new.pages
          none c.self.invariant.pages_are c.in_ok-count.ensures.kept c.prepare.ensures.same c.enter.ensures;
      granting_are = granting_after c.self.inside.journal.kept.0 c.prepare.new.self.kept.0 c.enter.new.self.kept.0 c.args.who c.args.change.now c.self.inside.granting c.keep.new.granting
          c.self.invariant.granting_are c.in_ok-count.ensures.gift.0 c.prepare.ensures.same c.enter.ensures;
      public_are = public_after c.self.inside.journal.kept.0 c.prepare.new.self.kept.0 c.enter.new.self.kept.0 c.args.who c.args.change.now c.self.inside.public c.keep.new.public
          c.self.invariant.public_are c.in_ok-count.ensures.gift.1 c.prepare.ensures.same c.enter.ensures;
    }

pub returns-clause-accepted : goal.returns-clause-accepted
returns-clause-accepted c =
    subst (λ (j : List Entry). refusal j c.args.who c.args.change.now ≡ None) c.self.view_is
    (accepts c.self.inside.journal.kept.0 c.args.self.now c.args.who c.args.change.now c.self.inside.pages c.self.view_is c.in_default.ensures c.self.invariant.pages_are c.in_ok-count.ensures.due)

pub returns-clause-counted : goal.returns-clause-counted
returns-clause-counted c =
    count_after c.self.inside.journal.kept.0 c.prepare.new.self.kept.0 c.enter.new.self.kept.0 c.args.who c.args.change.now c.self.inside.pages _
    c.self.invariant.pages_are c.in_ok-count.ensures.count c.prepare.ensures.same c.enter.ensures

pub enter-requires-clause-accepted : goal.enter-requires-clause-accepted
enter-requires-clause-accepted c =
    subst (λ (j : List Entry). refusal j c.args.who c.args.change.now ≡ None) (sym c.prepare.ensures.same)
    (accepts c.self.inside.journal.kept.0 c.args.self.now c.args.who c.args.change.now c.self.inside.pages c.self.view_is c.in_default.ensures c.self.invariant.pages_are c.in_ok-count.ensures.due)

pub returns-in_err-count-clause-refused : goal.returns-in_err-count-clause-refused
returns-in_err-count-clause-refused c =
    let p = err_from_is_err_and c.from_residual.result c.from_residual.ensures.1 in
    rw p.1 (subst (λ (j : List Entry). p.0 ≡ unwrap_or (refusal j c.args.who c.args.change.now) Memory) c.self.view_is
    (page_refuses c.self.inside.journal.kept.0 c.self.inside.pages c.args.who c.args.change.now p.0 c.self.invariant.pages_are
    (not_early c.self.inside.journal.kept.0 c.args.self.now c.args.who c.args.change.now c.self.view_is c.in_default.ensures) (p.2 ∙ c.in_err-count.ensures.refused)))

pub returns-in_err-count-clause-revocable : goal.returns-in_err-count-clause-revocable
returns-in_err-count-clause-revocable c = λ revoked accepted.
    let never : false ≡ true =
    c.in_err-count.ensures.revocable revoked (revoker_has_page c.self.inside.journal.kept.0 c.args.who c.args.change.now c.self.inside.pages c.self.invariant.pages_are
    (subst (λ (j : List Entry). refusal j c.args.who c.args.change.now ≡ None) (sym c.self.view_is) accepted) revoked) in
    cc

pub returns-clause-entered : goal.returns-clause-entered
returns-clause-entered c = cc
