use Rattle.std.proofs.Common.{Bool, true, false, List, ◌≡◌, ◌∙◌, arith, ap, refl, length}
use mir.Val.{bool_byte}
use Rattle.vaults.specs.declared.changes.Entry.{Entry}
use Rattle.vaults.specs.Journal.{entries_of, vault, readers, one_if}
use Rattle.vaults.specs.Page.{PageState}
use Rattle.vaults.proofs.PageLemmas.{page_found, page_missing}
use Rattle.vaults.proofs.books.Book.used_by.Goals as goal

counted : (b : Bool) → bool_byte b ≡ one_if b
counted true = refl
counted false = refl

pub returns-in-Some-clause-creds : goal.returns-in-Some-clause-creds
returns-in-Some-clause-creds c =
    c.counts-kept.ensures.creds
    ∙ ap (λ (k : PageState). length k.rows) (page_found c.self.inside.journal.kept.0 c.self.inside.pages c.args.who.now _ c.self.invariant.pages_are c.in-Some.ensures.value)
    ∙ ap (λ (j : List Entry). length (vault j c.args.who.now)) c.self.view_is

pub returns-in-Some-clause-grants : goal.returns-in-Some-clause-grants
returns-in-Some-clause-grants c =
    let one_each : c.counts-kept.result.grants ≡ length (readers c.args.self.now c.args.who.now) =
    c.counts-kept.ensures.grants
    ∙ ap (λ (k : PageState). length k.readers) (page_found c.self.inside.journal.kept.0 c.self.inside.pages c.args.who.now _ c.self.invariant.pages_are c.in-Some.ensures.value)
    ∙ ap (λ (j : List Entry). length (readers j c.args.who.now)) c.self.view_is in
    omega (arith, one_each, c.from-public.ensures, counted c.is_public.result, ap one_if c.is_public.ensures)

pub returns-in-Some-clause-changes : goal.returns-in-Some-clause-changes
returns-in-Some-clause-changes c =
    c.counts-kept.ensures.changes
    ∙ ap (λ (k : PageState). k.changes) (page_found c.self.inside.journal.kept.0 c.self.inside.pages c.args.who.now _ c.self.invariant.pages_are c.in-Some.ensures.value)
    ∙ ap (λ (j : List Entry). length (entries_of c.args.who.now j)) c.self.view_is

pub returns-in-None-clause-creds : goal.returns-in-None-clause-creds
returns-in-None-clause-creds c =
    ap (λ (k : PageState). length k.rows) (page_missing c.self.inside.journal.kept.0 c.self.inside.pages c.args.who.now c.self.invariant.pages_are c.in-None.ensures.value)
    ∙ ap (λ (j : List Entry). length (vault j c.args.who.now)) c.self.view_is

pub returns-in-None-clause-grants : goal.returns-in-None-clause-grants
returns-in-None-clause-grants c =
    let none : 0 ≡ length (readers c.args.self.now c.args.who.now) =
    ap (λ (k : PageState). length k.readers) (page_missing c.self.inside.journal.kept.0 c.self.inside.pages c.args.who.now c.self.invariant.pages_are c.in-None.ensures.value)
    ∙ ap (λ (j : List Entry). length (readers j c.args.who.now)) c.self.view_is in
    omega (arith, none, c.from-public.ensures, counted c.is_public.result, ap one_if c.is_public.ensures)

pub returns-in-None-clause-changes : goal.returns-in-None-clause-changes
returns-in-None-clause-changes c =
    ap (λ (k : PageState). k.changes) (page_missing c.self.inside.journal.kept.0 c.self.inside.pages c.args.who.now c.self.invariant.pages_are c.in-None.ensures.value)
    ∙ ap (λ (j : List Entry). length (entries_of c.args.who.now j)) c.self.view_is
