use Rattle.std.proofs.Common.{List, ℕ, Some, Option, unwrap_or, is_some, ◌≡◌, ◌∙◌, ◌+◌, sym, ap, cond, subst, arith, true, IfOk, IfErr, OnOk}
use Rattle.std.specs.Ordering.{eq_by_cmp}
use Rattle.std.proofs.lemmas.Result.{on_ok_weaker, on_err_weaker}
use Rattle.std.specs.BTreeMap.{BTreeMap, get}
use Rattle.names.specs.Name.{name_order}
use Rattle.std.proofs.lemmas.Bool.{false≢true}
use Rattle.vaults.specs.Page.{PageState, empty_page, page_at, page_after, page_fault, is_due}
use Rattle.vaults.proofs.Outcomes.{on_err}
use Rattle.vaults.proofs.PageWrites.{page_there, page_kept, page_same}
use Rattle.vaults.proofs.books.keep_on_page.Goals as goal

pub returns-in-Some : goal.returns-in-Some
returns-in-Some c =
    let there = page_there c.args.who c.args.pages.now c.in-Some.page.now c.in-Some.ensures.value in
    let written = ((c.get_mut.follows.holds c.keep.new.self).3 (ap is_some (sym c.in-Some.ensures.value))).0 in
    record {
      kept = on_ok_weaker c.keep.result
          (λ kept. page_kept c.args.who c.args.change.now c.args.pages.now (c.get_mut.follows.lender c.keep.new.self) c.keep.new.self
          (kept ∙ ap (page_after c.args.change.now) there) written)
          c.keep.ensures.kept;
      due = subst (λ (p : PageState). OnOk c.keep.result (is_due c.args.change.now p.rows ≡ true)) there c.keep.ensures.due;
      refused = subst (λ (p : PageState). IfErr c.keep.result (λ f. f ≡ page_fault c.args.change.now p.rows)) there c.keep.ensures.refused;
      count = subst (λ (p : PageState). IfOk c.keep.result (λ n. n ≡ p.changes + 1)) there c.keep.ensures.count;
      unchanged = on_err_weaker c.keep.result
          (λ same. page_same c.args.who c.args.pages.now (c.get_mut.follows.lender c.keep.new.self) c.keep.new.self (same ∙ there) written)
          c.keep.ensures.unchanged;
      revocable = λ revoked there. c.keep.ensures.revocable revoked;
    }

pub returns-in-Ok-clause-kept : goal.returns-in-Ok-clause-kept
returns-in-Ok-clause-kept c =
    page_kept c.args.who c.args.change.now c.args.pages.now c.insert.new.self c.keep-in-None.new.self
    (c.in_ok-count-in-None.ensures.kept
    ∙ ap (page_after c.args.change.now) (c.new-page.ensures ∙ ap (λ (o : Option PageState). unwrap_or o empty_page) c.in-None.ensures.value))
    (λ tenant.
    c.in-Ok.ensures.updates.0 tenant
    ∙ ap (λ (m : BTreeMap (List ℕ) PageState). cond (eq_by_cmp name_order c.args.who tenant) (Some c.keep-in-None.new.self) (get name_order m tenant)) c.get_mut.follows.holds-at-none)

pub keep-requires-in-None-clause-fits : goal.keep-requires-in-None-clause-fits
keep-requires-in-None-clause-fits c =
    omega (arith, ap (λ (p : PageState). p.changes) (c.new-page.ensures ∙ ap (λ (o : Option PageState). unwrap_or o empty_page) c.in-None.ensures.value), c.requires.fits)

pub keep-requires-in-None-clause-due : goal.keep-requires-in-None-clause-due
keep-requires-in-None-clause-due c none =
    ap (λ (p : PageState). is_due c.args.change.now p.rows) (c.new-page.ensures ∙ ap (λ (o : Option PageState). unwrap_or o empty_page) c.in-None.ensures.value)
    ∙ c.requires.due none

pub returns-in_err-count-in-None-clause-unchanged : goal.returns-in_err-count-in-None-clause-unchanged
returns-in_err-count-in-None-clause-unchanged c =
    on_err c.from_residual.result (λ tenant. ap (λ (m : BTreeMap (List ℕ) PageState). page_at m tenant) c.get_mut.follows.holds-at-none)

pub returns-in_err-count-in-None-clause-revocable : goal.returns-in_err-count-in-None-clause-revocable
returns-in_err-count-in-None-clause-revocable c _ there = absurd (false≢true (ap is_some c.in-None.ensures.value ∙ there))

pub returns-in-Ok-clause-due : goal.returns-in-Ok-clause-due
returns-in-Ok-clause-due c =
    sym (ap (λ (p : PageState). is_due c.args.change.now p.rows) (c.new-page.ensures ∙ ap (λ (o : Option PageState). unwrap_or o empty_page) c.in-None.ensures.value))
    ∙ c.in_ok-count-in-None.ensures.due

pub returns-in-Ok-clause-count : goal.returns-in-Ok-clause-count
returns-in-Ok-clause-count c =
    c.in_ok-count-in-None.ensures.count
    ∙ ap (λ (p : PageState). p.changes + 1) (c.new-page.ensures ∙ ap (λ (o : Option PageState). unwrap_or o empty_page) c.in-None.ensures.value)

pub returns-in-Err-clause-revocable : goal.returns-in-Err-clause-revocable
returns-in-Err-clause-revocable c _ there = absurd (false≢true (ap is_some c.in-None.ensures.value ∙ there))
