-- The pages after a write.
use Rattle.std.proofs.Common.{ℕ, Bool, true, false, cond, List, ◌≡◌, ◌∙◌, ap, refl, Option, Some, unwrap_or}
use Rattle.std.specs.Ordering.{eq_by_cmp}
use Rattle.std.specs.BTreeMap.{BTreeMap, get}
use Rattle.names.specs.Name.{name_order}
use Rattle.vaults.specs.declared.changes.Change.{Change}
use Rattle.vaults.specs.Page.{PageState, empty_page, page_at, page_after}
use Rattle.vaults.specs.Book.{KeepsChange, IsUnchanged}
use Rattle.vaults.proofs.Elements.{same_from_tied}
use Rattle.vaults.proofs.Orders.{names_exact}

-- a page that is written as it was
pub written_back : {X : Type 0} (who : List ℕ) (old new : BTreeMap (List ℕ) X) (page : X) → Some page ≡ get name_order old who →
    ((tenant : List ℕ) → get name_order new tenant ≡ cond (eq_by_cmp name_order who tenant) (Some page) (get name_order old tenant)) → (tenant : List ℕ) → get name_order new tenant ≡ get name_order old tenant
written_back who old new page was writes tenant = writes tenant ∙ by (eq_by_cmp name_order who tenant) refl
  where
    by : (b : Bool) → eq_by_cmp name_order who tenant ≡ b → cond b (Some page) (get name_order old tenant) ≡ get name_order old tenant
    by true tied = was ∙ ap (get name_order old) (same_from_tied names_exact who tenant tied)
    by false apart = refl

-- a page that is found is that of the tenant
pub page_there : (who : List ℕ) (pages : BTreeMap (List ℕ) PageState) (page : PageState) → Some page ≡ get name_order pages who → page ≡ page_at pages who
page_there who pages page found = ap (λ (o : Option PageState). unwrap_or o empty_page) found

-- a page with the tenant's change
pub page_kept : (who : List ℕ) (change : Change) (old new : BTreeMap (List ℕ) PageState) (page : PageState) → page ≡ page_after change (page_at old who) →
    ((tenant : List ℕ) → get name_order new tenant ≡ cond (eq_by_cmp name_order who tenant) (Some page) (get name_order old tenant)) → KeepsChange who change old new
page_kept who change old new page kept writes tenant = ap (λ (o : Option PageState). unwrap_or o empty_page) (writes tenant) ∙ by (eq_by_cmp name_order who tenant)
  where
    by : (b : Bool) → unwrap_or (cond b (Some page) (get name_order old tenant)) empty_page ≡ cond b (page_after change (page_at old who)) (page_at old tenant)
    by true = kept
    by false = refl

-- a page that is as it was
pub page_same : (who : List ℕ) (old new : BTreeMap (List ℕ) PageState) (page : PageState) → page ≡ page_at old who →
    ((tenant : List ℕ) → get name_order new tenant ≡ cond (eq_by_cmp name_order who tenant) (Some page) (get name_order old tenant)) → IsUnchanged old new
page_same who old new page same writes tenant = ap (λ (o : Option PageState). unwrap_or o empty_page) (writes tenant) ∙ by (eq_by_cmp name_order who tenant) refl
  where
    by : (b : Bool) → eq_by_cmp name_order who tenant ≡ b → unwrap_or (cond b (Some page) (get name_order old tenant)) empty_page ≡ page_at old tenant
    by true tied = same ∙ ap (page_at old) (same_from_tied names_exact who tenant tied)
    by false apart = refl
