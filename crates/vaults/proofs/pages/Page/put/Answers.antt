use Rattle.std.proofs.Common.{ℕ, List, ◌∙◌, ap}
use Rattle.credential_text.specs.declared.credentials.Credential.{Credential}
use Rattle.vaults.specs.Page.{PageState}
use Rattle.vaults.proofs.pages.Page.put.Goals as goal
use Rattle.vaults.proofs.pages.Page.put.Goals.{then-branch, else-branch}

abbrev page_with : List (List ℕ) → ℕ → List Credential → PageState
page_with readers changes rows = record { rows = rows; readers = readers; changes = changes }

pub returns-clause-unchanged : goal.returns-clause-unchanged
returns-clause-unchanged c =
    elim c.if-branch.branch [
      | then-branch w ↦ rw w.result-is tt
      | else-branch w ↦
          rw w.result-is (ap (page_with c.self.inside.readers c.self.inside.changes) (c.in_ok-put.ensures.same w.if-branch.false) ∙ c.self.view_is)
    ]
