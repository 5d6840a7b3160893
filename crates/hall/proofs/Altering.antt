-- A change of a tenant: the limits, then the journal's own refusals, then want of memory.
use Rattle.std.proofs.Common.{Bool, true, false, ◌≡◌, ◌∙◌, ◌+◌, ◌++◌, ◌∷◌, [], ℕ, List, length, ap, sym, refl, Option, Some, None, option_map, unwrap_or}
use Rattle.std.proofs.lemmas.List.{length-append}
use Rattle.std.specs.FinMap.{get}
use Rattle.vaults.specs.declared.changes.Change.{Change}
use Rattle.vaults.specs.declared.changes.Change.TheVariants.{Revoke, RevokeAll}
use Rattle.vaults.specs.declared.changes.Entry.{Entry}
use Rattle.vaults.specs.declared.faults.VaultFault.{VaultFault}
use Rattle.vaults.specs.declared.faults.VaultFault.TheVariants as vault
use Rattle.vaults.specs.Journal.{entries_of, refusal, revokes}
use Rattle.vaults.proofs.PageLemmas.{own_entries_push}
use Rattle.hall.specs.declared.faults.Fault.{Fault}
use Rattle.hall.specs.declared.faults.Fault.TheVariants.{Memory}
use Rattle.hall.specs.declared.calls.requests.Request.TheVariants.{Alter}
use Rattle.hall.specs.declared.calls.replies.Reply.TheVariants.{Counted, Refused}
use Rattle.hall.specs.Fault.{vault_fault}
use Rattle.hall.specs.Answers.{Account, MayLack, alter_refusal, refuses, grants, lacks}
use Rattle.hall.specs.Hall.{Tenant, HallState, account, IsServed}
use Rattle.hall.proofs.Polled.{answered_by}

-- what failed revokes nothing, where a revocation doesn't fail
pub not_revoked : (b : Bool) → (b ≡ true → false ≡ true) → b ≡ false
not_revoked true went_well = sym (went_well refl)
not_revoked false went_well = refl

may_lack : (a : Account) (change : Change) → revokes change ≡ false → MayLack a (Alter change)
may_lack a (Revoke reader) not_revoking = cc
may_lack a RevokeAll not_revoking = cc
may_lack a _ not_revoking = tt

module _ (h : HallState) (who : List ℕ) (change : Change) (t : Tenant) (here : get h.tenants who ≡ Some t) where
  -- a limit that is reached, or another refusal
  pub refused_alter : (f : Fault) → alter_refusal (account h.journal who t) who change ≡ Some f → IsServed h who (Alter change) (Refused f) h
  refused_alter f due = answered_by h who t here (Alter change) (Refused f) (refuses f due) refl

  module _ (within : alter_refusal (account h.journal who t) who change ≡ option_map vault_fault (refusal h.journal who change)) where
    clear : refusal h.journal who change ≡ None → (f : Fault) → alter_refusal (account h.journal who t) who change ≡ Some f → ⊥
    clear none f due =
        let clash : None ≡ Some f = sym (within ∙ ap (option_map vault_fault) none) ∙ due in cc

    -- a refusal of the journal, or want of memory where there is none and the change revokes nothing
    pub journal_refused : (f : Fault) (g : VaultFault) → g ≡ unwrap_or (refusal h.journal who change) vault.Memory → f ≡ vault_fault g →
        (refusal h.journal who change ≡ None → revokes change ≡ false) → IsServed h who (Alter change) (Refused f) h
    journal_refused f g own is may = by (refusal h.journal who change) refl
      where
        by : (o : Option VaultFault) → refusal h.journal who change ≡ o → IsServed h who (Alter change) (Refused f) h
        by (Some v) due =
            refused_alter f (within ∙ ap (option_map vault_fault) due
            ∙ ap Some (sym (is ∙ ap vault_fault own ∙ ap (λ (p : Option VaultFault). vault_fault (unwrap_or p vault.Memory)) due)))
        by None none =
            rw (is ∙ ap vault_fault own ∙ ap (λ (p : Option VaultFault). vault_fault (unwrap_or p vault.Memory)) none)
            (answered_by h who t here (Alter change) (Refused Memory) (lacks (clear none) (may_lack (account h.journal who t) change (may none))) refl)

    -- a change that is entered
    pub accepted : (n : ℕ) (after : List Entry) → refusal h.journal who change ≡ None →
        after ≡ h.journal ++ record { tenant = who; change = change } ∷ [] → n ≡ length (entries_of who after) →
        IsServed h who (Alter change) (Counted n) (record { journal = after; tenants = h.tenants })
    accepted n after none entered counted = record {
      answers = rw here
          (account after who t, refl, grants (clear none) (ap Counted number, ap (λ (es : List Entry). record (account h.journal who t) { entries = es }) own));
      after = ap (λ (j : List Entry). record h { journal = j }) entered;
    }
      where
        own : entries_of who after ≡ entries_of who h.journal ++ record { tenant = who; change = change } ∷ []
        own = ap (entries_of who) entered ∙ own_entries_push h.journal who change

        number : n ≡ length (entries_of who h.journal) + 1
        number = counted ∙ ap length own ∙ length-append (entries_of who h.journal) (record { tenant = who; change = change } ∷ [])
