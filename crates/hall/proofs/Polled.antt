-- A poll, and a name that is no tenant's, answered by an account.
use Rattle.std.proofs.Common.{◌≡◌, ◌∙◌, ℕ, List, ap, sym, refl, Option, Some, None, option_map}
use Rattle.std.specs.FinMap.{get}
use Rattle.hall.specs.declared.faults.Fault.{Fault}
use Rattle.hall.specs.declared.faults.Fault.TheVariants.{NoTenant, NoSuchSearch}
use Rattle.hall.specs.declared.calls.requests.Request.{Request}
use Rattle.hall.specs.declared.calls.requests.Request.TheVariants as request
use Rattle.hall.specs.declared.calls.replies.Reply.{Reply}
use Rattle.hall.specs.declared.calls.replies.Reply.TheVariants.{Refused}
use Rattle.hall.specs.Answers.{Asked, Account, sight, Answers, IsClear, refuses}
use Rattle.hall.specs.Hall.{Running, Tenant, HallState, seen, account, search_at, hall_after, IsServed}
use Rattle.hall.specs.Kept.{IsNowhere}
use Rattle.hall.proofs.Maps.{numbers_exact, get_mapped}
use Rattle.hall.proofs.laws.HallChanges.{search_of}

-- a refusal changes nothing
pub refused_after : (h : HallState) (who : List ℕ) (q : Request) (f : Fault) → hall_after h who q (Refused f) ≡ h
refused_after h who (request.Alter change) f = refl
refused_after h who _ f = refl

-- a name that is no tenant's is refused
pub nobody_refused : (h : HallState) (who : List ℕ) (q : Request) → get h.tenants who ≡ None → IsServed h who q (Refused NoTenant) h
nobody_refused h who q none = record {
  answers = rw none (refl, refl);
  after = sym (refused_after h who q NoTenant);
}

-- a request that changes nothing, answered by the tenant's account
pub answered_by : (h : HallState) (who : List ℕ) (t : Tenant) → get h.tenants who ≡ Some t → (q : Request) (told : Reply) →
    Answers who (sight h.journal who q) (account h.journal who t) q told (account h.journal who t) → hall_after h who q told ≡ h → IsServed h who q told h
answered_by h who t here q told answers after = record {
  answers = rw here (account h.journal who t, refl, answers);
  after = sym after;
}

-- what isn't found isn't there
pub none_there : (h : HallState) (who : List ℕ) (k : ℕ) (f : Fault) → IsNowhere k (get h.tenants who) f → search_at h who k ≡ None
none_there h who k f is = by (get h.tenants who) is
  where
    by : (o : Option Tenant) → IsNowhere k o f → search_of k o ≡ None
    by None is = refl
    by (Some t) (is, none) = none

-- no refusal is due to a poll of a search that an account has
pub poll_clear : (tenant : List ℕ) (a : Account) (k : ℕ) (s : Asked) → get a.searches k ≡ Some s → IsClear tenant a (request.Poll k)
poll_clear tenant a k s at f due = let clash : Some s ≡ None = sym at ∙ due.0 in cc

module _ (h : HallState) (who : List ℕ) (k : ℕ) (t : Tenant) (here : get h.tenants who ≡ Some t) where
  pub asked_of : (o : Option Running) → get t.searches k ≡ o → get (account h.journal who t).searches k ≡ option_map seen o
  asked_of o at = get_mapped numbers_exact seen t.searches k ∙ ap (option_map seen) at

  pub polled_nowhere : get t.searches k ≡ None → IsServed h who (request.Poll k) (Refused NoSuchSearch) h
  polled_nowhere none =
      answered_by h who t here (request.Poll k) (Refused NoSuchSearch) (refuses NoSuchSearch (asked_of None none, refl)) refl
