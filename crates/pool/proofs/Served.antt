-- A request that is not refused is a tenant's, and told what was asked for.
use Rattle.std.proofs.Common.{◌≡◌, ◌≢◌, ◌⊎◌, inl, inr, ℕ, List, Option, Some, None, option_map, refl, sym, subst}
use Rattle.std.specs.FinMap.{get}
use Rattle.hall.specs.declared.faults.Fault.{Fault}
use Rattle.hall.specs.declared.faults.Fault.TheVariants.{NoTenant, Memory}
use Rattle.hall.specs.declared.calls.requests.Request.{Request}
use Rattle.hall.specs.declared.calls.requests.Request.TheVariants as request
use Rattle.hall.specs.declared.calls.replies.Reply.{Reply}
use Rattle.hall.specs.declared.calls.replies.Reply.TheVariants.{Refused}
use Rattle.hall.specs.Answers.{Account, sight, Grants, Answers, refuses, grants, lacks}
use Rattle.hall.specs.Hall.{HallState, Tenant, account, account_of, AnswersTo, IsServed}
use Rattle.pool.specs.Served.{Suits}

-- the tenant of that name is told this, by its account
pub record IsGranted (h : HallState) (who : List ℕ) (q : Request) (told : Reply) : Type 0 where
  pub tenant : Tenant
  pub after : Account
  pub there : get h.tenants who ≡ Some tenant
  pub gets : Grants who (sight h.journal who q) (account h.journal who tenant) q told after

pub granted : (h new : HallState) (who : List ℕ) (q : Request) (told : Reply) → ((f : Fault) → told ≢ Refused f) → IsServed h who q told new → IsGranted h who q told
granted h new who q told other served = by (get h.tenants who) refl served.answers
  where
    gets : (t : Tenant) (b : Account) (r : Reply) → r ≡ told → Answers who (sight h.journal who q) (account h.journal who t) q r b →
        Grants who (sight h.journal who q) (account h.journal who t) q told b
    gets t b r is (refuses f due) = absurd (other f (sym is))
    gets t b r is (grants clear has) = subst (λ (s : Reply). Grants who (sight h.journal who q) (account h.journal who t) q s b) is has
    gets t b r is (lacks clear may) = absurd (other Memory (sym is))

    by : (o : Option Tenant) → get h.tenants who ≡ o → AnswersTo h who (option_map (account h.journal who) o) q told (account_of new who) → IsGranted h who q told
    by None at is = absurd (other NoTenant is.0)
    by (Some t) at is = record { tenant = t; after = is.0; there = at; gets = gets t is.0 told refl is.2 }

-- what is told is a refusal, or it isn't
refused_or : (told : Reply) → ((f : Fault) × (told ≡ Refused f)) ⊎ ((f : Fault) → told ≢ Refused f)
refused_or (Refused f) = inl (f, refl)
refused_or told = inr (λ f is. cc)

refused_suits : (q : Request) (f : Fault) → Suits q (Refused f)
refused_suits (request.Alter change) f = tt
refused_suits (request.Seek query) f = tt
refused_suits (request.Poll k) f = tt
refused_suits (request.Close k) f = tt
refused_suits request.Vault f = tt
refused_suits request.Sees f = tt
refused_suits (request.Proof k member) f = tt

granted_suits : (h : HallState) (who : List ℕ) (q : Request) (told : Reply) → IsGranted h who q told → Suits q told
granted_suits h who (request.Alter change) told has = subst (Suits (request.Alter change)) (sym has.gets.0) tt
granted_suits h who (request.Seek query) told has = subst (Suits (request.Seek query)) (sym has.gets.0) tt
granted_suits h who (request.Poll k) told has = subst (Suits (request.Poll k)) (sym has.gets.2) tt
granted_suits h who (request.Close k) told has = subst (Suits (request.Close k)) (sym has.gets.0) tt
granted_suits h who request.Vault told has = subst (Suits request.Vault) (sym has.gets.0) tt
granted_suits h who request.Sees told has = subst (Suits request.Sees) (sym has.gets.0) tt
granted_suits h who (request.Proof k member) told has = subst (Suits (request.Proof k member)) (sym has.gets.4) tt

-- what is told suits the request
pub served_suits : (h new : HallState) (who : List ℕ) (q : Request) (told : Reply) → IsServed h who q told new → Suits q told
served_suits h new who q told served = elim (refused_or told) [
  | inl refused ↦ subst (Suits q) (sym refused.1) (refused_suits q refused.0)
  | inr other ↦ granted_suits h who q told (granted h new who q told other served)
]

-- the request of the same tenant, in the same hall
pub served_same : (h g new : HallState) (who tenant : List ℕ) (q : Request) (told : Reply) → h ≡ g → who ≡ tenant → IsServed h who q told new → IsServed g tenant q told new
served_same h g new who tenant q told hall name served =
    subst (λ (a : HallState). IsServed a tenant q told new) hall (subst (λ (n : List ℕ). IsServed h n q told new) name served)
