-- Lemmas on who speaks in a hall: a new hall has its roster's tenants, and it has the same whatever they do.
use Rattle.std.proofs.Common.{◌≡◌, ℕ, Bool, true, false, cond, List, [], ◌∷◌, refl, sym, ap, subst, ◌∙◌, Option, Some, None}
use Rattle.std.specs.Prelude.{is_some, ◌&&◌, ◌||◌, find, option_map}
use Rattle.std.specs.List.{list_any}
use Rattle.std.specs.Ordering.{eq_by_cmp}
use Rattle.std.specs.Option.{option_map_or}
use Rattle.std.specs.FinMap.{get, insert, get-empty, get-insert}
use Rattle.std.proofs.lemmas.Cmp.{nat_list_cmp_total, nat_list_eq_equiv}
use Rattle.names.specs.Name.{name_order, is_name, is_same}
use Rattle.names.proofs.SameNames.{same_from_is_same, is_same_tied}
use Rattle.quotas.specs.Quota.{Quota}
use Rattle.hall.specs.declared.faults.Fault.{Fault}
use Rattle.hall.specs.declared.calls.requests.Request.{Request}
use Rattle.hall.specs.declared.calls.requests.Request.TheVariants as request
use Rattle.hall.specs.declared.calls.replies.Reply.{Reply}
use Rattle.hall.specs.declared.calls.replies.Reply.TheVariants.{Refused}
use Rattle.hall.specs.Answers.{Account, new_account, start_of, Sight, Answers, Grants}
use Rattle.hall.specs.Run.{Deed, asks, waits, Told}
use Rattle.hall.specs.Hall.{Running, Tenant, HallState, account, account_of, with_tenant, search_at, hall_after, AnswersTo, IsServed, GoesOnAt, IsCarriedOn, CarriesOut, AreDone, new_tenant, new_hall}
use Rattle.hall.proofs.Polled.{refused_after}
use Rattle.hall.proofs.laws.HallChanges.{changed_here, changed_elsewhere}
use Rattle.service.specs.Outcome.{speaks}

-- whether a tenant of a roster speaks
abbrev pub is_speaker : List (List ℕ × Quota) → List ℕ → Bool
is_speaker roster = speaks (λ who. start_of who roster)

-- a tenant of a hall has an account
pub has_account : (h : HallState) (who : List ℕ) → is_some (account_of h who) ≡ is_some (get h.tenants who)
has_account h who = by (get h.tenants who)
  where
    by : (o : Option Tenant) → is_some (option_map (account h.journal who) o) ≡ is_some o
    by None = refl
    by (Some t) = refl

-- a tenant stands in the roster where it begins with anything
listed : (tenant : List ℕ) (roster : List (List ℕ × Quota)) → list_any (λ (r : List ℕ × Quota). is_same r.0 tenant) roster ≡ is_some (start_of tenant roster)
listed tenant [] = refl
listed tenant (row ∷ roster) = by (is_same row.0 tenant) (listed tenant roster)
  where
    by : (own : Bool) → list_any (λ (r : List ℕ × Quota). is_same r.0 tenant) roster ≡ is_some (start_of tenant roster) →
        (own || list_any (λ (r : List ℕ × Quota). is_same r.0 tenant) roster)
        ≡ is_some (option_map (λ (r : List ℕ × Quota). new_account r.1) (cond own (Some row) (find (λ (r : List ℕ × Quota). is_same r.0 tenant) roster)))
    by true rest = refl
    by false rest = rest

-- one hall has the tenants of the other
abbrev HasSame : HallState → HallState → Type 0
HasSame old new = (who : List ℕ) → is_some (get new.tenants who) ≡ is_some (get old.tenants who)

has-changed : (h : HallState) (name : List ℕ) (change : Tenant → Tenant) → HasSame h (with_tenant h name change)
has-changed h name change who = by (is_same name who) refl
  where
    own : (o : Option Tenant) → get h.tenants name ≡ o → is_some (get (with_tenant h name change).tenants name) ≡ is_some (get h.tenants name)
    own None none = ap (λ (o : Option Tenant). is_some (get (option_map_or (λ t. insert h.tenants name (change t)) o h.tenants) name)) none
    own (Some t) there = ap is_some (changed_here h name change t there) ∙ sym (ap is_some there)

    by : (b : Bool) → is_same name who ≡ b → is_some (get (with_tenant h name change).tenants who) ≡ is_some (get h.tenants who)
    by false apart = ap is_some (changed_elsewhere h name change who apart)
    by true same =
        subst (λ (n : List ℕ). is_some (get (with_tenant h name change).tenants n) ≡ is_some (get h.tenants n)) (same_from_is_same name who same)
        (own (get h.tenants name) refl)

has-refused : (h : HallState) (name : List ℕ) (q : Request) (f : Fault) → HasSame h (hall_after h name q (Refused f))
has-refused h name q f who = ap (λ (g : HallState). is_some (get g.tenants who)) (refused_after h name q f)

has-granted : (h : HallState) (name : List ℕ) (sees : Sight) (a b : Account) (q : Request) (told : Reply) → Grants name sees a q told b → HasSame h (hall_after h name q told)
has-granted h name sees a b (request.Alter change) told given who = rw given.0 refl
has-granted h name sees a b (request.Seek query) told given who = rw given.0 (has-changed h name _ who)
has-granted h name sees a b (request.Poll k) told given who = refl
has-granted h name sees a b (request.Close k) told given who = rw given.0 (has-changed h name _ who)
has-granted h name sees a b request.Vault told given who = refl
has-granted h name sees a b request.Sees told given who = refl
has-granted h name sees a b (request.Proof k member) told given who = refl

has-answered : (h : HallState) (name : List ℕ) (sees : Sight) (a b : Account) (q : Request) (told : Reply) → Answers name sees a q told b → HasSame h (hall_after h name q told)
has-answered h name sees a b q told (Answers.refuses f due) = has-refused h name q f
has-answered h name sees a b q told (Answers.grants clear given) = has-granted h name sees a b q told given
has-answered h name sees a b q told (Answers.lacks clear may) = has-refused h name q _

has-told : (h : HallState) (name : List ℕ) (o after : Option Account) (q : Request) (told : Reply) → AnswersTo h name o q told after → HasSame h (hall_after h name q told)
has-told h name None after q told is who = rw is.0 (has-refused h name q _ who)
has-told h name (Some a) after q told is who = has-answered h name _ a is.0 q told is.2 who

has-served : (old new : HallState) (name : List ℕ) (q : Request) (told : Reply) → IsServed old name q told new → HasSame old new
has-served old new name q told served who =
    ap (λ (h : HallState). is_some (get h.tenants who)) served.after ∙ has-told old name (account_of old name) (account_of new name) q told served.answers who

has-driven : (old new : HallState) (name : List ℕ) (k : ℕ) (o : Option Running) → GoesOnAt old name k o (Unit {0}) IsCarriedOn new → HasSame old new
has-driven old new name k None (nothing, same) who = ap (λ (h : HallState). is_some (get h.tenants who)) same
has-driven old new name k (Some r) driven who =
    ap (λ (h : HallState). is_some (get h.tenants who)) driven.2 ∙ has-changed old name _ who

has-carried : (old new : HallState) (name : List ℕ) (deed : Deed) (told : Reply) → CarriesOut old name deed told new → HasSame old new
has-carried old new name (asks q) told served who = has-served old new name q told served who
has-carried old new name (waits k) told done who =
    has-served done.0 new name (request.Poll k) told done.2 who ∙ has-driven old done.0 name k (search_at old name k) done.1 who

has-done : (old new : HallState) (told : List Told) → AreDone old told new → HasSame old new
has-done old new [] same who = ap (λ (h : HallState). is_some (get h.tenants who)) same
has-done old new (t ∷ more) done who = has-done done.0 new more done.2 who ∙ has-carried old done.0 t.tenant t.deed t.reply done.1 who

-- the hall's tenants are those of the roster
abbrev pub HasTenants : HallState → List (List ℕ × Quota) → Type 0
HasTenants hall roster = (who : List ℕ) → is_some (get hall.tenants who) ≡ list_any (λ row. is_same row.0 who) roster

-- a new hall has its roster's tenants
pub HasTenants-new : (roster : List (List ℕ × Quota)) → HasTenants (new_hall roster) roster
HasTenants-new [] who = ap is_some (get-empty name_order who)
HasTenants-new (row ∷ rows) who =
    ap is_some (get-insert nat_list_cmp_total (new_hall rows).tenants row.0 (new_tenant row.1) who)
    ∙ by (eq_by_cmp name_order who row.0)
    ∙ ap (λ (b : Bool). b || is_some (get (new_hall rows).tenants who)) (is_same_tied who row.0 ∙ nat_list_eq_equiv.symm who row.0)
    ∙ ap (λ (b : Bool). is_same row.0 who || b) (HasTenants-new rows who)
  where
    by : (b : Bool) → is_some (cond b (Some (new_tenant row.1)) (get (new_hall rows).tenants who)) ≡ (b || is_some (get (new_hall rows).tenants who))
    by true = refl
    by false = refl

-- and whatever they do, the hall has the same
pub HasTenants-done : (roster : List (List ℕ × Quota)) (told : List Told) (old new : HallState) → HasTenants old roster → AreDone old told new → HasTenants new roster
HasTenants-done roster told old new has done who = has-done old new told done who ∙ has who

-- so a tenant of the roster speaks where one of the hall does
pub is_speaker-speaks : (roster : List (List ℕ × Quota)) (h : HallState) (who : List ℕ) → HasTenants h roster → is_speaker roster who ≡ speaks (account_of h) who
is_speaker-speaks roster h who has = ap (λ (b : Bool). is_name who && b) (sym (listed who roster) ∙ sym (has who) ∙ sym (has_account h who))
