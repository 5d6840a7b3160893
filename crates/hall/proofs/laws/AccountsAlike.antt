-- Accounts that are alike in two worlds, and what keeps them so.
use Rattle.std.proofs.Common.{ℕ, List, ◌≡◌, ◌∙◌, inl, inr, sym, ap, refl, subst, subst₂, Option, Some, None, is_some}
use Rattle.std.specs.Ordering.{nat_cmp}
use Rattle.std.specs.FinMap.{FinMap, get, insert, remove}
use Rattle.credential_text.specs.declared.credentials.Credential.{Credential}
use Rattle.quotas.specs.Quota.{Quota}
use Rattle.vaults.specs.Journal.{Vault, credentials}
use Rattle.search.specs.declared.queries.Query.{Query}
use Rattle.search.specs.Ending.{Settled}
use Rattle.hall.specs.Answers.{Asked, Account}
use Rattle.hall.specs.Run.{When, any_time, at_waits, GoesOn, Between}
use Rattle.hall.proofs.Maps.{numbers_exact, each_inserted, each_removed, get_inserted, get_insert_other, get_removed, get_remove_other}
use Rattle.hall.proofs.Truths.{AreLike, like_settles}

-- what one search has come to in the two worlds: where searches settle at waits alone, the same
abbrev pub Like : When → ℕ → List Credential → Query → Settled → Settled → Type 0
Like at_waits limit C q x y = x ≡ y
Like any_time limit C q x y = AreLike limit C q x y

pub like_from_same : (when : When) (limit : ℕ) (C : List Credential) (q : Query) (x y : Settled) → x ≡ y → Like when limit C q x y
like_from_same at_waits limit C q x y e = e
like_from_same any_time limit C q x y e = inl e

pub weakly_like : (when : When) (limit : ℕ) (C : List Credential) (q : Query) (x y : Settled) → Like when limit C q x y →
    AreLike limit C q x y
weakly_like at_waits limit C q x y e = inl e
weakly_like any_time limit C q x y like = like

like_back : (when : When) (limit : ℕ) (C : List Credential) (q : Query) (x y : Settled) → Like when limit C q x y →
    Like when limit C q y x
like_back at_waits limit C q x y e = sym e
like_back any_time limit C q x y (inl e) = inl (sym e)
like_back any_time limit C q x y (inr h) = inr (h.1, h.0)

-- neither world has the search, or both have it, with one query and one view
pub data BothHave (when : When) (limit : ℕ) : Option Asked → Option Asked → Type 0 where
  neither : BothHave when limit None None
  both : (query : Query) (view : List Vault) (x y : Settled) → Like when limit (credentials view) query x y →
      BothHave when limit (Some (record { query = query; view = view; settled = x }))
      (Some (record { query = query; view = view; settled = y }))

pub both_itself : (when : When) (limit : ℕ) (o : Option Asked) → BothHave when limit o o
both_itself when limit None = neither
both_itself when limit (Some s) =
    both s.query s.view s.settled s.settled (like_from_same when limit (credentials s.view) s.query s.settled s.settled refl)

pub both_back : {when : When} {limit : ℕ} {o p : Option Asked} → BothHave when limit o p → BothHave when limit p o
both_back neither = neither
both_back {when = when} {limit = limit} (both query view x y like) =
    both query view y x (like_back when limit (credentials view) query x y like)

pub both_present : {when : When} {limit : ℕ} {o p : Option Asked} → BothHave when limit o p → is_some o ≡ is_some p
both_present neither = refl
both_present (both query view x y like) = refl

pub both_absent : {when : When} {limit : ℕ} {o p : Option Asked} → BothHave when limit o p → o ≡ None → p ≡ None
both_absent neither none = refl
both_absent (both query view x y like) none = cc

both_go_on : (limit : ℕ) (o p m n : Option Asked) → BothHave any_time limit o p → GoesOn limit o m → GoesOn limit p n →
    BothHave any_time limit m n
both_go_on limit _ _ m n neither e f = subst₂ (BothHave any_time limit) (sym e) (sym f) neither
both_go_on limit _ _ m n (both query view x y like) (u, may, e) (v, might, f) =
    rw (e, f) (both query view u v (like_settles limit (credentials view) query x y u v like may might))

-- the same number put in or taken out in both
module _ (when : When) (limit : ℕ) (m n : FinMap nat_cmp Asked) (alike : (k : ℕ) → BothHave when limit (get m k) (get n k))
    (k : ℕ) where
  pub both_inserted : (s t : Asked) → BothHave when limit (Some s) (Some t) → (j : ℕ) →
      BothHave when limit (get (insert m k s) j) (get (insert n k t) j)
  both_inserted s t here =
      each_inserted numbers_exact (λ j o. BothHave when limit o (get (insert n k t) j)) m k s
      (rw (get_inserted numbers_exact n k t) here) (λ j apart. rw (get_insert_other numbers_exact n k t j apart) (alike j))

  pub both_removed : (j : ℕ) → BothHave when limit (get (remove m k) j) (get (remove n k) j)
  both_removed =
      each_removed numbers_exact (λ j o. BothHave when limit o (get (remove n k) j)) m k
      (rw (get_removed numbers_exact n k) neither) (λ j apart. rw (get_remove_other numbers_exact n k j apart) (alike j))

-- the same account in two worlds
pub record AreAlike (when : When) (limit : ℕ) (a b : Account) : Type 0 where
  pub work : a.limits.work ≡ limit
  pub limits : b.limits ≡ a.limits
  pub entries : b.entries ≡ a.entries
  pub opens : b.opens ≡ a.opens
  pub searches : (k : ℕ) → BothHave when limit (get a.searches k) (get b.searches k)

pub alike_itself : (when : When) (a : Account) → AreAlike when a.limits.work a a
alike_itself when a = record {
  work = refl;
  limits = refl;
  entries = refl;
  opens = refl;
  searches = λ k. both_itself when a.limits.work (get a.searches k);
}

pub other_work : {when : When} {limit : ℕ} {a b : Account} → AreAlike when limit a b → b.limits.work ≡ limit
other_work alike = ap (λ (q : Quota). q.work) alike.limits ∙ alike.work

pub alike_back : {when : When} {limit : ℕ} {a b : Account} → AreAlike when limit a b → AreAlike when limit b a
alike_back alike = record {
  work = other_work alike;
  limits = sym alike.limits;
  entries = sym alike.entries;
  opens = sym alike.opens;
  searches = λ k. both_back (alike.searches k);
}

-- searches may settle in both between two turns
pub between_alike : (when : When) (limit : ℕ) (a b c d : Account) → AreAlike when limit a b → Between when a c →
    Between when b d → AreAlike when limit c d
between_alike at_waits limit a b c d alike e f = subst₂ (AreAlike at_waits limit) (sym e) (sym f) alike
between_alike any_time limit a b c d alike first second = record {
  work = ap (λ (x : Account). x.limits.work) first.0 ∙ alike.work;
  limits = ap (λ (x : Account). x.limits) second.0 ∙ alike.limits ∙ sym (ap (λ (x : Account). x.limits) first.0);
  entries = ap (λ (x : Account). x.entries) second.0 ∙ alike.entries ∙ sym (ap (λ (x : Account). x.entries) first.0);
  opens = ap (λ (x : Account). x.opens) second.0 ∙ alike.opens ∙ sym (ap (λ (x : Account). x.opens) first.0);
  searches = λ k.
      both_go_on limit (get a.searches k) (get b.searches k) (get c.searches k) (get d.searches k) (alike.searches k)
      (subst (λ n. GoesOn n (get a.searches k) (get c.searches k)) alike.work (first.1 k))
      (subst (λ n. GoesOn n (get b.searches k) (get d.searches k)) (other_work alike) (second.1 k));
}
