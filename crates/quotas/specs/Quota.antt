-- A tenant's quota, which is what contracts see of its `Limits`: six limits, each in its range.
use Rattle.std.specs.Prelude.{ℕ, ◌≤◌}

-- how many credentials, grants, open searches, changes and openings, and how many letters of one search
pub record Quota : Type 0 where
  pub creds : ℕ
  pub grants : ℕ
  pub searches : ℕ
  pub changes : ℕ
  pub opens : ℕ
  pub work : ℕ

-- the quota of these six
abbrev pub quota : ℕ → ℕ → ℕ → ℕ → ℕ → ℕ → Quota
quota creds grants searches changes opens work =
    record { creds = creds; grants = grants; searches = searches; changes = changes; opens = opens; work = work }

-- at least 1, and at most the greatest
abbrev pub IsFrom1To : ℕ → ℕ → Type 0
IsFrom1To greatest n = (1 ≤ n) × (n ≤ greatest)

-- the limits that there are
pub record IsQuota (q : Quota) : Type 0 where
  pub creds : IsFrom1To 100000 q.creds
  pub grants : IsFrom1To 1000 q.grants
  pub searches : IsFrom1To 64 q.searches
  pub changes : IsFrom1To 1000000 q.changes
  pub opens : IsFrom1To 1000000000 q.opens
  pub work : IsFrom1To 4294967296 q.work

-- the limits of a tenant of which nothing else is said
abbrev pub usual_quota : Quota
usual_quota = quota 1000 100 16 10000 10000 1000000
