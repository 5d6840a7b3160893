-- Lemmas on the limits of a roster's line.
use Rattle.std.proofs.Common.{◌≡◌, ℕ, List, [], ◌∷◌, map, Option, Some, sym, ap, ◌∙◌, inl, inr}
use Rattle.quotas.specs.Quota.{Quota, usual_quota}
use Rattle.service.specs.Words.{number_of}
use Rattle.service.specs.Roster.{IsLimits}

-- the limits as numbers, in the order of a roster's line
abbrev numbers_of : Quota → List ℕ
numbers_of q = q.creds ∷ q.grants ∷ q.searches ∷ q.changes ∷ q.opens ∷ q.work ∷ []

-- the limits of six numbers
abbrev quota_of : List (Option ℕ) → Quota
quota_of (Some a ∷ Some b ∷ Some c ∷ Some d ∷ Some e ∷ Some f ∷ []) = record { creds = a; grants = b; searches = c; changes = d; opens = e; work = f }
quota_of _ = usual_quota

-- and none are no limits
none_given : (q : Quota) → map number_of [] ≡ map Some (numbers_of q) → ⊥
none_given q is = cc

-- words are the limits of one quota at most
pub IsLimits-unique : (ws : List (List ℕ)) (q r : Quota) → IsLimits ws q → IsLimits ws r → q ≡ r
IsLimits-unique ws q r (inl usual) (inl other) = usual.1 ∙ sym other.1
IsLimits-unique ws q r (inl usual) (inr given) = absurd (none_given r (sym (ap (map number_of) usual.0) ∙ given.0))
IsLimits-unique ws q r (inr given) (inl usual) = absurd (none_given q (sym (ap (map number_of) usual.0) ∙ given.0))
IsLimits-unique ws q r (inr given) (inr other) = ap quota_of (sym given.0 ∙ other.0)
