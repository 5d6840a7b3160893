use Rattle.std.proofs.Common.{rules, ◌≡◌, false, List, [], ◌∷◌, map, ℕ, sym, subst}
use Rattle.std.specs.List.{IsDistinct}
use Rattle.names.specs.Name.{is_same}
use Rattle.quotas.specs.Quota.{Quota}
use Rattle.pool.proofs.desk_tests.plays.roster_of_two.Goals as goal

two_distinct : (a b : List ℕ) → is_same a b ≡ false → IsDistinct is_same (a ∷ b ∷ [])
unfolding IsDistinct
two_distinct a b other = ((other, tt), (tt, tt))

pub returns-in-Ok : goal.returns-in-Ok
returns-in-Ok c =
    let a = c.in-Ok-Ok-Some.a in
    let b = c.in-Ok-Ok-Some.b in
    let other : is_same a b ≡ false = search (rules, c.if-eq.ensures) in
    subst (λ (rows : List (List ℕ × Quota)). IsDistinct is_same (map (λ row. row.0) rows)) (sym c.in-Ok.ensures.items) (two_distinct a b other)
