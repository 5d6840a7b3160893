-- A table that is gone over from a place in it, round to that place.
use Rattle.std.proofs.Common.{◌≡◌, ℕ, zero, suc, List, [], ◌∷◌, ◌++◌, take, drop, false, map, Option, None, subst, All}
use Rattle.std.specs.List.{AllByRecursion}
use Rattle.std.specs.Iterator.{Yields}
use Rattle.std.specs.declared.iter.Chain.{Chain}
use Rattle.std.specs.Iterator.Adapters.{chain_first, chain_second, chain_first_done, chain_second_done, chain_steps}
use Rattle.std.proofs.lemmas.Iterator.{YieldsList}
use Rattle.std.proofs.lemmas.Iterator.Consumers.{YieldsList-from_chain, YieldsList-end}
use Rattle.std.proofs.lemmas.List.Elements.{All-map, recursion_from_All}

module _ {E : Type 0} (P : E → Type 0) where
  both_parts : (xs ys : List E) → AllByRecursion P (xs ++ ys) → AllByRecursion P xs × AllByRecursion P ys
  both_parts [] ys all = (tt, all)
  both_parts (x ∷ xs) ys all = let (front, back) = both_parts xs ys all.1 in ((all.0, front), back)

  both_halves : (n : ℕ) (es : List E) → AllByRecursion P (take n es) → AllByRecursion P (drop n es) → AllByRecursion P es
  both_halves zero es before after = after
  both_halves (suc n) [] before after = tt
  both_halves (suc n) (e ∷ es) before after = (before.0, both_halves n es before.1 after)

-- where the entries from the place on were gone over, and then those before it, all were
pub whole_round : {E R S T : Type 0} (n : ℕ) (es : List E) {steps : S → Option R → S → Type 0} {others : T → Option R → T → Type 0} {read : R → E} {s : Chain S T} →
    YieldsList steps read (chain_first s) (drop n es) → YieldsList others read (chain_second s) (take n es) → chain_first_done s ≡ false → chain_second_done s ≡ false →
    (P : E → Type 0) (yielded : List R) (t u : Chain S T) → Yields (chain_steps steps others) s yielded t → (r : Option R) → r ≡ None → chain_steps steps others t r u →
    All (λ x. P (read x)) yielded → AllByRecursion P es
whole_round n es {read} after before more others P yielded t u so_far r is goes all =
    let ends = YieldsList-end (YieldsList-from_chain after before more others) yielded t so_far r u is goes in
    let both = both_parts P (drop n es) (take n es) (subst (AllByRecursion P) ends.0 (recursion_from_All P (map read yielded) (All-map P read yielded all))) in
    both_halves P n es both.1 both.0
