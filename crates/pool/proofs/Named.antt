-- The items of one name.
use Rattle.std.proofs.Common.{◌≡◌, ◌≢◌, ◌∙◌, ◌==◌, ℕ, Bool, false, cond, List, [], ◌∷◌, ◌++◌, ◌<◌, ap, arith, inl, inr}
use Rattle.std.proofs.lemmas.List.{append-nil}
use Rattle.std.proofs.lemmas.List.Elements.{filter-append}
use Rattle.std.proofs.lemmas.Bool.Decides.{eqb_tells}
use Rattle.pool.specs.declared.turns.Item.{Item}
use Rattle.pool.specs.Histories.{name_of, own_of}
use Rattle.pool.specs.Rules.{AreNamed}

-- an item of another
pub own_other : (name : ℕ) (xs : List Item) (i : Item) → name_of i ≢ name → own_of name (xs ++ i ∷ []) ≡ own_of name xs
own_other name xs i other =
    let bit : (name_of i == name) ≡ false = elim (eqb_tells (name_of i) name) [ inl e ↦ absurd (other e.1) | inr e ↦ e.0 ] in
    filter-append (λ (j : Item). name_of j == name) xs (i ∷ [])
    ∙ ap (λ (b : Bool). own_of name xs ++ cond b (i ∷ []) []) bit
    ∙ append-nil (own_of name xs)

-- names that were drawn
pub named_push : (drawn : ℕ) (all : List Item) (i : Item) → AreNamed drawn all → name_of i < drawn → AreNamed drawn (all ++ i ∷ [])
named_push drawn all i named among name past = own_other name all i (λ same. omega (arith, past, among, same)) ∙ named name past
