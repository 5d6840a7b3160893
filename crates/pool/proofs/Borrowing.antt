-- The keeper takes a front's seat in, makes one step, and lets it out again.
use Rattle.std.proofs.Common.{◌≡◌, ◌∙◌, ℕ, ◌<◌, true, List, [], sym, subst}
use mathlib.Core.List.{IsPrefix}
use Rattle.atomic_table.specs.Table.{Me}
use Rattle.pool.specs.declared.turns.Item.{Item}
use Rattle.pool.specs.declared.turns.Noted.{Noted}
use Rattle.pool.specs.declared.turns.Noted.TheVariants as noted
use Rattle.pool.specs.declared.seats.Knows.{Knows}
use Rattle.pool.specs.Histories.{name_of, own_of, item_of}
use Rattle.pool.specs.Rules.{keeper, adds_under}
use Rattle.pool.proofs.Seating.{unnamed}

-- the keeper compares a beginning with all, and the items of its name with all of that name
abbrev pub Compares : Knows → Type 0
Compares v = IsPrefix v.seen v.all × (v.name < v.drawn) × (own_of v.name v.all ≡ own_of v.name v.seen)

pub name_item : (name : ℕ) (n : Noted) → name_of (item_of name n) ≡ name
name_item name (noted.Told who q told) = λ _. name
name_item name (noted.Read who q s) = λ _. name
name_item name noted.Stopped = λ _. name

-- the keeper that has a front's seat
abbrev pub bearing : ℕ → List Item → ℕ → List Item → Knows
bearing drawn all name seen = record (keeper drawn all) { named = true; name = name; seen = seen }

module _ (first joined stepped : Me ℕ Knows) (front : Knows) (f : List Item → List Item)
    (keeps : first ≡ (keeper first.0.drawn first.0.all, [])) (adds : front ≡ adds_under front.name front.seen)
    (joins : joined ≡ (record first.0 { named = front.named; name = front.name; seen = front.seen }, first.1)) where
  pub bears : joined ≡ (bearing first.0.drawn first.0.all front.name front.seen, [])
  bears = joins ∙ (λ k. (record (keeps k).0 { named = (adds k).named; name = front.name; seen = front.seen }, (keeps k).1))

  -- what the step told
  pub compared : Compares joined.0 → IsPrefix front.seen first.0.all × (front.name < first.0.drawn) × (own_of front.name first.0.all ≡ own_of front.name front.seen)
  compared told = subst (λ (m : Me ℕ Knows). Compares m.0) bears told

  module _ (steps : stepped.0 ≡ record joined.0 { all = f joined.0.all; seen = f joined.0.all }) (idle : stepped.1 ≡ joined.1) where
    pub bears_more : stepped ≡ (bearing first.0.drawn (f first.0.all) front.name (f first.0.all), [])
    bears_more =
        (λ k. (steps k, idle k)) ∙ (λ k. (record (bears k).0 { all = f (bears k).0.all; seen = f (bears k).0.all }, (bears k).1))

    pub keeps_more : (last : Me ℕ Knows) → last ≡ (unnamed stepped.0, stepped.1) → last ≡ (keeper first.0.drawn (f first.0.all), [])
    keeps_more last lets = lets ∙ (λ k. (unnamed (bears_more k).0, (bears_more k).1))

-- a seat that is as the keeper's
pub keeper_itself : (m : Me ℕ Knows) (drawn : ℕ) (all : List Item) → m ≡ (keeper drawn all, []) → m ≡ (keeper m.0.drawn m.0.all, [])
keeper_itself m drawn all is = is ∙ sym (λ k. (keeper (is k).0.drawn (is k).0.all, []))
