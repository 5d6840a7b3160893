-- What callers see of a pass, and how many changes were accepted, by each name and in all.
use Rattle.std.specs.Prelude.{◌≡◌, ℕ, List, [], length}
use Rattle.std.specs.List.{fold, range_with_len, sum_by}
use Rattle.pool.specs.declared.turns.Item.{Item}
use Rattle.pool.specs.Histories.{own_of, entered_by}
use Rattle.pool.specs.Rules.{AreNamed}

-- the tenant, the name under which the history has the pass's calls, and the beginning of the history that the pass has seen
pub record PassState : Type 0 where
  pub tenant : List ℕ
  pub name : ℕ
  pub seen : List Item

-- how many changes were accepted by these items, which is how long the journal is by them
abbrev pub accepted_in : List Item → ℕ
accepted_in items = length (fold entered_by [] items)

-- how many accepted changes the pass was told
abbrev pub share_of : PassState → ℕ
share_of p = accepted_in (own_of p.name p.seen)

-- what each name was told of accepted changes is the journal's length, added up over the names that were drawn
abbrev pub SharesAddUp : Type 0
SharesAddUp =
    (drawn : ℕ) (items : List Item) → AreNamed drawn items
    → sum_by (λ name. accepted_in (own_of name items)) (range_with_len 0 drawn) ≡ accepted_in items
