use Rattle.std.proofs.Common.{rules, sym, subst₂, List}
use Rattle.hall.specs.Hall.{HallState}
use Rattle.pool.specs.declared.turns.Item.{Item}
use Rattle.pool.specs.Histories.{Reaches}
use Rattle.pool.proofs.Reaching.{new_reaches}
use Rattle.pool.proofs.rooms.Room.new.Goals as goal

pub invariant_of-room : goal.invariant_of-room
invariant_of-room g c = (
  search rules,
  search rules,
  search rules,
  search rules,
  search rules,
  subst₂ (λ (l : List Item) (h : HallState). Reaches g.L.Naming.roster l h) (sym c.named-keeper.ensures.keeper) (sym c.requires.hall) (new_reaches g.L.Naming.roster),
  λ is. cc,
)
