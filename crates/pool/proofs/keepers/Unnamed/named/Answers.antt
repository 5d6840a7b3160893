use Rattle.std.proofs.Common.{◌≡◌, ◌∙◌, [], ap, sym, subst, List}
use Rattle.pool.specs.declared.turns.Item.{Item}
use Rattle.pool.specs.Rules.{Names, keeper}
use Rattle.pool.specs.Histories.{own_of, IsLegal}
use Rattle.pool.proofs.Reaching.{nothing_legal}
use Rattle.pool.proofs.keepers.Unnamed.named.Goals as goal

pub invariant_of-keeper : goal.invariant_of-keeper
invariant_of-keeper g c =
    let s = c.self.inside in
    let i = c.self.invariant in
    let is = ap (λ (n : Names). n.table) (c.self.view_is ∙ c.requires) in
    let fresh : s.seat.me.0.drawn ≡ 0 = ap (λ m. m.0.drawn) i.2 in
    let none : s.seat.me.0.all ≡ [] = ap (λ m. m.0.all) i.2 in (
      is,
      i.0 ∙ is,
      ap (λ t. t.words) (sym is) ∙ i.1,
      i.2 ∙ ap (λ l. (keeper 0 l, [])) (sym none) ∙ ap (λ n. (keeper n s.seat.me.0.all, [])) (sym fresh),
      (λ name past. ap (own_of name) none),
      subst (λ (l : List Item). IsLegal g.J.Naming.roster l) (sym none) (nothing_legal g.J.Naming.roster),
    )
