use Rattle.std.proofs.Common.{◌∙◌, ℕ, List, ◌++◌, ◌∷◌, [], ap, sym, arith, subst}
use Rattle.atomic_table.specs.Table.{Me}
use Rattle.pool.specs.declared.seats.Knows.{Knows}
use Rattle.pool.specs.declared.turns.Item.{Item}
use Rattle.pool.specs.Histories.{name_of, IsLegal}
use Rattle.pool.specs.Rules.{AreNamed}
use Rattle.pool.proofs.Named.{named_push}
use Rattle.pool.proofs.Borrowing.{name_item, bears, compared, bears_more, keeps_more, keeper_itself}
use Rattle.pool.proofs.Seating.{takes_in_as, lets_out, adds_as}
use Rattle.pool.proofs.keepers.Keeper.tell_as.Goals as goal

pub join_seat-requires : goal.join_seat-requires
join_seat-requires g c =
    let i = c.self.invariant in
    let o = c.seat.invariant in (
      i.1 ∙ sym i.0,
      o.0 ∙ sym i.0,
      ap (λ m. m.1) o.1,
      omega (arith, ap (λ t. t.words) i.0 ∙ i.2),
      takes_in_as c.self.inside.seat.id c.self.inside.seat.me.0 c.seat.inside.seat.id c.seat.inside.seat.me.0 (ap (λ m. m.0) i.3) (ap (λ m. m.0) o.1),
    )

pub load-word-requires : goal.load-word-requires
load-word-requires g c =
    let i = c.self.invariant in
    let o = c.seat.invariant in
    let j = c.join_seat.ensures in
    let b = bears c.self.inside.seat.me c.join_seat.new.seat.me c.join_seat.new.seat.me c.seat.inside.seat.me.0 (λ l. l ++ g.T.Telling.item ∷ []) i.3 (ap (λ m. m.0) o.1) j.2 in (
      j.0 ∙ i.1 ∙ sym i.0,
      omega (arith, ap (λ t. t.words) i.0 ∙ i.2),
      adds_as c.join_seat.new.seat.id c.join_seat.new.seat.me _ (λ n. n) g.T.Telling.item (ap (λ m. m.0.keeps) b) (ap (λ m. m.0.named) b)
          (ap name_of c.requires.item ∙ name_item c.args.front.now.name c.args.noted.now ∙ sym (ap (λ f. f.name) (c.seat.view_is ∙ c.replace.ensures.value)) ∙ sym (ap (λ m. m.0.name) b))
          (ap (λ m. m.1) b),
    )

pub split_seat-seat-requires : goal.split_seat-seat-requires
split_seat-seat-requires g c =
    let i = c.self.invariant in
    let o = c.seat.invariant in
    let j = c.join_seat.ensures in
    let l = c.load-word.ensures in
    let b = bears_more c.self.inside.seat.me c.join_seat.new.seat.me c.load-word.new.seat.me c.seat.inside.seat.me.0 (λ l. l ++ g.T.Telling.item ∷ []) i.3 (ap (λ m. m.0) o.1) j.2 l.2.0 l.2.1 in (
      l.0 ∙ j.0 ∙ i.1 ∙ sym i.0,
      omega (arith, ap (λ t. t.words) i.0 ∙ i.2),
      lets_out c.load-word.new.seat.id c.load-word.new.seat.me.0 (ap (λ m. m.0.keeps) b) (ap (λ m. m.0.named) b),
    )

pub invariant_of-self : goal.invariant_of-self
invariant_of-self g c =
    let i = c.self.invariant in
    let o = c.seat.invariant in
    let j = c.join_seat.ensures in
    let l = c.load-word.ensures in
    let p = c.split_seat-seat.ensures in
    let last = keeps_more c.self.inside.seat.me c.join_seat.new.seat.me c.load-word.new.seat.me c.seat.inside.seat.me.0 (λ l. l ++ g.T.Telling.item ∷ []) i.3 (ap (λ m. m.0) o.1) j.2 l.2.0 l.2.1 c.split_seat-seat.new.seat.me p.2 in
    let own = ap name_of c.requires.item ∙ name_item c.args.front.now.name c.args.noted.now ∙ sym (ap (λ f. f.name) (c.seat.view_is ∙ c.replace.ensures.value)) in
    let told = compared c.self.inside.seat.me c.join_seat.new.seat.me c.load-word.new.seat.me c.seat.inside.seat.me.0 (λ l. l ++ g.T.Telling.item ∷ []) i.3 (ap (λ m. m.0) o.1) j.2 (l.2.2, l.2.3, l.2.4) in (
      i.0,
      p.0 ∙ l.0 ∙ j.0 ∙ i.1,
      i.2,
      keeper_itself c.split_seat-seat.new.seat.me _ _ last,
      subst (λ (m : Me ℕ Knows). AreNamed m.0.drawn m.0.all) (sym last) (named_push c.self.inside.seat.me.0.drawn c.self.inside.seat.me.0.all g.T.Telling.item i.4 (omega (arith, told.1, own))),
      subst (λ (l : List Item). IsLegal g.J.Naming.roster l) (sym (ap (λ m. m.0.all) last ∙ (λ k. (c.self.view_is ∙ c.fresh-other.ensures.same) k ++ c.requires.item k ∷ []))) c.requires.legal,
    )
