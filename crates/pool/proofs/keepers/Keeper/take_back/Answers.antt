use Rattle.std.proofs.Common.{◌∙◌, ℕ, ap, sym, arith, subst}
use Rattle.atomic_table.specs.Table.{Me}
use Rattle.pool.specs.declared.seats.Knows.{Knows}
use Rattle.pool.specs.Histories.{IsLegal}
use Rattle.pool.specs.Rules.{AreNamed}
use Rattle.pool.proofs.Borrowing.{bears, bears_more, keeps_more, keeper_itself}
use Rattle.pool.proofs.Seating.{takes_in_as, lets_out, looks}
use Rattle.pool.proofs.keepers.Keeper.take_back.Goals as goal

pub join_seat-requires : goal.join_seat-requires
join_seat-requires g c =
    let i = c.self.invariant in
    let o = c.front.invariant in (
      i.1 ∙ sym i.0,
      o.0 ∙ sym i.0,
      ap (λ m. m.1) o.1,
      omega (arith, ap (λ t. t.words) i.0 ∙ i.2),
      takes_in_as c.self.inside.seat.id c.self.inside.seat.me.0 c.front.inside.seat.id c.front.inside.seat.me.0 (ap (λ m. m.0) i.3) (ap (λ m. m.0) o.1),
    )

pub load-word-requires : goal.load-word-requires
load-word-requires g c =
    let i = c.self.invariant in
    let o = c.front.invariant in
    let j = c.join_seat.ensures in
    let b = bears c.self.inside.seat.me c.join_seat.new.seat.me c.join_seat.new.seat.me c.front.inside.seat.me.0 (λ l. l) i.3 (ap (λ m. m.0) o.1) j.2 in (
      j.0 ∙ i.1 ∙ sym i.0,
      omega (arith, ap (λ t. t.words) i.0 ∙ i.2),
      looks c.join_seat.new.seat.id c.join_seat.new.seat.me _ (λ n. n) (ap (λ m. m.0.keeps) b) (ap (λ m. m.0.named) b) (ap (λ m. m.1) b),
    )

pub split_seat-seat-requires : goal.split_seat-seat-requires
split_seat-seat-requires g c =
    let i = c.self.invariant in
    let o = c.front.invariant in
    let j = c.join_seat.ensures in
    let l = c.load-word.ensures in
    let b = bears_more c.self.inside.seat.me c.join_seat.new.seat.me c.load-word.new.seat.me c.front.inside.seat.me.0 (λ l. l) i.3 (ap (λ m. m.0) o.1) j.2 l.2.0 l.2.1 in (
      l.0 ∙ j.0 ∙ i.1 ∙ sym i.0,
      omega (arith, ap (λ t. t.words) i.0 ∙ i.2),
      lets_out c.load-word.new.seat.id c.load-word.new.seat.me.0 (ap (λ m. m.0.keeps) b) (ap (λ m. m.0.named) b),
    )

pub invariant_of-self : goal.invariant_of-self
invariant_of-self g c =
    let i = c.self.invariant in
    let o = c.front.invariant in
    let j = c.join_seat.ensures in
    let l = c.load-word.ensures in
    let p = c.split_seat-seat.ensures in
    let last = keeps_more c.self.inside.seat.me c.join_seat.new.seat.me c.load-word.new.seat.me c.front.inside.seat.me.0 (λ l. l) i.3 (ap (λ m. m.0) o.1) j.2 l.2.0 l.2.1 c.split_seat-seat.new.seat.me p.2 in (
      i.0,
      p.0 ∙ l.0 ∙ j.0 ∙ i.1,
      i.2,
      keeper_itself c.split_seat-seat.new.seat.me _ _ last,
      subst (λ (m : Me ℕ Knows). AreNamed m.0.drawn m.0.all) (sym last) i.4,
      subst (λ (m : Me ℕ Knows). IsLegal g.J.Naming.roster m.0.all) (sym last) i.5,
    )
