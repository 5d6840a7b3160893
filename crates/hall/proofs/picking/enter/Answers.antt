use Rattle.std.proofs.Common.{List, ℕ, ap, is_some, subst, sym}
use Rattle.hall.specs.Kept.{KeepsBut, Lists}
use Rattle.hall.proofs.Unsettled.{IsIn, grown, is_in_more, is_in_same}
use Rattle.hall.proofs.picking.enter.Goals as goal

pub returns-in_err-insert-clause-kept : goal.returns-in_err-insert-clause-kept
returns-in_err-insert-clause-kept c =
    grown c.args.busy.now (c.get_mut.follows.lender c.insert.new.self) c.args.who c.insert.new.self ((c.get_mut.follows.holds c.insert.new.self).3 (ap is_some (sym c.in-Some.ensures.value)))
    (λ k listed. is_in_same c.in-Some.numbers.now c.insert.new.self k c.in_err-insert.ensures.err (subst (IsIn k) (sym c.in-Some.ensures.value) listed))

pub returns-in-Some-clause-kept : goal.returns-in-Some-clause-kept
returns-in-Some-clause-kept c =
    grown c.args.busy.now (c.get_mut.follows.lender c.insert.new.self) c.args.who c.insert.new.self ((c.get_mut.follows.holds c.insert.new.self).3 (ap is_some (sym c.in-Some.ensures.value)))
    (λ k listed. is_in_more c.in-Some.numbers.now c.insert.new.self c.args.number k c.in_ok-insert.ensures.updates (subst (IsIn k) (sym c.in-Some.ensures.value) listed))

pub returns-clause-kept : goal.returns-clause-kept
returns-clause-kept c name k stays listed =
    let before = c.args.busy.now in
    let between = c.take_empty_first.new.busy in
    let kept : KeepsBut (λ name k. ⊥) before between = subst (λ m. KeepsBut (λ name k. ⊥) m between) c.get_mut.follows.holds-at-none c.take_empty_first.ensures.kept in
    let same : (name : List ℕ) (k : ℕ) → Lists between name k → Lists before name k = subst (λ m. (name : List ℕ) (k : ℕ) → Lists between name k → Lists m name k) c.get_mut.follows.holds-at-none c.take_empty_first.ensures.same in
    grown between c.insert-3.new.self c.args.who c.insert-2.new.self c.in_ok-insert-3.ensures.updates
    (λ j among. absurd (subst (IsIn j) (sym c.in_default.ensures.value) (same c.args.who j among)))
    name k stays (kept name k stays listed)
