use Rattle.std.proofs.Common.{arith, length, sym, subst, refl, ◌∙◌, ap, insert}
use Rattle.std.specs.Result.{IsOk}
use Rattle.std.specs.Arc.{arc_value}
use Rattle.vaults.proofs.Copies.{same_rows}
use Rattle.vaults.proofs.Outcomes.{on_err}
use Rattle.vaults.proofs.shared_rows.insert_row.Goals as goal

pub insert-requires : goal.insert-requires
insert-requires c =
    omega (
      arith,
      ap length (same_rows (arc_value c.args.held.now).items c.in_ok-rows.rows.now.items _ _ (λ e. ap (λ v. v.items) e) c.in_ok-rows.ensures.value),
      c.in_ok-rows.rows.now.ok.0,
      c.requires,
    )

pub returns-in_err-insert-clause-unchanged : goal.returns-in_err-insert-clause-unchanged
returns-in_err-insert-clause-unchanged c =
    on_err c.from_residual-in_err-insert.result
    (ap (λ v. v.items) (c.make_mut.follows.holds c.insert.new.self (subst IsOk (sym c.in_ok-rows.was) refl))
    ∙ c.in_err-insert.ensures.items
    ∙ same_rows (arc_value c.args.held.now).items c.in_ok-rows.rows.now.items _ _ (λ e. ap (λ v. v.items) e) c.in_ok-rows.ensures.value)

pub returns-clause-inserted : goal.returns-clause-inserted
returns-clause-inserted c =
    ap (λ v. v.items) (c.make_mut.follows.holds c.insert.new.self (subst IsOk (sym c.in_ok-rows.was) refl))
    ∙ c.in_ok-insert.ensures.items
    ∙ ap (λ rows. insert rows c.args.place c.in_ok-row.row)
    (same_rows (arc_value c.args.held.now).items c.in_ok-rows.rows.now.items _ _ (λ e. ap (λ v. v.items) e) c.in_ok-rows.ensures.value)
    ∙ ap (insert (arc_value c.args.held.now).items c.args.place) c.in_ok-row.ensures

pub returns-in_err-rows-clause-unchanged : goal.returns-in_err-rows-clause-unchanged
returns-in_err-rows-clause-unchanged c =
    on_err c.from_residual.result
    (same_rows (arc_value c.args.held.now).items (arc_value c.make_mut.follows.lender-at-none).items _ _ (λ e. ap (λ v. v.items) e)
    (rw c.in_err-rows.was at c.make_mut.follows.holds-at-none))
