use Rattle.std.proofs.Common.{arith, length, ◌-◌, ◌∙◌, sym, ap}
use Rattle.std.specs.Ordering.{is_lt}
use Rattle.vaults.proofs.Orders.{credentials_exact}
use Rattle.vaults.proofs.Places.{place_behind}
use Rattle.vaults.proofs.rows.place_to_put.Goals as goal

pub returns-then-is_lt : goal.returns-then-is_lt
returns-then-is_lt c =
    place_behind credentials_exact c.args.rows.now c.args.credential.now c.index-rows-last.result (length c.args.rows.now - 1) c.requires.in_order
    (omega (arith, c.requires.some)) c.index-rows-last.is
    (ap is_lt (sym c.compare.ensures) ∙ sym c.is_lt.ensures ∙ c.if-is_lt.true)
