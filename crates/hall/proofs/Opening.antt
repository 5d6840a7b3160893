-- What a search begins with.
use Rattle.std.proofs.Common.{rules, arith, ◌≡◌, ◌<◌, None}
use Rattle.std.specs.FinMap.{len}
use Rattle.hall.specs.Answers.{Account, seek_refusal}

-- within both limits no refusal is due
pub within_limits : (a : Account) → len a.searches < a.limits.searches → a.opens < a.limits.opens → seek_refusal a ≡ None
within_limits a searches opens = grind (arith, rules)
