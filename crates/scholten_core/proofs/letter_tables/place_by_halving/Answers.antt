use Rattle.std.proofs.Common.{◌∙◌, nat_lt, rules, sym}
use Rattle.std.proofs.lemmas.Fn.{always_returns_same}
use Rattle.scholten_core.proofs.Standing.{absent_between, number_there, parted_below}
use Rattle.scholten_core.proofs.letter_tables.place_by_halving.Goals as goal

pub returns-then-stands_at : goal.returns-then-stands_at
returns-then-stands_at g c = number_there c.args.number c.args.letters.now.items c.partition_point-at.result (sym c.stands_at.ensures ∙ c.if-stands_at.true)

pub returns-else-stands_at : goal.returns-else-stands_at
returns-else-stands_at g c =
    let es = c.args.letters.now.items in
    let k = c.args.number in
    let parts = rw c.deref.ensures.value at (c.partition_point-at.ensures.partitioned (λ e. nat_lt e.0 k) (always_returns_same _ _ _ (λ a r f' k. search rules))) in
    absent_between 0 es c.requires.0 k c.partition_point-at.result c.requires.1 (parts (parted_below 0 es c.requires.0 k c.requires.1)) (sym c.stands_at.ensures ∙ c.if-stands_at.false)
