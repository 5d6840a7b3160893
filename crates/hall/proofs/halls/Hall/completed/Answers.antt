use Rattle.std.proofs.Common.{rules, ◌≡◌, ap}
use Rattle.hall.specs.Hall.{Running}
use Rattle.hall.proofs.Stays.{lacks_there}
use Rattle.hall.proofs.Carrying.{left_so}
use Rattle.hall.proofs.halls.Hall.completed.Goals as goal
use Rattle.hall.proofs.halls.Hall.completed.Goals.{In-Ok}

same : (c : In-Ok) → c.in-Ok.ensures.lent.left.now ≡ c.in-Ok.ensures.lent.lent.now
same c = search (rules, c.in-Ok.ensures.lent.did)

pub returns-in-Ok-clause-lacks : goal.returns-in-Ok-clause-lacks
returns-in-Ok-clause-lacks c =
    let lent = c.in-Ok.ensures.lent in
    lacks_there c.args.self.now c.args.who c.args.number lent.lent.now lent.there c.in-Ok.shared (search (rules, lent.did))

pub returns-in-Ok-clause-same : goal.returns-in-Ok-clause-same
returns-in-Ok-clause-same c =
    let lent = c.in-Ok.ensures.lent in
    left_so c.args.self.now c.args.who c.args.number lent.lent.now lent.there lent.left.now lent.opened c.lend.new.self lent.after (ap (λ (r : Running). r.search) (same c))
