-- A letter that waits goes to a node, and says the same where it is held.
use Rattle.std.proofs.Common.{subst}
use Rattle.std.specs.Option.{IfSome}
use Rattle.search.specs.Net.{IsLoad}
use Rattle.search.specs.Search.{SearchState, Settles}
use Rattle.search.specs.contracts.searches.Search.{the_view}
use Rattle.search.proofs.Finishing.{TakenOrNot, MayTake, taken_loads, taken_or_not}
use Rattle.search.proofs.searches.Search.take_held.Goals as goal
use Rattle.search.proofs.searches.Search.take_held.Goals.{After-hold}

-- what is taken, if anything is
done : (c : After-hold) → TakenOrNot (the_view c.self.inside) c.hold.new.stage c.args.place c.hold.result
done c = taken_or_not (the_view c.self.inside) c.hold.new.stage c.args.place c.hold.result c.self.invariant c.hold.ensures

pub invariant_of-self : goal.invariant_of-self
invariant_of-self c = (done (goal.at.invariant_of-self c).After-hold).kept

pub returns-clause-taken : goal.returns-clause-taken
returns-clause-taken c =
    let after = (goal.at.returns-clause-taken c).After-hold in
    subst (λ (x : SearchState). MayTake x (record (the_view after.self.inside) { stage = after.hold.new.stage }) after.args.place after.hold.result) after.self.view_is (done after).taken

pub returns-clause-load : goal.returns-clause-load
returns-clause-load c =
    let after = (goal.at.returns-clause-load c).After-hold in
    subst (λ (x : SearchState). IfSome after.hold.result (λ r. IsLoad x.graph.nodes r.1.load)) after.self.view_is (taken_loads (the_view after.self.inside) after.hold.new.stage after.args.place after.hold.result (done after))

pub returns-clause-settles : goal.returns-clause-settles
returns-clause-settles c =
    let after = (goal.at.returns-clause-settles c).After-hold in
    subst (λ (x : SearchState). Settles x (record (the_view after.self.inside) { stage = after.hold.new.stage })) after.self.view_is (done after).settles
