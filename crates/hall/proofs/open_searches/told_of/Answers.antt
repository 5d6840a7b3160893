use Rattle.std.proofs.Common.{rules, ◌≡◌, List, ℕ}
use Rattle.std.proofs.lemmas.Result.{err_from_is_err_and}
use Rattle.search.specs.Search.{settled_of}
use Rattle.search.specs.Ending.{Members}
use Rattle.hall.proofs.Viewed.{answered_over, lacks_over}
use Rattle.hall.proofs.open_searches.told_of.Goals as goal

pub returns-in_err-members-in-Members-clause-served : goal.returns-in_err-members-in-Members-clause-served
returns-in_err-members-in-Members-clause-served c =
    let p = err_from_is_err_and c.from_residual.result c.from_residual.ensures.1 in
    let lists : (names : List (List ℕ)) × (settled_of c.args.search.now ≡ Members names) = search rules in
    rw (p.1, p.2) (lacks_over c.args.search.now lists.0 lists.1)

pub returns-clause-served : goal.returns-clause-served
returns-clause-served c = answered_over c.args.search.now c.match-status.result (search rules)
