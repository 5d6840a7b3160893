use Rattle.std.proofs.Common.{◌≡◌, ◌∙◌, ◌==◌, Some, ap, sym, option_map}
use Rattle.std.specs.Prelude.{option_copied}
use Rattle.indexmap.specs.IndexMap as table
use Rattle.hall.specs.Hall.{Running, HallState, search_at}
use Rattle.hall.proofs.Reached.{hall_of}
use Rattle.hall.proofs.Seated.{search_found}
use Rattle.hall.proofs.laws.HallChanges.{search_of}
use Rattle.hall.proofs.halls.Hall.search.Goals as goal
use Rattle.hall.proofs.halls.Hall.search.Goals.{After-branch-get}

-- what the seat's table finds, the hall has
found : (c : After-branch-get) → search_at (hall_of c.self.inside.book c.self.inside.tenants) c.args.who c.args.number ≡ table.get (◌==◌) c.seat-2.inside.searches c.args.number
found c = ap (search_of c.args.number) (c.in-Ok.ensures.here ∙ ap Some (sym c.seat-2.view_is)) ∙ search_found c.seat-2.inside.searches c.args.number

pub returns-in_err-get : goal.returns-in_err-get
returns-in_err-get c =
    ap option_copied c.from_residual.ensures
    ∙ ap (option_map (λ (r : Running). r.search)) (sym (found (goal.at.returns-in_err-get c).After-branch-get ∙ sym c.in_err-get.ensures.value))
    ∙ ap (λ (g : HallState). option_map (λ (r : Running). r.search) (search_at g c.args.who c.args.number)) c.self.view_is

pub returns : goal.returns
returns c =
    ap Some c.search.ensures
    ∙ ap (option_map (λ (r : Running). r.search)) (sym (found (goal.at.returns c).After-branch-get ∙ sym c.in_ok-get.ensures.value ∙ ap Some (sym c.branch.view_is)))
    ∙ ap (λ (g : HallState). option_map (λ (r : Running). r.search) (search_at g c.args.who c.args.number)) c.self.view_is
