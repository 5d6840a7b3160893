-- The names are distinct in the rows, and so they are in a hall of them.
use Rattle.std.proofs.Common.{◌≡◌, get_or, arith, ap, ◌∙◌}
use Rattle.std.proofs.lemmas.List.{map_more}
use Rattle.service.specs.Roster.{tenant_of}
use Rattle.service.proofs.TenantLemmas.{names_of_tenants}
use Rattle.service.proofs.rosters.Roster.tenants.Goals as goal

pub returns-in_err-push-clause-distinct : goal.returns-in_err-push-clause-distinct
returns-in_err-push-clause-distinct c =
    rw (← c.self.view_is, names_of_tenants c.self.inside.rows.items) c.self.invariant.distinct

pub returns-clause-distinct : goal.returns-clause-distinct
returns-clause-distinct c =
    rw (← c.self.view_is, names_of_tenants c.self.inside.rows.items) c.self.invariant.distinct

pub loop-row-preserved : goal.loop-row-preserved
loop-row-preserved c =
    let rows = c.deref-row-items.result.now in
    let pair : (c.row.inside.name, c.row.inside.limits) ≡ tenant_of (get_or rows c.loop-row.row-index c.row-item.result) = ap tenant_of (c.row.view_is ∙ c.row-item.is) in
    rw (map_more tenant_of rows c.loop-row.row-index c.row-item.result (omega arith)) (rw (c.loop-row.invariant, pair) at c.in_ok-push.ensures.items)
