use Rattle.std.proofs.Common.{◌∙◌, ap}
use Rattle.hall.specs.Hall.{Tenant, new_tenant}
use Rattle.indexmap.specs.IndexMap.{insert_entry}
use Rattle.names.specs.Name.{is_same}
use Rattle.hall.proofs.Distinct.{entries_more}
use Rattle.hall.proofs.tenants.Tenants.new.Goals as goal

pub loop-name-preserved : goal.loop-name-preserved
loop-name-preserved c =
    entries_more new_tenant c.args.roster.now c.loop-name.name-index c.loop-name-item.result c.requires c.loop-name-test.true c.loop-name-item.is
    c.loop-name.seats.entries c.insert.new.self.entries c.loop-name.invariant
    (c.in_ok-insert.ensures.entries ∙ ap (λ (t : Tenant). insert_entry is_same c.loop-name.seats.entries c.loop-name-item.result.0 t) c.new.ensures)
