use Rattle.std.proofs.Common.{◌≡◌, Option, Some, None, Result, Ok, Err, IfOk, IfErr, ap, sym}
use Rattle.std.specs.Prelude.{is_ok, is_some}
use Rattle.std.specs.Borrow.{Bor}
use Rattle.std.specs.FinMap.{get}
use Rattle.hall.specs.declared.faults.Fault.{Fault}
use Rattle.hall.specs.declared.faults.Fault.TheVariants.{NoTenant}
use Rattle.hall.specs.Hall.{Tenant}
use Rattle.hall.proofs.halls.Hall.has.Goals as goal

-- a seat is found where the name is a tenant's
found : (r : Result (Bor Tenant) Fault) (o : Option Tenant) → IfOk r (λ seat. o ≡ Some seat.now) →
    IfErr r (λ f. (f ≡ NoTenant) × (o ≡ None)) → is_ok r ≡ is_some o
found (Ok seat) o here nobody = ap is_some (sym here)
found (Err f) o here nobody = ap is_some (sym nobody.1)

pub returns : goal.returns
returns c =
    rw (c.is_ok.ensures.value, ← c.self.view_is)
    (found c.seat.result (get c.self.inside.tenants c.args.who) c.seat.ensures.here c.seat.ensures.nobody)
