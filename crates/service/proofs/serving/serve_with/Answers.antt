-- The line that tells the port, and then how the connections ended, or a fault.
use Rattle.std.proofs.Common.{inl}
use Rattle.service.proofs.ServedLemmas.{ServeWrote-answered}
use Rattle.service.proofs.serving.serve_with.Goals as goal

pub returns-in_default-tell : goal.returns-in_default-tell
returns-in_default-tell g c =
    let told = rw c.from-port.ensures at c.in_default-tell.ensures.err in
    record { count = tt; told = tt; fault = (c.port.result, c.port.type_inv, inl told) }

pub returns : goal.returns
returns g c =
    let told = rw c.from-port.ensures at c.in-Ok-tell.ensures.ok in
    let answered = ServeWrote-answered c.args.options.accept c.answer_beside_workers.result c.port.result _ _ c.port.type_inv c.answer_beside_workers.ensures told in
    record { count = answered.0; told = answered.1; fault = answered.2 }
