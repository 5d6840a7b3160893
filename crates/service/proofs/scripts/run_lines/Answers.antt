-- The roster, and then its commands, or what answers a fault of the roster.
use Rattle.std.proofs.Common.{inl}
use Rattle.std.proofs.lemmas.Result.{err_from_is_err_and}
use Rattle.service.proofs.LinesLemmas.{IfKnown-map}
use Rattle.service.proofs.ScriptLemmas.{ScriptWrote-after_roster}
use Rattle.service.proofs.scripts.run_lines.Goals as goal

pub returns-in_err-take_roster : goal.returns-in_err-take_roster
returns-in_err-take_roster g c =
    let failed = c.from_residual in
    let p = err_from_is_err_and failed.result failed.ensures.1 in
    rw (p.1, p.2) (IfKnown-map c.args.lines.now c.in_err-take_roster.ensures.roster (λ lines fault. inl fault))

pub returns : goal.returns
returns g c =
    ScriptWrote-after_roster c.args.lines.now c.take_roster.new.lines c.in_ok-take_roster.field-0 c.converse-end.new.host c.converse-end.result c.result_of.result _ c.in_ok-take_roster.ensures.roster
    (rw (c.in_ok-take_roster.ensures.silent, c.in-Ok.ensures.hall) at c.converse-end.ensures) c.result_of.ensures
