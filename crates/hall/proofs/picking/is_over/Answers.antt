use Rattle.std.proofs.Common.{◌∙◌, inl, inr, sym, true≢false}
use Rattle.hall.proofs.Picked.{rests}
use Rattle.hall.proofs.picking.is_over.Goals as goal

pub returns-then-not-is_quiet-clause-over : goal.returns-then-not-is_quiet-clause-over
returns-then-not-is_quiet-clause-over c =
    elim (rests c.args.search.now) [ inl unsettled ↦ unsettled | inr quiet ↦ absurd (true≢false (sym (c.is_quiet.ensures.quiet.1 quiet) ∙ c.if-not-is_quiet.true)) ]
