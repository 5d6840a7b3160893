use Rattle.std.proofs.Common.{◌∙◌, ◌≤◌, ◌+◌, subst, sym}
use Rattle.names.proofs.Words.{eight_from}
use Rattle.names.proofs.held_names.word_at.Goals as goal

pub returns : goal.returns
returns c = c.from_be_bytes.ensures ∙ eight_from c.args.cells.now c.args.start (subst (λ n. c.args.start + 8 ≤ n)
    (sym c.told-cells) c.requires)
