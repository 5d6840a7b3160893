use Rattle.std.proofs.Common.{ℕ, List, ◌∙◌, ◌==◌, ap, length}
use Rattle.names.proofs.Spaces.{blank_start}
use Rattle.names.proofs.texts.is_blank.Goals as goal

pub returns : goal.returns
returns c =
    c.is_empty.ensures ∙ ap (λ (t : List ℕ). length t == 0) c.trim_start.ensures ∙ blank_start c.args.text.now
