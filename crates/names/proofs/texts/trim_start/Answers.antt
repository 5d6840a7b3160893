use Rattle.std.proofs.Common.{◌∙◌, sym}
use Rattle.std.proofs.lemmas.List.{take_rest}
use Rattle.names.proofs.Spaces.{other_first}
use Rattle.names.proofs.texts.trim_start.Goals as goal

pub returns-then-byte-ne32 : goal.returns-then-byte-ne32
returns-then-byte-ne32 c =
    take_rest c.args.text.now c.loop-i.i
    ∙ sym (c.loop-i.invariant ∙ other_first c.args.text.now c.loop-i.i c.loop-i-test.true c.if-byte-ne32.true)
