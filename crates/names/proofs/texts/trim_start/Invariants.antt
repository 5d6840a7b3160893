use Rattle.std.proofs.Common.{◌≡◌, drop}
use Rattle.names.specs.Texts.{trim_start}
use Rattle.names.proofs.texts.trim_start.Given as goal

abbrev pub invariant-loop-i : goal.invariant-loop-i
invariant-loop-i l = trim_start l.text ≡ trim_start (drop l.i l.text)
