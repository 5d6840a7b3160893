use Rattle.std.proofs.Common.{◌≡◌, take, drop}
use Rattle.credential_text.specs.Refusal.{split_arrow}
use Rattle.credential_text.proofs.Arrow.{put_all}
use Rattle.credential_text.proofs.reading.round_arrow.Given as goal

abbrev pub invariant-loop-i : goal.invariant-loop-i
invariant-loop-i l = split_arrow l.text ≡ put_all (take l.i l.text) (split_arrow (drop l.i l.text))
