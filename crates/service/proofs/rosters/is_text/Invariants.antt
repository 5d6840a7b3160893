use Rattle.std.proofs.Common.{◌≡◌, length, take}
use Rattle.std.specs.Prelude.{◌↔◌, IsTrue}
use Rattle.service.proofs.rosters.is_text.Given as goal

abbrev pub invariant-loop-place : goal.invariant-loop-place
invariant-loop-place l = IsTrue l.is_same ↔ ((length l.kept ≡ length l.said) × (take l.place l.kept ≡ take l.place l.said))
