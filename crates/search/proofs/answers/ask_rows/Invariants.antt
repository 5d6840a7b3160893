use Rattle.std.proofs.Common.{◌≡◌, take}
use Rattle.names.specs.declared.roles.Role.{Role}
use Rattle.snapshots.specs.Span.{role_rows, span_of}
use Rattle.search.specs.Answers.{AsksEach, row_asks}
use Rattle.search.proofs.answers.ask_rows.Given as goal

abbrev pub invariant-loop-place : goal.invariant-loop-place
invariant-loop-place l =
    (role : Role) → l.span ≡ span_of l.snapshot.vaults role → AsksEach l.fn.found (take l.place (row_asks (role_rows l.snapshot.vaults role))) l.found
