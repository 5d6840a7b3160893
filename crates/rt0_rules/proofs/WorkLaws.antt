-- A search has one work, which exceeds a limit just where it is above it.
use Rattle.std.proofs.Common.{◌≤◌, arith, length}
use Rattle.rt0_rules.specs.Laws.{WorkIsOne, WithinDoesNotExceed, AboveExceeds}
use Rattle.rt0_rules.proofs.Counting.{some-le, some_from_all}

pub work_is_one : WorkIsOne
work_is_one C role m n one other =
    let asks : length one.asks ≤ length other.asks = some-le (some_from_all one.asks_are) other.asks_are in
    let asks_back : length other.asks ≤ length one.asks = some-le (some_from_all other.asks_are) one.asks_are in
    let tells : length one.tells ≤ length other.tells = some-le (some_from_all one.tells_are) other.tells_are in
    let tells_back : length other.tells ≤ length one.tells = some-le (some_from_all other.tells_are) one.tells_are in
    omega (arith, one.total, other.total)

pub within_does_not_exceed : WithinDoesNotExceed
within_does_not_exceed C role work limit is within exceeds =
    let asks : length exceeds.asks ≤ length is.asks = some-le exceeds.asks_are is.asks_are in
    let tells : length exceeds.tells ≤ length is.tells = some-le exceeds.tells_are is.tells_are in
    omega (arith, is.total, exceeds.over)

pub above_exceeds : AboveExceeds
above_exceeds C role work limit is above = record {
  asks = is.asks;
  tells = is.tells;
  asks_are = some_from_all is.asks_are;
  tells_are = some_from_all is.tells_are;
  over = omega (arith, is.total);
}
