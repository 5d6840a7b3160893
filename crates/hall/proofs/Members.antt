-- Where the answer of a search lists members, memory may lack for a poll.
use Rattle.std.proofs.Common.{◌≡◌, ℕ, List, Some}
use Rattle.std.specs.FinMap.{get}
use Rattle.search.specs.Ending.{Settled, Members}
use Rattle.hall.specs.declared.calls.answers.Answer.TheVariants as answer
use Rattle.hall.specs.declared.calls.requests.Request.TheVariants.{Poll}
use Rattle.hall.specs.Answers.{Asked, Account, answer_of, MayLack}

members_settled : (s : Settled) (names : List (List ℕ)) → answer_of s ≡ answer.Members names → s ≡ Members names
members_settled (Members others) names is = cc
members_settled s names is = cc

pub members_lack : (a : Account) (k : ℕ) (s : Asked) (names : List (List ℕ)) → get a.searches k ≡ Some s → answer_of s.settled ≡ answer.Members names → MayLack a (Poll k)
members_lack a k s names at is = (s, names, at, members_settled s.settled names is)
