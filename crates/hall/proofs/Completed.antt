-- A search has an answer exactly where it is completed.
use Rattle.std.proofs.Common.{◌↔◌, refl}
use Rattle.search.specs.Search.{IsAnswered, status_of, SearchState, IsCompleted, settled_of}
use Rattle.search.proofs.Answered.{answers_as}

pub answer_completed : (s : SearchState) → IsAnswered (status_of (settled_of s)) ↔ IsCompleted s.stage
unfolding settled_of
answer_completed s = answers_as {s = s} {t = s} {result = status_of (settled_of s)} refl refl
