-- What is told of a search, by its status.
use Rattle.std.proofs.Common.{◌≡◌, ◌==◌, Bool, true, false, cond, refl}
use Rattle.std.specs.List.{list_any}
use Rattle.std.proofs.lemmas.Bool.Decides.{Decides-eqb}
use Rattle.names.specs.Name.{is_same}
use Rattle.cred_graph.specs.Graph.{GraphState, members_of}
use Rattle.scholten_core.specs.Computation.{outstanding}
use Rattle.search.specs.declared.outcomes.Status.TheVariants as status
use Rattle.search.specs.declared.queries.Query.{Query}
use Rattle.search.specs.declared.queries.Query.TheVariants.{Ask, Who}
use Rattle.search.specs.declared.stages.Stage.{Stage}
use Rattle.search.specs.declared.stages.Stage.TheVariants as stage
use Rattle.search.specs.Ending.{Nothing, Yes, No}
use Rattle.search.specs.Search.{status_of, found, come_to, SearchState, settled_of, IsCompleted, IsOutstanding}
use Rattle.hall.specs.declared.calls.answers.Answer.TheVariants as answer
use Rattle.hall.specs.Answers.{answer_of}

-- the members of a role are told of a completed search for them
completed_at : (st : Stage) (g : GraphState) (q : Query) → status.Members ≡ status_of (come_to st g q) → IsCompleted st
completed_at (stage.Running c) g q is = by (outstanding c == 0) refl is
  where
    by : (b : Bool) → (outstanding c == 0) ≡ b → status.Members ≡ status_of (cond b (found g q) Nothing) → outstanding c ≡ 0
    by true none is = (Decides-eqb (outstanding c) 0).0 none
    by false some is = cc
completed_at stage.Spent g q is = cc
completed_at stage.Broken g q is = cc

pub completed : (s : SearchState) → status.Members ≡ status_of (settled_of s) → IsCompleted s.stage
unfolding settled_of
completed s is = completed_at s.stage s.graph s.query is

-- what is told of a search that still works is that something is outstanding
works_at : (st : Stage) (g : GraphState) (q : Query) → answer.Working ≡ answer_of (come_to st g q) → IsOutstanding st
works_at (stage.Running c) g q is = by (outstanding c == 0) refl is
  where
    ends : (q : Query) → answer.Working ≡ answer_of (found g q) → ⊥
    ends (Ask role who) is = one (list_any (is_same who) (members_of g 0)) is
      where
        one : (d : Bool) → answer.Working ≡ answer_of (cond d Yes No) → ⊥
        one true is = cc
        one false is = cc
    ends (Who role) is = cc

    by : (b : Bool) → (outstanding c == 0) ≡ b → answer.Working ≡ answer_of (cond b (found g q) Nothing) → outstanding c ≡ 0 → ⊥
    by true none is zero = ends q is
    by false some is zero = cc ((Decides-eqb (outstanding c) 0).1 zero)
works_at stage.Spent g q is = cc
works_at stage.Broken g q is = cc

pub works : (s : SearchState) → answer.Working ≡ answer_of (settled_of s) → IsOutstanding s.stage
unfolding settled_of
works s is = works_at s.stage s.graph s.query is
