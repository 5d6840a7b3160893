use Rattle.std.proofs.Common.{◌≡◌, ◌∙◌, ◌↔◌, ap, sym, subst, List, ◌∷◌, [], ◌++◌, arith, ℕ, Contains}
use Rattle.std.proofs.lemmas.List.{take_all}
use Rattle.rt0_rules.specs.Work.{AreDistinct}
use Rattle.cred_graph.specs.Graph.{members_of}
use Rattle.search.proofs.Answered.{one_more, sorted_once, same_names}
use Rattle.search.proofs.WorkOf.{members_apart}
use Rattle.search.proofs.members.solutions_in_order.Goals.{After-loop-place}
use Rattle.search.proofs.members.solutions_in_order.Goals as goal

pub loop-place-preserved : goal.loop-place-preserved
loop-place-preserved c =
    let members : List (List ℕ) = members_of c.args.graph.now 0 in record {
      members = c.push_reserved.ensures.items ∙ ap (λ (l : List (List ℕ)). l ++ c.solution.result ∷ []) c.loop-place.invariant.members
          ∙ sym (one_more members c.loop-place.place c.solution.result c.solution.ensures);
      len = omega (arith, c.push_reserved.ensures.len, c.loop-place.invariant.len);
      room = omega (arith, c.push_reserved.ensures.capacity, c.loop-place.invariant.room);
    }

all_listed : (c : After-loop-place) → c.loop-place.list.items ≡ members_of c.args.graph.now 0
all_listed c =
    let enough = c.solutions-count.ensures.count in
    c.loop-place.invariant.members ∙ take_all c.loop-place.place (members_of c.args.graph.now 0) (omega (arith, enough))

pub returns-clause-in_order : goal.returns-clause-in_order
returns-clause-in_order c =
    let once = subst (λ (l : List (List ℕ)). AreDistinct l) (sym (all_listed (goal.at.returns-clause-in_order c).After-loop-place)) (members_apart c.args.graph.now.solutions 0 c.solutions-count.ensures.graph.one_solution) in
    sorted_once c.loop-place.list.items c.sort_unstable.new.self.items once c.sort_unstable.ensures.permutation c.sort_unstable.ensures.sorted

pub returns-clause-exact : goal.returns-clause-exact
returns-clause-exact c = λ d.
    subst (λ (ms : List (List ℕ)). Contains c.sort_unstable.new.self.items d ↔ Contains ms d) (all_listed (goal.at.returns-clause-exact c).After-loop-place)
    (same_names c.loop-place.list.items c.sort_unstable.new.self.items c.sort_unstable.ensures.permutation d)
