-- The solutions of the asked role's node are its members.
use Rattle.std.proofs.Common.{ℕ, ◌≡◌, ◌↔◌, List, Contains, refl, sym, subst, ◌<◌, length}
use Rattle.std.proofs.lemmas.Result.{IfOk-weaker}
use Rattle.std.specs.Result.{IfOk}
use Rattle.std.specs.List.Sorted.{IsStrictlySortedBy}
use Rattle.names.specs.Name.{name_order}
use Rattle.names.specs.declared.roles.Role.{Role}
use Rattle.rt0_rules.specs.Membership.{AreMembers}
use Rattle.rt0_rules.proofs.Listed.{both_if_ok}
use Rattle.cred_graph.specs.Graph.{GraphState, members_of}
use Rattle.search.specs.declared.queries.Query.TheVariants as query
use Rattle.search.specs.Ending.{Members}
use Rattle.search.specs.Search.{SearchState, IsCompleted, rows_of, asked_role, settled_of}
use Rattle.search.specs.contracts.searches.Search.{the_view}
use Rattle.search.proofs.Searching.{completed_root}
use Rattle.search.proofs.Answered.{listed_members, listed_settled}
use Rattle.search.proofs.searches.Search.members.Goals as goal

pub solutions_in_order-requires : goal.solutions_in_order-requires
solutions_in_order-requires c =
    let s = the_view c.self.inside in
    subst (λ (g : GraphState). 0 < length g.nodes) (sym c.graph.ensures.graph) (completed_root s s.stage refl c.self.invariant.rules (subst (λ (x : SearchState). IsCompleted x.stage) (sym c.self.view_is) c.requires))

pub returns-clause-members : goal.returns-clause-members
returns-clause-members c =
    let s = the_view c.self.inside in
    let list_of = c.solutions_in_order.result in
    subst (λ (x : SearchState). IfOk list_of (λ members. AreMembers (rows_of x) (asked_role x.query) members.items)) c.self.view_is
    (IfOk-weaker list_of
    (λ list. IsStrictlySortedBy name_order list.items × ((d : List ℕ) → Contains list.items d ↔ Contains (members_of s.graph 0) d))
    (λ list. AreMembers (rows_of s) (asked_role s.query) list.items)
    (λ list h. listed_members s list.items c.self.invariant (subst (λ (x : SearchState). IsCompleted x.stage) (sym c.self.view_is) c.requires) h.0 h.1)
    (both_if_ok list_of (λ list. IsStrictlySortedBy name_order list.items) (λ list. (d : List ℕ) → Contains list.items d ↔ Contains (members_of s.graph 0) d) c.solutions_in_order.ensures.in_order (subst (λ (g : GraphState). IfOk list_of (λ list. (d : List ℕ) → Contains list.items d ↔ Contains (members_of g 0) d)) c.graph.ensures.graph c.solutions_in_order.ensures.exact)))

pub returns-clause-settled : goal.returns-clause-settled
returns-clause-settled c =
    let s = the_view c.self.inside in
    let list_of = c.solutions_in_order.result in
    let done = subst (λ (x : SearchState). IsCompleted x.stage) (sym c.self.view_is) c.requires in
    subst (λ (x : SearchState). IfOk list_of (λ members. (role : Role) → x.query ≡ query.Who role → settled_of x ≡ Members members.items)) c.self.view_is
    (IfOk-weaker list_of
    (λ list. IsStrictlySortedBy name_order list.items × ((d : List ℕ) → Contains list.items d ↔ Contains (members_of s.graph 0) d))
    (λ list. (role : Role) → s.query ≡ query.Who role → settled_of s ≡ Members list.items)
    (λ list h. listed_settled s list.items c.self.invariant done (listed_members s list.items c.self.invariant done h.0 h.1))
    (both_if_ok list_of (λ list. IsStrictlySortedBy name_order list.items) (λ list. (d : List ℕ) → Contains list.items d ↔ Contains (members_of s.graph 0) d) c.solutions_in_order.ensures.in_order (subst (λ (g : GraphState). IfOk list_of (λ list. (d : List ℕ) → Contains list.items d ↔ Contains (members_of g 0) d)) c.graph.ensures.graph c.solutions_in_order.ensures.exact)))
