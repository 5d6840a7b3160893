-- The entity is a solution, and where that is new each listener is told.
use Rattle.std.proofs.Common.{◌≡◌, ◌∙◌, ◌++◌, Some, ap, append-nil, arith, length, map, slice_get, sym, subst, true}
use Rattle.cred_graph.specs.declared.listeners.Listening.{Listening}
use Rattle.cred_graph.specs.declared.solutions.Solution.{Solution}
use Rattle.cred_graph.specs.Graph.{Fits, GraphState, SolutionGiven, listeners_of}
use Rattle.cred_graph.specs.Numbers.{IsPort, entity_at, port_at, reason_at}
use Rattle.cred_graph.proofs.NodeListLemmas.{Contains-at_place}
use Rattle.search.specs.declared.letters.Load.TheVariants as load
use Rattle.search.specs.Answers.{Progress}
use Rattle.search.specs.Net.{outs_at}
use Rattle.search.specs.Numbered.{monitor_at}
use Rattle.search.proofs.Tells.{new_tells, tells_on, told_all}
use Rattle.search.proofs.Numbered.{numbered_solved}
use Rattle.search.proofs.answers.solve.Goals as goal
use Rattle.search.proofs.answers.solve.Goals.{After-graph}

pub add_numbered_solution-requires-clause-fits : goal.add_numbered_solution-requires-clause-fits
add_numbered_solution-requires-clause-fits c =
    subst (λ (s : Progress). Fits s.graph c.args.node (entity_at s.graph.nodes c.args.who) (reason_at s.graph.nodes c.args.reason)) (sym c.found.view_is) c.requires.fits

pub invariant_of-found-then-branch : goal.invariant_of-found-then-branch
invariant_of-found-then-branch c =
    let old = c.found.inside in
    let given : Solution = record { node = c.args.node; who = entity_at old.graph.nodes c.args.who; reason = reason_at old.graph.nodes c.args.reason } in
    numbered_solved old.graph c.add_numbered_solution.new.self given c.in_ok-add_numbered_solution.field-0 old.monitors.items old.outs.items c.in_ok-add_numbered_solution.ensures.ok c.found.invariant

pub loop-place-preserved : goal.loop-place-preserved
loop-place-preserved c =
    let s = c.args.found.now in
    let now = c.loop-place.found in
    let p = c.numbered_listener-asker.result.1 in
    tells_on (λ (g : GraphState). SolutionGiven s.graph g (record { node = c.args.node; who = entity_at s.graph.nodes c.args.who; reason = reason_at s.graph.nodes c.args.reason }) true)
    (λ (g : GraphState) (l : Listening). (l.asker, load.Tell l.port (entity_at g.nodes c.args.who))) (λ (g : GraphState). listeners_of g c.args.node) s now c.send.new.self c.loop-place.place
    (record { asker = c.numbered_listener-asker.result.0; port = port_at now.graph.nodes p }) c.loop-place.invariant
    (subst (λ (g : GraphState). slice_get (listeners_of g c.args.node) c.loop-place.place ≡ Some (record { asker = c.numbered_listener-asker.result.0; port = port_at g.nodes p })) c.graph-in-loop-place.ensures.graph c.numbered_listener-asker.ensures.listener)
    c.in_ok-send.ensures.sent

pub numbered_listener-asker-requires-clause-named : goal.numbered_listener-asker-requires-clause-named
numbered_listener-asker-requires-clause-named c = λ l at. c.graph-in-loop-place.ensures.ports c.args.node l (Contains-at_place (listeners_of c.graph-in-loop-place.result.now c.args.node) c.loop-place.place l at)

pub loop-place-init : goal.loop-place-init
loop-place-init c =
    let old = c.found.inside in
    let given = rw c.if-branch.true at c.in_ok-add_numbered_solution.ensures.ok in
    rw (← c.found.view_is) (given, ap (λ (g : GraphState). map (monitor_at g.nodes) old.monitors.items) given.1, ap (λ (g : GraphState). outs_at g.nodes old.outs.items) given.1 ∙ sym (append-nil (outs_at old.graph.nodes old.outs.items)))

pub returns-after-loop-place : goal.returns-after-loop-place
returns-after-loop-place c =
    let s = c.args.found.now in
    let t = c.loop-place.found in
    let (given, monitors, outs) = c.loop-place.invariant in
    let new = rw (← c.found.view_is) at given.1 in
    let first = rw c.if-branch.true at c.in_ok-add_numbered_solution.ensures.ok in
    let count = ap (λ (g : GraphState). length (listeners_of g c.args.node)) (c.graph.ensures.graph ∙ first.1 ∙ sym new) in
    let all = told_all (λ (g : GraphState) (l : Listening). (l.asker, load.Tell l.port (entity_at g.nodes c.args.who))) (λ (g : GraphState). listeners_of g c.args.node) s t c.loop-place.place outs (omega (arith, count, c.listeners-place-end.ensures.count, c.loop-place-test.false)) in
    (true, given, monitors, all ∙ ap (λ (g : GraphState). s.outs ++ new_tells g c.args.node (entity_at g.nodes c.args.who)) given.1)

-- nodes stay
nodes : (c : After-graph) → c.graph.result.now.nodes ≡ c.args.found.now.graph.nodes
nodes c =
    let first = rw c.if-branch.true at c.in_ok-add_numbered_solution.ensures.ok in
    ap (λ (g : GraphState). g.nodes) (c.graph.ensures.graph ∙ first.1) ∙ ap (λ (s : Progress). s.graph.nodes) c.found.view_is

pub listeners-place-end-requires : goal.listeners-place-end-requires
listeners-place-end-requires c = rw (nodes (goal.at.listeners-place-end-requires c).After-graph) c.requires.node

pub numbered_listener-asker-requires-clause-node : goal.numbered_listener-asker-requires-clause-node
numbered_listener-asker-requires-clause-node c = rw (c.graph-in-loop-place.ensures.graph, c.loop-place.invariant.0.1) c.requires.node

pub send-requires : goal.send-requires
send-requires c = (
  subst (λ (g : GraphState). IsPort g.nodes c.numbered_listener-asker.result.1) c.graph-in-loop-place.ensures.graph c.numbered_listener-asker.ensures.port,
  rw c.loop-place.invariant.0.1 c.requires.entity,
)
