-- The asker listens, and where that is new it is told what is known.
use Rattle.std.proofs.Common.{◌≡◌, ◌<◌, ◌∙◌, ◌++◌, ℕ, List, Some, ap, append-nil, arith, length, map, slice_get, sym, subst, true}
use Rattle.cred_graph.specs.Graph.{GraphState, ListenerGiven, members_of}
use Rattle.cred_graph.specs.Numbers.{IsEntity, IsPort, entity_at, port_at}
use Rattle.search.specs.declared.letters.Load.TheVariants as load
use Rattle.search.specs.Answers.{Progress}
use Rattle.search.specs.Net.{outs_at}
use Rattle.search.specs.Numbered.{monitor_at}
use Rattle.search.proofs.Tells.{known_tells, tells_on, told_all}
use Rattle.search.proofs.Numbered.{numbered_listened}
use Rattle.search.proofs.answers.hear_ask.Goals as goal
use Rattle.search.proofs.answers.hear_ask.Goals.{After-graph}

pub invariant_of-found-then-branch : goal.invariant_of-found-then-branch
invariant_of-found-then-branch c =
    let old = c.found.inside in
    numbered_listened old.graph c.add_numbered_listener.new.self c.args.node c.args.asker c.args.port c.in_ok-add_numbered_listener.field-0 old.monitors.items old.outs.items c.in_ok-add_numbered_listener.ensures.ok
    (subst (λ (s : Progress). c.args.node < length s.graph.nodes) (sym c.found.view_is) c.requires.node) c.add_numbered_listener.ensures.graph
    (subst (λ (s : Progress). IsPort s.graph.nodes c.args.port) (sym c.found.view_is) c.requires.port) c.found.invariant

pub loop-place-preserved : goal.loop-place-preserved
loop-place-preserved c =
    let s = c.args.found.now in
    let now = c.loop-place.found in
    tells_on (λ (g : GraphState). ListenerGiven s.graph g c.args.node (record { asker = c.args.asker; port = port_at s.graph.nodes c.args.port }) true)
    (λ (g : GraphState) (who : List ℕ). (c.args.asker, load.Tell (port_at g.nodes c.args.port) who)) (λ (g : GraphState). members_of g c.args.node) s now c.send.new.self c.loop-place.place
    (entity_at now.graph.nodes c.numbered_solution-who.result) c.loop-place.invariant
    (subst (λ (g : GraphState). slice_get (members_of g c.args.node) c.loop-place.place ≡ Some (entity_at g.nodes c.numbered_solution-who.result)) c.graph-in-loop-place.ensures.graph c.numbered_solution-who.ensures.solution)
    c.in_ok-send.ensures.sent

pub loop-place-init : goal.loop-place-init
loop-place-init c =
    let old = c.found.inside in
    let given = rw c.if-branch.true at c.in_ok-add_numbered_listener.ensures.ok in
    rw (← c.found.view_is) (given, ap (λ (g : GraphState). map (monitor_at g.nodes) old.monitors.items) given.1, ap (λ (g : GraphState). outs_at g.nodes old.outs.items) given.1 ∙ sym (append-nil (outs_at old.graph.nodes old.outs.items)))

pub returns-after-loop-place : goal.returns-after-loop-place
returns-after-loop-place c =
    let s = c.args.found.now in
    let t = c.loop-place.found in
    let (given, monitors, outs) = c.loop-place.invariant in
    let new = rw (← c.found.view_is) at given.1 in
    let first = rw c.if-branch.true at c.in_ok-add_numbered_listener.ensures.ok in
    let count = ap (λ (g : GraphState). length (members_of g c.args.node)) (c.graph.ensures.graph ∙ first.1 ∙ sym new) in
    let all = told_all (λ (g : GraphState) (who : List ℕ). (c.args.asker, load.Tell (port_at g.nodes c.args.port) who)) (λ (g : GraphState). members_of g c.args.node) s t c.loop-place.place outs (omega (arith, count, c.solutions-place-end.ensures.count, c.loop-place-test.false)) in
    (true, given, monitors, all ∙ ap (λ (g : GraphState). s.outs ++ known_tells g c.args.node c.args.asker (port_at g.nodes c.args.port)) given.1)

-- nodes stay
nodes : (c : After-graph) → c.graph.result.now.nodes ≡ c.args.found.now.graph.nodes
nodes c =
    let first = rw c.if-branch.true at c.in_ok-add_numbered_listener.ensures.ok in
    ap (λ (g : GraphState). g.nodes) (c.graph.ensures.graph ∙ first.1) ∙ ap (λ (s : Progress). s.graph.nodes) c.found.view_is

pub solutions-place-end-requires : goal.solutions-place-end-requires
solutions-place-end-requires c = rw (nodes (goal.at.solutions-place-end-requires c).After-graph) c.requires.node

pub numbered_solution-who-requires-clause-node : goal.numbered_solution-who-requires-clause-node
numbered_solution-who-requires-clause-node c = rw (c.graph-in-loop-place.ensures.graph, c.loop-place.invariant.0.1) c.requires.node

pub send-requires : goal.send-requires
send-requires c = (rw c.loop-place.invariant.0.1 c.requires.port, subst (λ (g : GraphState). IsEntity g.nodes c.numbered_solution-who.result) c.graph-in-loop-place.ensures.graph c.numbered_solution-who.ensures.entity)
