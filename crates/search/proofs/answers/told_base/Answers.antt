-- The monitor that hears is the one at the node; where the member is new its role is asked.
use Rattle.std.proofs.Common.{Bool, ◌≡◌, ◌∙◌, [], ap, arith, inl, inr, length, refl, sym, subst, ℕ, List, Some, set, slice_get, map}
use Rattle.std.proofs.lemmas.Option.{same_Some, slice_get_within}
use Rattle.std.proofs.lemmas.Result.{on_ok_weaker}
use Rattle.names.specs.declared.roles.Role.{Role}
use Rattle.credential_text.specs.declared.exprs.Expr.{Expr}
use Rattle.credential_text.specs.declared.exprs.Expr.TheVariants.{Link, Rol}
use Rattle.cred_graph.specs.declared.listeners.Port.TheVariants as port
use Rattle.monitors.specs.LinkMonitor.{AddsKey}
use Rattle.cred_graph.specs.Graph.{GraphState}
use Rattle.cred_graph.specs.KeptExpr.{expr_lent}
use Rattle.cred_graph.specs.declared.node_exprs.NodeExpr.{NodeExpr}
use Rattle.cred_graph.specs.declared.node_exprs.NodeExpr.TheVariants as node_expr
use denote.Bor.{Bor}
use Rattle.cred_graph.specs.Numbers.{IsEntity, entity_at}
use Rattle.search.specs.declared.findings.Monitor.TheVariants as monitor
use Rattle.search.specs.declared.findings.NumberedMonitor.TheVariants as numbered_monitor
use Rattle.search.specs.Answers.{Progress, AsksFor}
use Rattle.search.proofs.Tells.{BaseHeard}
use Rattle.search.specs.Numbered.{AreNumbered, progress_at, monitor_at}
use Rattle.search.proofs.Numbered.{base_heard, link_after, link_at_node, monitor_there, read_there, still_monitors}
use Rattle.search.proofs.answers.told_base.Goals.{After-found, After-hear, After-graph-graph}
use Rattle.search.proofs.answers.told_base.Goals as goal

is_entity : (c : After-found) → IsEntity c.found.inside.graph.nodes c.args.base
is_entity c = subst (λ (s : Progress). IsEntity s.graph.nodes c.args.base) (sym c.found.view_is) c.requires.entity

-- the monitor at the node is a linked role's
there : (c : After-found) → (x : List ℕ) × (slice_get c.found.inside.monitors.items c.args.node ≡ Some (numbered_monitor.Link x))
there c =
    let at = subst (λ (s : Progress). (x : List (List ℕ)) × (slice_get s.monitors c.args.node ≡ Some (monitor.Link x))) (sym c.found.view_is) c.requires.monitor in
    link_at_node c.found.inside.graph.nodes c.found.inside.monitors.items c.args.node at.0 at.1

told_at : (c : After-hear) → (x : List ℕ) → slice_get c.found.inside.monitors.items c.args.node ≡ Some (numbered_monitor.Link x) → slice_get c.found.inside.monitors.items c.args.node ≡ Some (numbered_monitor.Link c.in-Link.told)
told_at c x at = read_there c.found.inside.monitors.items c.args.node (numbered_monitor.Link x) _ (numbered_monitor.Link c.in-Link.told) at c.index_mut.ensures.value c.in-Link.is

-- what was told is of entities
still : (c : After-hear) → IsEntity c.found.inside.graph.nodes c.args.base → (x : List ℕ) × (slice_get c.found.inside.monitors.items c.args.node ≡ Some (numbered_monitor.Link x)) →
    AreNumbered c.found.inside.graph (set c.found.inside.monitors.items c.args.node (numbered_monitor.Link c.hear.new.self)) c.found.inside.outs.items
still c is (x, at) =
    let nodes = c.found.inside.graph.nodes in
    let ms = c.found.inside.monitors.items in
    let are = c.found.invariant in
    let own = monitor_there nodes ms c.args.node (numbered_monitor.Link c.in-Link.told) are.monitors (told_at c x at) in record {
      once = are.once;
      loads = are.loads;
      monitors = still_monitors nodes ms c.args.node (numbered_monitor.Link c.hear.new.self) are.monitors (link_after nodes c.in-Link.told c.hear.new.self c.args.base c.hear.result own is c.hear.ensures.ok c.hear.ensures.unchanged);
      ports = are.ports;
    }

pub index_mut-requires : goal.index_mut-requires
index_mut-requires c =
    let (x, at) = there (goal.at.index_mut-requires c).After-found in
    let within = slice_get_within c.found.inside.monitors.items c.args.node (numbered_monitor.Link x) at in
    omega (arith, within, c.found.inside.monitors.ok.0)

pub unreachable-requires : goal.unreachable-requires
unreachable-requires c =
    let (x, at) = there (goal.at.unreachable-requires c).After-found in
    c.in_default.not-Link x (same_Some _ (numbered_monitor.Link x) (sym (read_there c.found.inside.monitors.items c.args.node (numbered_monitor.Link x) _ _ at c.index_mut.ensures.value refl) ∙ at))

pub invariant_of-found : goal.invariant_of-found
invariant_of-found c =
    let at = goal.at.invariant_of-found c in
    still at.After-hear (is_entity at.After-found) (there at.After-found)

pub invariant_of-found-in-Ok-false : goal.invariant_of-found-in-Ok-false
invariant_of-found-in-Ok-false c =
    let at = goal.at.invariant_of-found-in-Ok-false c in
    still at.After-hear (is_entity at.After-found) (there at.After-found)

pub invariant_of-found-in-Err : goal.invariant_of-found-in-Err
invariant_of-found-in-Err c =
    let at = goal.at.invariant_of-found-in-Err c in
    still at.After-hear (is_entity at.After-found) (there at.After-found)

-- the base told a member
heard : (c : After-hear) (new : Bool) → IsEntity c.found.inside.graph.nodes c.args.base → slice_get c.found.inside.monitors.items c.args.node ≡ Some (numbered_monitor.Link c.in-Link.told) → AddsKey c.in-Link.told c.hear.new.self c.args.base new →
    BaseHeard c.args.found.now.monitors (map (monitor_at c.found.inside.graph.nodes) (set c.found.inside.monitors.items c.args.node (numbered_monitor.Link c.hear.new.self))) c.args.node (entity_at c.args.found.now.graph.nodes c.args.base) new
heard c new is at hears =
    let old = c.found.inside in
    let told = map (monitor_at old.graph.nodes) (set old.monitors.items c.args.node (numbered_monitor.Link c.hear.new.self)) in
    subst (λ (s : Progress). BaseHeard s.monitors told c.args.node (entity_at s.graph.nodes c.args.base) new) c.found.view_is
    (base_heard old.graph.nodes c.found.invariant.once old.monitors.items c.args.node c.in-Link.told c.hear.new.self c.args.base new c.found.invariant.monitors at is hears)

pub returns-in-Ok-false : goal.returns-in-Ok-false
returns-in-Ok-false c =
    let at = goal.at.returns-in-Ok-false c in
    let (r, name, node) = c.requires.link in
    let told = map (monitor_at c.found.inside.graph.nodes) (set c.found.inside.monitors.items c.args.node (numbered_monitor.Link c.hear.new.self)) in
    let (x, there) = there at.After-found in
    (r, name, node, (c.in-Ok-false.field-0, told, heard at.After-hear c.in-Ok-false.field-0 (is_entity at.After-found) (told_at at.After-hear x there) c.in-Ok-false.ensures.ok, inl (c.in-Ok-false.field-0-test, ap (λ (s : Progress). record s { monitors = told }) c.found.view_is)))

-- the graph is what it was
same_graph : (c : After-graph-graph) → c.graph-graph.result.now ≡ c.args.found.now.graph
same_graph c = c.graph-graph.ensures.graph ∙ ap (λ (s : Progress). s.graph) c.found.view_is

-- the linked role is what stands at the node
linked : (c : After-graph-graph) (e : Expr) → slice_get c.graph-graph.result.now.nodes c.args.node ≡ Some e → e ≡ Link c.requires.link.0 c.requires.link.1
linked c e at = same_Some e _ (sym at ∙ ap (λ (g : GraphState). slice_get g.nodes c.args.node) (same_graph c) ∙ c.requires.link.2)

abbrev name_in : Expr → List ℕ
name_in (Link r name) = name
name_in _ = []

abbrev is_link : Expr → Type 0
is_link (Link r name) = Unit {0}
is_link _ = ⊥

no_other : (x : NodeExpr) → is_link (expr_lent x) → ((r : Bor Role) (name : Bor (List ℕ)) → x ≡ node_expr.Link r name → ⊥) → ⊥
no_other (node_expr.Ent who) is never = is
no_other (node_expr.Rol r) is never = is
no_other (node_expr.Link r name) is never = never r name refl
no_other (node_expr.Meet parts) is never = is

pub ask_role-requires : goal.ask_role-requires
ask_role-requires c = is_entity (goal.at.ask_role-requires c).After-found

pub entity-owner-requires : goal.entity-owner-requires
entity-owner-requires c = subst (λ (g : GraphState). IsEntity g.nodes c.args.base) (sym (same_graph (goal.at.entity-owner-requires c).After-graph-graph)) c.requires.entity

pub expr-requires : goal.expr-requires
expr-requires c =
    let is = ap (λ (g : GraphState). length g.nodes) (same_graph c) in
    omega (arith, is, slice_get_within c.args.found.now.graph.nodes c.args.node _ c.requires.link.2)

pub unreachable-requires-in_default-expr : goal.unreachable-requires-in_default-expr
unreachable-requires-in_default-expr c =
    no_other c.expr.result (subst is_link (sym (linked (goal.at.unreachable-requires-in_default-expr c).After-graph-graph _ c.expr.ensures.node)) tt) c.in_default-expr.not-Link

pub returns-in-Link-expr : goal.returns-in-Link-expr
returns-in-Link-expr c =
    let at = goal.at.returns-in-Link-expr c in
    let old = c.found.inside in
    let nodes = c.args.found.now.graph.nodes in
    let (r, name, node) = c.requires.link in
    let told = map (monitor_at old.graph.nodes) (set old.monitors.items c.args.node (numbered_monitor.Link c.hear.new.self)) in
    let (x, there) = there at.After-found in
    let owner = c.entity-owner.ensures.name ∙ ap (λ (g : GraphState). entity_at g.nodes c.args.base) (same_graph at.After-graph-graph) in
    let named = ap (λ (e : NodeExpr). name_in (expr_lent e)) (sym c.in-Link-expr.is) ∙ ap name_in (linked at.After-graph-graph _ c.expr.ensures.node) in
    on_ok_weaker c.ask_role.result
    (λ asks. (
      r,
      name,
      node,
      (
        c.in-Ok-true.field-0,
        told,
        heard at.After-hear c.in-Ok-true.field-0 (is_entity at.After-found) (told_at at.After-hear x there) c.in-Ok-true.ensures.ok,
        inr (
          c.in-Ok-true.field-0-test,
          subst (λ (s : Progress). AsksFor (record s { monitors = told }) c.ask_role.new.found (Rol (record { owner = entity_at nodes c.args.base; name = name })) (port.Via (entity_at s.graph.nodes c.args.base))) c.found.view_is
              (subst (λ (role : Role). AsksFor (record (progress_at old.graph old.monitors.items old.outs.items) { monitors = told }) c.ask_role.new.found (Rol role) (port.Via (entity_at old.graph.nodes c.args.base))) (λ i. record { owner = owner i; name = named i }) asks),
        ),
      ),
    ))
    c.ask_role.ensures
