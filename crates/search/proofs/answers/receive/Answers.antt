-- What the letter says decides what its receiver does.
use Rattle.std.proofs.Common.{ℕ, ◌≡◌, ◌∙◌, ◌<◌, List, [], ap, arith, inl, inr, length, subst, sym, Bool, Some, refl, set, slice_get, map}
use Rattle.std.proofs.lemmas.Option.{slice_get_within, same_Some}
use Rattle.std.proofs.lemmas.Result.{on_ok_weaker}
use Rattle.vaults.specs.Journal.{Vault}
use Rattle.credential_text.specs.declared.exprs.Expr.{Expr}
use Rattle.cred_graph.specs.Graph.{GraphState, listeners_of, Fits}
use Rattle.cred_graph.specs.Numbers.{entity_at, port_at, IsEntity}
use Rattle.cred_graph.specs.declared.listeners.Port.{Port}
use Rattle.cred_graph.specs.declared.listeners.Port.TheVariants as port
use Rattle.cred_graph.specs.declared.solutions.Reason.TheVariants as reason
use Rattle.scholten_core.specs.declared.parents.Parent.{Parent}
use Rattle.scholten_core.specs.declared.parents.Parent.TheVariants.{Node}
use Rattle.search.specs.declared.letters.Load.{Load}
use Rattle.search.specs.declared.letters.Load.TheVariants as load
use Rattle.search.specs.Answers.{Progress, progress, Answers, HearsAsk, MayTakeIn, IsOpenAt, Opens, Solves, TakesIn, own_rows}
use Rattle.search.specs.Net.{IsLoad, load_at}
use Rattle.search.proofs.Numbered.{HasMore, IsOpened, more_count, more_port, more_port_same, opened_more, meet_after, meet_at_node, monitor_there, part_heard, read_there, still_monitors}
use Rattle.search.proofs.Receive.{node_in, starts, no_start, asker_in, may_tell, answers_start, answers_ask, answers_tell}
use Rattle.search.proofs.answers.receive.Goals as goal
use Rattle.search.proofs.answers.receive.Goals.{After-found, After-part_told, Joined-node-ne0, then-node-ne0+then-listeners-eq0+in_ok-open-in-Ask, else-node-ne0, else-node-ne0-via-then-node-ne0+else-listeners-eq0, else-node-ne0-via-else-node-ne0}
use Rattle.monitors.specs.MeetMonitor.{AllTold, HearsByName, MeetLines, MeetTold}
use Rattle.search.specs.declared.findings.Monitor.TheVariants as monitor
use Rattle.search.specs.declared.findings.NumberedMonitor.{NumberedMonitor}
use Rattle.search.specs.declared.findings.NumberedMonitor.TheVariants as numbered_monitor
use Rattle.search.proofs.Tells.{PartHeard}
use Rattle.search.specs.Numbered.{AreNumbered, monitor_at}

pub open-requires-clause-node : goal.open-requires-clause-node
open-requires-clause-node c = node_in c.requires.awaits.2

pub unreachable-requires-in-Start : goal.unreachable-requires-in-Start
unreachable-requires-in-Start c = no_start c.requires.awaits.2 c.in-Node.sender c.in-Node.is (ap (load_at c.args.found.now.graph.nodes) c.in-Start.is)

pub open-requires-then-listeners-eq0-clause-node : goal.open-requires-then-listeners-eq0-clause-node
open-requires-then-listeners-eq0-clause-node c = node_in c.requires.awaits.2

-- the list of answers was empty
from_none : (view : List Vault) (s t : Progress) (from : Parent) (to : ℕ) (l : Load (List ℕ)) → s.outs ≡ [] → Answers view s t from to l → Answers view (progress s.graph s.monitors []) t from to l
from_none view s t from to l none = subst (λ (os : List (ℕ × Load (List ℕ))). Answers view (progress s.graph s.monitors os) t from to l) none

pub returns-in_default : goal.returns-in_default
returns-in_default c =
    on_ok_weaker c.open.result
    (λ opens. from_none c.args.snapshot.now.vaults c.args.found.now c.open.new.found c.args.held.now.from c.args.held.now.to (load_at c.args.found.now.graph.nodes c.args.held.now.load) c.requires.none
    (answers_start c.requires.awaits.2 (starts c.requires.awaits.2 c.in_default.not-Node) c.args.snapshot.now.vaults c.args.found.now c.open.new.found opens))
    c.open.ensures

-- the node is open where it hears the asker
opened : (c : Joined-node-ne0) → IsOpened c.args.snapshot.now.vaults c.args.found.now c.if-node-ne0.found c.args.held.now.to
opened c =
    elim c.if-node-ne0.branch [
      | then-node-ne0+then-listeners-eq0+in_ok-open-in-Ask w ↦ inr (
        λ before. elim (subst (λ (g : GraphState). IsOpenAt g c.args.held.now.to) (sym w.graph.ensures.graph) before) [
          | inl root ↦ absurd (w.if-node-ne0.true root)
          | inr heard ↦ absurd (omega (arith, heard, w.listeners.ensures.count, w.if-listeners-eq0.true))
        ],
        λ e at. subst (λ (t : Progress). Opens (own_rows c.args.snapshot.now.vaults e) c.args.found.now t c.args.held.now.to e) (sym w.found-is) (w.in_ok-open-in-Ask.ensures e at),
      )
      | else-node-ne0 w ↦ inl (
        elim w.else-node-ne0.branch [
          | else-node-ne0-via-then-node-ne0+else-listeners-eq0 w' ↦ inr (subst (λ (g : GraphState). 0 < length (listeners_of g c.args.held.now.to)) w'.graph.ensures.graph (omega (arith, w'.listeners.ensures.count, w'.if-listeners-eq0.false)))
          | else-node-ne0-via-else-node-ne0 w' ↦ inl (omega (arith, w'.if-node-ne0.false))
        ],
        w.found-is,
      )
    ]

-- what opens adds nodes, so the node and its asker are there still, and the port stays what it is
more : (c : Joined-node-ne0) → HasMore c.args.found.now.graph.nodes c.if-node-ne0.found.graph.nodes
more c = opened_more c.args.snapshot.now.vaults c.args.found.now c.if-node-ne0.found c.args.held.now.to (node_in c.requires.awaits.2) (opened c)

pub hear_ask-requires : goal.hear_ask-requires
hear_ask-requires c =
    let nodes = c.args.found.now.graph.nodes in
    let more = more (goal.at.hear_ask-requires c).Joined-node-ne0 in
    let count = more_count nodes c.if-node-ne0.found.graph.nodes more in record {
      node = omega (arith, count, node_in c.requires.awaits.2);
      asker = omega (arith, count, asker_in c.requires.awaits.2 (port_at nodes c.in-Ask.port) c.in-Node.sender (ap (load_at nodes) c.in-Ask.is) c.in-Node.is);
      port = more_port nodes c.if-node-ne0.found.graph.nodes c.in-Ask.port more (subst (IsLoad nodes) c.in-Ask.is c.requires.load);
    }

pub returns-after-node-ne0 : goal.returns-after-node-ne0
returns-after-node-ne0 c =
    let at = (goal.at.returns-after-node-ne0 c).Joined-node-ne0 in
    let s = c.args.found.now in
    let mid = c.if-node-ne0.found in
    let same = more_port_same s.graph.nodes mid.graph.nodes c.in-Ask.port (more at) (subst (IsLoad s.graph.nodes) c.in-Ask.is c.requires.load) in
    on_ok_weaker c.hear_ask.result
    (λ hears. from_none c.args.snapshot.now.vaults s c.hear_ask.new.found c.args.held.now.from c.args.held.now.to (load_at s.graph.nodes c.args.held.now.load) c.requires.none
    (answers_ask c.args.snapshot.now.vaults s c.hear_ask.new.found c.args.held.now.from c.args.held.now.to (load_at s.graph.nodes c.args.held.now.load) c.in-Node.sender (port_at s.graph.nodes c.in-Ask.port) c.in-Node.is (ap (load_at s.graph.nodes) c.in-Ask.is) (mid, opened at, subst (HearsAsk mid c.hear_ask.new.found c.args.held.now.to c.in-Node.sender) same hears)))
    c.hear_ask.ensures

-- what a letter tells, on a port that is known
told : (nodes : List Expr) {k : Load ℕ} {p q : Port ℕ} {who : ℕ} → k ≡ load.Tell p who → p ≡ q → load_at nodes k ≡ load.Tell (port_at nodes q) (entity_at nodes who)
told nodes {who = who} is on = ap (load_at nodes) (is ∙ ap (λ (p : Port ℕ). load.Tell p who) on)

takes : (view : List Vault) (s t : Progress) (from : Parent) (to : ℕ) (k : Load ℕ) (m : ℕ) (p : Port ℕ) (who : ℕ) → s.outs ≡ [] → from ≡ Node m → load_at s.graph.nodes k ≡ load.Tell (port_at s.graph.nodes p) (entity_at s.graph.nodes who) →
    TakesIn s t to m (port_at s.graph.nodes p) (entity_at s.graph.nodes who) → Answers view (progress s.graph s.monitors []) t from to (load_at s.graph.nodes k)
takes view s t from to k m p who none by is takes_in =
    from_none view s t from to (load_at s.graph.nodes k) none (answers_tell view s t from to (load_at s.graph.nodes k) m (port_at s.graph.nodes p) (entity_at s.graph.nodes who) by is takes_in)

pub returns-in-Body : goal.returns-in-Body
returns-in-Body c =
    on_ok_weaker c.solve.result
    (λ told_in. takes c.args.snapshot.now.vaults c.args.found.now c.solve.new.found c.args.held.now.from c.args.held.now.to c.args.held.now.load c.in-Node.sender port.Body c.in-Tell.who c.requires.none c.in-Node.is (told c.args.found.now.graph.nodes c.in-Tell.is c.in-Body.is) (subst (λ (m : ℕ). Solves c.args.found.now c.solve.new.found c.args.held.now.to (entity_at c.args.found.now.graph.nodes c.in-Tell.who) (reason.Body m)) c.short-body.ensures told_in))
    c.solve.ensures

pub returns-in-Via : goal.returns-in-Via
returns-in-Via c =
    on_ok_weaker c.solve-in-Via.result
    (λ told_in. takes c.args.snapshot.now.vaults c.args.found.now c.solve-in-Via.new.found c.args.held.now.from c.args.held.now.to c.args.held.now.load c.in-Node.sender (port.Via c.in-Via.base) c.in-Tell.who c.requires.none c.in-Node.is (told c.args.found.now.graph.nodes c.in-Tell.is c.in-Via.is) told_in)
    c.solve-in-Via.ensures

pub returns-in-Base : goal.returns-in-Base
returns-in-Base c =
    on_ok_weaker c.told_base.result
    (λ told_in. takes c.args.snapshot.now.vaults c.args.found.now c.told_base.new.found c.args.held.now.from c.args.held.now.to c.args.held.now.load c.in-Node.sender port.Base c.in-Tell.who c.requires.none c.in-Node.is (told c.args.found.now.graph.nodes c.in-Tell.is c.in-Base.is) told_in)
    c.told_base.ensures

pub solve-requires-clause-fits : goal.solve-requires-clause-fits
solve-requires-clause-fits c = rw c.short-body.ensures (may_tell c.requires.awaits.2 (port_at c.args.found.now.graph.nodes port.Body) (entity_at c.args.found.now.graph.nodes c.in-Tell.who) c.in-Node.sender (told c.args.found.now.graph.nodes c.in-Tell.is c.in-Body.is) c.in-Node.is)

pub solve-requires-in-Via-clause-fits : goal.solve-requires-in-Via-clause-fits
solve-requires-in-Via-clause-fits c = may_tell c.requires.awaits.2 (port_at c.args.found.now.graph.nodes (port.Via c.in-Via.base)) (entity_at c.args.found.now.graph.nodes c.in-Tell.who) c.in-Node.sender (told c.args.found.now.graph.nodes c.in-Tell.is c.in-Via.is) c.in-Node.is

pub told_base-requires : goal.told_base-requires
told_base-requires c =
    let may = may_tell c.requires.awaits.2 (port_at c.args.found.now.graph.nodes port.Base) (entity_at c.args.found.now.graph.nodes c.in-Tell.who) c.in-Node.sender (told c.args.found.now.graph.nodes c.in-Tell.is c.in-Base.is) c.in-Node.is in
    record { entity = (subst (IsLoad c.args.found.now.graph.nodes) c.in-Tell.is c.requires.load).1; link = may.0; monitor = may.1 }

pub listeners-requires : goal.listeners-requires
listeners-requires c = rw c.graph.ensures.graph (node_in c.requires.awaits.2)

pub short-body-requires : goal.short-body-requires
short-body-requires c =
    let fits = may_tell c.requires.awaits.2 (port_at c.args.found.now.graph.nodes port.Body) (entity_at c.args.found.now.graph.nodes c.in-Tell.who) c.in-Node.sender (told c.args.found.now.graph.nodes c.in-Tell.is c.in-Body.is) c.in-Node.is in
    rw c.graph-in-Body.ensures.graph (slice_get_within c.args.found.now.graph.nodes c.in-Node.sender fits.1 fits.3)

pub solve-requires-clause-node : goal.solve-requires-clause-node
solve-requires-clause-node c = node_in c.requires.awaits.2

pub solve-requires-in-Via-clause-node : goal.solve-requires-in-Via-clause-node
solve-requires-in-Via-clause-node c = node_in c.requires.awaits.2

-- the monitor there is an intersection's, and with its last part the entity is a solution
part_may : (c : After-found) → MayTakeIn c.args.found.now.graph c.args.found.now.monitors c.args.held.now.to c.in-Node.sender (port.Part c.in-Part.part) (entity_at c.args.found.now.graph.nodes c.in-Tell.who)
part_may c = may_tell c.requires.awaits.2 (port_at c.args.found.now.graph.nodes (port.Part c.in-Part.part)) (entity_at c.args.found.now.graph.nodes c.in-Tell.who) c.in-Node.sender (told c.args.found.now.graph.nodes c.in-Tell.is c.in-Part.is) c.in-Node.is

-- the monitor at the node is an intersection's
there : (c : After-found) → (x : MeetLines ℕ) × (slice_get c.found.inside.monitors.items c.args.held.now.to ≡ Some (numbered_monitor.Meet x)) × (c.in-Part.part < x.parts)
there c =
    let at = subst (λ (s : Progress). (x : MeetTold) × (slice_get s.monitors c.args.held.now.to ≡ Some (monitor.Meet x)) × (c.in-Part.part < x.parts)) (sym c.found.view_is) (part_may c).0 in
    meet_at_node c.found.inside.graph.nodes c.found.inside.monitors.items c.args.held.now.to c.in-Part.part at.0 at.1 at.2

told_at : (c : After-part_told) → (x : MeetLines ℕ) → slice_get c.found.inside.monitors.items c.args.held.now.to ≡ Some (numbered_monitor.Meet x) → slice_get c.found.inside.monitors.items c.args.held.now.to ≡ Some (numbered_monitor.Meet c.in-Meet.told)
told_at c x at = read_there c.found.inside.monitors.items c.args.held.now.to (numbered_monitor.Meet x) _ (numbered_monitor.Meet c.in-Meet.told) at c.index_mut.ensures.value c.in-Meet.is

is_entity : (c : After-found) → IsEntity c.found.inside.graph.nodes c.in-Tell.who
is_entity c = subst (λ (s : Progress). IsEntity s.graph.nodes c.in-Tell.who) (sym c.found.view_is) (subst (IsLoad c.args.found.now.graph.nodes) c.in-Tell.is c.requires.load).1

abbrev parts_in : NumberedMonitor → ℕ
parts_in (numbered_monitor.Meet x) = x.parts
parts_in _ = 0

-- what was told is of entities
still : (c : After-part_told) → IsEntity c.found.inside.graph.nodes c.in-Tell.who → (x : MeetLines ℕ) × (slice_get c.found.inside.monitors.items c.args.held.now.to ≡ Some (numbered_monitor.Meet x)) × (c.in-Part.part < x.parts) →
    AreNumbered c.found.inside.graph (set c.found.inside.monitors.items c.args.held.now.to (numbered_monitor.Meet c.part_told.new.self)) c.found.inside.outs.items
still c is (x, at, below) =
    let nodes = c.found.inside.graph.nodes in
    let ms = c.found.inside.monitors.items in
    let are = c.found.invariant in
    let own = monitor_there nodes ms c.args.held.now.to (numbered_monitor.Meet c.in-Meet.told) are.monitors (told_at c x at) in record {
      once = are.once;
      loads = are.loads;
      monitors = still_monitors nodes ms c.args.held.now.to (numbered_monitor.Meet c.part_told.new.self) are.monitors (meet_after nodes c.in-Meet.told c.part_told.new.self c.in-Tell.who own is c.part_told.ensures.keys);
      ports = are.ports;
    }

-- the part told the entity
heard : (c : After-part_told) (last : Bool) → IsEntity c.found.inside.graph.nodes c.in-Tell.who → slice_get c.found.inside.monitors.items c.args.held.now.to ≡ Some (numbered_monitor.Meet c.in-Meet.told) → HearsByName c.in-Meet.told c.part_told.new.self c.in-Part.part c.in-Tell.who last →
    PartHeard c.args.found.now.monitors (map (monitor_at c.found.inside.graph.nodes) (set c.found.inside.monitors.items c.args.held.now.to (numbered_monitor.Meet c.part_told.new.self))) c.args.held.now.to c.in-Part.part (entity_at c.args.found.now.graph.nodes c.in-Tell.who) last
heard c last is at hears =
    let old = c.found.inside in
    let told = map (monitor_at old.graph.nodes) (set old.monitors.items c.args.held.now.to (numbered_monitor.Meet c.part_told.new.self)) in
    subst (λ (s : Progress). PartHeard s.monitors told c.args.held.now.to c.in-Part.part (entity_at s.graph.nodes c.in-Tell.who) last) c.found.view_is
    (part_heard old.graph.nodes c.found.invariant.once old.monitors.items c.args.held.now.to c.in-Part.part c.in-Meet.told c.part_told.new.self c.in-Tell.who last c.found.invariant.monitors at is hears)

pub index_mut-requires : goal.index_mut-requires
index_mut-requires c =
    let at = goal.at.index_mut-requires c in
    let (x, here, below) = there at.After-found in
    let within = slice_get_within c.found.inside.monitors.items c.args.held.now.to (numbered_monitor.Meet x) here in
    omega (arith, within, c.found.inside.monitors.ok.0)

pub unreachable-requires : goal.unreachable-requires
unreachable-requires c =
    let at = goal.at.unreachable-requires c in
    let (x, here, below) = there at.After-found in
    c.in_default-index_mut.not-Meet x (same_Some _ (numbered_monitor.Meet x) (sym (read_there c.found.inside.monitors.items c.args.held.now.to (numbered_monitor.Meet x) _ _ here c.index_mut.ensures.value refl) ∙ here))

pub part_told-requires : goal.part_told-requires
part_told-requires c =
    let at = goal.at.part_told-requires c in
    let (x, here, below) = there at.After-found in
    let told = read_there c.found.inside.monitors.items c.args.held.now.to (numbered_monitor.Meet x) _ (numbered_monitor.Meet c.in-Meet.told) here c.index_mut.ensures.value c.in-Meet.is in
    subst (λ (m : NumberedMonitor). c.in-Part.part < parts_in m) (same_Some (numbered_monitor.Meet x) (numbered_monitor.Meet c.in-Meet.told) (sym here ∙ told)) below

pub invariant_of-found : goal.invariant_of-found
invariant_of-found c = still (goal.at.invariant_of-found c).After-part_told (is_entity (goal.at.invariant_of-found c).After-found) (there (goal.at.invariant_of-found c).After-found)

pub invariant_of-found-in-Ok-false : goal.invariant_of-found-in-Ok-false
invariant_of-found-in-Ok-false c = still (goal.at.invariant_of-found-in-Ok-false c).After-part_told (is_entity (goal.at.invariant_of-found-in-Ok-false c).After-found) (there (goal.at.invariant_of-found-in-Ok-false c).After-found)

pub invariant_of-found-in-Err : goal.invariant_of-found-in-Err
invariant_of-found-in-Err c = still (goal.at.invariant_of-found-in-Err c).After-part_told (is_entity (goal.at.invariant_of-found-in-Err c).After-found) (there (goal.at.invariant_of-found-in-Err c).After-found)

pub solve-requires-in-Ok-true : goal.solve-requires-in-Ok-true
solve-requires-in-Ok-true c =
    let at = goal.at.solve-requires-in-Ok-true c in
    let (x, here, below) = there at.After-found in
    let who = entity_at c.args.found.now.graph.nodes c.in-Tell.who in
    let heard = heard at.After-part_told c.in-Ok-true.field-0 (is_entity at.After-found) (told_at at.After-part_told x here) c.in-Ok-true.ensures.ok in
    let all = (heard.3.1.0 c.in-Ok-true.field-0-test).0 in
    let same = sym (ap (λ (s : Progress). s.graph) c.found.view_is) in record {
      node = subst (λ (g : GraphState). c.args.held.now.to < length g.nodes) same (node_in c.requires.awaits.2);
      entity = is_entity at.After-found;
      reason = tt;
      fits = subst (λ (g : GraphState). Fits g c.args.held.now.to (entity_at g.nodes c.in-Tell.who) reason.Parts) same
          (((part_may at.After-found).1) heard.0 heard.2 (subst (λ (y : MeetTold). AllTold y who) heard.3.0 all));
    }

pub returns-in-Ok-false : goal.returns-in-Ok-false
returns-in-Ok-false c =
    let at = goal.at.returns-in-Ok-false c in
    let (x, here, below) = there at.After-found in
    let told_now = map (monitor_at c.found.inside.graph.nodes) (set c.found.inside.monitors.items c.args.held.now.to (numbered_monitor.Meet c.part_told.new.self)) in
    takes c.args.snapshot.now.vaults c.args.found.now _ c.args.held.now.from c.args.held.now.to c.args.held.now.load c.in-Node.sender (port.Part c.in-Part.part) c.in-Tell.who c.requires.none c.in-Node.is (told c.args.found.now.graph.nodes c.in-Tell.is c.in-Part.is) (c.in-Ok-false.field-0, told_now, heard at.After-part_told c.in-Ok-false.field-0 (is_entity at.After-found) (told_at at.After-part_told x here) c.in-Ok-false.ensures.ok, inl (c.in-Ok-false.field-0-test, ap (λ (t : Progress). record t { monitors = told_now }) c.found.view_is))

pub returns-in-Ok-true : goal.returns-in-Ok-true
returns-in-Ok-true c =
    let at = goal.at.returns-in-Ok-true c in
    let (x, here, below) = there at.After-found in
    let told_now = map (monitor_at c.found.inside.graph.nodes) (set c.found.inside.monitors.items c.args.held.now.to (numbered_monitor.Meet c.part_told.new.self)) in
    (on_ok_weaker c.solve-in-Ok-true.result
    (λ solves. takes c.args.snapshot.now.vaults c.args.found.now c.solve-in-Ok-true.new.found c.args.held.now.from c.args.held.now.to c.args.held.now.load c.in-Node.sender (port.Part c.in-Part.part) c.in-Tell.who c.requires.none c.in-Node.is (told c.args.found.now.graph.nodes c.in-Tell.is c.in-Part.is) (c.in-Ok-true.field-0, told_now, heard at.After-part_told c.in-Ok-true.field-0 (is_entity at.After-found) (told_at at.After-part_told x here) c.in-Ok-true.ensures.ok, inr (c.in-Ok-true.field-0-test, subst (λ (t : Progress). Solves (record t { monitors = told_now }) c.solve-in-Ok-true.new.found c.args.held.now.to (entity_at t.graph.nodes c.in-Tell.who) reason.Parts) c.found.view_is solves)))
    c.solve-in-Ok-true.ensures)
