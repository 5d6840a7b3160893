-- A search stays steady where a node is added, and where letters are.
use Rattle.std.proofs.Common.{ℕ, zero, suc, ◌<◌, ◌≡◌, ◌∙◌, ◌⊎◌, inl, inr, sym, subst, List, [], ◌∷◌, Some, Contains, length, slice_get, arith, ap, ◌++◌, refl, ◌==◌, filter}
use Rattle.std.specs.List.{AllZip}
use Rattle.std.proofs.lemmas.Option.{same_Some}
use Rattle.names.specs.declared.roles.Role.{Role}
use Rattle.credential_text.specs.declared.credentials.Credential.{Credential}
use Rattle.credential_text.specs.declared.intersections.Part.{Part}
use Rattle.credential_text.specs.declared.exprs.Expr.{Expr}
use Rattle.credential_text.specs.declared.exprs.Expr.TheVariants.{Ent, Rol, Link, Meet}
use Rattle.rt0_rules.specs.Asks.{Why, Asks, asks_body, asks_base, asks_via, asks_part, Demanded}
use Rattle.cred_graph.specs.declared.listeners.Port.{Port}
use Rattle.cred_graph.specs.declared.listeners.Listening.{Listening}
use Rattle.cred_graph.specs.declared.solutions.Reason.{Reason}
use Rattle.cred_graph.specs.declared.solutions.Solution.{Solution}
use Rattle.cred_graph.specs.Graph.{GraphState, IsNode, IsSolution, Known, Listens, IsGraph, listeners_of, members_of, Fits}
use Rattle.scholten_core.specs.declared.parents.Parent.{Parent}
use Rattle.scholten_core.specs.declared.parents.Parent.TheVariants.{Environment, Node}
use Rattle.search.specs.declared.letters.Load.{Load}
use Rattle.search.specs.Net.{Net, Sent, HasListener, IsPendingStart, IsBaseTold, IsPartTold, IsOpen, IsAsked, IsTaken, AskFits, LetterFits, ByRow, SolutionFits, PartFits, OpenedPaid, MonitorFits, IsRight, IsPaid, sent_by, IsSteady}
use Rattle.std.proofs.lemmas.Slice.Zip.{all_zipped_more}
use Rattle.std.proofs.lemmas.List.{map-append, get_or-set_same}
use Rattle.std.proofs.lemmas.List.Elements.{Contains-append_left, Contains-append_right, Contains-append_cases, Contains-push, Contains-push_cases}
use Rattle.std.proofs.lemmas.Bool.{false≢true, eqb-true, eq-eqb}
use Rattle.credential_text.specs.Expr.{HasPartsInRange}
use Rattle.rt0_rules.proofs.Elements.{Contains-none}
use Rattle.rt0_rules.proofs.Distinct.{mapped, filtered, kept_by}
use Rattle.cred_graph.proofs.NodeListLemmas.{slice_get_stays, slice_get_push_cases}
use Rattle.cred_graph.proofs.Growth.{with_node, graph_with_node, listed_at-pushed, with_solution, with_listener, graph_with_solution, graph_with_listener, listed_with_cases}
use Rattle.monitors.specs.MeetMonitor.{MeetTold, HasTold, told_order}
use Rattle.search.specs.declared.findings.Monitor.{Monitor}
use Rattle.search.specs.Answers.{new_monitor}
use Rattle.rt0_rules.proofs.Unknown.{Contains-map}
use Rattle.cred_graph.specs.NodeLists.{list_at}
use Rattle.search.proofs.Tells.{new_tells, known_tells}
use Rattle.cred_graph.specs.declared.listeners.Port.TheVariants as port
use Rattle.cred_graph.specs.declared.solutions.Reason.TheVariants as reason
use Rattle.search.specs.declared.letters.Load.TheVariants as load
use Rattle.std.specs.FinSet as set
use Rattle.search.specs.declared.findings.Monitor.TheVariants as monitor

-- what is found and sent stays right, and what is paid stays paid, where more is found and sent

-- what was found and sent is there still, and no letter of the environment came
pub record Grows (old new : Net) : Type 0 where
  pub nodes : (n : ℕ) (e : Expr) → IsNode old.graph n e → IsNode new.graph n e
  pub listeners : (n : ℕ) (l : Listening) → Listens old.graph n l → Listens new.graph n l
  pub solutions : (s : Solution) → Contains old.graph.solutions s → Contains new.graph.solutions s
  pub bases : (m : ℕ) (b : List ℕ) → IsBaseTold old m b → IsBaseTold new m b
  pub parts : (m i : ℕ) (who : List ℕ) → IsPartTold old m i who → IsPartTold new m i who
  pub pending : (x : Sent) → Contains old.pending x → Contains new.pending x
  pub start : IsPendingStart new → IsPendingStart old

pub solution_stays : {old new : Net} → Grows old new → (n : ℕ) (who : List ℕ) → IsSolution old.graph n who → IsSolution new.graph n who
solution_stays grows n who (why, stands) = (why, grows.solutions (record { node = n; who = who; reason = why }) stands)

pub known_stays : {old new : Net} → Grows old new → (who : List ℕ) (e : Expr) → Known old.graph who e → Known new.graph who e
known_stays grows who e (n, node, solution) = (n, grows.nodes n e node, solution_stays grows n who solution)

-- an ask that stands to reason does so where more are known
pub asks_more : {C : List Credential} {K L : List ℕ → Expr → Type 0} → ((d : List ℕ) (e : Expr) → K d e → L d e) → {e f : Expr} {why : Why} → Asks C K e why f → Asks C L e why f
asks_more more (asks_body c among head) = asks_body c among head
asks_more more (asks_base r n) = asks_base r n
asks_more more (asks_via n b member) = asks_via n b (more b _ member)
asks_more more (asks_part i p at) = asks_part i p at

pub ask_fits_stays : {rows : List Credential} {old new : Net} → Grows old new → (m : ℕ) (p : Port (List ℕ)) (n : ℕ) → AskFits rows old m p n → AskFits rows new m p n
ask_fits_stays grows m p n (e, f, asker, asked, asks) = (e, f, grows.nodes m e asker, grows.nodes n f asked, asks_more (known_stays grows) asks)

pub letter_fits_stays : (rows : List Credential) {old new : Net} → Grows old new → (from : Parent) (to : ℕ) (l : Load (List ℕ)) → LetterFits rows old from to l → LetterFits rows new from to l
letter_fits_stays rows grows Environment to load.Start fits = fits
letter_fits_stays rows grows (Node m) to (load.Ask p) fits = ask_fits_stays grows m p to fits
letter_fits_stays rows grows (Node m) to (load.Tell p who) (listens, solution) =
    (grows.listeners m (record { asker = to; port = p }) listens, solution_stays grows m who solution)
letter_fits_stays rows grows _ to _ fits = absurd fits

pub by_row_stays : (rows : List Credential) {old new : Net} → Grows old new → (n : ℕ) (why : Reason ℕ (List ℕ)) → ByRow rows old.graph n why → ByRow rows new.graph n why
by_row_stays rows grows n (reason.Body m) (c, among, head, body) = (c, among, grows.nodes n _ head, grows.nodes m _ body)
by_row_stays rows grows n _ h = h

pub solution_fits_stays : {rows : List Credential} {old new : Net} → Grows old new → (s : Solution) → SolutionFits rows old.graph s → SolutionFits rows new.graph s
solution_fits_stays {rows = rows} grows s fits =
    record { expr = fits.expr; node = grows.nodes s.node fits.expr fits.node; derives = fits.derives; by_row = by_row_stays rows grows s.node s.reason fits.by_row }

pub part_fits_stays : {old new : Net} → Grows old new → (m i : ℕ) (who : List ℕ) → PartFits old m i who → PartFits new m i who
part_fits_stays grows m i who fits =
    record { parts = fits.parts; part = fits.part; node = grows.nodes m _ fits.node; at = fits.at; known = known_stays grows who _ fits.known }

pub asked_stays : {old new : Net} → Grows old new → (m : ℕ) (p : Port (List ℕ)) (f : Expr) → IsAsked old m p f → IsAsked new m p f
asked_stays grows m p f (n, node, inl listens) = (n, grows.nodes n f node, inl (grows.listeners n (record { asker = m; port = p }) listens))
asked_stays grows m p f (n, node, inr pending) = (n, grows.nodes n f node, inr (grows.pending _ pending))

pub open_stays : {old new : Net} → Grows old new → (n : ℕ) → IsOpen old n → IsOpen new n
open_stays grows n (inl (m, p, listens)) = inl (m, p, grows.listeners n (record { asker = m; port = p }) listens)
open_stays grows n (inr (root, gone)) = inr (root, λ start. gone (grows.start start))

pub taken_stays : {old new : Net} → Grows old new → (m : ℕ) (p : Port (List ℕ)) (who : List ℕ) → IsTaken old m p who → IsTaken new m p who
taken_stays grows m port.Base who taken = grows.bases m who taken
taken_stays grows m (port.Part i) who taken = grows.parts m i who taken
taken_stays grows m _ who taken = solution_stays grows m who taken

pub opened_stays : (rows : List Credential) {old new : Net} → Grows old new → (m : ℕ) (e : Expr) → OpenedPaid rows old m e → OpenedPaid rows new m e
opened_stays rows grows m (Ent d) paid = solution_stays grows m d paid
opened_stays rows grows m (Rol r) paid = λ c among head. asked_stays grows m port.Body c.body (paid c among head)
opened_stays rows grows m (Link r t) paid = asked_stays grows m port.Base (Rol r) paid
opened_stays rows grows m (Meet parts) paid = λ i p at. asked_stays grows m (port.Part i) _ (paid i p at)

-- of two lists in step, what stands beside an element
pub zip_left : {A B : Type 0} (R : A → B → Type 0) (xs : List A) (ys : List B) → AllZip R xs ys → (k : ℕ) (y : B) → slice_get ys k ≡ Some y → (x : A) × (slice_get xs k ≡ Some x) × R x y
zip_left R [] [] all k y at = cc
zip_left R (x ∷ xs) (z ∷ ys) all zero y at = (x, refl_some, subst (R x) (same_Some z y at) all.0)
  where
    refl_some : Some x ≡ Some x
    refl_some = cc
zip_left R (x ∷ xs) (z ∷ ys) all (suc k) y at = zip_left R xs ys all.1 k y at
zip_left R _ _ all k y at = absurd all

pub zip_right : {A B : Type 0} (R : A → B → Type 0) (xs : List A) (ys : List B) → AllZip R xs ys → (k : ℕ) (x : A) → slice_get xs k ≡ Some x → (y : B) × (slice_get ys k ≡ Some y) × R x y
zip_right R [] [] all k x at = cc
zip_right R (z ∷ xs) (y ∷ ys) all zero x at = (y, refl_some, subst (λ w. R w y) (same_Some z x at) all.0)
  where
    refl_some : Some y ≡ Some y
    refl_some = cc
zip_right R (z ∷ xs) (y ∷ ys) all (suc k) x at = zip_right R xs ys all.1 k x at
zip_right R _ _ all k x at = absurd all

-- a node has one expression
pub one_expr : (g : GraphState) (n : ℕ) (e f : Expr) → IsNode g n e → IsNode g n f → e ≡ f
one_expr g n e f p q = same_Some e f (sym p ∙ q)

-- an open node is one
pub open_node : {rows : List Credential} {asked : Role} {net : Net} → IsRight rows asked net → (n : ℕ) → IsOpen net n → (e : Expr) × IsNode net.graph n e
open_node right n (inl (m, p, listens)) = let fits = right.listeners_fit n m p listens in (fits.1, fits.3)
open_node {asked = asked} {net = net} right n (inr (root, gone)) = (Rol asked, subst (λ k. IsNode net.graph k (Rol asked)) (sym root) right.found.root_node)

-- a node that was one has the expression that it had
pub node_was : {old new : Net} → Grows old new → (n : ℕ) (e f : Expr) → IsNode old.graph n f → IsNode new.graph n e → IsNode old.graph n e
node_was {old} {new} grows n e f before now = subst (IsNode old.graph n) (one_expr new.graph n f e (grows.nodes n f before) now) before

-- what is added is right
pub record AddsRightly (rows : List Credential) (asked : Role) (old new : Net) : Type 0 where
  pub graph : IsGraph new.graph
  pub fit : AllZip MonitorFits new.graph.nodes new.monitors
  pub nodes : (n : ℕ) (e : Expr) → IsNode new.graph n e → IsNode old.graph n e ⊎ Demanded rows asked e
  pub listeners : (n m : ℕ) (p : Port (List ℕ)) → HasListener new n m p → HasListener old n m p ⊎ AskFits rows new m p n
  pub solutions : (s : Solution) → Contains new.graph.solutions s → Contains old.graph.solutions s ⊎ SolutionFits rows new.graph s
  pub letters : (x : Sent) → Contains new.pending x → Contains old.pending x ⊎ LetterFits rows new x.from x.to x.load
  pub parts : (m i : ℕ) (who : List ℕ) → IsPartTold new m i who → IsPartTold old m i who ⊎ PartFits new m i who

pub grown_right : {rows : List Credential} {asked : Role} {old new : Net} → Grows old new → IsRight rows asked old → AddsRightly rows asked old new → IsRight rows asked new
grown_right {rows = rows} {asked = asked} grows right adds = record {
  found = record {
    graph = adds.graph;
    root_node = grows.nodes 0 (Rol asked) right.found.root_node;
    solutions_fit = λ s stands. elim (adds.solutions s stands) [
      | inl before ↦ solution_fits_stays grows s (right.found.solutions_fit s before)
      | inr fresh ↦ fresh
    ];
  };
  fit = adds.fit;
  demanded = λ n e node. elim (adds.nodes n e node) [ inl before ↦ right.demanded n e before | inr fresh ↦ fresh ];
  listeners_fit = λ n m p listens. elim (adds.listeners n m p listens) [
    | inl before ↦ ask_fits_stays grows m p n (right.listeners_fit n m p before)
    | inr fresh ↦ fresh
  ];
  letters_fit = λ x stands. elim (adds.letters x stands) [
    | inl before ↦ letter_fits_stays rows grows x.from x.to x.load (right.letters_fit x before)
    | inr fresh ↦ fresh
  ];
  parts_fit = λ m i who told. elim (adds.parts m i who told) [
    | inl before ↦ part_fits_stays grows m i who (right.parts_fit m i who before)
    | inr fresh ↦ fresh
  ];
}

-- what is added is paid
pub record AddsPaid (rows : List Credential) (old new : Net) : Type 0 where
  pub opened : (m : ℕ) → IsOpen new m → IsOpen old m ⊎ ((e : Expr) → IsNode new.graph m e → OpenedPaid rows new m e)
  pub via : (m : ℕ) (b : List ℕ) → IsBaseTold new m b → IsBaseTold old m b ⊎ ((r : Role) (t : List ℕ) → IsNode new.graph m (Link r t) →
      IsAsked new m (port.Via b) (Rol (record { owner = b; name = t })))
  pub told : (n m : ℕ) (p : Port (List ℕ)) (who : List ℕ) → HasListener new n m p → IsSolution new.graph n who →
      (HasListener old n m p × IsSolution old.graph n who) ⊎ (Contains new.pending (record { from = Node n; to = m; load = load.Tell p who }) ⊎ IsTaken new m p who)
  pub met : (m : ℕ) (parts : List Part) (who : List ℕ) → IsNode new.graph m (Meet parts) → ((i : ℕ) → i < length parts → IsPartTold new m i who) →
      ((i : ℕ) → i < length parts → IsPartTold old m i who) ⊎ IsSolution new.graph m who

pub grown_paid : {rows : List Credential} {asked : Role} {old new : Net} → Grows old new → IsRight rows asked old → IsGraph new.graph → IsPaid rows old → AddsPaid rows old new → IsPaid rows new
grown_paid {rows} {asked} {old} {new} grows right graph paid adds = record {
  root = elim paid.root [ inl before ↦ inl (open_stays grows 0 before) | inr start ↦ inr (start.0, grows.pending _ start.1) ];
  opened = λ m e node opens. elim (adds.opened m opens) [
    | inl before ↦
        let was = open_node right m before in
        opened_stays rows grows m e (paid.opened m e (node_was grows m e was.0 was.1 node) before)
    | inr fresh ↦ fresh e node
  ];
  via = λ m r t b node told. elim (adds.via m b told) [
    | inl before ↦
        let was = zip_left MonitorFits old.graph.nodes old.monitors right.fit m _ before.1 in
        asked_stays grows m (port.Via b) _ (paid.via m r t b (node_was grows m (Link r t) was.0 was.1 node) before)
    | inr fresh ↦ fresh r t node
  ];
  told = λ n m p who listens solution. elim (adds.told n m p who listens solution) [
    | inl before ↦ elim (paid.told n m p who before.0 before.1) [
      | inl pending ↦ inl (grows.pending _ pending)
      | inr taken ↦ inr (taken_stays grows m p who taken)
    ]
    | inr fresh ↦ fresh
  ];
  met = λ m parts who node all. elim (adds.met m parts who node all) [
    | inl before ↦
        let range = graph.parts_in_range m (Meet parts) node in
        let first = before 0 (omega (arith, range.0)) in
        let was = zip_left MonitorFits old.graph.nodes old.monitors right.fit m _ first.1 in
        solution_stays grows m who (paid.met m parts who (node_was grows m (Meet parts) was.0 was.1 node) before)
    | inr fresh ↦ fresh
  ];
}

pub steady_grown : {rows : List Credential} {asked : Role} {old new : Net} → Grows old new → IsSteady rows asked old → AddsRightly rows asked old new → AddsPaid rows old new → IsSteady rows asked new
steady_grown grows steady rightly paid = record {
  right = grown_right grows steady.right rightly;
  paid = grown_paid grows steady.right rightly.graph steady.paid paid;
}

-- a new monitor was told nothing
pub new_bases_none : (e : Expr) (x : List (List ℕ)) (b : List ℕ) → new_monitor e ≡ monitor.Link x → Contains x b → ⊥
new_bases_none (Link r t) x b e among =
    let same : [] ≡ x = cc in
    Contains-none b (subst (λ (y : List (List ℕ)). Contains y b) (sym same) among)
new_bases_none _ x b e among = cc

pub new_parts_none : (e : Expr) (x : MeetTold) (i : ℕ) (who : List ℕ) → new_monitor e ≡ monitor.Meet x → HasTold x i who → ⊥
new_parts_none (Meet parts) x i who e told =
    let same : record { parts = length parts; told = set.empty } ≡ x = cc in
    false≢true (sym (set.contains-empty told_order (i, who)) ∙ subst (λ (y : MeetTold). HasTold y i who) (sym same) told)
new_parts_none _ x i who e told = cc

pub new_monitor_fits : (e : Expr) → MonitorFits e (new_monitor e)
new_monitor_fits (Meet parts) = cc
new_monitor_fits _ = tt

-- a node of a demanded expression is added, with its monitor
module _ (rows : List Credential) (asked : Role) (g : GraphState) (ms : List Monitor) (pending : List Sent) (e : Expr) where
  abbrev old : Net
  old = record { graph = g; monitors = ms; pending = pending }

  abbrev new : Net
  new = record { graph = with_node g e; monitors = ms ++ new_monitor e ∷ []; pending = pending }

  listens_on : (n : ℕ) (l : Listening) → Listens g n l → Listens (with_node g e) n l
  listens_on n l listens = subst (λ ls. Contains ls l) (sym (listed_at-pushed g.listeners n)) listens

  listens_before : (n : ℕ) (l : Listening) → Listens (with_node g e) n l → Listens g n l
  listens_before n l listens = subst (λ ls. Contains ls l) (listed_at-pushed g.listeners n) listens

  bases_before : (m : ℕ) (b : List ℕ) → IsBaseTold new m b → IsBaseTold old m b
  bases_before m b (x, at, among) =
      elim (slice_get_push_cases ms (new_monitor e) m (monitor.Link x) at) [
        | inl before ↦ (x, before, among)
        | inr fresh ↦ absurd (new_bases_none e x b fresh.1 among)
      ]

  parts_before : (m i : ℕ) (who : List ℕ) → IsPartTold new m i who → IsPartTold old m i who
  parts_before m i who (x, at, told) =
      elim (slice_get_push_cases ms (new_monitor e) m (monitor.Meet x) at) [
        | inl before ↦ (x, before, told)
        | inr fresh ↦ absurd (new_parts_none e x i who fresh.1 told)
      ]

  pub node_grows : Grows old new
  node_grows = record {
    nodes = λ n f node. slice_get_stays g.nodes (e ∷ []) n f node;
    listeners = listens_on;
    solutions = λ s stands. stands;
    bases = λ m b told. (told.0, slice_get_stays ms (new_monitor e ∷ []) m (monitor.Link told.0) told.1, told.2);
    parts = λ m i who told. (told.0, slice_get_stays ms (new_monitor e ∷ []) m (monitor.Meet told.0) told.1, told.2);
    pending = λ x stands. stands;
    start = λ start. start;
  }

  pub node_steady : IsSteady rows asked old → (Contains g.nodes e → ⊥) → HasPartsInRange e → Demanded rows asked e → IsSteady rows asked new
  node_steady steady absent range demanded =
      steady_grown node_grows steady (record {
        graph = graph_with_node g e steady.right.found.graph absent range;
        fit = all_zipped_more MonitorFits g.nodes ms e (new_monitor e) steady.right.fit (new_monitor_fits e);
        nodes = λ n f node. elim (slice_get_push_cases g.nodes e n f node) [ inl before ↦ inl before | inr fresh ↦ inr (subst (Demanded rows asked) fresh.1 demanded) ];
        listeners = λ n m p listens. inl (listens_before n (record { asker = m; port = p }) listens);
        solutions = λ s stands. inl stands;
        letters = λ x stands. inl stands;
        parts = λ m i who told. inl (parts_before m i who told);
      }) (record {
        opened = λ m opens. inl (elim opens [ inl l ↦ inl (l.0, l.1, listens_before m (record { asker = l.0; port = l.1 }) l.2) | inr root ↦ inr root ]);
        via = λ m b told. inl (bases_before m b told);
        told = λ n m p who listens solution. inl (listens_before n (record { asker = m; port = p }) listens, solution);
        met = λ m parts who node all. inl (λ i below. parts_before m i who (all i below));
      })

-- the node of a receiver sends more
module _ (rest : List Sent) (node : ℕ) (outs more : List (ℕ × Load (List ℕ))) where
  sent_split : sent_by node (outs ++ more) ≡ sent_by node outs ++ sent_by node more
  sent_split = map-append (λ (out : ℕ × Load (List ℕ)). record { from = Node node; to = out.0; load = out.1 }) outs more

  pub pending_on : (x : Sent) → Contains (rest ++ sent_by node outs) x → Contains (rest ++ sent_by node (outs ++ more)) x
  pending_on x stands =
      rw sent_split (elim (Contains-append_cases rest (sent_by node outs) x stands) [
        | inl other ↦ Contains-append_left rest (sent_by node outs ++ sent_by node more) x other
        | inr sent ↦ Contains-append_right rest (sent_by node outs ++ sent_by node more) x (Contains-append_left (sent_by node outs) (sent_by node more) x sent)
      ])

  pub pending_new : (x : Sent) → Contains (sent_by node more) x → Contains (rest ++ sent_by node (outs ++ more)) x
  pending_new x stands =
      rw sent_split (Contains-append_right rest (sent_by node outs ++ sent_by node more) x (Contains-append_right (sent_by node outs) (sent_by node more) x stands))

  pub pending_cases : (x : Sent) → Contains (rest ++ sent_by node (outs ++ more)) x → Contains (rest ++ sent_by node outs) x ⊎ Contains (sent_by node more) x
  pending_cases x stands =
      let split : Contains (rest ++ (sent_by node outs ++ sent_by node more)) x = rw sent_split at stands in
      elim (Contains-append_cases rest (sent_by node outs ++ sent_by node more) x split) [
        | inl other ↦ inl (Contains-append_left rest (sent_by node outs) x other)
        | inr sent ↦ elim (Contains-append_cases (sent_by node outs) (sent_by node more) x sent) [
          | inl before ↦ inl (Contains-append_right rest (sent_by node outs) x before)
          | inr fresh ↦ inr fresh
        ]
      ]

  start_no_node : (n : ℕ) → Contains (sent_by node more) (record { from = Environment; to = n; load = load.Start }) → ⊥
  start_no_node n stands =
      let from = mapped (λ (out : ℕ × Load (List ℕ)). record { from = Node node; to = out.0; load = out.1 }) more (record { from = Environment; to = n; load = load.Start }) stands in
      let same : Node node ≡ Environment = ap (λ (x : Sent). x.from) from.is in
      cc

  pub start_before : (n : ℕ) → Contains (rest ++ sent_by node (outs ++ more)) (record { from = Environment; to = n; load = load.Start }) → Contains (rest ++ sent_by node outs) (record { from = Environment; to = n; load = load.Start })
  start_before n stands =
      elim (pending_cases _ stands) [ inl before ↦ before | inr fresh ↦ absurd (start_no_node n fresh) ]

  -- letters that fit are added
  module _ (g : GraphState) (ms : List Monitor) where
    abbrev quiet : Net
    quiet = record { graph = g; monitors = ms; pending = rest ++ sent_by node outs }

    abbrev loud : Net
    loud = record { graph = g; monitors = ms; pending = rest ++ sent_by node (outs ++ more) }

    pub letters_grow : Grows quiet loud
    letters_grow = record {
      nodes = λ n f at. at;
      listeners = λ n l listens. listens;
      solutions = λ s stands. stands;
      bases = λ m b told. told;
      parts = λ m i who told. told;
      pending = pending_on;
      start = λ start. (start.0, start_before start.0 start.1);
    }

    pub letters_steady : (rows : List Credential) (asked : Role) → IsSteady rows asked quiet →
        ((x : Sent) → Contains (sent_by node more) x → LetterFits rows loud x.from x.to x.load) → IsSteady rows asked loud
    letters_steady rows asked steady fits =
        steady_grown letters_grow steady (record {
          graph = steady.right.found.graph;
          fit = steady.right.fit;
          nodes = λ n f at. inl at;
          listeners = λ n m p listens. inl listens;
          solutions = λ s stands. inl stands;
          letters = λ x stands. elim (pending_cases x stands) [ inl before ↦ inl before | inr fresh ↦ inr (fits x fresh) ];
          parts = λ m i who told. inl told;
        }) (record {
          opened = λ m opens. inl (elim opens [
            | inl l ↦ inl l
            | inr root ↦ inr (root.0, λ start. root.1 (start.0, pending_on _ start.1))
          ]);
          via = λ m b told. inl told;
          told = λ n m p who listens solution. inl (listens, solution);
          met = λ m parts who at all. inl all;
        })

-- a search stays steady where a node has a new solution and tells its listeners, and where a node hears an Ask

-- the members of a node are its solutions
pub solution_of_member : (g : GraphState) (n : ℕ) (who : List ℕ) → Contains (members_of g n) who → IsSolution g n who
solution_of_member g n who among =
    let from = mapped (λ (s : Solution). s.who) (filter (λ (s : Solution). s.node == n) g.solutions) who among in
    let kept = filtered (λ (s : Solution). s.node == n) g.solutions from.from from.among in
    let at : from.from.node ≡ n = eqb-true from.from.node n kept.1 in
    (from.from.reason, subst (λ (m : ℕ). Contains g.solutions (record { node = m; who = who; reason = from.from.reason })) at (subst (λ (w : List ℕ). Contains g.solutions (record { node = from.from.node; who = w; reason = from.from.reason })) from.is kept.0))

pub member_of_solution : (g : GraphState) (n : ℕ) (who : List ℕ) → IsSolution g n who → Contains (members_of g n) who
member_of_solution g n who (why, stands) =
    Contains-map (λ (s : Solution). s.who) (filter (λ (s : Solution). s.node == n) g.solutions) (record { node = n; who = who; reason = why })
    (kept_by (λ (s : Solution). s.node == n) g.solutions (record { node = n; who = who; reason = why }) stands (eq-eqb n n refl))

module _ (rows : List Credential) (asked : Role) (g : GraphState) (ms : List Monitor) (rest : List Sent) (node : ℕ) (outs : List (ℕ × Load (List ℕ))) where
  abbrev at_work : Net
  at_work = record { graph = g; monitors = ms; pending = rest ++ sent_by node outs }

  abbrev out_sent : ℕ × Load (List ℕ) → Sent
  out_sent out = record { from = Node node; to = out.0; load = out.1 }

  -- a new solution
  module _ (who : List ℕ) (why : Reason ℕ (List ℕ)) where
    abbrev solution : Solution
    solution = record { node = node; who = who; reason = why }

    abbrev solved : Net
    solved = record { graph = with_solution g solution; monitors = ms; pending = rest ++ sent_by node (outs ++ new_tells g node who) }

    abbrev tell_of : Listening → ℕ × Load (List ℕ)
    tell_of l = (l.asker, load.Tell l.port who)

    pub solve_grows : Grows at_work solved
    solve_grows = record {
      nodes = λ n f at. at;
      listeners = λ n l listens. listens;
      solutions = λ s stands. Contains-append_left g.solutions (solution ∷ []) s stands;
      bases = λ m b told. told;
      parts = λ m i w told. told;
      pending = pending_on rest node outs (new_tells g node who);
      start = λ start. (start.0, start_before rest node outs (new_tells g node who) start.0 start.1);
    }

    tells_fit : (x : Sent) → Contains (sent_by node (new_tells g node who)) x → LetterFits rows solved x.from x.to x.load
    tells_fit x stands =
        let out = mapped out_sent (new_tells g node who) x stands in
        let tell = mapped tell_of (listeners_of g node) out.from out.among in
        let same : out_sent (tell_of tell.from) ≡ x = ap out_sent tell.is ∙ out.is in
        subst (λ (y : Sent). LetterFits rows solved y.from y.to y.load) same (tell.among, (why, Contains-push g.solutions solution))

    tell_sent : (m : ℕ) (p : Port (List ℕ)) → HasListener at_work node m p → Contains (rest ++ sent_by node (outs ++ new_tells g node who)) (record { from = Node node; to = m; load = load.Tell p who })
    tell_sent m p listens =
        pending_new rest node outs (new_tells g node who) (record { from = Node node; to = m; load = load.Tell p who })
        (Contains-map out_sent (new_tells g node who) (m, load.Tell p who) (Contains-map tell_of (listeners_of g node) (record { asker = m; port = p }) listens))

    pub solve_steady : IsSteady rows asked at_work → (IsSolution g node who → ⊥) → Fits g node who why → SolutionFits rows g solution → IsSteady rows asked solved
    solve_steady steady absent fits right =
        steady_grown solve_grows steady (record {
          graph = graph_with_solution g solution steady.right.found.graph absent fits;
          fit = steady.right.fit;
          nodes = λ n f at. inl at;
          listeners = λ n m p listens. inl listens;
          solutions = λ s stands. elim (Contains-push_cases g.solutions solution s stands) [
            | inl before ↦ inl before
            | inr same ↦ inr (subst (SolutionFits rows solved.graph) same (solution_fits_stays solve_grows solution right))
          ];
          letters = λ x stands. elim (pending_cases rest node outs (new_tells g node who) x stands) [
            | inl before ↦ inl before
            | inr fresh ↦ inr (tells_fit x fresh)
          ];
          parts = λ m i w told. inl told;
        }) (record {
          opened = λ m opens. inl (elim opens [
            | inl l ↦ inl l
            | inr root ↦ inr (root.0, λ start. root.1 (start.0, pending_on rest node outs (new_tells g node who) _ start.1))
          ]);
          via = λ m b told. inl told;
          told = λ n m p w listens found. elim (Contains-push_cases g.solutions solution (record { node = n; who = w; reason = found.0 }) found.1) [
            | inl before ↦ inl (listens, (found.0, before))
            | inr same ↦
                let at : node ≡ n = ap (λ (s : Solution). s.node) same in
                let is : who ≡ w = ap (λ (s : Solution). s.who) same in
                let sent = tell_sent m p (subst (λ (k : ℕ). HasListener at_work k m p) (sym at) listens) in
                inr (inl (subst (λ (v : List ℕ). Contains solved.pending (record { from = Node n; to = m; load = load.Tell p v })) is (subst (λ (k : ℕ). Contains solved.pending (record { from = Node k; to = m; load = load.Tell p who })) at sent)))
          ];
          met = λ m parts w at all. inl all;
        })

  -- a new listener
  module _ (asker : ℕ) (p : Port (List ℕ)) where
    abbrev listening : Listening
    listening = record { asker = asker; port = p }

    abbrev heard : Net
    heard = record { graph = with_listener g node listening; monitors = ms; pending = rest ++ sent_by node (outs ++ known_tells g node asker p) }

    abbrev known_tell : List ℕ → ℕ × Load (List ℕ)
    known_tell who = (asker, load.Tell p who)

    module _ (within : node < length g.listeners) where
      still_listens : (n : ℕ) (k : Listening) → Listens g n k → Listens (with_listener g node listening) n k
      still_listens n k listens =
          elim (listed_with_cases g.listeners node listening n within) [
            | inl here ↦ subst (λ ls. Contains ls k) (sym here.1) (Contains-append_left (listeners_of g n) (listening ∷ []) k listens)
            | inr other ↦ subst (λ ls. Contains ls k) (sym other) listens
          ]

      pub listens_new : Listens (with_listener g node listening) node listening
      listens_new =
          subst (λ ls. Contains ls listening) (sym (get_or-set_same g.listeners node (list_at g.listeners node ++ listening ∷ []) [] within)) (Contains-push (listeners_of g node) listening)

      listens_cases : (n : ℕ) (k : Listening) → Listens (with_listener g node listening) n k → Listens g n k ⊎ ((n ≡ node) × (listening ≡ k))
      listens_cases n k listens =
          elim (listed_with_cases g.listeners node listening n within) [
            | inl here ↦ elim (Contains-push_cases (listeners_of g n) listening k (subst (λ ls. Contains ls k) here.1 listens)) [
              | inl before ↦ inl before
              | inr same ↦ inr (here.0, same)
            ]
            | inr other ↦ inl (subst (λ ls. Contains ls k) other listens)
          ]

      pub hear_grows : Grows at_work heard
      hear_grows = record {
        nodes = λ n f at. at;
        listeners = still_listens;
        solutions = λ s stands. stands;
        bases = λ m b told. told;
        parts = λ m i w told. told;
        pending = pending_on rest node outs (known_tells g node asker p);
        start = λ start. (start.0, start_before rest node outs (known_tells g node asker p) start.0 start.1);
      }

      known_fit : (x : Sent) → Contains (sent_by node (known_tells g node asker p)) x → LetterFits rows heard x.from x.to x.load
      known_fit x stands =
          let out = mapped out_sent (known_tells g node asker p) x stands in
          let tell = mapped known_tell (members_of g node) out.from out.among in
          let same : out_sent (known_tell tell.from) ≡ x = ap out_sent tell.is ∙ out.is in
          subst (λ (y : Sent). LetterFits rows heard y.from y.to y.load) same (listens_new, solution_of_member g node tell.from tell.among)

      known_sent : (who : List ℕ) → IsSolution g node who → Contains heard.pending (record { from = Node node; to = asker; load = load.Tell p who })
      known_sent who found =
          pending_new rest node outs (known_tells g node asker p) (record { from = Node node; to = asker; load = load.Tell p who })
          (Contains-map out_sent (known_tells g node asker p) (asker, load.Tell p who) (Contains-map known_tell (members_of g node) who (member_of_solution g node who found)))

      pub hear_steady : IsSteady rows asked at_work → (Listens g node listening → ⊥) → node < length g.nodes → asker < length g.nodes → AskFits rows at_work asker p node →
          ((e : Expr) → IsNode g node e → OpenedPaid rows at_work node e) → IsSteady rows asked heard
      hear_steady steady absent node_in asker_in fits opened =
          steady_grown hear_grows steady (record {
            graph = graph_with_listener g node listening steady.right.found.graph absent node_in asker_in;
            fit = steady.right.fit;
            nodes = λ n f at. inl at;
            listeners = λ n m q listens. elim (listens_cases n (record { asker = m; port = q }) listens) [
              | inl before ↦ inl before
              | inr fresh ↦
                  let here = ask_fits_stays hear_grows asker p node fits in
                  inr (subst (λ (k : ℕ). AskFits rows heard m q k) (sym fresh.0) (subst (λ (l : Listening). AskFits rows heard l.asker l.port node) fresh.1 here))
            ];
            solutions = λ s stands. inl stands;
            letters = λ x stands. elim (pending_cases rest node outs (known_tells g node asker p) x stands) [
              | inl before ↦ inl before
              | inr fresh ↦ inr (known_fit x fresh)
            ];
            parts = λ m i w told. inl told;
          }) (record {
            opened = λ m opens. elim opens [
              | inl l ↦ elim (listens_cases m (record { asker = l.0; port = l.1 }) l.2) [
                | inl before ↦ inl (inl (l.0, l.1, before))
                | inr fresh ↦ inr (λ e at. opened_stays rows hear_grows m e (subst (λ (k : ℕ). OpenedPaid rows at_work k e) (sym fresh.0) (opened e (subst (λ (k : ℕ). IsNode g k e) fresh.0 at))))
              ]
              | inr root ↦ inl (inr (root.0, λ start. root.1 (start.0, pending_on rest node outs (known_tells g node asker p) _ start.1)))
            ];
            via = λ m b told. inl told;
            told = λ n m q w listens found. elim (listens_cases n (record { asker = m; port = q }) listens) [
              | inl before ↦ inl (before, found)
              | inr fresh ↦
                  let sent = known_sent w (subst (λ (k : ℕ). IsSolution g k w) fresh.0 found) in
                  inr (inl (subst (λ (k : ℕ). Contains heard.pending (record { from = Node k; to = m; load = load.Tell q w })) (sym fresh.0) (subst (λ (l : Listening). Contains heard.pending (record { from = Node node; to = l.asker; load = load.Tell l.port w })) fresh.1 sent)))
            ];
            met = λ m parts w at all. inl all;
          })
