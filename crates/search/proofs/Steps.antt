-- The steps by which a node answers a letter keep a search steady.
use Rattle.std.proofs.Common.{ℕ, zero, suc, ◌+◌, ◌<◌, ◌↔◌, ◌≡◌, ◌∙◌, inl, inr, refl, sym, subst, ap, List, [], ◌∷◌, ◌++◌, Some, Contains, length, map, slice_get, arith, true, false, ◌≤◌, set, get_or, if◌then◌else◌}
use Rattle.std.proofs.lemmas.Option.{slice_get_within, same_Some, slice_get-get_or}
use Rattle.std.proofs.lemmas.List.Elements.{Contains-push}
use Rattle.names.specs.declared.roles.Role.{Role}
use Rattle.credential_text.specs.declared.credentials.Credential.{Credential}
use Rattle.credential_text.specs.declared.intersections.Part.{Part}
use Rattle.credential_text.specs.declared.exprs.Expr.{Expr}
use Rattle.credential_text.specs.declared.exprs.Expr.TheVariants.{Ent, Rol, Link, Meet}
use Rattle.credential_text.specs.Expr.{part_expr, HasPartsInRange}
use Rattle.rt0_rules.specs.Derivation.{leaf, Derives, DerivesEach, credential, link, meet, last, more}
use Rattle.rt0_rules.specs.Asks.{Asks, asks_body, asks_base, asks_part, Demanded, asked_by, Why, for_body, for_base, for_via, for_part, asks_via}
use Rattle.rt0_rules.proofs.Elements.{Contains-none, Contains-first, Contains-later, Contains-cons_cases}
use Rattle.rt0_rules.proofs.Distinct.{mapped}
use Rattle.rt0_rules.proofs.Unknown.{Contains-map}
use Rattle.cred_graph.specs.declared.listeners.Port.{Port}
use Rattle.cred_graph.specs.declared.listeners.Port.TheVariants as port
use Rattle.cred_graph.specs.declared.solutions.Reason.{Reason}
use Rattle.cred_graph.specs.declared.solutions.Reason.TheVariants as reason
use Rattle.cred_graph.specs.declared.solutions.Solution.{Solution}
use Rattle.cred_graph.specs.Graph.{GraphState, IsNode, IsSolution, Known, Listens, Fits, NodeGiven}
use Rattle.cred_graph.proofs.NodeListLemmas.{slice_get_pushed, slice_get_stays}
use Rattle.cred_graph.proofs.Growth.{with_node, with_listener}
use Rattle.scholten_core.specs.declared.parents.Parent.TheVariants.{Node}
use Rattle.search.specs.declared.letters.Load.{Load}
use Rattle.search.specs.declared.letters.Load.TheVariants as load
use Rattle.search.specs.declared.findings.Monitor.{Monitor}
use Rattle.search.specs.Net.{Net, Sent, sent_by, why_of, HasListener, IsAsked, AskFits, LetterFits, SolutionFits, OpenedPaid, IsSteady, IsTaken, PartFits, MonitorFits}
use Rattle.search.specs.Answers.{Progress, progress, net_at, new_monitor, AsksFor, AsksEach, Solves, HearsAsk, part_asks, Opens, TellsBase, TellsPart, TakesIn, TellsLast, MayTakeIn}
use Rattle.search.proofs.Tells.{new_tells, known_tells}
use Rattle.search.proofs.Kept.{Grows, known_stays, asks_more, asked_stays, zip_right, one_expr, part_fits_stays, node_grows, node_steady, letters_grow, letters_steady, pending_new, solve_grows, solve_steady, hear_grows, hear_steady, listens_new}
use Rattle.search.proofs.Told.{sound, tell_cases, base_grows, base_taken, base_steady, part_grows, part_taken, part_steady}
use Rattle.std.specs.FinSet as fin
use Rattle.std.proofs.lemmas.Bool.{cases_Bool, false≢true}
use Rattle.monitors.specs.LinkMonitor.{AddsKey}
use Rattle.monitors.specs.MeetMonitor.{MeetTold, HasTold, AllTold, with_tell}
use Rattle.search.specs.declared.findings.Monitor.TheVariants as monitor

pub same_net : (old new : Net) → new ≡ old → Grows old new
same_net old new e = subst (λ (n : Net). Grows old n) (sym e) (record {
  nodes = λ n f at. at;
  listeners = λ n l listens. listens;
  solutions = λ s stands. stands;
  bases = λ m b told. told;
  parts = λ m i who told. told;
  pending = λ x stands. stands;
  start = λ start. start;
})

pub grows_on : {a b c : Net} → Grows a b → Grows b c → Grows a c
grows_on first later = record {
  nodes = λ n e at. later.nodes n e (first.nodes n e at);
  listeners = λ n l listens. later.listeners n l (first.listeners n l listens);
  solutions = λ s stands. later.solutions s (first.solutions s stands);
  bases = λ m b told. later.bases m b (first.bases m b told);
  parts = λ m i who told. later.parts m i who (first.parts m i who told);
  pending = λ x stands. later.pending x (first.pending x stands);
  start = λ start. first.start (later.start start);
}

pub progress_is : (t : Progress) (g : GraphState) (ms : List Monitor) (outs : List (ℕ × Load (List ℕ))) → t.graph ≡ g → t.monitors ≡ ms → t.outs ≡ outs → t ≡ progress g ms outs
progress_is t g ms outs a b c =
    subst (λ (h : GraphState). t ≡ progress h ms outs) a (subst (λ (ns : List Monitor). t ≡ progress t.graph ns outs) b (subst (λ (os : List (ℕ × Load (List ℕ))). t ≡ progress t.graph t.monitors os) c refl))

-- these are the rows of the role
abbrev pub AreRowsOf : List Credential → Role → List Credential → Type 0
AreRowsOf C r own = (c : Credential) → Contains own c ↔ (Contains C c × (c.head ≡ r))

abbrev pub RowsFor : List Credential → Expr → List Credential → Type 0
RowsFor C (Ent d) own = Unit {0}
RowsFor C (Rol r) own = AreRowsOf C r own
RowsFor C (Link r n) own = Unit {0}
RowsFor C (Meet parts) own = Unit {0}

-- an ask of an intersection is of one of its parts
pub record IsPartAsk (i : ℕ) (parts : List Part) (e : Expr) (p : Port (List ℕ)) : Type 0 where
  pub offset : ℕ
  pub place : ℕ
  pub part : Part
  pub at : slice_get parts offset ≡ Some part
  pub place_is : place ≡ i + offset
  pub expr_is : e ≡ part_expr part
  pub port_is : p ≡ port.Part place

part_asked_from : (i : ℕ) (parts : List Part) (e : Expr) (p : Port (List ℕ)) → Contains (part_asks i parts) (e, p) → IsPartAsk i parts e p
part_asked_from i [] e p among = absurd (Contains-none (e, p) among)
part_asked_from i (q ∷ parts) e p among =
    elim (Contains-cons_cases (part_expr q, port.Part i) (part_asks (i + 1) parts) (e, p) among) [
      | inl same ↦ record { offset = 0; place = i; part = q; at = refl; place_is = omega arith; expr_is = ap (λ (w : Expr × Port (List ℕ)). w.0) (sym same); port_is = ap (λ (w : Expr × Port (List ℕ)). w.1) (sym same) }
      | inr later ↦
          let rest = part_asked_from (i + 1) parts e p later in
          record { offset = suc rest.offset; place = rest.place; part = rest.part; at = rest.at; place_is = omega (arith, rest.place_is); expr_is = rest.expr_is; port_is = rest.port_is }
    ]

pub record IsAskOfPart (parts : List Part) (e : Expr) (p : Port (List ℕ)) : Type 0 where
  pub place : ℕ
  pub part : Part
  pub at : slice_get parts place ≡ Some part
  pub expr_is : e ≡ part_expr part
  pub port_is : p ≡ port.Part place

part_asked : (i : ℕ) (parts : List Part) (e : Expr) (p : Port (List ℕ)) → i ≡ 0 → Contains (part_asks i parts) (e, p) → IsAskOfPart parts e p
part_asked i parts e p zero_is among =
    let from = part_asked_from i parts e p among in
    let place : from.offset ≡ from.place = omega (arith, from.place_is) in
    record { place = from.place; part = from.part; at = subst (λ (k : ℕ). slice_get parts k ≡ Some from.part) place from.at; expr_is = from.expr_is; port_is = from.port_is }

all_parts_asked : (i : ℕ) (parts : List Part) (k : ℕ) (q : Part) (place : ℕ) → place ≡ i + k → slice_get parts k ≡ Some q → Contains (part_asks i parts) (part_expr q, port.Part place)
all_parts_asked i [] k q place is at = cc
all_parts_asked i (p ∷ parts) zero q place is at =
    let same : p ≡ q = same_Some p q at in
    let here : i ≡ place = omega arith in
    subst (λ (w : Expr × Port (List ℕ)). Contains ((part_expr p, port.Part i) ∷ part_asks (i + 1) parts) w)
    (ap (λ (r : Part). (part_expr r, port.Part i)) same ∙ ap (λ (n : ℕ). (part_expr q, port.Part n)) here)
    (Contains-first (part_expr p, port.Part i) (part_asks (i + 1) parts))
all_parts_asked i (p ∷ parts) (suc k) q place is at =
    Contains-later (part_expr p, port.Part i) (part_asks (i + 1) parts) (part_expr q, port.Part place) (all_parts_asked (i + 1) parts k q place (omega arith) at)

module _ (rows : List Credential) (asked : Role) (rest : List Sent) (node : ℕ) where
  -- the search is steady still, and has what it had
  pub record Moves (s t : Progress) : Type 0 where
    pub grows : Grows (net_at s rest node) (net_at t rest node)
    pub steady : IsSteady rows asked (net_at t rest node)

  pub moves_on : (s t u : Progress) → Moves s t → Moves t u → Moves s u
  moves_on s t u first later = record { grows = grows_on first.grows later.grows; steady = later.steady }

  pub stays : (s t : Progress) → IsSteady rows asked (net_at s rest node) → t ≡ s → Moves s t
  stays s t steady same = subst (Moves s) (sym same) (record { grows = same_net (net_at s rest node) (net_at s rest node) refl; steady = steady })

  -- one Ask to a node that is there
  asks_there : (s : Progress) (to : ℕ) (p : Port (List ℕ)) (d e : Expr) → IsSteady rows asked (net_at s rest node) → IsNode s.graph node d → IsNode s.graph to e → Asks rows (Known s.graph) d (why_of p) e →
      Moves s (progress s.graph s.monitors (s.outs ++ (to, load.Ask p) ∷ []))
  asks_there s to p d e steady asker at asks =
      let out : List (ℕ × Load (List ℕ)) = (to, load.Ask p) ∷ [] in
      let loud : Net = net_at (progress s.graph s.monitors (s.outs ++ out)) rest node in
      record {
        grows = letters_grow rest node s.outs out s.graph s.monitors;
        steady = letters_steady rest node s.outs out s.graph s.monitors rows asked steady (λ x stands.
            elim (Contains-cons_cases (record { from = Node node; to = to; load = load.Ask p }) [] x stands) [
              | inl same ↦ subst (λ (y : Sent). LetterFits rows loud y.from y.to y.load) same (d, e, asker, at, asks)
              | inr none ↦ absurd (Contains-none x none)
            ]);
      }

  ask_sent : (s : Progress) (to : ℕ) (p : Port (List ℕ)) → Contains (rest ++ sent_by node (s.outs ++ (to, load.Ask p) ∷ [])) (record { from = Node node; to = to; load = load.Ask p })
  ask_sent s to p = pending_new rest node s.outs ((to, load.Ask p) ∷ []) (record { from = Node node; to = to; load = load.Ask p }) (Contains-first (record { from = Node node; to = to; load = load.Ask p }) [])

  -- an Ask that stands to reason
  pub record Asked (s t : Progress) (p : Port (List ℕ)) (e : Expr) : Type 0 where
    pub moves : Moves s t
    pub asked_now : IsAsked (net_at t rest node) node p e

  asks_had : (s t : Progress) (e : Expr) (p : Port (List ℕ)) (to : ℕ) (d : Expr) → IsSteady rows asked (net_at s rest node) → IsNode s.graph node d → Asks rows (Known s.graph) d (why_of p) e →
      IsNode s.graph to e → t ≡ progress s.graph s.monitors (s.outs ++ (to, load.Ask p) ∷ []) → Asked s t p e
  asks_had s t e p to d steady asker asks at same =
      subst (λ (u : Progress). Asked s u p e) (sym same) (record {
        moves = asks_there s to p d e steady asker at asks;
        asked_now = (to, at, inr (ask_sent s to p));
      })

  asks_new : (s t : Progress) (e : Expr) (p : Port (List ℕ)) (d : Expr) → IsSteady rows asked (net_at s rest node) → IsNode s.graph node d → Asks rows (Known s.graph) d (why_of p) e →
      (Contains s.graph.nodes e → ⊥) → HasPartsInRange e → t ≡ progress (with_node s.graph e) (s.monitors ++ new_monitor e ∷ []) (s.outs ++ (length s.graph.nodes, load.Ask p) ∷ []) → Asked s t p e
  asks_new s t e p d steady asker asks absent range same =
      let mid : Progress = progress (with_node s.graph e) (s.monitors ++ new_monitor e ∷ []) s.outs in
      let pending : List Sent = rest ++ sent_by node s.outs in
      let demanded : Demanded rows asked e = asked_by (why_of p) (steady.right.demanded node d asker) (asks_more (sound rows asked (net_at s rest node) steady.right steady.paid) asks) in
      let added : Moves s mid = record {
        grows = node_grows rows asked s.graph s.monitors pending e;
        steady = node_steady rows asked s.graph s.monitors pending e steady absent range demanded;
      } in
      let later = asks_had mid t e p (length s.graph.nodes) d added.steady (added.grows.nodes node d asker) (asks_more (known_stays added.grows) asks) (slice_get_pushed s.graph.nodes e) same in
      record { moves = moves_on s mid t added later.moves; asked_now = later.asked_now }

  pub asks_for : (s t : Progress) (e : Expr) (p : Port (List ℕ)) (d : Expr) → AsksFor s t e p → IsSteady rows asked (net_at s rest node) → IsNode s.graph node d → Asks rows (Known s.graph) d (why_of p) e → Asked s t p e
  asks_for s t e p d (to, false, (at, graph), outs, monitors) steady asker asks =
      asks_had s t e p to d steady asker asks at (progress_is t s.graph s.monitors (s.outs ++ (to, load.Ask p) ∷ []) graph monitors outs)
  asks_for s t e p d (to, true, (absent, range, place, graph), outs, monitors) steady asker asks =
      asks_new s t e p d steady asker asks absent range
      (progress_is t (with_node s.graph e) (s.monitors ++ new_monitor e ∷ []) (s.outs ++ (length s.graph.nodes, load.Ask p) ∷ []) graph monitors (outs ∙ ap (λ (k : ℕ). s.outs ++ (k, load.Ask p) ∷ []) place))

  -- asks that stand to reason, in turn
  pub record AskedEach (s t : Progress) (ws : List (Expr × Port (List ℕ))) : Type 0 where
    pub moves : Moves s t
    pub asked_now : (e : Expr) (p : Port (List ℕ)) → Contains ws (e, p) → IsAsked (net_at t rest node) node p e

  pub asks_each : (ws : List (Expr × Port (List ℕ))) (s t : Progress) (d : Expr) → AsksEach s ws t → IsSteady rows asked (net_at s rest node) → IsNode s.graph node d →
      ((e : Expr) (p : Port (List ℕ)) → Contains ws (e, p) → Asks rows (Known s.graph) d (why_of p) e) → AskedEach s t ws
  asks_each [] s t d same steady asker asks = record { moves = stays s t steady same; asked_now = λ e p among. absurd (Contains-none (e, p) among) }
  asks_each (w ∷ ws) s t d (mid, here, later) steady asker asks =
      let first = asks_for s mid w.0 w.1 d here steady asker (asks w.0 w.1 (Contains-first w ws)) in
      let others = asks_each ws mid t d later first.moves.steady (first.moves.grows.nodes node d asker)
      (λ e p among. asks_more (known_stays first.moves.grows) (asks e p (Contains-later w ws (e, p) among))) in
      record {
        moves = moves_on s mid t first.moves others.moves;
        asked_now = λ e p among. elim (Contains-cons_cases w ws (e, p) among) [
          | inl same ↦ subst (λ (v : Expr × Port (List ℕ)). IsAsked (net_at t rest node) node v.1 v.0) same (asked_stays others.moves.grows node w.1 w.0 first.asked_now)
          | inr among ↦ others.asked_now e p among
        ];
      }

  -- a solution that stands to reason
  pub record Solved (s t : Progress) (who : List ℕ) : Type 0 where
    pub moves : Moves s t
    pub solution : IsSolution t.graph node who

  pub solves : (s t : Progress) (who : List ℕ) (why : Reason ℕ (List ℕ)) → Solves s t node who why → IsSteady rows asked (net_at s rest node) → Fits s.graph node who why →
      SolutionFits rows s.graph (record { node = node; who = who; reason = why }) → Solved s t who
  solves s t who why (false, (there, graph), monitors, outs) steady fits right =
      let same = progress_is t s.graph s.monitors s.outs graph monitors outs in
      record { moves = stays s t steady same; solution = subst (λ (g : GraphState). IsSolution g node who) (sym graph) there }
  solves s t who why (true, (absent, graph), monitors, outs) steady fits right =
      let sol : Solution = record { node = node; who = who; reason = why } in
      let after : Progress = progress (record s.graph { solutions = s.graph.solutions ++ sol ∷ [] }) s.monitors (s.outs ++ new_tells s.graph node who) in
      let same : t ≡ after = progress_is t after.graph after.monitors after.outs graph monitors outs in
      subst (λ (u : Progress). Solved s u who) (sym same) (record {
        moves = record {
          grows = solve_grows rows asked s.graph s.monitors rest node s.outs who why;
          steady = solve_steady rows asked s.graph s.monitors rest node s.outs who why steady absent fits right;
        };
        solution = (why, Contains-push s.graph.solutions sol);
      })

  -- an Ask that is heard
  pub record Heard (s t : Progress) (m : ℕ) (p : Port (List ℕ)) : Type 0 where
    pub moves : Moves s t
    pub listener : HasListener (net_at t rest node) node m p

  pub hears : (s t : Progress) (m : ℕ) (p : Port (List ℕ)) → HearsAsk s t node m p → IsSteady rows asked (net_at s rest node) → AskFits rows (net_at s rest node) m p node →
      ((e : Expr) → IsNode s.graph node e → OpenedPaid rows (net_at s rest node) node e) → Heard s t m p
  hears s t m p (false, (there, graph), monitors, outs) steady fits opened =
      record {
        moves = stays s t steady (progress_is t s.graph s.monitors s.outs graph monitors outs);
        listener = subst (λ (g : GraphState). Listens g node (record { asker = m; port = p })) (sym graph) there;
      }
  hears s t m p (true, (absent, graph), monitors, outs) steady fits opened =
      let after : Progress = progress (with_listener s.graph node (record { asker = m; port = p })) s.monitors (s.outs ++ known_tells s.graph node m p) in
      let same : t ≡ after = progress_is t after.graph after.monitors after.outs graph monitors outs in
      let node_in : node < length s.graph.nodes = slice_get_within s.graph.nodes node fits.1 fits.3 in
      let asker_in : m < length s.graph.nodes = slice_get_within s.graph.nodes m fits.0 fits.2 in
      let within : node < length s.graph.listeners = omega (arith, steady.right.found.graph.one_list_each) in
      subst (λ (u : Progress). Heard s u m p) (sym same) (record {
        moves = record {
          grows = hear_grows rows asked s.graph s.monitors rest node s.outs m p within;
          steady = hear_steady rows asked s.graph s.monitors rest node s.outs m p within steady absent node_in asker_in fits opened;
        };
        listener = listens_new rows asked s.graph s.monitors rest node s.outs m p within;
      })

  -- a node that opens has paid what it owes
  pub record Opened (s t : Progress) (e : Expr) : Type 0 where
    pub moves : Moves s t
    pub paid : OpenedPaid rows (net_at t rest node) node e

  opens_role : (own : List Credential) (s t : Progress) (r : Role) → IsNode s.graph node (Rol r) → AsksEach s (map (λ c. (c.body, port.Body)) own) t → AreRowsOf rows r own → IsSteady rows asked (net_at s rest node) → Opened s t (Rol r)
  opens_role own s t r at asks are steady =
      let body : Credential → Expr × Port (List ℕ) = λ c. (c.body, port.Body) in
      let each = asks_each (map body own) s t (Rol r) asks steady at (λ e p among. row_asks e p among) in
      record { moves = each.moves; paid = λ c among head. each.asked_now c.body port.Body (Contains-map body own c ((are c).1 (among, head))) }
    where
      row_asks : (e : Expr) (p : Port (List ℕ)) → Contains {X = Expr × Port (List ℕ)} (map (λ c. (c.body, port.Body)) own) (e, p) → Asks rows (Known s.graph) (Rol r) (why_of p) e
      row_asks e p among =
          let from = mapped (λ (c : Credential). (c.body, port.Body)) own (e, p) among in
          let row = (are from.from).0 from.among in
          subst (λ (w : Expr × Port (List ℕ)). Asks rows (Known s.graph) (Rol r) (why_of w.1) w.0) from.is (asks_body from.from row.0 row.1)

  pub opens : (own : List Credential) (s t : Progress) (e : Expr) → IsNode s.graph node e → Opens own s t node e → RowsFor rows e own → IsSteady rows asked (net_at s rest node) → Opened s t e
  opens own s t (Ent d) at step are steady =
      let done = solves s t d reason.Leaf step steady at (record { expr = Ent d; node = at; derives = leaf; by_row = tt }) in
      record { moves = done.moves; paid = done.solution }
  opens own s t (Rol r) at step are steady = opens_role own s t r at step are steady
  opens own s t (Link r n) at step are steady =
      let each = asks_each ((Rol r, port.Base) ∷ []) s t (Link r n) step steady at (λ e p among.
      elim (Contains-cons_cases (Rol r, port.Base) [] (e, p) among) [
        | inl same ↦ subst (λ (w : Expr × Port (List ℕ)). Asks rows (Known s.graph) (Link r n) (why_of w.1) w.0) same (asks_base r n)
        | inr none ↦ absurd (Contains-none (e, p) none)
      ]) in
      record { moves = each.moves; paid = each.asked_now (Rol r) port.Base (Contains-first (Rol r, port.Base) []) }
  opens own s t (Meet parts) at step are steady =
      let each = asks_each (part_asks 0 parts) s t (Meet parts) step steady at (λ e p among.
      let part = part_asked 0 parts e p refl among in
      let ask : Asks rows (Known s.graph) (Meet parts) (why_of (port.Part part.place)) (part_expr part.part) = asks_part part.place part.part part.at in
      subst (λ (w : Port (List ℕ)). Asks rows (Known s.graph) (Meet parts) (why_of w) e) (sym part.port_is) (subst (λ (f : Expr). Asks rows (Known s.graph) (Meet parts) (why_of (port.Part part.place)) f) (sym part.expr_is) ask)) in
      record { moves = each.moves; paid = λ i p place. each.asked_now (part_expr p) (port.Part i) (all_parts_asked 0 parts i p i (omega arith) place) }

-- a search stays steady where a node takes in what it was told

-- why one expression asks another on a port
pub data BodyAsk (C : List Credential) : Expr → Expr → Type 0 where
  by_body : (r : Role) (c : Credential) → Contains C c → c.head ≡ r → BodyAsk C (Rol r) c.body

pub data BaseAsk : Expr → Expr → Type 0 where
  by_base : (r : Role) (n : List ℕ) → BaseAsk (Link r n) (Rol r)

pub data ViaAsk (K : List ℕ → Expr → Type 0) : List ℕ → Expr → Expr → Type 0 where
  by_via : (r : Role) (n b : List ℕ) → K b (Rol r) → ViaAsk K b (Link r n) (Rol (record { owner = b; name = n }))

pub data PartAsk : ℕ → Expr → Expr → Type 0 where
  by_part : (parts : List Part) (i : ℕ) (p : Part) → slice_get parts i ≡ Some p → PartAsk i (Meet parts) (part_expr p)

abbrev WhyAsk : List Credential → (List ℕ → Expr → Type 0) → Expr → Why → Expr → Type 0
WhyAsk C K e for_body f = BodyAsk C e f
WhyAsk C K e for_base f = BaseAsk e f
WhyAsk C K e (for_via b) f = ViaAsk K b e f
WhyAsk C K e (for_part i) f = PartAsk i e f

pub why_ask : {C : List Credential} {K : List ℕ → Expr → Type 0} {e f : Expr} {why : Why} → Asks C K e why f → WhyAsk C K e why f
why_ask (asks_body {r} c among head) = by_body r c among head
why_ask (asks_base r n) = by_base r n
why_ask (asks_via {r} n b member) = by_via r n b member
why_ask (asks_part {parts} i p at) = by_part parts i p at

-- who is known of each part of an intersection is derived there
derives_each : (C : List Credential) (who : List ℕ) (p : Part) (ps : List Part) → ((k : ℕ) (q : Part) → slice_get (p ∷ ps) k ≡ Some q → Derives C who (part_expr q)) → DerivesEach C who (p ∷ ps)
derives_each C who p [] each = last (each 0 p refl)
derives_each C who p (q ∷ ps) each = more (each 0 p refl) (derives_each C who q ps (λ k r at. each (suc k) r at))

meets : (C : List Credential) (who : List ℕ) (parts : List Part) → 2 ≤ length parts → ((k : ℕ) (q : Part) → slice_get parts k ≡ Some q → Derives C who (part_expr q)) → Derives C who (Meet parts)
meets C who [] several each = absurd (omega arith)
meets C who (p ∷ ps) several each = meet (derives_each C who p ps each)

-- writing one place and adding at the end
set_push : {X : Type 0} (xs : List X) (n : ℕ) (x y z : X) → slice_get xs n ≡ Some x → set (xs ++ z ∷ []) n y ≡ set xs n y ++ z ∷ []
set_push [] n x y z at = cc
set_push (w ∷ xs) zero x y z at = refl
set_push (w ∷ xs) (suc n) x y z at = ap (λ zs. w ∷ zs) (set_push xs n x y z at)

set_again : {X : Type 0} (xs : List X) (n : ℕ) (x : X) → slice_get xs n ≡ Some x → set xs n x ≡ xs
set_again [] n x at = refl
set_again (w ∷ xs) zero x at = ap (λ z. z ∷ xs) (sym (same_Some w x at))
set_again (w ∷ xs) (suc n) x at = ap (λ zs. w ∷ zs) (set_again xs n x at)

module _ (rows : List Credential) (asked : Role) (rest : List Sent) (node m : ℕ) (s : Progress) (steady : IsSteady rows asked (net_at s rest node)) where
  abbrev net : Net
  net = net_at s rest node

  derived : (who : List ℕ) (e : Expr) → Known s.graph who e → Derives rows who e
  derived = sound rows asked net steady.right steady.paid

  -- what the node was told, by one that it listens to
  pub record IsTold (p : Port (List ℕ)) (who : List ℕ) : Type 0 where
    pub asks : AskFits rows net node p m
    pub solution : IsSolution s.graph m who

  -- told on a body
  pub record BodyTold (who : List ℕ) : Type 0 where
    pub fits : Fits s.graph node who (reason.Body m)
    pub right : SolutionFits rows s.graph (record { node = node; who = who; reason = reason.Body m })

  pub body_told : (who : List ℕ) → IsTold port.Body who → BodyTold who
  body_told who told = by told.asks.0 told.asks.1 told.asks.2 told.asks.3 (why_ask told.asks.4)
    where
      by : (e f : Expr) → IsNode s.graph node e → IsNode s.graph m f → BodyAsk rows e f → BodyTold who
      by e f at body (by_body r c among head) = record {
        fits = (r, c.body, at, body, told.solution);
        right = record {
          expr = Rol r;
          node = at;
          derives = credential c among head (derived who c.body (m, body, told.solution));
          by_row = (c, among, subst (λ (q : Role). IsNode s.graph node (Rol q)) (sym head) at, body);
        };
      }

  -- told by way of a member of the base
  pub record ViaTold (b who : List ℕ) : Type 0 where
    pub fits : Fits s.graph node who (reason.Via b)
    pub right : SolutionFits rows s.graph (record { node = node; who = who; reason = reason.Via b })

  pub via_told : (b who : List ℕ) → IsTold (port.Via b) who → ViaTold b who
  via_told b who told = by b told.asks.0 told.asks.1 told.asks.2 told.asks.3 (why_ask told.asks.4)
    where
      by : (a : List ℕ) (e f : Expr) → IsNode s.graph node e → IsNode s.graph m f → ViaAsk (Known s.graph) a e f → ViaTold a who
      by a e f at given (by_via r n w member) = record {
        fits = (r, n, at, member, (m, given, told.solution));
        right = record {
          expr = Link r n;
          node = at;
          derives = link w (derived w (Rol r) member) (derived who (Rol (record { owner = w; name = n })) (m, given, told.solution));
          by_row = tt;
        };
      }

  -- told of a member of the base
  pub record BaseTold (base : List ℕ) : Type 0 where
    pub role : Role
    pub name : List ℕ
    pub at : IsNode s.graph node (Link role name)
    pub member : Known s.graph base (Rol role)

  pub base_told : (base : List ℕ) → IsTold port.Base base → BaseTold base
  base_told base told = by told.asks.0 told.asks.1 told.asks.2 told.asks.3 (why_ask told.asks.4)
    where
      by : (e f : Expr) → IsNode s.graph node e → IsNode s.graph m f → BaseAsk e f → BaseTold base
      by e f at asks (by_base r n) = record { role = r; name = n; at = at; member = (m, asks, told.solution) }

  -- told by a part
  pub part_told : (i : ℕ) (who : List ℕ) → IsTold (port.Part i) who → PartFits net node i who
  part_told i who told = by i told.asks.0 told.asks.1 told.asks.2 told.asks.3 (why_ask told.asks.4)
    where
      by : (j : ℕ) (e f : Expr) → IsNode s.graph node e → IsNode s.graph m f → PartAsk j e f → PartFits net node j who
      by j e f at asks (by_part parts k p place) = record { parts = parts; part = p; node = at; at = place; known = (m, asks, told.solution) }

  -- the monitor of a linked role, and of an intersection
  link_at : (mon : Monitor) (r : Role) (n : List ℕ) → slice_get s.monitors node ≡ Some mon → MonitorFits (Link r n) mon → (x : List (List ℕ)) × (slice_get s.monitors node ≡ Some (monitor.Link x))
  link_at (monitor.Link x) r n at fits = (x, at)
  link_at _ r n at fits = absurd fits

  meet_at : (mon : Monitor) (parts : List Part) → slice_get s.monitors node ≡ Some mon → MonitorFits (Meet parts) mon → (x : MeetTold) × (slice_get s.monitors node ≡ Some (monitor.Meet x)) × (x.parts ≡ length parts)
  meet_at (monitor.Meet x) parts at fits = (x, at, fits)
  meet_at _ parts at fits = absurd fits

  same_parts : (p q : List Part) → Meet p ≡ Meet q → p ≡ q
  same_parts p q e = cc

  -- what a part told is known of it
  known_part : (k : ℕ) (who : List ℕ) (parts : List Part) (q : Part) → PartFits net node k who → IsNode s.graph node (Meet parts) → slice_get parts k ≡ Some q → Known s.graph who (part_expr q)
  known_part k who parts q fits at place =
      let same : fits.parts ≡ parts = same_parts fits.parts parts (one_expr s.graph node (Meet fits.parts) (Meet parts) fits.node at) in
      let there : slice_get parts k ≡ Some fits.part = subst (λ (ps : List Part). slice_get ps k ≡ Some fits.part) same fits.at in
      subst (λ (p : Part). Known s.graph who (part_expr p)) (same_Some fits.part q (sym there ∙ place)) fits.known

  all_known : (i : ℕ) (who : List ℕ) (parts : List Part) (x : MeetTold) → PartFits net node i who → IsNode s.graph node (Meet parts) → slice_get s.monitors node ≡ Some (monitor.Meet x) → x.parts ≡ length parts →
      AllTold (with_tell x i who) who → (k : ℕ) (q : Part) → slice_get parts k ≡ Some q → Known s.graph who (part_expr q)
  all_known i who parts x fits at mat count all k q place =
      let below : k < x.parts = subst (λ (n : ℕ). k < n) (sym count) (slice_get_within parts k q place) in
      elim (tell_cases x i k who who (all k below)) [
        | inl told ↦ known_part k who parts q (steady.right.parts_fit node k who (x, mat, told)) at place
        | inr here ↦ known_part k who parts q (subst (λ (j : ℕ). PartFits net node j who) (sym here.0) fits) at place
      ]

  parts_count : (parts : List Part) (x : MeetTold) → IsNode s.graph node (Meet parts) → slice_get s.monitors node ≡ Some (monitor.Meet x) → x.parts ≡ length parts
  parts_count parts x at mat =
      let beside = zip_right MonitorFits s.graph.nodes s.monitors steady.right.fit node (Meet parts) at in
      subst (MonitorFits (Meet parts)) (same_Some beside.0 (monitor.Meet x) (sym beside.1 ∙ mat)) beside.2

  pub last_fits : (i : ℕ) (who : List ℕ) → IsTold (port.Part i) who → TellsLast s.graph s.monitors node i who
  last_fits i who told x mat all =
      let fits = part_told i who told in
      let known = all_known i who fits.parts x fits fits.node mat (parts_count fits.parts x fits.node mat) all in
      (fits.parts, fits.node, λ k d below. known k (get_or fits.parts k d) (slice_get-get_or fits.parts k d below))

  pub may_take_in : (p : Port (List ℕ)) (who : List ℕ) → IsTold p who → MayTakeIn s.graph s.monitors node m p who
  may_take_in port.Body who told = (body_told who told).fits
  may_take_in (port.Via b) who told = (via_told b who told).fits
  may_take_in port.Base base told =
      let is = base_told base told in
      let beside = zip_right MonitorFits s.graph.nodes s.monitors steady.right.fit node (Link is.role is.name) is.at in
      ((is.role, is.name, is.at), link_at beside.0 is.role is.name beside.1 beside.2)
  may_take_in (port.Part i) who told =
      let fits = part_told i who told in
      let beside = zip_right MonitorFits s.graph.nodes s.monitors steady.right.fit node (Meet fits.parts) fits.node in
      let x = meet_at beside.0 fits.parts beside.1 beside.2 in
      ((x.0, x.1, subst (λ (n : ℕ). i < n) (sym x.2) (slice_get_within fits.parts i fits.part fits.at)), last_fits i who told)

  -- the node has taken in what it was told, and the search is steady
  pub record TakenIn (t : Progress) (p : Port (List ℕ)) (who : List ℕ) : Type 0 where
    pub moves : Moves rows asked rest node s t
    pub taken : IsTaken (net_at t rest node) node p who

  same_name : (r q : Role) (n k : List ℕ) → Link r n ≡ Link q k → n ≡ k
  same_name r q n k e = cc

  same_base : (r q : Role) (n k : List ℕ) → Link r n ≡ Link q k → r ≡ q
  same_base r q n k e = cc

  -- the member's role is asked, and the monitor has heard the member
  base_after : (base : List ℕ) (r : Role) (name : List ℕ) (x : List (List ℕ)) (u t : Progress) → IsNode s.graph node (Link r name) → Asked rows asked rest node s u (port.Via base) (Rol (record { owner = base; name = name })) →
      slice_get u.monitors node ≡ Some (monitor.Link x) → t ≡ record u { monitors = set u.monitors node (monitor.Link (x ++ base ∷ [])) } → TakenIn t port.Base base
  base_after base r name x u t at asked_u mat same =
      let pending : List Sent = rest ++ sent_by node u.outs in
      let at_u : IsNode u.graph node (Link r name) = asked_u.moves.grows.nodes node (Link r name) at in
      subst (λ (v : Progress). TakenIn v port.Base base) (sym same) (record {
        moves = record {
          grows = grows_on asked_u.moves.grows (base_grows rows asked u.graph u.monitors pending node x base mat);
          steady = base_steady rows asked u.graph u.monitors pending node x base mat asked_u.moves.steady (λ q k there.
              let is : name ≡ k = same_name r q name k (one_expr u.graph node (Link r name) (Link q k) at_u there) in
              subst (λ (n : List ℕ). IsAsked (net_at u rest node) node (port.Via base) (Rol (record { owner = base; name = n }))) is asked_u.asked_now);
        };
        taken = base_taken rows asked u.graph u.monitors pending node x base mat;
      })

  told_base_new : (base : List ℕ) (t : Progress) (r : Role) (name : List ℕ) (ms : List Monitor) (x : List (List ℕ)) → IsTold port.Base base → IsNode s.graph node (Link r name) → slice_get s.monitors node ≡ Some (monitor.Link x) →
      ms ≡ set s.monitors node (monitor.Link (x ++ base ∷ [])) → AsksFor (record s { monitors = ms }) t (Rol (record { owner = base; name = name })) (port.Via base) → TakenIn t port.Base base
  told_base_new base t r name ms x told at mat ms_is (to, new, given, outs, monitors) =
      let e : Expr = Rol (record { owner = base; name = name }) in
      let y : Monitor = monitor.Link (x ++ base ∷ []) in
      let out : List (ℕ × Load (List ℕ)) = (to, load.Ask (port.Via base)) ∷ [] in
      let is = base_told base told in
      let same_role : is.role ≡ r = same_base is.role r is.name name (one_expr s.graph node (Link is.role is.name) (Link r name) is.at at) in
      let asks : Asks rows (Known s.graph) (Link r name) (for_via base) e = asks_via name base (subst (λ (q : Role). Known s.graph base (Rol q)) same_role is.member) in
      elim new as (λ b. NodeGiven s.graph t.graph e to b → t.monitors ≡ (if b then ms ++ new_monitor e ∷ [] else ms) → TakenIn t port.Base base) [
        | false ↦ λ had stay.
            let u : Progress = progress s.graph s.monitors (s.outs ++ out) in
            base_after base r name x u t at (asks_for rows asked rest node s u e (port.Via base) (Link r name) (to, false, (had.0, refl), refl, refl) steady at asks) mat
            (progress_is t s.graph (set s.monitors node y) (s.outs ++ out) had.1 (stay ∙ ms_is) outs)
        | true ↦ λ added more.
            let g : GraphState = record s.graph { nodes = s.graph.nodes ++ e ∷ []; listeners = s.graph.listeners ++ [] ∷ [] } in
            let u : Progress = progress g (s.monitors ++ new_monitor e ∷ []) (s.outs ++ out) in
            base_after base r name x u t at (asks_for rows asked rest node s u e (port.Via base) (Link r name) (to, true, (added.0, added.1, added.2, refl), refl, refl) steady at asks)
            (slice_get_stays s.monitors (new_monitor e ∷ []) node (monitor.Link x) mat)
            (progress_is t g (set (s.monitors ++ new_monitor e ∷ []) node y) (s.outs ++ out) added.3 (more ∙ ap (λ (ns : List Monitor). ns ++ new_monitor e ∷ []) ms_is ∙ sym (set_push s.monitors node (monitor.Link x) y (new_monitor e) mat)) outs)
      ] given monitors

  pub takes_base : (base : List ℕ) (t : Progress) → IsTold port.Base base → TellsBase s t node base → TakenIn t port.Base base
  takes_base base t told (r, name, at, (new, ms, heard, inl (repeat, same))) =
      let hears : AddsKey heard.0 heard.1 base false = subst (AddsKey heard.0 heard.1 base) repeat heard.3 in
      let ms_is : ms ≡ s.monitors = heard.4 ∙ ap (λ (y : List (List ℕ)). set s.monitors node (monitor.Link y)) hears.1 ∙ set_again s.monitors node (monitor.Link heard.0) heard.2 in
      let t_is : t ≡ s = same ∙ ap (λ (ns : List Monitor). record s { monitors = ns }) ms_is in
      subst (λ (v : Progress). TakenIn v port.Base base) (sym t_is) (record { moves = stays rows asked rest node s s steady refl; taken = (heard.0, heard.2, hears.0) })
  takes_base base t told (r, name, at, (new, ms, heard, inr (fresh, asks))) =
      let hears : AddsKey heard.0 heard.1 base true = subst (AddsKey heard.0 heard.1 base) fresh heard.3 in
      told_base_new base t r name ms heard.0 told at heard.2 (heard.4 ∙ ap (λ (y : List (List ℕ)). set s.monitors node (monitor.Link y)) hears.1) asks

  -- the monitor has heard the part
  part_after : (i : ℕ) (who : List ℕ) (x : MeetTold) (u t : Progress) → Moves rows asked rest node s u → u.monitors ≡ s.monitors → PartFits net node i who → slice_get s.monitors node ≡ Some (monitor.Meet x) →
      (AllTold (with_tell x i who) who → IsSolution u.graph node who) → t ≡ record u { monitors = set u.monitors node (monitor.Meet (with_tell x i who)) } → TakenIn t (port.Part i) who
  part_after i who x u t moves same_ms fits mat solves same =
      let pending : List Sent = rest ++ sent_by node u.outs in
      let mat_u : slice_get u.monitors node ≡ Some (monitor.Meet x) = subst (λ (ns : List Monitor). slice_get ns node ≡ Some (monitor.Meet x)) (sym same_ms) mat in
      subst (λ (v : Progress). TakenIn v (port.Part i) who) (sym same) (record {
        moves = record {
          grows = grows_on moves.grows (part_grows rows asked u.graph u.monitors pending node x i who mat_u);
          steady = part_steady rows asked u.graph u.monitors pending node x i who mat_u moves.steady (part_fits_stays moves.grows node i who fits) solves;
        };
        taken = part_taken rows asked u.graph u.monitors pending node x i who mat_u;
      })

  pub takes_part : (i : ℕ) (who : List ℕ) (t : Progress) → IsTold (port.Part i) who → TellsPart s t node i who → TakenIn t (port.Part i) who
  takes_part i who t told (is_last, ms, heard, inr (now, solved)) =
      let x = heard.0 in
      let y_is = heard.3.0 in
      let ms_is : ms ≡ set s.monitors node (monitor.Meet (with_tell x i who)) = heard.4 ∙ ap (λ (y : MeetTold). set s.monitors node (monitor.Meet y)) y_is in
      let all : AllTold (with_tell x i who) who = subst (λ (y : MeetTold). AllTold y who) y_is (heard.3.1.0 now).0 in
      let fits = part_told i who told in
      let known = all_known i who fits.parts x fits fits.node heard.2 (parts_count fits.parts x fits.node heard.2) all in
      let several = (steady.right.found.graph.parts_in_range node (Meet fits.parts) fits.node).0 in
      let u : Progress = progress t.graph s.monitors t.outs in
      let done = solves rows asked rest node s u who reason.Parts (solved.0, solved.1, refl, solved.3) steady (last_fits i who told x heard.2 all) (record {
        expr = Meet fits.parts;
        node = fits.node;
        derives = meets rows who fits.parts several (λ k q place. derived who (part_expr q) (known k q place));
        by_row = tt;
      }) in
      part_after i who x u t done.moves refl fits heard.2 (λ _. done.solution) (progress_is t t.graph (set s.monitors node (monitor.Meet (with_tell x i who))) t.outs refl (solved.2 ∙ ms_is) refl)
  takes_part i who t told (is_last, ms, heard, inl (later, same)) =
      let x = heard.0 in
      let y_is = heard.3.0 in
      let ms_is : ms ≡ set s.monitors node (monitor.Meet (with_tell x i who)) = heard.4 ∙ ap (λ (y : MeetTold). set s.monitors node (monitor.Meet y)) y_is in
      let fits = part_told i who told in
      part_after i who x s t (stays rows asked rest node s s steady refl) refl fits heard.2
      (λ all. elim (cases_Bool (fin.contains x.told (i, who))) [
        | inl before ↦
            let count = parts_count fits.parts x fits.node heard.2 in
            steady.paid.met node fits.parts who fits.node (λ j below. (
              x,
              heard.2,
              elim (tell_cases x i j who who (all j (subst (λ (n : ℕ). j < n) (sym count) below))) [ inl told ↦ told | inr here ↦ subst (λ (k : ℕ). HasTold x k who) (sym here.0) before ],
            ))
        | inr absent ↦
            let now = heard.3.1.1 (subst (λ (y : MeetTold). AllTold y who) (sym y_is) all, λ there. false≢true (sym absent ∙ there)) in
            absurd (false≢true (sym later ∙ now))
      ])
      (same ∙ ap (λ (ns : List Monitor). record s { monitors = ns }) ms_is)

  pub takes_in : (p : Port (List ℕ)) (who : List ℕ) (t : Progress) → IsTold p who → TakesIn s t node m p who → TakenIn t p who
  takes_in port.Body who t told step =
      let is = body_told who told in
      let done = solves rows asked rest node s t who (reason.Body m) step steady is.fits is.right in
      record { moves = done.moves; taken = done.solution }
  takes_in port.Base who t told step = takes_base who t told step
  takes_in (port.Via b) who t told step =
      let is = via_told b who told in
      let done = solves rows asked rest node s t who (reason.Via b) step steady is.fits is.right in
      record { moves = done.moves; taken = done.solution }
  takes_in (port.Part i) who t told step = takes_part i who t told step
