-- What the numbers in letters stand for goes on while nodes are added.
use Rattle.std.proofs.Common.{slice_get, suc, None, Some, ℕ, ◌<◌, ◌≤◌, All, get_or, length, arith, ◌≡◌, ◌∙◌, ◌⊎◌, map, Bool, true, false, Contains, refl, sym, subst, ap, List, [], ◌∷◌, ◌++◌, if◌then◌else◌, inl, inr, append-nil, Result, Ok, Err, set, IfOk, OnErr, ◌+◌, ◌==◌, cond, not, filter}
use Rattle.std.proofs.lemmas.Option.{same_Some, slice_get-get_or, slice_get-map, slice_get_read, slice_get_within, none-some}
use Rattle.std.proofs.lemmas.List.Elements.{All-cons, All-head, All-nil, All-push, All-tail, All-weaker, Contains-push_cases, All-contains, All-set, Contains-get_or}
use Rattle.std.proofs.lemmas.List.{map-append, length-append, length-set, length-map, map-set}
use Rattle.credential_text.specs.declared.exprs.Expr.{Expr}
use Rattle.credential_text.specs.declared.exprs.Expr.TheVariants.{Ent, Rol, Link, Meet}
use Rattle.credential_text.specs.declared.credentials.Credential.{Credential}
use Rattle.vaults.specs.Journal.{Vault}
use Rattle.cred_graph.specs.declared.listeners.Listening.{Listening}
use Rattle.cred_graph.specs.declared.listeners.Port.{Port}
use Rattle.cred_graph.specs.Graph.{GraphState, IsGraph, IsNode, NodeGiven, ListenerGiven, SolutionGiven}
use Rattle.cred_graph.specs.NodeLists.{list_at, IsOnce}
use Rattle.cred_graph.specs.declared.solutions.Solution.{Solution}
use Rattle.std.specs.Map.{keys_of, lookup}
use Rattle.monitors.specs.declared.tellers.Tellers.{Tellers}
use Rattle.monitors.specs.MeetMonitor.{pairs_of, named, MeetTold, MeetLines, TellsApart, told_by, HearsByName, HasKeysOf}
use Rattle.cred_graph.specs.Numbers.{IsEntity, IsNamed, IsPort, entity_at, port_at}
use Rattle.cred_graph.proofs.Growth.{listed_with, listed_at-pushed, listed_with_cases}
use Rattle.cred_graph.proofs.NumberLemmas.{entity_goes_on, entity_stays, named_goes_on, port_goes_on, port_named, port_stays, entity_is}
use Rattle.scholten_core.specs.declared.letters.Letter.{Letter}
use Rattle.scholten_core.specs.Step.{started}
use Rattle.search.specs.declared.letters.Load.{Load}
use Rattle.search.specs.declared.findings.NumberedMonitor.{NumberedMonitor}
use Rattle.search.proofs.Asked.{asked_each}
use Rattle.search.specs.Answers.{Progress, AsksFor, IsOpenAt, Opens, own_rows, new_monitor, row_asks, part_asks}
use Rattle.search.specs.Net.{IsLoad, in_words, load_at, outs_at, sent_of}
use Rattle.search.specs.Numbered.{AreNumbered, IsMonitor, monitor_at, progress_at}
use Rattle.std.specs.Option.{option_map}
use Rattle.std.specs.declared.alloc.AllocError.{AllocError}
use Rattle.rt0_rules.proofs.Distinct.{mapped}
use Rattle.rt0_rules.proofs.Unknown.{Contains-map}
use Rattle.cred_graph.proofs.NodeListLemmas.{Contains-at_place}
use Rattle.monitors.specs.LinkMonitor.{AddsKey}
use Rattle.search.specs.declared.findings.Monitor.{Monitor}
use Rattle.search.proofs.Tells.{BaseHeard, PartHeard}
use Rattle.std.proofs.lemmas.Map.Views.{exact_unsigned_eq}
use Rattle.scholten_core.specs.Sound.{IsNumbered}
use Rattle.scholten_core.proofs.Lists.{changed}
use Rattle.cred_graph.specs.declared.listeners.Port.TheVariants as port
use Rattle.std.specs.FinSet as set
use Rattle.search.specs.declared.letters.Load.TheVariants as load
use Rattle.search.specs.declared.findings.Monitor.TheVariants as monitor
use Rattle.search.specs.declared.findings.NumberedMonitor.TheVariants as numbered_monitor

-- the numbers in these letters are entities'
abbrev pub AreLetters : List Expr → List (ℕ × Letter (Load ℕ)) → Type 0
AreLetters nodes letters = All (λ l. IsLoad nodes l.1.load) letters

abbrev pub AreLoads : List Expr → List (ℕ × Load ℕ) → Type 0
AreLoads nodes outs = All (λ o. IsLoad nodes o.1) outs

-- what each element gives is the same where functions agree on it
map_alike : {X Y : Type 0} (f g : X → Y) (R : X → Type 0) → ((x : X) → R x → f x ≡ g x) → (xs : List X) → All R xs → map f xs ≡ map g xs
map_alike f g R same [] all = refl
map_alike f g R same (x ∷ xs) all =
    let first = same x (All-head R x xs all) in
    let rest = map_alike f g R same xs (All-tail R x xs all) in
    λ i. first i ∷ rest i

module _ (nodes more : List Expr) where
  pub load_goes_on : (l : Load ℕ) → IsLoad nodes l → IsLoad (nodes ++ more) l
  load_goes_on load.Start is = tt
  load_goes_on (load.Ask p) is = port_goes_on nodes more p is
  load_goes_on (load.Tell p k) is = (port_goes_on nodes more p is.0, entity_goes_on nodes more k is.1)

  pub load_stays : (l : Load ℕ) → IsLoad nodes l → load_at (nodes ++ more) l ≡ load_at nodes l
  load_stays load.Start is = refl
  load_stays (load.Ask p) is = ap load.Ask (port_stays nodes more p is)
  load_stays (load.Tell p k) is = λ i. load.Tell (port_stays nodes more p is.0 i) (entity_stays nodes more k is.1 i)

  pub loads_go_on : (outs : List (ℕ × Load ℕ)) → All (λ o. IsLoad nodes o.1) outs → All (λ o. IsLoad (nodes ++ more) o.1) outs
  loads_go_on outs are = All-weaker (λ (o : ℕ × Load ℕ). IsLoad nodes o.1) (λ o. IsLoad (nodes ++ more) o.1) (λ o is. load_goes_on o.1 is) outs are

  pub outs_stay : (outs : List (ℕ × Load ℕ)) → All (λ o. IsLoad nodes o.1) outs → outs_at ((nodes ++ more)) outs ≡ outs_at nodes outs
  outs_stay outs are =
      map_alike (λ (o : ℕ × Load ℕ). (o.0, load_at (nodes ++ more) o.1)) (λ o. (o.0, load_at nodes o.1)) (λ o. IsLoad nodes o.1) (λ o is i. (o.0, load_stays o.1 is i)) outs are

  pub letters_go_on : (letters : List (ℕ × Letter (Load ℕ))) → AreLetters nodes letters → AreLetters (nodes ++ more) letters
  letters_go_on letters are =
      All-weaker (λ (l : ℕ × Letter (Load ℕ)). IsLoad nodes l.1.load) (λ l. IsLoad (nodes ++ more) l.1.load) (λ l is. load_goes_on l.1.load is) letters are

  pub letters_stay : (letters : List (ℕ × Letter (Load ℕ))) → AreLetters nodes letters → sent_of (nodes ++ more) letters ≡ sent_of nodes letters
  letters_stay letters are =
      map_alike (λ (l : ℕ × Letter (Load ℕ)). in_words (nodes ++ more) l.1) (λ l. in_words nodes l.1) (λ l. IsLoad nodes l.1.load)
      (λ l is i. record { from = l.1.from; to = l.1.to; load = load_stays l.1.load is i }) letters are

  entities_go_on : (keys : List ℕ) → All (IsEntity nodes) keys → All (IsEntity (nodes ++ more)) keys
  entities_go_on keys are = All-weaker (IsEntity nodes) (IsEntity (nodes ++ more)) (entity_goes_on nodes more) keys are

  monitor_goes_on : (m : NumberedMonitor) → IsMonitor nodes m → IsMonitor (nodes ++ more) m
  monitor_goes_on numbered_monitor.Plain is = tt
  monitor_goes_on (numbered_monitor.Link x) is = entities_go_on x is
  monitor_goes_on (numbered_monitor.Meet x) is = entities_go_on (keys_of x.lines) is

  names_stay : (keys : List ℕ) → All (IsEntity nodes) keys → map (entity_at (nodes ++ more)) keys ≡ map (entity_at nodes) keys
  names_stay keys are = map_alike (entity_at (nodes ++ more)) (entity_at nodes) (IsEntity nodes) (entity_stays nodes more) keys are

  lines_stay : (lines : List (ℕ × Tellers)) → All (IsEntity nodes) (keys_of lines) → named (entity_at (nodes ++ more)) lines ≡ named (entity_at nodes) lines
  lines_stay [] are = refl
  lines_stay (l ∷ ls) are =
      let first = entity_stays nodes more l.0 (All-head (IsEntity nodes) l.0 (keys_of ls) are) in
      let rest = lines_stay ls (All-tail (IsEntity nodes) l.0 (keys_of ls) are) in
      λ i. (first i, l.1) ∷ rest i

  monitor_stays : (m : NumberedMonitor) → IsMonitor nodes m → monitor_at (nodes ++ more) m ≡ monitor_at nodes m
  monitor_stays numbered_monitor.Plain is = refl
  monitor_stays (numbered_monitor.Link x) is = λ i. monitor.Link (names_stay x is i)
  monitor_stays (numbered_monitor.Meet x) is =
      ap (λ (lines : List (List ℕ × Tellers)). monitor.Meet (record { parts = x.parts; told = set.from_list (pairs_of lines) })) (lines_stay x.lines is)

  pub monitors_go_on : (ms : List NumberedMonitor) → All (IsMonitor nodes) ms → All (IsMonitor (nodes ++ more)) ms
  monitors_go_on ms are = All-weaker (IsMonitor nodes) (IsMonitor (nodes ++ more)) monitor_goes_on ms are

  pub monitors_stay : (ms : List NumberedMonitor) → All (IsMonitor nodes) ms → map (monitor_at (nodes ++ more)) ms ≡ map (monitor_at nodes) ms
  monitors_stay ms are = map_alike (monitor_at (nodes ++ more)) (monitor_at nodes) (IsMonitor nodes) monitor_stays ms are

-- a node is added
numbered_with_node : (g : GraphState) (e : Expr) (ms : List NumberedMonitor) (outs : List (ℕ × Load ℕ)) → IsOnce (g.nodes ++ e ∷ []) → AreNumbered g ms outs → AreNumbered (record g { nodes = g.nodes ++ e ∷ []; listeners = g.listeners ++ [] ∷ [] }) ms outs
numbered_with_node g e ms outs once are = record {
  once = once;
  loads = loads_go_on g.nodes (e ∷ []) outs are.loads;
  monitors = monitors_go_on g.nodes (e ∷ []) ms are.monitors;
  ports = λ n l listens. named_goes_on g.nodes (e ∷ []) l.port (are.ports n l (subst (λ ls. Contains ls l) (listed_at-pushed g.listeners n) listens));
}

-- and a monitor
pub numbered_with_monitor : (g : GraphState) (ms : List NumberedMonitor) (m : NumberedMonitor) (outs : List (ℕ × Load ℕ)) → IsMonitor g.nodes m → AreNumbered g ms outs → AreNumbered g (ms ++ m ∷ []) outs
numbered_with_monitor g ms m outs is are = record { once = are.once; loads = are.loads; monitors = All-push (IsMonitor g.nodes) ms m are.monitors is; ports = are.ports }

-- nodes are added alone
abbrev pub HasMore : List Expr → List Expr → Type 0
HasMore old new = (more : List Expr) × (new ≡ old ++ more)

same_nodes : (s t : Progress) → t.graph.nodes ≡ s.graph.nodes → HasMore s.graph.nodes t.graph.nodes
same_nodes s t same = ([], same ∙ sym (append-nil s.graph.nodes))

pub opens_more : (rows : List Credential) (s t : Progress) (n : ℕ) (e : Expr) → Opens rows s t n e → HasMore s.graph.nodes t.graph.nodes
opens_more rows s t n (Ent d) (false, given, monitors, outs) = same_nodes s t (ap (λ (g : GraphState). g.nodes) given.1)
opens_more rows s t n (Ent d) (true, given, monitors, outs) = same_nodes s t (ap (λ (g : GraphState). g.nodes) given.1)
opens_more rows s t n (Rol r) step = let asked = asked_each n s t (row_asks rows) step in (asked.more, asked.nodes)
opens_more rows s t n (Link r name) step = let asked = asked_each n s t ((Rol r, port.Base) ∷ []) step in (asked.more, asked.nodes)
opens_more rows s t n (Meet parts) step = let asked = asked_each n s t (part_asks 0 parts) step in (asked.more, asked.nodes)

-- where each node that stood there stands still
pub prefix_more : (old new : List Expr) → ((n : ℕ) (e : Expr) → slice_get old n ≡ Some e → slice_get new n ≡ Some e) → HasMore old new
prefix_more [] new stays = (new, refl)
prefix_more (x ∷ old) [] stays = let clash : None ≡ Some x = stays 0 x refl in cc
prefix_more (x ∷ old) (y ∷ new) stays =
    let (more, is) = prefix_more old new (λ n e at. stays (suc n) e at) in
    (more, λ i. same_Some y x (stays 0 x refl) i ∷ is i)

pub numbered_given : (g h : GraphState) (e : Expr) (n : ℕ) (b : Bool) (ms : List NumberedMonitor) (outs : List (ℕ × Load ℕ)) → NodeGiven g h e n b → IsGraph h → AreNumbered g ms outs → AreNumbered h ms outs
numbered_given g h e n true ms outs (absent, range, is, with) graph are =
    subst (λ x. AreNumbered x ms outs) (sym with) (numbered_with_node g e ms outs (subst (λ (x : GraphState). IsOnce x.nodes) with graph.one_node) are)
numbered_given g h e n false ms outs (node, same) graph are = subst (λ x. AreNumbered x ms outs) (sym same) are

-- the node of the expression has this number, and is added with its monitor where there is none
abbrev pub HasNode : Progress → Progress → Expr → ℕ → Type 0
HasNode s t e n =
    (new : Bool) × NodeGiven s.graph t.graph e n new × (t.outs ≡ s.outs) × (t.monitors ≡ (if new then s.monitors ++ new_monitor e ∷ [] else s.monitors))

-- the letters before it and the other monitors stay what they are
pub node_added : (s : Progress) (g h : GraphState) (ms ms' : List NumberedMonitor) (m : NumberedMonitor) (outs : List (ℕ × Load ℕ)) (e : Expr) (n : ℕ) → progress_at g ms outs ≡ s → AreNumbered g ms outs →
    NodeGiven g h e n true → ms' ≡ ms ++ m ∷ [] → monitor_at h.nodes m ≡ new_monitor e → HasNode s (progress_at h ms' outs) e n
node_added s g h ms ms' m outs e n is are (absent, range, at, with) pushed new =
    subst (λ (x : Progress). HasNode x (progress_at h ms' outs) e n) is (
      true,
      (absent, range, at, with),
      ap (λ (k : GraphState). outs_at k.nodes outs) with ∙ outs_stay g.nodes (e ∷ []) outs are.loads,
      ap (map (monitor_at h.nodes)) pushed ∙ map-append (monitor_at h.nodes) ms (m ∷ [])
          ∙ (λ i. (ap (λ (k : GraphState). map (monitor_at k.nodes) ms) with ∙ monitors_stay g.nodes (e ∷ []) ms are.monitors) i ++ new i ∷ []),
    )

-- the node is asked
pub asks_node : (s t u : Progress) (e : Expr) (n : ℕ) (p : Port ℕ) → HasNode s t e n → IsPort s.graph.nodes p →
    u ≡ record t { outs = t.outs ++ (n, load.Ask (port_at t.graph.nodes p)) ∷ [] } → AsksFor s u e (port_at s.graph.nodes p)
asks_node s t u e n p (true, (absent, range, at, with), outs, monitors) port done = (
  n,
  true,
  (absent, range, at, ap (λ (x : Progress). x.graph) done ∙ with),
  ap (λ (x : Progress). x.outs) done ∙ (λ i. outs i ++ (n, load.Ask ((ap (λ (k : GraphState). port_at k.nodes p) with ∙ port_stays s.graph.nodes (e ∷ []) p port) i)) ∷ []),
  ap (λ (x : Progress). x.monitors) done ∙ monitors,
)
asks_node s t u e n p (false, (node, same), outs, monitors) port done = (
  n,
  false,
  (node, ap (λ (x : Progress). x.graph) done ∙ same),
  ap (λ (x : Progress). x.outs) done ∙ (λ i. outs i ++ (n, load.Ask (port_at (same i).nodes p)) ∷ []),
  ap (λ (x : Progress). x.monitors) done ∙ monitors,
)

pub port_given : (g h : GraphState) (e : Expr) (n : ℕ) (b : Bool) (p : Port ℕ) → NodeGiven g h e n b → IsPort g.nodes p → IsPort h.nodes p
port_given g h e n true p (absent, range, is, with) port = subst (λ (x : GraphState). IsPort x.nodes p) (sym with) (port_goes_on g.nodes (e ∷ []) p port)
port_given g h e n false p (node, same) port = subst (λ (x : GraphState). IsPort x.nodes p) (sym same) port

-- a listener is added, on a port whose number is an entity's
pub numbered_listened : (g h : GraphState) (n m : ℕ) (p : Port ℕ) (b : Bool) (ms : List NumberedMonitor) (outs : List (ℕ × Load ℕ)) → ListenerGiven g h n (record { asker = m; port = port_at g.nodes p }) b → n < length g.nodes → IsGraph h → IsPort g.nodes p → AreNumbered g ms outs → AreNumbered h ms outs
numbered_listened g h n m p false ms outs (listens, same) node graph port are = subst (λ (k : GraphState). AreNumbered k ms outs) (sym same) are
numbered_listened g h n m p true ms outs (new, with) node graph port are =
    subst (λ (k : GraphState). AreNumbered k ms outs) (sym with) (record { once = are.once; loads = are.loads; monitors = are.monitors; ports = ports })
  where
    added : Listening
    added = record { asker = m; port = port_at g.nodes p }

    list_there : n < length g.listeners
    list_there =
        let lists : length (listed_with g.listeners n added) ≡ length g.nodes = ap (λ (k : GraphState). length k.listeners) (sym with) ∙ graph.one_list_each ∙ ap (λ (k : GraphState). length k.nodes) with in
        omega (arith, node, lists, length-set g.listeners n (list_at g.listeners n ++ added ∷ []))

    ports : (k : ℕ) (l : Listening) → Contains (list_at (listed_with g.listeners n added) k) l → IsNamed g.nodes l.port
    ports k l listens =
        elim (listed_with_cases g.listeners n added k list_there) [
          | inl here ↦ elim (Contains-push_cases (list_at g.listeners k) added l (subst (λ ls. Contains ls l) here.1 listens)) [
            | inl before ↦ are.ports k l before
            | inr this ↦ subst (λ (x : Listening). IsNamed g.nodes x.port) this (port_named g.nodes p port)
          ]
          | inr other ↦ are.ports k l (subst (λ ls. Contains ls l) other listens)
        ]

pub numbered_solved : (g h : GraphState) (s : Solution) (b : Bool) (ms : List NumberedMonitor) (outs : List (ℕ × Load ℕ)) → SolutionGiven g h s b → AreNumbered g ms outs → AreNumbered h ms outs
numbered_solved g h s false ms outs (has, same) are = subst (λ (k : GraphState). AreNumbered k ms outs) (sym same) are
numbered_solved g h s true ms outs (new, with) are =
    subst (λ (k : GraphState). AreNumbered k ms outs) (sym with) (record { once = are.once; loads = are.loads; monitors = are.monitors; ports = are.ports })

module _ (s : Progress) (g h : GraphState) (ms : List NumberedMonitor) (outs : List (ℕ × Load ℕ)) (is : progress_at g ms outs ≡ s) where
  pub listens_new : (n m : ℕ) (p : Port ℕ) (b : Bool) → b ≡ true → ListenerGiven g h n (record { asker = m; port = port_at g.nodes p }) b → ListenerGiven s.graph h n (record { asker = m; port = port_at s.graph.nodes p }) true
  listens_new n m p b new given =
      subst (λ (x : Progress). ListenerGiven x.graph h n (record { asker = m; port = port_at x.graph.nodes p }) true) is (subst (ListenerGiven g h n (record { asker = m; port = port_at g.nodes p })) new given)

-- a port stays what it is where nodes are added
pub more_port : (old new : List Expr) (p : Port ℕ) → HasMore old new → IsPort old p → IsPort new p
more_port old new p (more, with) port = subst (λ (nodes : List Expr). IsPort nodes p) (sym with) (port_goes_on old more p port)

pub more_port_same : (old new : List Expr) (p : Port ℕ) → HasMore old new → IsPort old p → port_at new p ≡ port_at old p
more_port_same old new p (more, with) port = ap (λ (nodes : List Expr). port_at nodes p) with ∙ port_stays old more p port

-- the environment's letter says no number
pub start_says : (nodes : List Expr) (root : ℕ) → AreLetters nodes (started root load.Start).letters
start_says nodes root = All-cons (λ (l : ℕ × Letter (Load ℕ)). IsLoad nodes l.1.load) _ [] tt (All-nil (λ (l : ℕ × Letter (Load ℕ)). IsLoad nodes l.1.load))

-- the node was open before, or it opens
abbrev pub IsOpened : List Vault → Progress → Progress → ℕ → Type 0
IsOpened view s mid n = (IsOpenAt s.graph n × (mid ≡ s)) ⊎ ((IsOpenAt s.graph n → ⊥) × ((e : Expr) → IsNode s.graph n e → Opens (own_rows view e) s mid n e))

pub opened_more : (view : List Vault) (s mid : Progress) (n : ℕ) → n < length s.graph.nodes → IsOpened view s mid n → HasMore s.graph.nodes mid.graph.nodes
opened_more view s mid n there (inl (was, same)) = same_nodes s mid (ap (λ (u : Progress). u.graph.nodes) same)
opened_more view s mid n there (inr (first, opens)) =
    let e : Expr = get_or s.graph.nodes n (Ent []) in
    opens_more (own_rows view e) s mid n e (opens e (slice_get-get_or s.graph.nodes n (Ent []) there))

-- where nodes are added letters say what they said
pub more_letters : (old new : List Expr) (letters : List (ℕ × Letter (Load ℕ))) → HasMore old new → AreLetters old letters → AreLetters new letters
more_letters old new letters (more, with) are = subst (λ (nodes : List Expr). AreLetters nodes letters) (sym with) (letters_go_on old more letters are)

pub more_words : (old new : List Expr) (letters : List (ℕ × Letter (Load ℕ))) → HasMore old new → AreLetters old letters → sent_of new letters ≡ sent_of old letters
more_words old new letters (more, with) are = ap (λ (nodes : List Expr). sent_of nodes letters) with ∙ letters_stay old more letters are

pub more_count : (old new : List Expr) → HasMore old new → length old ≤ length new
more_count old new (more, with) = omega (arith, ap length with, length-append old more)

-- what monitors hear by number, they hear by name: the nodes stand once, so that two entities don't have one number

-- a monitor that was read where one stands is the one there
pub read_there : (ms : List NumberedMonitor) (node : ℕ) (k m read : NumberedMonitor) → slice_get ms node ≡ Some k → m ≡ get_or ms node m → m ≡ read → slice_get ms node ≡ Some read
read_there ms node k m read at value is =
    slice_get_read ms (length ms) node read refl (slice_get_within ms node k at) (subst (λ (x : NumberedMonitor). x ≡ get_or ms node x) is value)

-- the monitor at a node, by what it is seen as
module _ (nodes : List Expr) (ms : List NumberedMonitor) (node : ℕ) where
  pub shown_at : (k : NumberedMonitor) → slice_get ms node ≡ Some k → slice_get (map (monitor_at nodes) ms) node ≡ Some (monitor_at nodes k)
  shown_at k at = slice_get-map (monitor_at nodes) ms node ∙ ap (option_map (monitor_at nodes)) at

  seen_at : (m : Monitor) → slice_get (map (monitor_at nodes) ms) node ≡ Some m → (k : NumberedMonitor) × (slice_get ms node ≡ Some k) × (monitor_at nodes k ≡ m)
  seen_at m at =
      let k : NumberedMonitor = get_or ms node numbered_monitor.Plain in
      let within = slice_get_within (map (monitor_at nodes) ms) node m at in
      let there : slice_get ms node ≡ Some k = slice_get-get_or ms node numbered_monitor.Plain (omega (arith, within, length-map ms (monitor_at nodes))) in
      (k, there, same_Some (monitor_at nodes k) m (sym (shown_at k there) ∙ at))

  pub monitor_there : (k : NumberedMonitor) → All (IsMonitor nodes) ms → slice_get ms node ≡ Some k → IsMonitor nodes k
  monitor_there k are at = All-contains (IsMonitor nodes) ms k are (Contains-at_place ms node k at)

  pub link_at_node : (x : List (List ℕ)) → slice_get (map (monitor_at nodes) ms) node ≡ Some (monitor.Link x) → (y : List ℕ) × (slice_get ms node ≡ Some (numbered_monitor.Link y))
  link_at_node x at = let (k, there, is) = seen_at (monitor.Link x) at in by k there is
    where
      by : (k : NumberedMonitor) → slice_get ms node ≡ Some k → monitor_at nodes k ≡ monitor.Link x → (y : List ℕ) × (slice_get ms node ≡ Some (numbered_monitor.Link y))
      by numbered_monitor.Plain there is = cc
      by (numbered_monitor.Link y) there is = (y, there)
      by (numbered_monitor.Meet y) there is = cc

  pub meet_at_node : (part : ℕ) (x : MeetTold) → slice_get (map (monitor_at nodes) ms) node ≡ Some (monitor.Meet x) → part < x.parts → (y : MeetLines ℕ) × (slice_get ms node ≡ Some (numbered_monitor.Meet y)) × (part < y.parts)
  meet_at_node part x at below = let (k, there, is) = seen_at (monitor.Meet x) at in by k there is
    where
      parts_of : Monitor → ℕ
      parts_of (monitor.Meet z) = z.parts
      parts_of _ = 0

      by : (k : NumberedMonitor) → slice_get ms node ≡ Some k → monitor_at nodes k ≡ monitor.Meet x → (y : MeetLines ℕ) × (slice_get ms node ≡ Some (numbered_monitor.Meet y)) × (part < y.parts)
      by numbered_monitor.Plain there is = cc
      by (numbered_monitor.Link y) there is = cc
      by (numbered_monitor.Meet y) there is = (y, there, subst (λ (n : ℕ). part < n) (sym (ap parts_of is)) below)

  -- one monitor is another now
  pub shown_set : (k : NumberedMonitor) → map (monitor_at nodes) (set ms node k) ≡ set (map (monitor_at nodes) ms) node (monitor_at nodes k)
  shown_set k = map-set (monitor_at nodes) ms node k

  pub still_monitors : (k : NumberedMonitor) → All (IsMonitor nodes) ms → IsMonitor nodes k → All (IsMonitor nodes) (set ms node k)
  still_monitors k are is = All-set (IsMonitor nodes) ms node k is are

-- what was heard, where the answer says so
bases_after : (nodes : List Expr) (x y : List ℕ) (k : ℕ) (new : Bool) → IsMonitor nodes (numbered_monitor.Link x) → IsEntity nodes k → AddsKey x y k new → IsMonitor nodes (numbered_monitor.Link y)
bases_after nodes x y k true are is (absent, heard) =
    subst (λ (z : List ℕ). IsMonitor nodes (numbered_monitor.Link z)) (sym heard) (All-push (IsEntity nodes) x k are is)
bases_after nodes x y k false are is (there, same) = subst (λ (z : List ℕ). IsMonitor nodes (numbered_monitor.Link z)) (sym same) are

pub link_after : (nodes : List Expr) (x y : List ℕ) (k : ℕ) (r : Result Bool AllocError) → IsMonitor nodes (numbered_monitor.Link x) → IsEntity nodes k → IfOk r (λ new. AddsKey x y k new) → OnErr r (y ≡ x) → IsMonitor nodes (numbered_monitor.Link y)
link_after nodes x y k (Ok new) are is heard same = bases_after nodes x y k new are is heard
link_after nodes x y k (Err e) are is heard same = subst (λ (z : List ℕ). IsMonitor nodes (numbered_monitor.Link z)) (sym same) are

pub meet_after : (nodes : List Expr) (x y : MeetLines ℕ) (k : ℕ) → IsMonitor nodes (numbered_monitor.Meet x) → IsEntity nodes k → HasKeysOf x y k → IsMonitor nodes (numbered_monitor.Meet y)
meet_after nodes x y k are is keys =
    λ i d below.
    let q = get_or (keys_of y.lines) i d in
    All-contains (IsEntity nodes) (k ∷ keys_of x.lines) q (All-cons (IsEntity nodes) k (keys_of x.lines) is are) (keys.known q (Contains-get_or (keys_of y.lines) i d below))

module _ (nodes : List Expr) (once : IsOnce nodes) where
  one_number : (a b : ℕ) → IsEntity nodes a → IsEntity nodes b → entity_at nodes a ≡ entity_at nodes b → a ≡ b
  one_number a b (x, at) (y, bt) same =
      let is : y ≡ x = sym (entity_is nodes b y bt) ∙ sym same ∙ entity_is nodes a x at in
      once a b (Ent x) at (subst (λ (w : List ℕ). slice_get nodes b ≡ Some (Ent w)) is bt)

  told_apart : (k : ℕ) (keys : List ℕ) → IsEntity nodes k → All (IsEntity nodes) keys → TellsApart (entity_at nodes) (k ∷ keys)
  told_apart k keys is are a b x y =
      let all = All-cons (IsEntity nodes) k keys is are in
      one_number a b (All-contains (IsEntity nodes) (k ∷ keys) a all x) (All-contains (IsEntity nodes) (k ∷ keys) b all y)

  among_named : (keys : List ℕ) (k : ℕ) → IsEntity nodes k → All (IsEntity nodes) keys → Contains (map (entity_at nodes) keys) (entity_at nodes k) → Contains keys k
  among_named keys k is are there =
      let from = mapped (entity_at nodes) keys (entity_at nodes k) there in
      subst (Contains keys) (one_number from.from k (All-contains (IsEntity nodes) keys from.from are from.among) is from.is) from.among

  base_named : (x y : List ℕ) (k : ℕ) (new : Bool) → IsMonitor nodes (numbered_monitor.Link x) → IsEntity nodes k → AddsKey x y k new → AddsKey (map (entity_at nodes) x) (map (entity_at nodes) y) (entity_at nodes k) new
  base_named x y k true are is (absent, heard) = (
    λ there. absent (among_named x k is are there),
    ap (map (entity_at nodes)) heard ∙ map-append (entity_at nodes) x (k ∷ []),
  )
  base_named x y k false are is (there, same) = (Contains-map (entity_at nodes) x k there, ap (map (entity_at nodes)) same)

  pub base_heard : (ms : List NumberedMonitor) (node : ℕ) (x y : List ℕ) (k : ℕ) (new : Bool) → All (IsMonitor nodes) ms → slice_get ms node ≡ Some (numbered_monitor.Link x) → IsEntity nodes k → AddsKey x y k new →
      BaseHeard (map (monitor_at nodes) ms) (map (monitor_at nodes) (set ms node (numbered_monitor.Link y))) node (entity_at nodes k) new
  base_heard ms node x y k new are at is heard =
      let own : IsMonitor nodes (numbered_monitor.Link x) = monitor_there nodes ms node (numbered_monitor.Link x) are at in
      (map (entity_at nodes) x, map (entity_at nodes) y, shown_at nodes ms node (numbered_monitor.Link x) at, base_named x y k new own is heard, shown_set nodes ms node (numbered_monitor.Link y))

  pub part_heard : (ms : List NumberedMonitor) (node part : ℕ) (x y : MeetLines ℕ) (k : ℕ) (last : Bool) → All (IsMonitor nodes) ms → slice_get ms node ≡ Some (numbered_monitor.Meet x) → IsEntity nodes k → HearsByName x y part k last →
      PartHeard (map (monitor_at nodes) ms) (map (monitor_at nodes) (set ms node (numbered_monitor.Meet y))) node part (entity_at nodes k) last
  part_heard ms node part x y k last are at is heard =
      let own : IsMonitor nodes (numbered_monitor.Meet x) = monitor_there nodes ms node (numbered_monitor.Meet x) are at in
      (told_by (entity_at nodes) x, told_by (entity_at nodes) y, shown_at nodes ms node (numbered_monitor.Meet x) at, heard (entity_at nodes) (told_apart k (keys_of x.lines) is own), shown_set nodes ms node (numbered_monitor.Meet y))

-- letters by their numbers: which there are after one is marked, is finished, or more are sent

module _ {X : Type 0} where
  -- what passes a test is no longer than all
  filter-le : (p : ℕ × X → Bool) (ls : List (ℕ × X)) → length (filter p ls) ≤ length ls
  filter-le p [] = omega arith
  filter-le p (l ∷ ls) =
      elim (p l) as (λ b. length (cond b (l ∷ filter p ls) (filter p ls)) ≤ length (l ∷ ls)) [
        | true ↦ omega (arith, filter-le p ls)
        | false ↦ omega (arith, filter-le p ls)
      ]

  -- with the letter of a number something goes
  pub rest_shorter : (k : ℕ) (ls : List (ℕ × X)) (x : X) → lookup (λ n. n == k) ls ≡ Some x → length (filter (λ l. not (l.0 == k)) ls) + 1 ≤ length ls
  rest_shorter k [] x found = absurd (none-some _ found)
  rest_shorter k (l ∷ ls) x found =
      elim (l.0 == k) as (λ b. cond b (Some l.1) (lookup (λ n. n == k) ls) ≡ Some x → length (cond (not b) (l ∷ filter (λ e. not (e.0 == k)) ls) (filter (λ e. not (e.0 == k)) ls)) + 1 ≤ length (l ∷ ls)) [
        | true ↦ λ _. omega (arith, filter-le (λ e. not (e.0 == k)) ls)
        | false ↦ λ later. omega (arith, rest_shorter k ls x later)
      ] found

  -- the letter of another number stays
  pub lookup-rest_other : (k n : ℕ) → (k == n) ≡ false → (ls : List (ℕ × X)) → lookup (λ m. m == n) (filter (λ l. not (l.0 == k)) ls) ≡ lookup (λ m. m == n) ls
  lookup-rest_other k n other [] = refl
  lookup-rest_other k n other (l ∷ ls) =
      elim (l.0 == k) as (λ b. (l.0 == k) ≡ b → lookup (λ m. m == n) (cond (not b) (l ∷ filter (λ e. not (e.0 == k)) ls) (filter (λ e. not (e.0 == k)) ls)) ≡ cond (l.0 == n) (Some l.1) (lookup (λ m. m == n) ls)) [
        | true ↦ λ one. lookup-rest_other k n other ls ∙ sym (ap (λ b. cond b (Some l.1) (lookup (λ m. m == n) ls)) (ap (λ m. m == n) (exact_unsigned_eq l.0 k one) ∙ other))
        | false ↦ λ _. ap (λ o. cond (l.0 == n) (Some l.1) o) (lookup-rest_other k n other ls)
      ] refl

  -- the letter of that number is gone
  pub lookup-rest : (k : ℕ) (ls : List (ℕ × X)) → lookup (λ m. m == k) (filter (λ l. not (l.0 == k)) ls) ≡ None
  lookup-rest k [] = refl
  lookup-rest k (l ∷ ls) =
      elim (l.0 == k) as (λ b. (l.0 == k) ≡ b → lookup (λ m. m == k) (cond (not b) (l ∷ filter (λ e. not (e.0 == k)) ls) (filter (λ e. not (e.0 == k)) ls)) ≡ None) [
        | true ↦ λ _. lookup-rest k ls
        | false ↦ λ other. ap (λ b. cond b (Some l.1) (lookup (λ m. m == k) (filter (λ e. not (e.0 == k)) ls))) other ∙ lookup-rest k ls
      ] refl

  pub lookup-changed_other : (k n : ℕ) → (k == n) ≡ false → (f : X → X) (ls : List (ℕ × X)) → lookup (λ m. m == n) (map (changed k f) ls) ≡ lookup (λ m. m == n) ls
  lookup-changed_other k n other f [] = refl
  lookup-changed_other k n other f (l ∷ ls) =
      elim (l.0 == k) as (λ b. (l.0 == k) ≡ b → lookup (λ m. m == n) (cond b (l.0, f l.1) l ∷ map (changed k f) ls) ≡ cond (l.0 == n) (Some l.1) (lookup (λ m. m == n) ls)) [
        | true ↦ λ one. let apart : (l.0 == n) ≡ false = ap (λ m. m == n) (exact_unsigned_eq l.0 k one) ∙ other in
            ap (λ b. cond b (Some (f l.1)) (lookup (λ m. m == n) (map (changed k f) ls))) apart ∙ lookup-changed_other k n other f ls ∙ sym (ap (λ b. cond b (Some l.1) (lookup (λ m. m == n) ls)) apart)
        | false ↦ λ _. ap (λ o. cond (l.0 == n) (Some l.1) o) (lookup-changed_other k n other f ls)
      ] refl

  -- letters that were changed had the same numbers
  pub numbered_before : (k : ℕ) (f : X → X) (low : ℕ) (ls : List (ℕ × X)) (high : ℕ) → IsNumbered low (map (changed k f) ls) high → IsNumbered low ls high
  numbered_before k f low [] high rising = rising
  numbered_before k f low (l ∷ ls) high rising =
      elim (l.0 == k) as (λ b. IsNumbered low (cond b (l.0, f l.1) l ∷ map (changed k f) ls) high → IsNumbered low (l ∷ ls) high) [
        | true ↦ λ so. (so.0, numbered_before k f l.0 ls high so.1)
        | false ↦ λ so. (so.0, numbered_before k f l.0 ls high so.1)
      ] rising
