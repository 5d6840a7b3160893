-- The receipt of a letter keeps a search steady, and pays the letter.
use Rattle.std.proofs.Common.{ℕ, ◌≡◌, ◌⊎◌, inl, inr, sym, subst, ap, List, Contains, ◌<◌, [], ◌++◌, length, get_or, ◌+◌, ◌≤◌, ◌==◌, ◌∙◌, refl, Bool, true, false, not, cond, ◌∷◌, Some, filter, map, arith, slice_get, ne_eqb}
use Rattle.names.specs.declared.roles.Role.{Role}
use Rattle.credential_text.specs.declared.credentials.Credential.{Credential}
use Rattle.credential_text.specs.declared.exprs.Expr.{Expr}
use Rattle.credential_text.specs.declared.exprs.Expr.TheVariants.{Ent, Rol, Link, Meet}
use Rattle.cred_graph.specs.declared.listeners.Port.{Port}
use Rattle.cred_graph.specs.Graph.{GraphState, IsNode, listeners_of, Listens, members_of}
use Rattle.scholten_core.specs.declared.parents.Parent.{Parent}
use Rattle.scholten_core.specs.declared.parents.Parent.TheVariants.{Environment, Node}
use Rattle.search.specs.declared.letters.Load.{Load}
use Rattle.search.specs.declared.findings.Monitor.{Monitor}
use Rattle.search.specs.Net.{Net, Sent, HasListener, IsPendingStart, IsOpen, IsAsked, IsTaken, OpenedPaid, IsPaid, IsSteady, LetterFits, IsRight, Words, IsLoad, in_words, load_at, outs_at, sent_of, sent_by, IsBaseTold}
use Rattle.std.proofs.lemmas.Option.{slice_get_within, same_Some}
use Rattle.std.proofs.lemmas.List.Elements.{Contains-get_or, Contains-append_left, Contains-append_cases, All-append, All-cons, All-filter, All-head, All-map, All-nil, All-tail, All-weaker, Contains-append_right}
use Rattle.rt0_rules.proofs.Elements.{Contains-none, Contains-cons_cases, Contains-first}
use Rattle.vaults.specs.Journal.{Vault, credentials}
use Rattle.snapshots.specs.Snapshot.{IsOrdered}
use Rattle.search.specs.Answers.{Awaits, Progress, progress, net_at, HearsAsk, TakesIn, Opens, IsOpenAt, own_rows, AnswersAsk, Answers, MayTakeIn}
use Rattle.search.proofs.Kept.{Grows, one_expr, ask_fits_stays}
use Rattle.search.proofs.Steps.{RowsFor, grows_on, opens, hears, IsTold, takes_in, may_take_in}
use Rattle.search.proofs.Asked.{role_rows_are, AreRowsOfOne, role_rows_once}
use Rattle.std.proofs.lemmas.Bool.{cases_eq, eqb-true, eq-eqb, false≢true}
use Rattle.std.proofs.lemmas.List.{map-append, append-nil, length-map}
use Rattle.rt0_rules.proofs.Distinct.{mapped, filtered, kept_by}
use Rattle.rt0_rules.proofs.Unknown.{Contains-map}
use Rattle.scholten_core.specs.declared.letters.Letter.{Letter}
use Rattle.scholten_core.specs.Computation.{Computation, StandByNumber, letter_of}
use Rattle.scholten_core.specs.Step.{mark, marked, numbered, FinishesLetter, DeliversSignal}
use Rattle.search.proofs.Numbered.{AreLetters, AreLoads, HasMore, more_letters, more_words}
use Rattle.search.specs.Search.{IsCounted, KeptBy, IsTallied, net_of, MayAskFor, heard, asks_in, IsCountedBy}
use Rattle.rt0_rules.specs.Asks.{Why, for_via}
use Rattle.rt0_rules.specs.Letters.{NodeAsk}
use Rattle.cred_graph.specs.declared.listeners.Listening.{Listening}
use Rattle.search.proofs.Counting.{counted_stays}
use Rattle.search.proofs.CountedGraph.{heard_has}
use Rattle.search.proofs.Counted.{IsOwn, AsksOnceTold, counted_by_start, counted_by_first_ask, counted_by_ask, counted_by_tell}
use Rattle.std.specs.Map.{lookup}
use Rattle.rt0_rules.specs.Work.{WorkExceeds}
use Rattle.scholten_core.specs.Sound.{IsNumbered}
use Rattle.scholten_core.proofs.Lists.{filter_past}
use Rattle.search.proofs.WorkOf.{sent_exceeds}
use Rattle.cred_graph.specs.declared.listeners.Port.TheVariants as port
use Rattle.search.specs.declared.letters.Load.TheVariants as load
use Rattle.search.specs.declared.findings.Monitor.TheVariants as monitor

-- a search stays steady where a letter that was received is taken out

-- the letter was received: the environment's opened the asked role, an Ask is heard, a Tell is taken in
abbrev pub IsReceived : List Credential → Net → Parent → ℕ → Load (List ℕ) → Type 0
IsReceived rows net Environment to load.Start = (e : Expr) → IsNode net.graph 0 e → OpenedPaid rows net 0 e
IsReceived rows net (Node m) to (load.Ask p) = HasListener net to m p
IsReceived rows net (Node n) to (load.Tell p who) = IsTaken net to p who
IsReceived rows net _ to _ = ⊥

abbrev with_pending : GraphState → List Monitor → List Sent → Net
with_pending g ms pending = record { graph = g; monitors = ms; pending = pending }

-- of the letters under way one was taken out, and where it was the environment's none is left
pub record TakesOut (before after : List Sent) (x : Sent) : Type 0 where
  pub was : (y : Sent) → Contains after y → Contains before y
  pub remains : (y : Sent) → Contains before y → Contains after y ⊎ (y ≡ x)
  pub start : x.load ≡ load.Start → (n : ℕ) → Contains after (record { from = Environment; to = n; load = load.Start }) → ⊥

cases_start : (l : Load (List ℕ)) → (l ≡ load.Start) ⊎ (l ≡ load.Start → ⊥)
cases_start load.Start = inl cc
cases_start _ = inr (λ e. cc)

-- the environment's letter opened the asked role
opened_by_start : (rows : List Credential) (net : Net) (from : Parent) (to : ℕ) → IsReceived rows net from to load.Start → (e : Expr) → IsNode net.graph 0 e → OpenedPaid rows net 0 e
opened_by_start rows net Environment to h = h
opened_by_start rows net _ to h = absurd h

module _ (rows : List Credential) (asked : Role) (g : GraphState) (ms : List Monitor) (before after : List Sent) (x : Sent) (takes : TakesOut before after x) (received : IsReceived rows (with_pending g ms before) x.from x.to x.load) where
  abbrev old : Net
  old = with_pending g ms before

  abbrev new : Net
  new = with_pending g ms after

  received_as : (y : Sent) → y ≡ x → IsReceived rows old y.from y.to y.load
  received_as y same = subst (λ (z : Sent). IsReceived rows old z.from z.to z.load) (sym same) received

  asked_remains : (m : ℕ) (p : Port (List ℕ)) (f : Expr) → IsAsked old m p f → IsAsked new m p f
  asked_remains m p f (n, node, inl listens) = (n, node, inl listens)
  asked_remains m p f (n, node, inr pending) =
      elim (takes.remains _ pending) [
        | inl still ↦ (n, node, inr still)
        | inr same ↦ (n, node, inl (received_as (record { from = Node m; to = n; load = load.Ask p }) same))
      ]

  opened_remains : (m : ℕ) (e : Expr) → OpenedPaid rows old m e → OpenedPaid rows new m e
  opened_remains m (Ent d) paid = paid
  opened_remains m (Rol r) paid = λ c among head. asked_remains m port.Body c.body (paid c among head)
  opened_remains m (Link r t) paid = asked_remains m port.Base (Rol r) paid
  opened_remains m (Meet parts) paid = λ i p at. asked_remains m (port.Part i) _ (paid i p at)

  -- where the letter wasn't the environment's, this one is as it was
  start_remains : (x.load ≡ load.Start → ⊥) → (IsPendingStart new → ⊥) → IsPendingStart old → ⊥
  start_remains other gone (n, pending) =
      elim (takes.remains _ pending) [
        | inl still ↦ gone (n, still)
        | inr same ↦ other (sym (ap (λ (z : Sent). z.load) same))
      ]

  opened_node : IsPaid rows old → (m : ℕ) (e : Expr) → IsNode g m e → IsOpen new m → OpenedPaid rows old m e
  opened_node paid m e node (inl listens) = paid.opened m e node (inl listens)
  opened_node paid m e node (inr (root, gone)) =
      elim (cases_start x.load) [
        | inl first ↦
            let opened = opened_by_start rows old x.from x.to (subst (IsReceived rows old x.from x.to) first received) in
            subst (λ k. IsNode g k e → OpenedPaid rows old k e) (sym root) (opened e) node
        | inr other ↦ paid.opened m e node (inr (root, start_remains other gone))
      ]

  root_remains : IsPaid rows old → IsOpen new 0 ⊎ IsPendingStart new
  root_remains paid =
      elim paid.root [
        | inl opens ↦ elim opens [
          | inl listens ↦ inl (inl listens)
          | inr gone ↦ inl (inr (gone.0, λ start. gone.1 (start.0, takes.was _ start.1)))
        ]
        | inr start ↦ elim (takes.remains _ start.1) [
          | inl still ↦ inr (start.0, still)
          | inr same ↦ inl (inr (cc, λ more. takes.start (sym (ap (λ (z : Sent). z.load) same)) more.0 more.1))
        ]
      ]

  pub settled : IsSteady rows asked old → IsSteady rows asked new
  settled steady = record {
    right = record {
      found = steady.right.found;
      fit = steady.right.fit;
      demanded = steady.right.demanded;
      listeners_fit = steady.right.listeners_fit;
      letters_fit = λ y stands. steady.right.letters_fit y (takes.was y stands);
      parts_fit = λ m i who told. let fits = steady.right.parts_fit m i who told in
          record { parts = fits.parts; part = fits.part; node = fits.node; at = fits.at; known = fits.known };
    };
    paid = record {
      root = root_remains steady.paid;
      opened = λ m e node opens. opened_remains m e (opened_node steady.paid m e node opens);
      via = λ m r t b node told. asked_remains m (port.Via b) _ (steady.paid.via m r t b node told);
      told = λ n m p who listens solution. elim (steady.paid.told n m p who listens solution) [
        | inl pending ↦ elim (takes.remains _ pending) [
          | inl still ↦ inl still
          | inr same ↦ inr (received_as (record { from = Node n; to = m; load = load.Tell p who }) same)
        ]
        | inr taken ↦ inr taken
      ];
      met = steady.paid.met;
    };
  }

-- the receipt pays the letter

pub own_rows_are : (view : List Vault) (e : Expr) → IsOrdered view → RowsFor (credentials view) e (own_rows view e)
own_rows_are view (Rol r) ordered = role_rows_are view r ordered
own_rows_are view _ ordered = tt

-- the letter that is received fits
pub awaited_fits : {rows : List Credential} {asked : Role} {g : GraphState} {ms : List Monitor} {rest : List Sent} {from : Parent} {to : ℕ} {l : Load (List ℕ)} →
    (awaits : Awaits rows asked g ms rest from to l) → LetterFits rows (net_at (progress g ms []) rest to) from to l
awaited_fits {rest = rest} {from = from} {to = to} {l = l} awaits =
    awaits.steady.right.letters_fit (record { from = from; to = to; load = l }) (Contains-append_left rest [] (record { from = from; to = to; load = l }) awaits.there)

-- a receiver is a node, and so is a sender that is one
pub receiver_in : (rows : List Credential) (asked : Role) (net : Net) → IsRight rows asked net → (from : Parent) (to : ℕ) (l : Load (List ℕ)) → LetterFits rows net from to l → to < length net.graph.nodes
receiver_in rows asked net right Environment to load.Start fits = subst (λ (n : ℕ). n < length net.graph.nodes) (sym fits) (slice_get_within net.graph.nodes 0 (Rol asked) right.found.root_node)
receiver_in rows asked net right (Node m) to (load.Ask p) fits = slice_get_within net.graph.nodes to fits.1 fits.3
receiver_in rows asked net right (Node m) to (load.Tell p who) fits =
    let asks = right.listeners_fit m to p fits.0 in
    slice_get_within net.graph.nodes to asks.0 asks.2
receiver_in rows asked net right _ to _ fits = absurd fits

pub told_by_letter : (rows : List Credential) (asked : Role) (g : GraphState) (ms : List Monitor) (rest : List Sent) (m to : ℕ) (p : Port (List ℕ)) (who : List ℕ) →
    (awaits : Awaits rows asked g ms rest (Node m) to (load.Tell p who)) → IsTold rows asked rest to m (progress g ms []) awaits.steady p who
told_by_letter rows asked g ms rest m to p who awaits =
    let fits = awaited_fits awaits in
    record { asks = awaits.steady.right.listeners_fit m to p fits.0; solution = fits.1 }

module _ (view : List Vault) (asked : Role) (rest : List Sent) (ordered : IsOrdered view) where
  -- what was received is paid, and the search is steady
  pub record Receipt (s t : Progress) (from : Parent) (to : ℕ) (l : Load (List ℕ)) : Type 0 where
    pub grows : Grows (net_at s rest to) (net_at t rest to)
    pub steady : IsSteady (credentials view) asked (net_at t rest to)
    pub received : IsReceived (credentials view) (net_at t rest to) from to l

  opens_start : (g : GraphState) (ms : List Monitor) (t : Progress) (to : ℕ) → Awaits (credentials view) asked g ms rest Environment to load.Start →
      ((e : Expr) → IsNode g to e → Opens (own_rows view e) (progress g ms []) t to e) → Receipt (progress g ms []) t Environment to load.Start
  opens_start g ms t to awaits answers =
      let root : to ≡ 0 = awaited_fits awaits in
      let at : IsNode g to (Rol asked) = subst (λ (n : ℕ). IsNode g n (Rol asked)) (sym root) awaits.steady.right.found.root_node in
      let done = opens (credentials view) asked rest to (own_rows view (Rol asked)) (progress g ms []) t (Rol asked) at (answers (Rol asked) at) (own_rows_are view (Rol asked) ordered) awaits.steady in
      record {
        grows = done.moves.grows;
        steady = done.moves.steady;
        received = λ e there.
            let now : IsNode t.graph to (Rol asked) = done.moves.grows.nodes to (Rol asked) at in
            let same : Rol asked ≡ e = one_expr t.graph to (Rol asked) e now (subst (λ (n : ℕ). IsNode t.graph n e) (sym root) there) in
            subst (λ (n : ℕ). OpenedPaid (credentials view) (net_at t rest to) n e) root (subst (OpenedPaid (credentials view) (net_at t rest to) to) same done.paid);
      }

  -- a node that was asked before has paid what it owes
  paid_before : (g : GraphState) (ms : List Monitor) (m to : ℕ) (p : Port (List ℕ)) → Awaits (credentials view) asked g ms rest (Node m) to (load.Ask p) → IsOpenAt g to → (e : Expr) → IsNode g to e → OpenedPaid (credentials view) (net_at (progress g ms []) rest to) to e
  paid_before g ms m to p awaits (inl root) e at =
      awaits.steady.paid.opened to e at (inr (root, λ start. awaits.alone (λ same. cc) start.0 (start_in_rest start.0 start.1)))
    where
      start_in_rest : (n : ℕ) → Contains (rest ++ []) (record { from = Environment; to = n; load = load.Start }) → Contains rest (record { from = Environment; to = n; load = load.Start })
      start_in_rest n there = elim (Contains-append_cases rest [] (record { from = Environment; to = n; load = load.Start }) there) [ inl here ↦ here | inr none ↦ absurd (Contains-none _ none) ]
  paid_before g ms m to p awaits (inr some) e at =
      let first = get_or (listeners_of g to) 0 (record { asker = 0; port = p }) in
      awaits.steady.paid.opened to e at (inl (first.asker, first.port, Contains-get_or (listeners_of g to) 0 (record { asker = 0; port = p }) some))

  hears_letter : (g : GraphState) (ms : List Monitor) (t : Progress) (m to : ℕ) (p : Port (List ℕ)) → Awaits (credentials view) asked g ms rest (Node m) to (load.Ask p) →
      AnswersAsk view (progress g ms []) t to m p → Receipt (progress g ms []) t (Node m) to (load.Ask p)
  hears_letter g ms t m to p awaits (mid, inl (opened, same), heard) =
      let fits = awaited_fits awaits in
      let hears_mid = subst (λ (u : Progress). HearsAsk u t to m p) same heard in
      let done = hears (credentials view) asked rest to (progress g ms []) t m p hears_mid awaits.steady fits (paid_before g ms m to p awaits opened) in
      record { grows = done.moves.grows; steady = done.moves.steady; received = done.listener }
  hears_letter g ms t m to p awaits (mid, inr (closed, opening), heard) =
      let fits = awaited_fits awaits in
      let first = opens (credentials view) asked rest to (own_rows view fits.1) (progress g ms []) mid fits.1 fits.3 (opening fits.1 fits.3) (own_rows_are view fits.1 ordered) awaits.steady in
      let done = hears (credentials view) asked rest to mid t m p heard first.moves.steady (ask_fits_stays first.moves.grows m p to fits)
      (λ e at. subst (OpenedPaid (credentials view) (net_at mid rest to) to) (one_expr mid.graph to fits.1 e (first.moves.grows.nodes to fits.1 fits.3) at) first.paid) in
      record { grows = grows_on first.moves.grows done.moves.grows; steady = done.moves.steady; received = done.listener }

  takes_letter : (g : GraphState) (ms : List Monitor) (t : Progress) (m to : ℕ) (p : Port (List ℕ)) (who : List ℕ) → (awaits : Awaits (credentials view) asked g ms rest (Node m) to (load.Tell p who)) →
      TakesIn (progress g ms []) t to m p who → Receipt (progress g ms []) t (Node m) to (load.Tell p who)
  takes_letter g ms t m to p who awaits answers =
      let done = takes_in (credentials view) asked rest to m (progress g ms []) awaits.steady p who t (told_by_letter (credentials view) asked g ms rest m to p who awaits) answers in
      record { grows = done.moves.grows; steady = done.moves.steady; received = done.taken }

  pub receipt : (g : GraphState) (ms : List Monitor) (t : Progress) (from : Parent) (to : ℕ) (l : Load (List ℕ)) → Awaits (credentials view) asked g ms rest from to l → Answers view (progress g ms []) t from to l → Receipt (progress g ms []) t from to l
  receipt g ms t Environment to load.Start awaits answers = opens_start g ms t to awaits answers
  receipt g ms t (Node m) to (load.Ask p) awaits answers = hears_letter g ms t m to p awaits answers
  receipt g ms t (Node m) to (load.Tell p who) awaits answers = takes_letter g ms t m to p who awaits answers
  receipt g ms t _ to _ awaits answers = absurd answers

-- what a running search keeps is kept by each step of its computation

-- what a node sends is numbered as it is sent
sent_numbered : (nodes : List Expr) (to : ℕ) (k : ℕ) (outs : List (ℕ × Load ℕ)) → sent_of nodes (numbered (Node to) k outs) ≡ sent_by to (outs_at nodes outs)
sent_numbered nodes to k [] = refl
sent_numbered nodes to k (o ∷ outs) =
    ap (λ (xs : List Sent). record { from = Node to; to = o.0; load = load_at nodes o.1 } ∷ xs) (sent_numbered nodes to (k + 1) outs)

-- what it says says no more than it did
loads_numbered : (nodes : List Expr) (to : ℕ) (k : ℕ) (outs : List (ℕ × Load ℕ)) → AreLoads nodes outs → AreLetters nodes (numbered (Node to) k outs)
loads_numbered nodes to k [] are = All-nil (λ (x : ℕ × Letter (Load ℕ)). IsLoad nodes x.1.load)
loads_numbered nodes to k (o ∷ outs) are =
    All-cons (λ (x : ℕ × Letter (Load ℕ)). IsLoad nodes x.1.load) _ _ (All-head (λ (x : ℕ × Load ℕ). IsLoad nodes x.1) o outs are)
    (loads_numbered nodes to (k + 1) outs (All-tail (λ (x : ℕ × Load ℕ). IsLoad nodes x.1) o outs are))

-- of a list of one, two elements are one
one_of : {X : Type 0} (xs : List X) (x y : X) → length xs ≡ 1 → Contains xs x → Contains xs y → x ≡ y
one_of [] x y one p q = absurd (Contains-none x p)
one_of (z ∷ []) x y one p q =
    elim (Contains-cons_cases z [] x p) [
      | inr none ↦ absurd (Contains-none x none)
      | inl first ↦ elim (Contains-cons_cases z [] y q) [ inr none ↦ absurd (Contains-none y none) | inl second ↦ sym first ∙ second ]
    ]
one_of (z ∷ w ∷ xs) x y one p q = absurd (omega arith)

abbrev start_to : ℕ → Sent
start_to n = record { from = Environment; to = n; load = load.Start }

-- the letter of a number, as it stands in the list
there_of : (c : Computation (Load ℕ)) (number : ℕ) (l : Letter (Load ℕ)) → StandByNumber c → letter_of c number ≡ Some l → Contains c.letters (number, l)
there_of c number l by is = (by number l).1 is

-- where the environment's letter is there, it is the letter of any number
start_is : (nodes : List Expr) (letters : List (ℕ × Letter (Load ℕ))) (number : ℕ) (l : Letter (Load ℕ)) (n : ℕ) → (Contains (sent_of nodes letters) (start_to n) → length letters ≡ 1) → Contains letters (number, l) → Contains (sent_of nodes letters) (start_to n) → in_words nodes l ≡ start_to n
start_is nodes letters number l n starts there start =
    one_of (sent_of nodes letters) (in_words nodes l) (start_to n) (length-map letters (λ x. in_words nodes x.1) ∙ starts start) (Contains-map (λ (x : ℕ × Letter (Load ℕ)). in_words nodes x.1) letters (number, l) there) start

pub awaits_letter : {rows : List Credential} {asked : Role} {work : ℕ} {g : GraphState} {ms : List Monitor} {c : Computation (Load ℕ)} → KeptBy rows asked work g ms c → StandByNumber c →
    (number : ℕ) (l : Letter (Load ℕ)) → letter_of c number ≡ Some l → Awaits rows asked g ms (sent_of g.nodes c.letters) l.from l.to (load_at g.nodes l.load)
awaits_letter {rows} {asked} {work} {g} {ms} {c} kept by number l is =
    let there = there_of c number l by is in
    record {
      there = Contains-map (λ (x : ℕ × Letter (Load ℕ)). in_words g.nodes x.1) c.letters (number, l) there;
      alone = λ other n start. other (ap (λ (x : Sent). x.load) (start_is g.nodes c.letters number l n (λ among. kept.starts (n, among)) there start));
      steady = subst (λ (pending : List Sent). IsSteady rows asked (record { graph = g; monitors = ms; pending = pending })) (sym (append-nil (sent_of g.nodes c.letters))) kept.steady;
    }

module _ (view : List Vault) (asked : Role) (work : ℕ) (g : GraphState) (ms : List Monitor) (c : Computation (Load ℕ)) (number : ℕ) (l : Letter (Load ℕ)) (t : Progress) (ordered : IsOrdered view)
    (kept : KeptBy (credentials view) asked work g ms c) (by : StandByNumber c) (is : letter_of c number ≡ Some l) where
  abbrev other : ℕ × Letter (Load ℕ) → Bool
  other x = not (x.0 == number)

  abbrev pub left : List (ℕ × Letter (Load ℕ))
  left = filter other c.letters

  -- the others, in words
  abbrev pub still : List Sent
  still = sent_of g.nodes left

  there : Contains c.letters (number, l)
  there = there_of c number l by is

  -- a letter that is left was there, under another number
  left_was : (y : Sent) → Contains still y → Contains (sent_of g.nodes c.letters) y
  left_was y among =
      let from = mapped (λ (x : ℕ × Letter (Load ℕ)). in_words g.nodes x.1) left y among in
      let kept_one = filtered other c.letters from.from from.among in
      subst (Contains (sent_of g.nodes c.letters)) from.is (Contains-map (λ (x : ℕ × Letter (Load ℕ)). in_words g.nodes x.1) c.letters from.from kept_one.0)

  left_no_start : (n : ℕ) → Contains still (start_to n) → ⊥
  left_no_start n among =
      let from = mapped (λ (x : ℕ × Letter (Load ℕ)). in_words g.nodes x.1) left (start_to n) among in
      let kept_one = filtered other c.letters from.from from.among in
      let one : length c.letters ≡ 1 = kept.starts (n, left_was (start_to n) among) in
      let same : ◌≡◌ {A = ℕ × Letter (Load ℕ)} from.from (number, l) = one_of c.letters from.from (number, l) one kept_one.0 there in
      let is_number : (from.from.0 == number) ≡ true = eq-eqb from.from.0 number (ap (λ (x : ℕ × Letter (Load ℕ)). x.0) same) in
      false≢true (sym (ap not is_number) ∙ kept_one.1)

  sent_no_start : (outs : List (ℕ × Words)) (n : ℕ) → Contains (sent_by l.to outs) (start_to n) → ⊥
  sent_no_start outs n among =
      let from = mapped (λ (out : ℕ × Words). record { from = Node l.to; to = out.0; load = out.1 }) outs (start_to n) among in
      let same : Node l.to ≡ Environment = ap (λ (x : Sent). x.from) from.is in
      cc

  remains_left : (y : Sent) → Contains (sent_of g.nodes c.letters) y → Contains still y ⊎ (y ≡ in_words g.nodes l)
  remains_left y among =
      let from = mapped (λ (x : ℕ × Letter (Load ℕ)). in_words g.nodes x.1) c.letters y among in
      elim (cases_eq from.from.0 number) [
        | inl same ↦
            let at : letter_of c number ≡ Some from.from.1 = subst (λ (k : ℕ). letter_of c k ≡ Some from.from.1) same ((by from.from.0 from.from.1).0 from.among) in
            let letter : from.from.1 ≡ l = same_Some from.from.1 l (sym at ∙ is) in
            inr (sym from.is ∙ ap (in_words g.nodes) letter)
        | inr different ↦
            inl (subst (Contains still) from.is (Contains-map (λ (x : ℕ × Letter (Load ℕ)). in_words g.nodes x.1) left from.from (kept_by other c.letters from.from from.among (other_true from.from.0 different))))
      ]
    where
      other_true : (k : ℕ) → (k ≡ number → ⊥) → not (k == number) ≡ true
      other_true k different = by_cases (k == number) refl
        where
          by_cases : (b : Bool) → (k == number) ≡ b → not b ≡ true
          by_cases true e = absurd (different (eqb-true k number e))
          by_cases false e = refl

  -- once the letter is received, the environment's isn't there
  pub started_before : IsPendingStart (net_at t still l.to) → ⊥
  started_before (n, among) =
      elim (Contains-append_cases still (sent_by l.to t.outs) (start_to n) among) [ inl here ↦ left_no_start n here | inr sent ↦ sent_no_start t.outs n sent ]

  takes_out : TakesOut (sent_of g.nodes c.letters ++ sent_by l.to t.outs) (still ++ sent_by l.to t.outs) (in_words g.nodes l)
  takes_out = record {
    was = λ y among. elim (Contains-append_cases still (sent_by l.to t.outs) y among) [
      | inl here ↦ Contains-append_left (sent_of g.nodes c.letters) (sent_by l.to t.outs) y (left_was y here)
      | inr sent ↦ Contains-append_right (sent_of g.nodes c.letters) (sent_by l.to t.outs) y sent
    ];
    remains = λ y among. elim (Contains-append_cases (sent_of g.nodes c.letters) (sent_by l.to t.outs) y among) [
      | inl here ↦ elim (remains_left y here) [ inl stays ↦ inl (Contains-append_left still (sent_by l.to t.outs) y stays) | inr same ↦ inr same ]
      | inr sent ↦ inl (Contains-append_right still (sent_by l.to t.outs) y sent)
    ];
    start = λ _ n among. started_before (n, among);
  }

  module _ (receipt : Receipt view asked (sent_of g.nodes c.letters) ordered (progress g ms []) t l.from l.to (load_at g.nodes l.load)) where
    pub steady_after : IsSteady (credentials view) asked (net_at t still l.to)
    steady_after =
        settled (credentials view) asked t.graph t.monitors (sent_of g.nodes c.letters ++ sent_by l.to t.outs) (still ++ sent_by l.to t.outs) (in_words g.nodes l) takes_out receipt.received receipt.steady

    module _ (d : Computation (Load ℕ)) (outs : List (ℕ × Load ℕ)) (finishes : FinishesLetter c number outs d) (sent : outs_at t.graph.nodes outs ≡ t.outs) (more : HasMore g.nodes t.graph.nodes) where
      letters_are : d.letters ≡ left ++ numbered (Node l.to) (c.sent + 1) outs
      letters_are = finishes.letters ∙ ap (λ (x : Letter (Load ℕ)). left ++ numbered (Node x.to) (c.sent + 1) outs) (same_Some _ _ (sym finishes.found ∙ is))

      pub after_is : sent_of t.graph.nodes d.letters ≡ still ++ sent_by l.to t.outs
      after_is =
          ap (sent_of t.graph.nodes) letters_are ∙ map-append (λ (x : ℕ × Letter (Load ℕ)). in_words t.graph.nodes x.1) left (numbered (Node l.to) (c.sent + 1) outs)
          ∙ ap (λ (xs : List Sent). xs ++ sent_of t.graph.nodes (numbered (Node l.to) (c.sent + 1) outs)) (more_words g.nodes t.graph.nodes left more (All-filter other (λ (x : ℕ × Letter (Load ℕ)). IsLoad g.nodes x.1.load) c.letters kept.loads))
          ∙ ap (λ (xs : List Sent). still ++ xs) (sent_numbered t.graph.nodes l.to (c.sent + 1) outs ∙ ap (sent_by l.to) sent)

      loads_after : AreLoads t.graph.nodes outs → AreLetters t.graph.nodes d.letters
      loads_after are =
          let says = λ (x : ℕ × Letter (Load ℕ)). IsLoad t.graph.nodes x.1.load in
          subst (AreLetters t.graph.nodes) (sym letters_are)
          (All-append says left (numbered (Node l.to) (c.sent + 1) outs) (All-filter other says c.letters (more_letters g.nodes t.graph.nodes c.letters more kept.loads)) (loads_numbered t.graph.nodes l.to (c.sent + 1) outs are))

      pub done_kept : AreLoads t.graph.nodes outs → c.sent + length outs ≤ work → IsTallied t.graph t.monitors d → KeptBy (credentials view) asked work t.graph t.monitors d
      done_kept are within tallied = record {
        steady = subst (λ (pending : List Sent). IsSteady (credentials view) asked (record { graph = t.graph; monitors = t.monitors; pending = pending })) (sym after_is) steady_after;
        starts = λ start. absurd (started_before (start.0, subst (λ (xs : List Sent). Contains xs (start_to start.0)) after_is start.1));
        within = subst (λ (k : ℕ). k ≤ work) (sym finishes.sent) within;
        loads = loads_after are;
        tallied = tallied;
      }

-- a letter that is held or waits again says what it said
sent_marked : (nodes : List Expr) (number : ℕ) (held : Bool) (letters : List (ℕ × Letter (Load ℕ))) → sent_of nodes (map (λ l. cond (l.0 == number) (l.0, record l.1 { held = held }) l) letters) ≡ sent_of nodes letters
sent_marked nodes number held [] = refl
sent_marked nodes number held (x ∷ letters) =
    ap (λ (y : Sent). y ∷ sent_of nodes (map (λ l. cond (l.0 == number) (l.0, record l.1 { held = held }) l) letters)) (same (x.0 == number)) ∙ ap (λ (ys : List Sent). in_words nodes x.1 ∷ ys) (sent_marked nodes number held letters)
  where
    same : (b : Bool) → in_words nodes ((cond {A = ℕ × Letter (Load ℕ)} b (x.0, record x.1 { held = held }) x).1) ≡ in_words nodes x.1
    same true = refl
    same false = refl

loads_marked : (nodes : List Expr) (number : ℕ) (held : Bool) (letters : List (ℕ × Letter (Load ℕ))) → AreLetters nodes letters → AreLetters nodes (map (mark number held) letters)
loads_marked nodes number held letters are =
    let says = λ (x : ℕ × Letter (Load ℕ)). IsLoad nodes x.1.load in
    All-map says (mark number held) letters (All-weaker says (λ x. says (mark number held x)) (λ x is. same x (x.0 == number) is) letters are)
  where
    same : (x : ℕ × Letter (Load ℕ)) (b : Bool) → IsLoad nodes x.1.load → IsLoad nodes ((cond {A = ℕ × Letter (Load ℕ)} b (x.0, record x.1 { held = held }) x).1).load
    same x true is = is
    same x false is = is

-- what is kept is kept by the letters that were sent alone
pub kept_as : {rows : List Credential} {asked : Role} {work : ℕ} {g : GraphState} {ms : List Monitor} {c d : Computation (Load ℕ)} → KeptBy rows asked work g ms c →
    sent_of g.nodes d.letters ≡ sent_of g.nodes c.letters → length d.letters ≡ length c.letters → d.sent ≡ c.sent → AreLetters g.nodes d.letters → KeptBy rows asked work g ms d
kept_as {rows} {asked} {work} {g} {ms} {c} {d} kept sent count number loads = record {
  steady = subst (λ (pending : List Sent). IsSteady rows asked (record { graph = g; monitors = ms; pending = pending })) (sym sent) kept.steady;
  starts = λ start. count ∙ kept.starts (start.0, subst (λ (xs : List Sent). Contains xs (start_to start.0)) sent start.1);
  within = subst (λ (k : ℕ). k ≤ work) (sym number) kept.within;
  loads = loads;
  tallied = record {
    first = λ start. number ∙ kept.tallied.first (start.0, subst (λ (xs : List Sent). Contains xs (start_to start.0)) sent start.1);
    counted = subst (λ (n : ℕ). IsCounted (net_of g ms d) n) (sym number)
        (subst (λ (pending : List Sent). IsCounted (record { graph = g; monitors = ms; pending = pending }) c.sent) (sym sent) kept.tallied.counted);
  };
}

pub marked_kept : {rows : List Credential} {asked : Role} {work : ℕ} {g : GraphState} {ms : List Monitor} {c : Computation (Load ℕ)} → KeptBy rows asked work g ms c → (number : ℕ) (held : Bool) → KeptBy rows asked work g ms (marked c number held)
marked_kept {g = g} {c = c} kept number held =
    kept_as kept (sent_marked g.nodes number held c.letters) (length-map c.letters (mark number held)) refl (loads_marked g.nodes number held c.letters kept.loads)

pub signalled_kept : {rows : List Credential} {asked : Role} {work : ℕ} {g : GraphState} {ms : List Monitor} {c d : Computation (Load ℕ)} → KeptBy rows asked work g ms c → (place : ℕ) → DeliversSignal c place d → KeptBy rows asked work g ms d
signalled_kept {g = g} kept place delivers =
    kept_as kept (ap (sent_of g.nodes) delivers.letters) (ap length delivers.letters) delivers.sent (subst (AreLetters g.nodes) (sym delivers.letters) kept.loads)

-- what the receiver of a letter knows, by what the letter says

pub awaits_as : {rows : List Credential} {asked : Role} {g : GraphState} {ms : List Monitor} {rest : List Sent} {from : Parent} {to : ℕ} {l : Load (List ℕ)} → Awaits rows asked g ms rest from to l →
    (from' : Parent) (l' : Load (List ℕ)) → from ≡ from' → l ≡ l' → Awaits rows asked g ms rest from' to l'
awaits_as {rows} {asked} {g} {ms} {rest} {from} {to} {l} awaits from' l' p q =
    subst (λ (k : Load (List ℕ)). Awaits rows asked g ms rest from' to k) q (subst (λ (f : Parent). Awaits rows asked g ms rest f to l) p awaits)

pub node_in : {rows : List Credential} {asked : Role} {g : GraphState} {ms : List Monitor} {rest : List Sent} {from : Parent} {to : ℕ} {l : Load (List ℕ)} → Awaits rows asked g ms rest from to l → to < length g.nodes
node_in {rows} {asked} {g} {ms} {rest} {from} {to} {l} awaits =
    receiver_in rows asked (net_at (progress g ms []) rest to) awaits.steady.right from to l (awaited_fits awaits)

-- the environment starts, and nodes ask and tell
from_environment : (rows : List Credential) (net : Net) (from : Parent) (to : ℕ) → LetterFits rows net from to load.Start → from ≡ Environment
from_environment rows net Environment to fits = refl
from_environment rows net _ to fits = absurd fits

start_of : (rows : List Credential) (net : Net) (from : Parent) (to : ℕ) (l : Load (List ℕ)) → LetterFits rows net from to l → ((m : ℕ) → from ≡ Node m → ⊥) → l ≡ load.Start
start_of rows net from to load.Start fits never = refl
start_of rows net (Node m) to (load.Ask p) fits never = absurd (never m refl)
start_of rows net (Node m) to (load.Tell p who) fits never = absurd (never m refl)
start_of rows net _ to _ fits never = absurd fits

pub starts : {rows : List Credential} {asked : Role} {g : GraphState} {ms : List Monitor} {rest : List Sent} {from : Parent} {to : ℕ} {l : Load (List ℕ)} → Awaits rows asked g ms rest from to l → ((m : ℕ) → from ≡ Node m → ⊥) → l ≡ load.Start
starts {rows} {asked} {g} {ms} {rest} {from} {to} {l} awaits never = start_of rows (net_at (progress g ms []) rest to) from to l (awaited_fits awaits) never

pub no_start : {rows : List Credential} {asked : Role} {g : GraphState} {ms : List Monitor} {rest : List Sent} {from : Parent} {to : ℕ} {l : Load (List ℕ)} → Awaits rows asked g ms rest from to l → (m : ℕ) → from ≡ Node m → l ≡ load.Start → ⊥
no_start {rows} {asked} {g} {ms} {rest} {from} {to} {l} awaits m by is = awaited_fits (awaits_as awaits (Node m) load.Start by is)

pub asker_in : {rows : List Credential} {asked : Role} {g : GraphState} {ms : List Monitor} {rest : List Sent} {from : Parent} {to : ℕ} {l : Load (List ℕ)} → Awaits rows asked g ms rest from to l → (p : Port (List ℕ)) (m : ℕ) → l ≡ load.Ask p → from ≡ Node m → m < length g.nodes
asker_in {rows} {asked} {g} {ms} {rest} {from} {to} {l} awaits p m is by =
    let fits = awaited_fits (awaits_as awaits (Node m) (load.Ask p) by is) in
    slice_get_within g.nodes m fits.0 fits.2

pub may_tell : {rows : List Credential} {asked : Role} {g : GraphState} {ms : List Monitor} {rest : List Sent} {from : Parent} {to : ℕ} {l : Load (List ℕ)} → Awaits rows asked g ms rest from to l → (p : Port (List ℕ)) (who : List ℕ) (m : ℕ) → l ≡ load.Tell p who → from ≡ Node m → MayTakeIn g ms to m p who
may_tell {rows} {asked} {g} {ms} {rest} {from} {to} {l} awaits p who m is by =
    let told = awaits_as awaits (Node m) (load.Tell p who) by is in
    may_take_in rows asked rest to m (progress g ms []) told.steady p who (told_by_letter rows asked g ms rest m to p who told)

pub answers_start : {rows : List Credential} {asked : Role} {g : GraphState} {ms : List Monitor} {rest : List Sent} {from : Parent} {to : ℕ} {l : Load (List ℕ)} → Awaits rows asked g ms rest from to l → l ≡ load.Start →
    (view : List Vault) (s t : Progress) → ((e : Expr) → IsNode s.graph to e → Opens (own_rows view e) s t to e) → Answers view s t from to l
answers_start {rows} {asked} {g} {ms} {rest} {from} {to} {l} awaits is view s t opens =
    let by : from ≡ Environment = from_environment rows (net_at (progress g ms []) rest to) from to (awaited_fits (awaits_as awaits from load.Start refl is)) in
    subst (λ (k : Load (List ℕ)). Answers view s t from to k) (sym is) (subst (λ (f : Parent). Answers view s t f to load.Start) (sym by) opens)

pub answers_ask : (view : List Vault) (s t : Progress) (from : Parent) (to : ℕ) (l : Load (List ℕ)) (m : ℕ) (p : Port (List ℕ)) → from ≡ Node m → l ≡ load.Ask p → AnswersAsk view s t to m p → Answers view s t from to l
answers_ask view s t from to l m p by is answers =
    subst (λ (k : Load (List ℕ)). Answers view s t from to k) (sym is) (subst (λ (f : Parent). Answers view s t f to (load.Ask p)) (sym by) answers)

pub answers_tell : (view : List Vault) (s t : Progress) (from : Parent) (to : ℕ) (l : Load (List ℕ)) (m : ℕ) (p : Port (List ℕ)) (who : List ℕ) → from ≡ Node m → l ≡ load.Tell p who → TakesIn s t to m p who → Answers view s t from to l
answers_tell view s t from to l m p who by is takes =
    subst (λ (k : Load (List ℕ)). Answers view s t from to k) (sym is) (subst (λ (f : Parent). Answers view s t f to (load.Tell p who)) (sym by) takes)

-- a search's letters stay counted by the receipt of a letter, whatever it says

-- one may ask this
abbrev pub MayAsk : Net → NodeAsk → Type 0
MayAsk net a = MayAskFor net a.asker a.why

-- a node that asks for itself is open, and an open one may
own_opens : (net : Net) (m : ℕ) (why : Why) → IsOwn why → MayAskFor net m why → IsOpen net m
own_opens net m (for_via b) own may = absurd own
own_opens net m _ own may = may

open_asks : (net : Net) (m : ℕ) (why : Why) → IsOwn why → IsOpen net m → MayAskFor net m why
open_asks net m (for_via b) own opened = absurd own
open_asks net m _ own opened = opened

-- who was told of a member of its base may ask on its behalf
told_asks : (net : Net) (m : ℕ) (p : Port (List ℕ)) (who : List ℕ) (why : Why) → IsTaken net m p who → AsksOnceTold p who why → MayAskFor net m why
told_asks net m port.Base who why taken once = subst (MayAskFor net m) (sym once) taken
told_asks net m _ who why taken once = absurd once

-- whoever might ask may still, where what was open is open and who was told is told
may_ask_on : (old next : Net) → ((m : ℕ) → IsOpen old m → IsOpen next m) → ((m : ℕ) (b : List ℕ) → IsBaseTold old m b → IsBaseTold next m b) →
    (m : ℕ) (why : Why) → MayAskFor old m why → MayAskFor next m why
may_ask_on _ _ opens tells m (for_via b) may = tells m b may
may_ask_on _ _ opens tells m _ may = opens m may

same_link : (x y : List (List ℕ)) → monitor.Link x ≡ monitor.Link y → x ≡ y
same_link x y e = cc

-- a linked role that wasn't told of a member doesn't ask on its behalf yet
not_told : (net : Net) (m : ℕ) (x : List (List ℕ)) (b : List ℕ) → slice_get net.monitors m ≡ Some (monitor.Link x) → (Contains x b → ⊥) → IsBaseTold net m b → ⊥
not_told net m x b at absent told =
    let same : told.0 ≡ x = same_link told.0 x (same_Some (monitor.Link told.0) (monitor.Link x) (sym told.1 ∙ at)) in
    absent (subst (λ (y : List (List ℕ)). Contains y b) same told.2)

-- a node with a listener was heard of
listener_heard : (g : GraphState) (n : ℕ) (l : Listening) → Listens g n l → 0 < length (heard g)
listener_heard g n l listens =
    let among = heard_has 0 n g.listeners l listens in
    omega (arith, among.1)

-- the rows that a node asks stand once each
own_rows_once : (view : List Vault) (e : Expr) → IsOrdered view → AreRowsOfOne (own_rows view e)
own_rows_once view (Ent d) ordered = (tt, λ c d has other. absurd (Contains-none c has))
own_rows_once view (Rol r) ordered = role_rows_once view r ordered
own_rows_once view (Link r name) ordered = (tt, λ c d has other. absurd (Contains-none c has))
own_rows_once view (Meet parts) ordered = (tt, λ c d has other. absurd (Contains-none c has))

module _ (view : List Vault) (asked : Role) (ordered : IsOrdered view) (g : GraphState) (ms : List Monitor) (t : Progress) (before after : List Sent) (to sent : ℕ)
    (gone : IsPendingStart (net_at t (before ++ after) to) → ⊥) where
  abbrev s : Progress
  s = progress g ms []

  abbrev next : Net
  next = net_at t (before ++ after) to

  -- the letters with the one that is received
  abbrev with : Sent → List Sent
  with x = before ++ (x ∷ after)

  stays : (rest : List Sent) → Grows (net_at s rest to) (net_at t rest to) → (a : NodeAsk) → MayAsk (net_at s rest to) a → MayAsk next a
  stays rest grows a may =
      may_ask_on (net_at s rest to) next (λ m opened. open_on m opened) (λ m b told. grows.bases m b told) a.asker a.why may
    where
      open_on : (m : ℕ) → IsOpen (net_at s rest to) m → IsOpen next m
      open_on m (inl l) = inl (l.0, l.1, grows.listeners m (record { asker = l.0; port = l.1 }) l.2)
      open_on m (inr root) = inr (root.0, gone)

  begun_with : (rest : List Sent) → IsCounted (record { graph = g; monitors = ms; pending = rest }) sent → IsCountedBy (MayAsk (net_at s rest to)) (members_of g) (heard g) (asks_in rest) sent
  begun_with rest counted =
      counted_stays counted (λ a may. subst (λ (pending : List Sent). MayAsk (record { graph = g; monitors = ms; pending = pending }) a) (sym (append-nil rest)) may)

  abbrev Counted : List Sent → Type 0
  Counted rest = IsCounted (record { graph = g; monitors = ms; pending = rest }) sent

  -- the environment's letter
  abbrev first_letter : Sent
  first_letter = record { from = Environment; to = to; load = load.Start }

  start_counted : Awaits (credentials view) asked g ms (with first_letter) Environment to load.Start → Grows (net_at s (with first_letter) to) (net_at t (with first_letter) to) →
      sent ≡ 1 → Counted (with first_letter) → ((e : Expr) → IsNode g to e → Opens (own_rows view e) s t to e) → IsCounted next (sent + length t.outs)
  start_counted awaits grows one counted answers =
      let root : to ≡ 0 = awaited_fits awaits in
      let at : IsNode g to (Rol asked) = subst (λ (n : ℕ). IsNode g n (Rol asked)) (sym root) awaits.steady.right.found.root_node in
      let rows = own_rows_once view (Rol asked) ordered in
      let old : Net = net_at s (with first_letter) to in
      let begun = begun_with (with first_letter) counted in
      counted_by_start (own_rows view (Rol asked)) rows.0 rows.1 before after to sent s t (stays (with first_letter) grows) (Rol asked)
      (λ a same own may. closed (subst (IsOpen old) same (own_opens old a.asker a.why own may)))
      (λ a same own. open_asks next a.asker a.why own (inr (same ∙ root, gone)))
      refl begun (answers (Rol asked) at)
    where
      closed : IsOpen (net_at s (with first_letter) to) to → ⊥
      closed (inl l) = absurd (omega (arith, one, counted.total, listener_heard g to (record { asker = l.0; port = l.1 }) l.2))
      closed (inr root) =
          root.1 (to, Contains-append_left (with first_letter) [] first_letter (Contains-append_right before (first_letter ∷ after) first_letter (Contains-first first_letter after)))

  -- an Ask
  module _ (m : ℕ) (p : Port (List ℕ)) where
    abbrev ask : Sent
    ask = record { from = Node m; to = to; load = load.Ask p }

    abbrev rest : List Sent
    rest = with ask

    ask_counted : (awaits : Awaits (credentials view) asked g ms rest (Node m) to (load.Ask p)) → Receipt view asked rest ordered s t (Node m) to (load.Ask p) → Counted rest →
        AnswersAsk view s t to m p → IsCounted next (sent + length t.outs)
    ask_counted awaits receipt counted (mid, inl (opened, same), heard) =
        let at : to < length g.nodes = receiver_in (credentials view) asked (net_at s rest to) awaits.steady.right (Node m) to (load.Ask p) (awaited_fits awaits) in
        let within : to < length g.listeners = omega (arith, awaits.steady.right.found.graph.one_list_each) in
        counted_by_ask before after to sent s t (stays rest receipt.grows) m p within refl (begun_with rest counted) (subst (λ (u : Progress). HearsAsk u t to m p) same heard)
    ask_counted awaits receipt counted (mid, inr (shut, opening), heard) =
        let fits = awaited_fits awaits in
        let e : Expr = fits.1 in
        let first = opens (credentials view) asked rest to (own_rows view e) s mid e fits.3 (opening e fits.3) (own_rows_are view e ordered) awaits.steady in
        let at : to < length g.nodes = receiver_in (credentials view) asked (net_at s rest to) awaits.steady.right (Node m) to (load.Ask p) fits in
        let rows = own_rows_once view e ordered in
        let old : Net = net_at s rest to in
        counted_by_first_ask (own_rows view e) rows.0 rows.1 before after to sent s t (stays rest receipt.grows) mid m p e (within mid e (first.moves.grows.nodes to e fits.3) first.moves.steady)
        (λ a same own may. closed shut (subst (IsOpen old) same (own_opens old a.asker a.why own may)))
        (λ a same own. open_asks next a.asker a.why own (inl (m, p, subst (λ (n : ℕ). HasListener next n m p) (sym same) receipt.received)))
        refl (begun_with rest counted) (opening e fits.3) heard
      where
        within : (u : Progress) (e : Expr) → IsNode u.graph to e → IsSteady (credentials view) asked (net_at u rest to) → to < length u.graph.listeners
        within u e at steady =
            let inside : to < length u.graph.nodes = slice_get_within u.graph.nodes to e at in
            omega (arith, steady.right.found.graph.one_list_each)

        closed : (IsOpenAt g to → ⊥) → IsOpen (net_at s rest to) to → ⊥
        closed shut (inl l) = shut (inr (omega (arith, l.2.1)))
        closed shut (inr root) = shut (inl root.0)

  -- a Tell
  tell_counted : (m : ℕ) (p : Port (List ℕ)) (who : List ℕ) → Receipt view asked (with (record { from = Node m; to = to; load = load.Tell p who })) ordered s t (Node m) to (load.Tell p who) →
      Counted (with (record { from = Node m; to = to; load = load.Tell p who })) → TakesIn s t to m p who → IsCounted next (sent + length t.outs)
  tell_counted m p who receipt counted takes =
      let rest : List Sent = with (record { from = Node m; to = to; load = load.Tell p who }) in
      let old : Net = net_at s rest to in
      counted_by_tell before after to sent s t (stays rest receipt.grows) m p who
      (λ x at absent a same why may. not_told old to x who at absent (subst (λ (n : ℕ). IsBaseTold old n who) same (subst (MayAskFor old a.asker) why may)))
      (λ a same once. told_asks next a.asker p who a.why (subst (λ (n : ℕ). IsTaken next n p who) (sym same) (taken_in p receipt.received)) once)
      refl (begun_with rest counted) takes
    where
      taken_in : (q : Port (List ℕ)) → IsTaken (net_at t (with (record { from = Node m; to = to; load = load.Tell p who })) to) to q who → IsTaken next to q who
      taken_in port.Body taken = taken
      taken_in port.Base taken = taken
      taken_in (port.Via b) taken = taken
      taken_in (port.Part i) taken = taken

  -- whatever the letter says
  pub receipt_counted : (from : Parent) (l : Load (List ℕ)) → Awaits (credentials view) asked g ms (with (record { from = from; to = to; load = l })) from to l →
      Receipt view asked (with (record { from = from; to = to; load = l })) ordered s t from to l →
      (IsPendingStart (record { graph = g; monitors = ms; pending = with (record { from = from; to = to; load = l }) }) → sent ≡ 1) →
      Counted (with (record { from = from; to = to; load = l })) → Answers view s t from to l → IsCounted next (sent + length t.outs)
  receipt_counted Environment load.Start awaits receipt first counted answers =
      start_counted awaits receipt.grows (first (to, Contains-append_right before (first_letter ∷ after) first_letter (Contains-first first_letter after))) counted answers
  receipt_counted (Node m) (load.Ask p) awaits receipt first counted answers = ask_counted m p awaits receipt counted answers
  receipt_counted (Node m) (load.Tell p who) awaits receipt first counted answers = tell_counted m p who receipt counted answers
  receipt_counted _ _ awaits receipt first counted answers = absurd answers

-- the finish of a letter keeps a search's letters counted, and shows its work where it is spent

-- the element of a number, with those before it and those after it
pub record StandsBetween {X : Type 0} (xs : List (ℕ × X)) (number : ℕ) (x : X) : Type 0 where
  pub before : List (ℕ × X)
  pub after : List (ℕ × X)
  pub whole : xs ≡ before ++ ((number, x) ∷ after)
  pub others : filter (λ e. not (e.0 == number)) xs ≡ before ++ after

stands_between : {X : Type 0} (low : ℕ) (xs : List (ℕ × X)) (high number : ℕ) (x : X) → IsNumbered low xs high → lookup (λ n. n == number) xs ≡ Some x → StandsBetween xs number x
stands_between low [] high number x rising is = cc
stands_between {X} low (e ∷ xs) high number x rising is =
    elim (cases_eq e.0 number) [
      | inl same ↦
          let value : e.1 ≡ x = same_Some e.1 x (rw (eq-eqb e.0 number same) at is) in
          record {
            before = [];
            after = xs;
            whole = ap (λ (n : ℕ). (n, e.1) ∷ xs) same ∙ ap (λ (y : X). (number, y) ∷ xs) value;
            others = rw (eq-eqb e.0 number same) (filter_past number e.0 xs high rising.1 (omega arith));
          }
      | inr other ↦
          let later : StandsBetween xs number x = stands_between e.0 xs high number x rising.1 (rw (ne_eqb e.0 number other) at is) in
          record {
            before = e ∷ later.before;
            after = later.after;
            whole = ap (λ (ys : List (ℕ × X)). e ∷ ys) later.whole;
            others = rw (ne_eqb e.0 number other) (ap (λ (ys : List (ℕ × X)). e ∷ ys) later.others);
          }
    ]

module _ (view : List Vault) (asked : Role) (work : ℕ) (g : GraphState) (ms : List Monitor) (c : Computation (Load ℕ)) (number : ℕ) (l : Letter (Load ℕ)) (t : Progress) (ordered : IsOrdered view)
    (kept : KeptBy (credentials view) asked work g ms c) (by : StandByNumber c) (is : letter_of c number ≡ Some l) (numbers : IsNumbered 0 c.letters c.sent)
    (tallied : IsTallied g ms c) (row : Answers view (progress g ms []) t l.from l.to (load_at g.nodes l.load)) where
  abbrev others : List Sent
  others = still view asked work g ms c number l t ordered kept by is

  parted : StandsBetween c.letters number l
  parted = stands_between 0 c.letters c.sent number l numbers is

  abbrev first_ones : List Sent
  first_ones = sent_of g.nodes parted.before

  abbrev last_ones : List Sent
  last_ones = sent_of g.nodes parted.after

  all_are : sent_of g.nodes c.letters ≡ first_ones ++ (in_words g.nodes l ∷ last_ones)
  all_are = ap (sent_of g.nodes) parted.whole ∙ map-append (λ (x : ℕ × Letter (Load ℕ)). in_words g.nodes x.1) parted.before ((number, l) ∷ parted.after)

  others_are : others ≡ first_ones ++ last_ones
  others_are = ap (sent_of g.nodes) parted.others ∙ map-append (λ (x : ℕ × Letter (Load ℕ)). in_words g.nodes x.1) parted.before parted.after

  awaited : Awaits (credentials view) asked g ms (first_ones ++ (in_words g.nodes l ∷ last_ones)) l.from l.to (load_at g.nodes l.load)
  awaited = subst (λ (rest : List Sent). Awaits (credentials view) asked g ms rest l.from l.to (load_at g.nodes l.load)) all_are (awaits_letter kept by number l is)

  -- the letters are counted still, with those that the receiver sends
  counted_after : IsCounted (net_at t others l.to) (c.sent + length t.outs)
  counted_after =
      subst (λ (rest : List Sent). IsCounted (net_at t rest l.to) (c.sent + length t.outs)) (sym others_are)
      (receipt_counted view asked ordered g ms t first_ones last_ones l.to c.sent
      (subst (λ (rest : List Sent). IsPendingStart (net_at t rest l.to) → ⊥) others_are (started_before view asked work g ms c number l t ordered kept by is))
      l.from (load_at g.nodes l.load) awaited
      (receipt view asked (first_ones ++ (in_words g.nodes l ∷ last_ones)) ordered g ms t l.from l.to (load_at g.nodes l.load) awaited row)
      (subst (λ (rest : List Sent). IsPendingStart (record { graph = g; monitors = ms; pending = rest }) → c.sent ≡ 1) all_are tallied.first)
      (subst (λ (rest : List Sent). IsCounted (record { graph = g; monitors = ms; pending = rest }) c.sent) all_are tallied.counted) row)

  abbrev paid : Receipt view asked (sent_of g.nodes c.letters) ordered (progress g ms []) t l.from l.to (load_at g.nodes l.load)
  paid = receipt view asked (sent_of g.nodes c.letters) ordered g ms t l.from l.to (load_at g.nodes l.load) (awaits_letter kept by number l is) row

  pub done_tallied : (d : Computation (Load ℕ)) (outs : List (ℕ × Load ℕ)) → FinishesLetter c number outs d → outs_at t.graph.nodes outs ≡ t.outs → HasMore g.nodes t.graph.nodes → IsTallied t.graph t.monitors d
  done_tallied d outs finishes says more =
      let after : sent_of t.graph.nodes d.letters ≡ others ++ sent_by l.to t.outs = after_is view asked work g ms c number l t ordered kept by is paid d outs finishes says more in
      let sent : d.sent ≡ c.sent + length t.outs = omega (arith, finishes.sent, length-map {B = ℕ × Load (List ℕ)} outs (λ (o : ℕ × Load ℕ). (o.0, load_at t.graph.nodes o.1)), ap length says) in
      record {
        first = λ first_letter. absurd (started_before view asked work g ms c number l t ordered kept by is (first_letter.0, subst (λ (xs : List Sent). Contains xs (record { from = Environment; to = first_letter.0; load = load.Start })) after first_letter.1));
        counted = subst (λ (n : ℕ). IsCounted (net_of t.graph t.monitors d) n) (sym sent)
            (subst (λ (pending : List Sent). IsCounted (record { graph = t.graph; monitors = t.monitors; pending = pending }) (c.sent + length t.outs)) (sym after) counted_after);
      }

  -- where they would be more than the limit, so is the work
  pub work_exceeds : work < c.sent + length t.outs → WorkExceeds (credentials view) asked work
  work_exceeds over =
      sent_exceeds (steady_after view asked work g ms c number l t ordered kept by is paid).right (c.sent + length t.outs) work counted_after over
