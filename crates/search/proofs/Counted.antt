-- A search's letters stay counted where a node opens, hears an Ask and takes in what it was told.
use Rattle.std.proofs.Common.{ℕ, ◌+◌, ◌≡◌, ◌==◌, ◌∙◌, ◌⊎◌, sym, subst, ap, refl, List, [], ◌∷◌, ◌++◌, length, map, arith, true, false, ◌<◌, inl, inr, ◌≤◌, Some, slice_get}
use Rattle.std.specs.List.{Contains, filter}
use Rattle.std.proofs.lemmas.List.{append-nil, length-append, length-map, append_assoc}
use Rattle.credential_text.specs.declared.exprs.Expr.{Expr}
use Rattle.rt0_rules.specs.Work.{AreDistinct}
use Rattle.rt0_rules.specs.Letters.{NodeAsk}
use Rattle.cred_graph.specs.declared.listeners.Port.{Port}
use Rattle.cred_graph.specs.declared.listeners.Listening.{Listening}
use Rattle.cred_graph.specs.declared.solutions.Reason.{Reason}
use Rattle.cred_graph.specs.declared.solutions.Solution.{Solution}
use Rattle.cred_graph.specs.Graph.{GraphState, listeners_of, members_of}
use Rattle.search.specs.declared.letters.Load.{Load}
use Rattle.search.specs.declared.letters.Load.TheVariants as load
use Rattle.search.specs.Net.{Sent, sent_by, why_of}
use Rattle.search.specs.Answers.{Progress, Solves, HearsAsk, AsksEach, Opens, TellsBase, TellsPart, TakesIn, part_asks}
use Rattle.search.proofs.Tells.{new_tells, known_tells}
use Rattle.search.specs.Search.{heard, asks_in, IsCountedBy, heard_of, heard_from, ask_from}
use Rattle.search.proofs.Counting.{AreDistinct-zipped, counted_asked, counted_solved, counted_heard, counted_stays}
use Rattle.search.proofs.CountedGraph.{heard_by, members_with, asks_in-append, IsInserted, heard_with, heard_has}
use Rattle.search.proofs.Asked.{IsAskFor, ask_for_one, AskedFor, sent_more, asked_each, own_ask}
use Rattle.std.proofs.lemmas.List.Elements.{Contains-append_right}
use Rattle.rt0_rules.proofs.Elements.{Contains-none, Contains-first, Contains-cons_cases}
use Rattle.scholten_core.specs.declared.parents.Parent.TheVariants.{Node, Environment}
use Rattle.credential_text.specs.declared.credentials.Credential.{Credential}
use Rattle.credential_text.specs.declared.intersections.Part.{Part}
use Rattle.credential_text.specs.declared.exprs.Expr.TheVariants.{Ent, Rol, Link, Meet}
use Rattle.credential_text.specs.Expr.{part_expr}
use Rattle.credential_text.proofs.Same.{same_credential}
use Rattle.rt0_rules.specs.Asks.{Why, for_body, for_base, for_via, for_part}
use Rattle.rt0_rules.proofs.Distinct.{IsMapped, mapped, AreDistinct-map}
use Rattle.cred_graph.specs.declared.listeners.Port.TheVariants as port
use Rattle.cred_graph.specs.declared.solutions.Reason.TheVariants as reason
use Rattle.monitors.specs.LinkMonitor.{AddsKey}
use Rattle.search.specs.declared.findings.Monitor.TheVariants as monitor

-- the letters are counted while the node answers a letter, where these others are under way
abbrev pub IsCountedAt : List Sent → ℕ → ℕ → (NodeAsk → Type 0) → Progress → Type 0
IsCountedAt rest n sent may_ask s = IsCountedBy may_ask (members_of s.graph) (heard s.graph) (asks_in (rest ++ sent_by n s.outs)) (sent + length s.outs)

-- the same lists in other words
pub same_count : {may_ask : NodeAsk → Type 0} {members after : ℕ → List (List ℕ)} {listeners hearers pending waiting : List NodeAsk} {sent total : ℕ} →
    members ≡ after → listeners ≡ hearers → pending ≡ waiting → sent ≡ total →
    IsCountedBy may_ask members listeners pending sent → IsCountedBy may_ask after hearers waiting total
same_count {may_ask} {members} {after} {listeners} {hearers} {pending} {waiting} {sent} {total} a b c d counted =
    subst (λ t. IsCountedBy may_ask after hearers waiting t) d
    (subst (λ w. IsCountedBy may_ask after hearers w sent) c
    (subst (λ h. IsCountedBy may_ask after h pending sent) b
    (subst (λ m. IsCountedBy may_ask m listeners pending sent) a counted)))

pub same_members : (g h : GraphState) → g.solutions ≡ h.solutions → members_of g ≡ members_of h
same_members g h same = ap (λ (found : List Solution). λ (m : ℕ). map (λ s. s.who) (filter (λ s. s.node == m) found)) same

-- what is told asks nothing
no_ask_in_new : (n : ℕ) (who : List ℕ) (ls : List Listening) → asks_in (sent_by n (map (λ l. (l.asker, load.Tell l.port who)) ls)) ≡ []
no_ask_in_new n who [] = refl
no_ask_in_new n who (l ∷ ls) = no_ask_in_new n who ls

pub no_ask_in_known : (n m : ℕ) (p : Port (List ℕ)) (known : List (List ℕ)) → asks_in (sent_by n (map (λ who. (m, load.Tell p who)) known)) ≡ []
no_ask_in_known n m p [] = refl
no_ask_in_known n m p (who ∷ known) = no_ask_in_known n m p known

module _ (rest : List Sent) (n sent : ℕ) {may_ask : NodeAsk → Type 0} (s t : Progress) (counted : IsCountedAt rest n sent may_ask s) where
  -- the asks under way, where more letters are sent
  pub pending_more : (letters : List (ℕ × Load (List ℕ))) → t.outs ≡ s.outs ++ letters → asks_in (rest ++ sent_by n t.outs) ≡ asks_in (rest ++ sent_by n s.outs) ++ asks_in (sent_by n letters)
  pending_more letters outs =
      asks_in-append rest (sent_by n t.outs)
      ∙ ap (λ l. asks_in rest ++ asks_in (sent_by n l)) outs
      ∙ ap (λ l. asks_in rest ++ l) (sent_more n s.outs letters)
      ∙ sym (append_assoc (asks_in rest) (asks_in (sent_by n s.outs)) (asks_in (sent_by n letters)))
      ∙ ap (λ l. l ++ asks_in (sent_by n letters)) (sym (asks_in-append rest (sent_by n s.outs)))

  -- expressions are asked, by a node that might not ask so far
  pub counted_at_asked : (ws : List (Expr × Port (List ℕ))) (asked : AskedFor n s t ws) → AreDistinct ws → ((a : NodeAsk) → Contains asked.asks a → may_ask a → ⊥) →
      IsCountedAt rest n sent (λ a. may_ask a ⊎ Contains asked.asks a) t
  counted_at_asked ws asked distinct fresh =
      same_count (same_members s.graph t.graph (sym asked.solutions)) (sym asked.heard_same)
      (ap (λ l. asks_in (rest ++ sent_by n s.outs) ++ l) (sym asked.sent) ∙ sym (pending_more asked.letters asked.outs))
      (omega (arith, asked.number, ap (λ (l : List (ℕ × Load (List ℕ))). length l) asked.outs, length-append s.outs asked.letters))
      (counted_asked counted asked.asks (AreDistinct-zipped (IsAskFor t.graph.nodes n) (ask_for_one t.graph.nodes n) ws asked.asks asked.are distinct) fresh)

  -- the node finds a solution
  pub counted_at_solved : (who : List ℕ) (why : Reason ℕ (List ℕ)) → Solves s t n who why → IsCountedAt rest n sent may_ask t
  counted_at_solved who why (false, (is, graph), monitors, outs) =
      same_count (ap members_of (sym graph)) (ap heard (sym graph)) (ap (λ l. asks_in (rest ++ sent_by n l)) (sym outs)) (ap (λ (l : List (ℕ × Load (List ℕ))). sent + length l) (sym outs)) counted
  counted_at_solved who why (true, (isn't, graph), monitors, outs) =
      let tells : List (ℕ × Load (List ℕ)) = new_tells s.graph n who in
      let told : length (filter (λ a. a.asked == n) (heard s.graph)) ≡ length (listeners_of s.graph n) =
      subst (λ k. length (filter (λ a. a.asked == k) (heard s.graph)) ≡ length (listeners_of s.graph n)) (omega arith) (heard_by 0 n s.graph.listeners) in
      let number : length tells ≡ length (listeners_of s.graph n) = length-map (listeners_of s.graph n) (λ (l : Listening). (l.asker, load.Tell l.port who)) in
      same_count (ap members_of (sym graph)) (ap heard (sym graph))
      (sym (pending_more tells outs ∙ ap (λ l. asks_in (rest ++ sent_by n s.outs) ++ l) (no_ask_in_new n who (listeners_of s.graph n)) ∙ append-nil (asks_in (rest ++ sent_by n s.outs))))
      (omega (arith, told, number, ap (λ (l : List (ℕ × Load (List ℕ))). length l) outs, length-append s.outs tells))
      (counted_solved counted (members_of (record s.graph { solutions = s.graph.solutions ++ record { node = n; who = who; reason = why } ∷ [] })) n
      (members_with s.graph (record { node = n; who = who; reason = why })))

-- a search's letters stay counted by the receipt of a letter

-- a letter that asks nothing counts as sent alone, whether it is under way or not
pub counted_without : (before after : List Sent) (x : Sent) (n sent : ℕ) {may_ask : NodeAsk → Type 0} (s : Progress) → ask_from x.from x.to x.load ≡ [] →
    IsCountedAt (before ++ (x ∷ after)) n sent may_ask s → IsCountedAt (before ++ after) n sent may_ask s
counted_without before after x n sent s none counted =
    same_count refl refl (asked_without ∙ refl) refl counted
  where
    asked_without : asks_in ((before ++ (x ∷ after)) ++ sent_by n s.outs) ≡ asks_in ((before ++ after) ++ sent_by n s.outs)
    asked_without = simp (asks_in-append, append_assoc) (ap (λ l. asks_in before ++ (l ++ (asks_in after ++ asks_in (sent_by n s.outs)))) none)

-- lists without repeats share nothing
apart : {X : Type 0} (xs ys : List X) (x : X) → AreDistinct (xs ++ ys) → Contains xs x → Contains ys x → ⊥
apart [] ys x distinct has other = Contains-none x has
apart (y ∷ xs) ys x distinct has other =
    elim (Contains-cons_cases y xs x has) [
      | inl same ↦ distinct.0 (Contains-append_right xs ys y (subst (Contains ys) (sym same) other))
      | inr later ↦ apart xs ys x distinct.1 later other
    ]

-- the node hears the Ask of another, which then is under way no more
module _ (before after : List Sent) (m n : ℕ) (p : Port (List ℕ)) (sent : ℕ) (s t : Progress) where
  abbrev the_letter : Sent
  the_letter = record { from = Node m; to = n; load = load.Ask p }

  abbrev the_ask : NodeAsk
  the_ask = record { asker = m; why = why_of p; asked = n }

  asks_with : asks_in ((before ++ (the_letter ∷ after)) ++ sent_by n s.outs) ≡ asks_in before ++ (the_ask ∷ (asks_in after ++ asks_in (sent_by n s.outs)))
  asks_with = simp (asks_in-append, append_assoc)

  asks_without : (letters : List (ℕ × Load (List ℕ))) → asks_in ((before ++ after) ++ sent_by n letters) ≡ asks_in before ++ (asks_in after ++ asks_in (sent_by n letters))
  asks_without letters = simp (asks_in-append, append_assoc)

  pub counted_at_heard : {may_ask : NodeAsk → Type 0} → n < length s.graph.listeners → IsCountedAt (before ++ (the_letter ∷ after)) n sent may_ask s → HearsAsk s t n m p →
      IsCountedAt (before ++ after) n sent may_ask t
  counted_at_heard {may_ask} within counted (false, (listens, graph), monitors, outs) =
      let heard_before : Contains (heard s.graph) the_ask =
      subst (λ j. Contains (heard s.graph) (heard_of j (record { asker = m; port = p }))) (omega arith) (heard_has 0 n s.graph.listeners (record { asker = m; port = p }) listens) in
      let under_way : Contains (asks_in ((before ++ (the_letter ∷ after)) ++ sent_by n s.outs)) the_ask =
      subst (λ l. Contains l the_ask) (sym asks_with)
      (Contains-append_right (asks_in before) (the_ask ∷ (asks_in after ++ asks_in (sent_by n s.outs))) the_ask (Contains-first the_ask (asks_in after ++ asks_in (sent_by n s.outs)))) in
      absurd (apart (heard s.graph) (asks_in ((before ++ (the_letter ∷ after)) ++ sent_by n s.outs)) the_ask counted.distinct heard_before under_way)
  counted_at_heard {may_ask} within counted (true, (listens_not, graph), monitors, outs) =
      let l : Listening = record { asker = m; port = p } in
      let more : IsInserted (heard s.graph) (heard_from 0 t.graph.listeners) (heard_of (0 + n) l) =
      subst (λ (g : GraphState). IsInserted (heard s.graph) (heard_from 0 g.listeners) (heard_of (0 + n) l)) (sym graph) (heard_with 0 n s.graph.listeners l within) in
      let tells : List (ℕ × Load (List ℕ)) = known_tells s.graph n m p in
      let number : length tells ≡ length (members_of s.graph n) = length-map (members_of s.graph n) (λ (who : List ℕ). (m, load.Tell p who)) in
      let parted : IsCountedBy may_ask (members_of s.graph) (more.before ++ more.after) (asks_in before ++ (the_ask ∷ (asks_in after ++ asks_in (sent_by n s.outs)))) (sent + length s.outs) =
      same_count refl more.was asks_with refl counted in
      let one_heard : IsCountedBy may_ask (members_of s.graph) (more.before ++ (the_ask ∷ more.after)) (asks_in before ++ (asks_in after ++ asks_in (sent_by n s.outs))) (sent + length s.outs + length (members_of s.graph n)) =
      counted_heard more.before more.after (asks_in before) (asks_in after ++ asks_in (sent_by n s.outs)) the_ask parted in
      same_count (same_members s.graph t.graph (ap (λ (g : GraphState). g.solutions) (sym graph)))
      (ap (λ j. more.before ++ (heard_of j l ∷ more.after)) (omega arith) ∙ sym more.is)
      (ap (λ k. asks_in before ++ (asks_in after ++ k)) (sym (ap (λ o. asks_in (sent_by n o)) outs ∙ sent_more n s.outs tells ∙ ap (λ k. asks_in (sent_by n s.outs) ++ k) (no_ask_in_known n m p (members_of s.graph n)) ∙ append-nil (asks_in (sent_by n s.outs))))
      ∙ sym (asks_without t.outs))
      (omega (arith, number, ap (λ (o : List (ℕ × Load (List ℕ))). length o) outs, length-append s.outs tells))
      one_heard

-- a search's letters stay counted by each row of the table of letters

-- a node that opens asks so; on behalf of the members of a base a linked role asks later
abbrev pub IsOwn : Why → Type 0
IsOwn for_body = Unit {0}
IsOwn for_base = Unit {0}
IsOwn (for_via b) = ⊥
IsOwn (for_part i) = Unit {0}

-- what a node may ask once it was told who on a port
abbrev pub AsksOnceTold : Port (List ℕ) → List ℕ → Why → Type 0
AsksOnceTold port.Base who why = why ≡ for_via who
AsksOnceTold _ who why = ⊥

ports_from : (i : ℕ) (parts : List Part) (w : Expr × Port (List ℕ)) → Contains (part_asks i parts) w → (j : ℕ) × (w.1 ≡ port.Part j) × (i ≤ j)
ports_from i [] w has = absurd (Contains-none w has)
ports_from i (p ∷ ps) w has =
    elim (Contains-cons_cases (part_expr p, port.Part i) (part_asks (i + 1) ps) w has) [
      | inl same ↦ (i, ap (λ (v : Expr × Port (List ℕ)). v.1) (sym same), omega arith)
      | inr later ↦ let (j, on, after) = ports_from (i + 1) ps w later in (j, on, omega arith)
    ]

parts_distinct : (i : ℕ) (parts : List Part) → AreDistinct (part_asks i parts)
parts_distinct i [] = tt
parts_distinct i (p ∷ ps) = (
  λ has.
      let (j, on, after) = ports_from (i + 1) ps (part_expr p, port.Part i) has in
      let same : i ≡ j = cc in
      omega arith,
  parts_distinct (i + 1) ps,
)

-- what a role asks for a row
abbrev row_ask : Credential → Expr × Port (List ℕ)
row_ask c = (c.body, port.Body)

rows_distinct : (rows : List Credential) → AreDistinct rows → ((c d : Credential) → Contains rows c → Contains rows d → c.head ≡ d.head) →
    AreDistinct (map row_ask rows)
rows_distinct rows distinct one_head =
    AreDistinct-map row_ask rows
    (λ c d has_c has_d same. same_credential c d (one_head c d has_c has_d) (ap (λ (w : Expr × Port (List ℕ)). w.0) same)) distinct

module _ (rest : List Sent) (n sent : ℕ) {may_ask : NodeAsk → Type 0} (s t : Progress)
    (closed : (a : NodeAsk) → a.asker ≡ n → IsOwn a.why → may_ask a → ⊥) (counted : IsCountedAt rest n sent may_ask s) where
  opened_by : (ws : List (Expr × Port (List ℕ))) → AreDistinct ws → ((w : Expr × Port (List ℕ)) → Contains ws w → IsOwn (why_of w.1)) → AsksEach s ws t →
      IsCountedAt rest n sent (λ a. may_ask a ⊎ ((a.asker ≡ n) × IsOwn a.why)) t
  opened_by ws distinct own each =
      let asked : AskedFor n s t ws = asked_each n s t ws each in
      let by : (a : NodeAsk) → Contains asked.asks a → (a.asker ≡ n) × IsOwn a.why = λ a has.
      let (w, among, is) = own_ask n ws asked.asks asked.are a has in
      (is.asker, subst IsOwn (sym is.why) (own w among)) in
      counted_stays (counted_at_asked rest n sent s t counted ws asked distinct (λ a has may. closed a (by a has).0 (by a has).1 may))
      (λ a may. elim may [ inl before ↦ inl before | inr has ↦ inr (by a has) ])

  -- the node opens
  pub counted_at_opened : (rows : List Credential) (e : Expr) → AreDistinct rows → ((c d : Credential) → Contains rows c → Contains rows d → c.head ≡ d.head) →
      Opens rows s t n e → IsCountedAt rest n sent (λ a. may_ask a ⊎ ((a.asker ≡ n) × IsOwn a.why)) t
  counted_at_opened rows (Ent d) distinct one_head opens = counted_stays (counted_at_solved rest n sent s t counted d reason.Leaf opens) (λ a may. inl may)
  counted_at_opened rows (Rol r) distinct one_head opens =
      opened_by (map row_ask rows) (rows_distinct rows distinct one_head)
      (λ w has. let from : IsMapped row_ask rows w = mapped row_ask rows w has in
      subst (λ (v : Expr × Port (List ℕ)). IsOwn (why_of v.1)) from.is tt) opens
  counted_at_opened rows (Link r name) distinct one_head opens =
      opened_by ((Rol r, port.Base) ∷ []) ((λ has. Contains-none (Rol r, port.Base) has), tt)
      (λ w has. elim (Contains-cons_cases (Rol r, port.Base) [] w has) [
        | inl same ↦ subst (λ (v : Expr × Port (List ℕ)). IsOwn (why_of v.1)) same tt
        | inr none ↦ absurd (Contains-none w none)
      ]) opens
  counted_at_opened rows (Meet parts) distinct one_head opens =
      opened_by (part_asks 0 parts) (parts_distinct 0 parts)
      (λ w has. let (j, on, after) = ports_from 0 parts w has in subst (λ p. IsOwn (why_of p)) (sym on) tt) opens

module _ (rest : List Sent) (n sent : ℕ) {may_ask : NodeAsk → Type 0} (s t : Progress) (counted : IsCountedAt rest n sent may_ask s) where
  -- a linked role is told a member of its base
  counted_at_base : (base : List ℕ) →
      ((x : List (List ℕ)) → slice_get s.monitors n ≡ Some (monitor.Link x) → (Contains x base → ⊥) → (a : NodeAsk) → a.asker ≡ n → a.why ≡ for_via base → may_ask a → ⊥) →
      TellsBase s t n base → IsCountedAt rest n sent (λ a. may_ask a ⊎ ((a.asker ≡ n) × (a.why ≡ for_via base))) t
  counted_at_base base fresh (r, name, node, (new, ms, heard, inl (again, same))) =
      counted_stays (subst (IsCountedAt rest n sent may_ask) (sym same) counted) (λ a may. inl may)
  counted_at_base base fresh (r, name, node, (new, ms, (x, y, at, hears, set), inr (is_new, asks))) =
      let absent : (Contains x base → ⊥) = (subst (AddsKey x y base) is_new hears).0 in
      let w : Expr × Port (List ℕ) = (Rol (record { owner = base; name = name }), port.Via base) in
      let heard : Progress = record s { monitors = ms } in
      let asked : AskedFor n heard t (w ∷ []) = asked_each n heard t (w ∷ []) (t, asks, refl) in
      let by : (a : NodeAsk) → Contains asked.asks a → (a.asker ≡ n) × (a.why ≡ for_via base) = λ a has.
      let (v, among, is) = own_ask n (w ∷ []) asked.asks asked.are a has in (
        is.asker,
        elim (Contains-cons_cases w [] v among) [
          | inl same ↦ is.why ∙ ap (λ (u : Expr × Port (List ℕ)). why_of u.1) (sym same)
          | inr none ↦ absurd (Contains-none v none)
        ],
      ) in
      counted_stays (counted_at_asked rest n sent heard t counted (w ∷ []) asked ((λ has. Contains-none w has), tt) (λ a has may. fresh x at absent a (by a has).0 (by a has).1 may))
      (λ a may. elim may [ inl before ↦ inl before | inr has ↦ inr (by a has) ])

  -- an intersection is told an entity by a part
  counted_at_part : (i : ℕ) (who : List ℕ) → TellsPart s t n i who → IsCountedAt rest n sent may_ask t
  counted_at_part i who (last, ms, heard, inl (isn't, same)) = subst (IsCountedAt rest n sent may_ask) (sym same) counted
  counted_at_part i who (last, ms, heard, inr (is, solves)) = counted_at_solved rest n sent (record s { monitors = ms }) t counted who reason.Parts solves

  -- a node takes in what it was told
  pub counted_at_taken : (m : ℕ) (p : Port (List ℕ)) (who : List ℕ) →
      ((x : List (List ℕ)) → slice_get s.monitors n ≡ Some (monitor.Link x) → (Contains x who → ⊥) → (a : NodeAsk) → a.asker ≡ n → a.why ≡ for_via who → may_ask a → ⊥) →
      TakesIn s t n m p who → IsCountedAt rest n sent (λ a. may_ask a ⊎ ((a.asker ≡ n) × AsksOnceTold p who a.why)) t
  counted_at_taken m port.Body who fresh takes = counted_stays (counted_at_solved rest n sent s t counted who (reason.Body m) takes) (λ a may. inl may)
  counted_at_taken m port.Base who fresh takes = counted_at_base who fresh takes
  counted_at_taken m (port.Via b) who fresh takes = counted_stays (counted_at_solved rest n sent s t counted who (reason.Via b) takes) (λ a may. inl may)
  counted_at_taken m (port.Part i) who fresh takes = counted_stays (counted_at_part i who takes) (λ a may. inl may)

-- what was under way before the receipt
begun : (pending : List Sent) (n sent : ℕ) {may_ask : NodeAsk → Type 0} (s : Progress) → s.outs ≡ [] →
    IsCountedBy may_ask (members_of s.graph) (heard s.graph) (asks_in pending) sent → IsCountedAt pending n sent may_ask s
begun pending n sent s none counted =
    same_count refl refl (ap asks_in (sym (append-nil pending)) ∙ ap (λ o. asks_in (pending ++ sent_by n o)) (sym none))
    (omega (arith, ap (λ (o : List (ℕ × Load (List ℕ))). length o) none)) counted

module _ (rows : List Credential) (distinct : AreDistinct rows) (one_head : (c d : Credential) → Contains rows c → Contains rows d → c.head ≡ d.head)
    (before after : List Sent) (n sent : ℕ) {may_ask more : NodeAsk → Type 0} (s t : Progress) (stays : (a : NodeAsk) → may_ask a → more a) where
  -- the receipt of the environment's letter
  pub counted_by_start : (e : Expr) → ((a : NodeAsk) → a.asker ≡ n → IsOwn a.why → may_ask a → ⊥) → ((a : NodeAsk) → a.asker ≡ n → IsOwn a.why → more a) →
      s.outs ≡ [] → IsCountedBy may_ask (members_of s.graph) (heard s.graph) (asks_in (before ++ (record { from = Environment; to = n; load = load.Start } ∷ after))) sent →
      Opens rows s t n e → IsCountedAt (before ++ after) n sent more t
  counted_by_start e closed may none counted opens =
      let x : Sent = record { from = Environment; to = n; load = load.Start } in
      counted_without before after x n sent t refl
      (counted_stays (counted_at_opened (before ++ (x ∷ after)) n sent s t closed (begun (before ++ (x ∷ after)) n sent s none counted) rows e distinct one_head opens)
      (λ a may_now. elim may_now [ inl was ↦ stays a was | inr own ↦ may a own.0 own.1 ]))

  -- the receipt of a first Ask: the node opens, then it hears who asked
  pub counted_by_first_ask : (mid : Progress) (m : ℕ) (p : Port (List ℕ)) (e : Expr) → n < length mid.graph.listeners →
      ((a : NodeAsk) → a.asker ≡ n → IsOwn a.why → may_ask a → ⊥) → ((a : NodeAsk) → a.asker ≡ n → IsOwn a.why → more a) →
      s.outs ≡ [] → IsCountedBy may_ask (members_of s.graph) (heard s.graph) (asks_in (before ++ (record { from = Node m; to = n; load = load.Ask p } ∷ after))) sent →
      Opens rows s mid n e → HearsAsk mid t n m p → IsCountedAt (before ++ after) n sent more t
  counted_by_first_ask mid m p e within closed may none counted opens hears =
      let x : Sent = record { from = Node m; to = n; load = load.Ask p } in
      counted_stays (counted_at_heard before after m n p sent mid t within
      (counted_at_opened (before ++ (x ∷ after)) n sent s mid closed (begun (before ++ (x ∷ after)) n sent s none counted) rows e distinct one_head opens) hears)
      (λ a may_now. elim may_now [ inl was ↦ stays a was | inr own ↦ may a own.0 own.1 ])

module _ (before after : List Sent) (n sent : ℕ) {may_ask more : NodeAsk → Type 0} (s t : Progress) (stays : (a : NodeAsk) → may_ask a → more a) (m : ℕ) (p : Port (List ℕ)) where
  -- the receipt of a later Ask
  pub counted_by_ask : n < length s.graph.listeners → s.outs ≡ [] →
      IsCountedBy may_ask (members_of s.graph) (heard s.graph) (asks_in (before ++ (record { from = Node m; to = n; load = load.Ask p } ∷ after))) sent →
      HearsAsk s t n m p → IsCountedAt (before ++ after) n sent more t
  counted_by_ask within none counted hears =
      let x : Sent = record { from = Node m; to = n; load = load.Ask p } in
      counted_stays (counted_at_heard before after m n p sent s t within (begun (before ++ (x ∷ after)) n sent s none counted) hears) stays

  -- the receipt of a Tell
  pub counted_by_tell : (who : List ℕ) →
      ((x : List (List ℕ)) → slice_get s.monitors n ≡ Some (monitor.Link x) → (Contains x who → ⊥) → (a : NodeAsk) → a.asker ≡ n → a.why ≡ for_via who → may_ask a → ⊥) →
      ((a : NodeAsk) → a.asker ≡ n → AsksOnceTold p who a.why → more a) → s.outs ≡ [] →
      IsCountedBy may_ask (members_of s.graph) (heard s.graph) (asks_in (before ++ (record { from = Node m; to = n; load = load.Tell p who } ∷ after))) sent →
      TakesIn s t n m p who → IsCountedAt (before ++ after) n sent more t
  counted_by_tell who fresh may none counted takes =
      let x : Sent = record { from = Node m; to = n; load = load.Tell p who } in
      counted_without before after x n sent t refl
      (counted_stays (counted_at_taken (before ++ (x ∷ after)) n sent s t (begun (before ++ (x ∷ after)) n sent s none counted) m p who fresh takes)
      (λ a may_now. elim may_now [ inl was ↦ stays a was | inr own ↦ may a own.0 own.1 ]))
