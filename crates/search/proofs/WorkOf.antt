-- The letters that a search has sent are its work.
use Rattle.std.proofs.Common.{ℕ, zero, suc, ◌+◌, ◌<◌, ◌≡◌, ◌==◌, ◌∙◌, inl, inr, sym, subst, ap, refl, true, List, [], ◌∷◌, ◌++◌, Some, map, slice_get, arith}
use Rattle.std.specs.List.{Contains, filter}
use Rattle.std.proofs.lemmas.Bool.{cases_Bool, eqb-true}
use Rattle.std.proofs.lemmas.List.Elements.{Contains-append_cases}
use Rattle.names.specs.declared.roles.Role.{Role}
use Rattle.credential_text.specs.declared.credentials.Credential.{Credential}
use Rattle.credential_text.specs.declared.exprs.Expr.{Expr}
use Rattle.rt0_rules.specs.Derivation.{Derives}
use Rattle.rt0_rules.specs.Asks.{Asks}
use Rattle.rt0_rules.specs.Work.{AreDistinct, Ask, IsAsk, WorkIs, WorkExceeds}
use Rattle.rt0_rules.specs.Letters.{NodeAsk, letters_sent, IsAskBetween, AreRight, AreAll}
use Rattle.rt0_rules.specs.FixedPoint.{IsExact}
use Rattle.rt0_rules.proofs.Elements.{Contains-none, Contains-cons_cases}
use Rattle.rt0_rules.proofs.Distinct.{IsMapped, mapped, IsJoined, joined, filtered}
use Rattle.rt0_rules.proofs.FixedPoint.{asks_kept, all_heard, exact}
use Rattle.rt0_rules.proofs.Letters.{letters_exceed, letters_are_work}
use Rattle.cred_graph.specs.declared.listeners.Listening.{Listening}
use Rattle.cred_graph.specs.declared.solutions.Solution.{Solution}
use Rattle.cred_graph.specs.Graph.{GraphState, IsNode, IsSolution, Known, members_of}
use Rattle.cred_graph.specs.NodeLists.{list_at}
use Rattle.cred_graph.proofs.NodeListLemmas.{place_of_Contains}
use Rattle.scholten_core.specs.declared.parents.Parent.{Parent}
use Rattle.scholten_core.specs.declared.parents.Parent.TheVariants.{Environment, Node}
use Rattle.search.specs.declared.letters.Load.{Load}
use Rattle.search.specs.declared.letters.Load.TheVariants as load
use Rattle.search.specs.Net.{Net, Sent, LetterFits, SolutionFits, IsPendingStart, IsPendingBetween, why_of, IsRight, IsSteady, OwesRules}
use Rattle.search.specs.Search.{heard_of, heard_from, heard, ask_from, asks_in, IsCountedBy, IsCounted}
use Rattle.search.proofs.CountedGraph.{heard_has}
use Rattle.search.proofs.Told.{owes_rules}
use Rattle.search.proofs.Kept.{member_of_solution}

-- an ask that was heard is of a listener
pub record IsHeard (k : ℕ) (lists : List (List Listening)) (a : NodeAsk) : Type 0 where
  pub node : ℕ
  pub listener : Listening
  pub among : Contains (list_at lists node) listener
  pub is : a ≡ heard_of (k + node) listener

heard_is : (k : ℕ) (lists : List (List Listening)) (a : NodeAsk) → Contains (heard_from k lists) a → IsHeard k lists a
heard_is k [] a has = absurd (Contains-none a has)
heard_is k (ls ∷ lists) a has =
    elim (Contains-append_cases (map (heard_of k) ls) (heard_from (suc k) lists) a has) [
      | inl here ↦
          let from : IsMapped (heard_of k) ls a = mapped (heard_of k) ls a here in
          record { node = 0; listener = from.from; among = from.among; is = sym from.is ∙ ap (λ j. heard_of j from.from) (omega arith) }
      | inr later ↦
          let rest : IsHeard (suc k) lists a = heard_is (suc k) lists a later in
          record { node = suc rest.node; listener = rest.listener; among = rest.among; is = rest.is ∙ ap (λ j. heard_of j rest.listener) (omega arith) }
    ]

-- an ask under way is a letter's that may be sent
asked_by_letter : (rows : List Credential) (net : Net) (from : Parent) (to : ℕ) (l : Load (List ℕ)) (a : NodeAsk) → Contains (ask_from from to l) a → LetterFits rows net from to l →
    (e f : Expr) × IsNode net.graph a.asker e × IsNode net.graph a.asked f × Asks rows (Known net.graph) e a.why f
asked_by_letter rows net (Node m) to (load.Ask p) a has fits =
    elim (Contains-cons_cases (record { asker = m; why = why_of p; asked = to }) [] a has) [
      | inl same ↦ subst (λ (b : NodeAsk). (e f : Expr) × IsNode net.graph b.asker e × IsNode net.graph b.asked f × Asks rows (Known net.graph) e b.why f) same fits
      | inr none ↦ absurd (Contains-none a none)
    ]
asked_by_letter rows net _ to _ a has fits = absurd (Contains-none a has)

-- the solutions of a node are distinct
pub members_apart : (solutions : List Solution) (n : ℕ) →
    ((i j : ℕ) (s t : Solution) → slice_get solutions i ≡ Some s → slice_get solutions j ≡ Some t → s.node ≡ t.node → s.who ≡ t.who → i ≡ j) →
    AreDistinct (map (λ (s : Solution). s.who) (filter (λ s. s.node == n) solutions))
members_apart [] n one = tt
members_apart (s ∷ solutions) n one =
    let rest : AreDistinct (map (λ (s : Solution). s.who) (filter (λ s. s.node == n) solutions)) =
    members_apart solutions n (λ i j t u at_i at_j node who. let same : suc i ≡ suc j = one (suc i) (suc j) t u at_i at_j node who in omega arith) in
    elim (cases_Bool (s.node == n)) [
      | inl is ↦ rw is (
        (λ has.
            let from : IsMapped (λ (t : Solution). t.who) (filter (λ t. t.node == n) solutions) s.who = mapped (λ (t : Solution). t.who) (filter (λ t. t.node == n) solutions) s.who has in
            let kept : Contains solutions from.from × ((from.from.node == n) ≡ true) = filtered (λ (t : Solution). t.node == n) solutions from.from from.among in
            let (k, at) = place_of_Contains solutions from.from kept.0 in
            let same : zero ≡ suc k = one zero (suc k) s from.from refl at (eqb-true s.node n is ∙ sym (eqb-true from.from.node n kept.1)) (sym from.is) in
            omega arith),
        rest,
      )
      | inr isn't ↦ rw isn't rest
    ]

-- a member is a solution
member_is : (g : GraphState) (n : ℕ) (d : List ℕ) → Contains (members_of g n) d → (s : Solution) × Contains g.solutions s × (s.node ≡ n) × (s.who ≡ d)
member_is g n d has =
    let from : IsMapped (λ (t : Solution). t.who) (filter (λ t. t.node == n) g.solutions) d = mapped (λ (t : Solution). t.who) (filter (λ t. t.node == n) g.solutions) d has in
    let kept : Contains g.solutions from.from × ((from.from.node == n) ≡ true) = filtered (λ (t : Solution). t.node == n) g.solutions from.from from.among in
    (from.from, kept.0, eqb-true from.from.node n kept.1, from.is)

module _ {rows : List Credential} {asked : Role} {net : Net} (right : IsRight rows asked net) where
  known_derives : (d : List ℕ) (r : Expr) → Known net.graph d r → Derives rows d r
  known_derives d r (n, node, (why, stands)) =
      let fits : SolutionFits rows net.graph (record { node = n; who = d; reason = why }) = right.found.solutions_fit (record { node = n; who = d; reason = why }) stands in
      let same : fits.expr ≡ r = cc in
      subst (Derives rows d) same fits.derives

  -- an ask between nodes is one of the work
  ask_is : (a : NodeAsk) → (e f : Expr) × IsNode net.graph a.asker e × IsNode net.graph a.asked f × Asks rows (Known net.graph) e a.why f →
      (ask : Ask) × IsAskBetween net.graph.nodes a ask × IsAsk rows asked ask
  ask_is a (e, f, asker, of_asked, asks) = (
    record { asker = e; why = a.why; asked = f },
    record { asker = asker; why = refl; asked = of_asked },
    (right.demanded a.asker e asker, asks_kept (λ b r known. known_derives b _ known) e a.why f asks),
  )

  ask_right : (a : NodeAsk) → Contains (heard net.graph ++ asks_in net.pending) a → (ask : Ask) × IsAskBetween net.graph.nodes a ask × IsAsk rows asked ask
  ask_right a has =
      elim (Contains-append_cases (heard net.graph) (asks_in net.pending) a has) [
        | inl before ↦
            let is : IsHeard 0 net.graph.listeners a = heard_is 0 net.graph.listeners a before in
            let same : a ≡ heard_of is.node is.listener = is.is ∙ ap (λ j. heard_of j is.listener) (omega arith) in
            ask_is a (subst (λ (b : NodeAsk). (e f : Expr) × IsNode net.graph b.asker e × IsNode net.graph b.asked f × Asks rows (Known net.graph) e b.why f) (sym same)
            (right.listeners_fit is.node is.listener.asker is.listener.port is.among))
        | inr under_way ↦
            let from : IsJoined (λ (x : Sent). ask_from x.from x.to x.load) net.pending a = joined (λ (x : Sent). ask_from x.from x.to x.load) net.pending a under_way in
            ask_is a (asked_by_letter rows net from.from.from from.from.to from.from.load a from.has (right.letters_fit from.from from.among))
      ]

  pub work_right : {sent : ℕ} → IsCounted net sent → AreRight rows asked net.graph.nodes (members_of net.graph) (heard net.graph) (asks_in net.pending)
  work_right counted = record {
    one_node = right.found.graph.one_node;
    asks_distinct = counted.distinct;
    asks_right = ask_right;
    members_distinct = λ n. members_apart net.graph.solutions n right.found.graph.one_solution;
    members_right = λ n d has.
        let (s, stands, node, who) = member_is net.graph n d has in
        let fits : SolutionFits rows net.graph s = right.found.solutions_fit s stands in
        (fits.expr, subst (λ k. IsNode net.graph k fits.expr) node fits.node, subst (λ w. Derives rows w fits.expr) who fits.derives);
  }

  -- a search that has sent more than a limit has more work than that
  pub sent_exceeds : (sent limit : ℕ) → IsCounted net sent → limit < sent → WorkExceeds rows asked limit
  sent_exceeds sent limit counted over = letters_exceed (work_right counted) limit (subst (λ n. limit < n) counted.total over)

module _ {rows : List Credential} {asked : Role} {net : Net} (steady : IsSteady rows asked net) (settled : net.pending ≡ []) where
  nothing_first : IsPendingStart net → ⊥
  nothing_first (n, among) = Contains-none (record { from = Environment; to = n; load = load.Start }) (subst (λ l. Contains l (record { from = Environment; to = n; load = load.Start })) settled among)

  nothing_between : (e f : Expr) → IsPendingBetween net e f → ⊥
  nothing_between e f (m, n, node_e, node_f, (l, inl there)) = Contains-none (record { from = Node m; to = n; load = l }) (subst (λ k. Contains k (record { from = Node m; to = n; load = l })) settled there)
  nothing_between e f (m, n, node_e, node_f, (l, inr back)) = Contains-none (record { from = Node n; to = m; load = l }) (subst (λ k. Contains k (record { from = Node n; to = m; load = l })) settled back)

  owed : OwesRules rows asked net
  owed = owes_rules rows asked net steady.right steady.paid

  -- what was found of a demanded expression is what the rules derive
  pub settled_exact : IsExact rows asked (Known net.graph)
  settled_exact = exact owed nothing_first nothing_between

  all_asked : AreAll rows asked net.graph.nodes (members_of net.graph) (heard net.graph)
  all_asked = record {
    asks_heard = λ ask (demanded, asks).
        let (m, n, p, node_e, node_f, why, listens) = all_heard owed nothing_first nothing_between ask.asker ask.why ask.asked demanded asks in
        let l : Listening = record { asker = m; port = p } in (
          heard_of n l,
          subst (λ j. Contains (heard net.graph) (heard_of j l)) (omega arith) (heard_has 0 n net.graph.listeners l listens),
          record { asker = node_e; why = why; asked = node_f },
        );
    members_known = λ n e d node demanded derives.
        let (k, at, solution) = (settled_exact d e demanded).1 derives in
        let same : k ≡ n = steady.right.found.graph.one_node k n e at node in
        member_of_solution net.graph n d (subst (λ j. IsSolution net.graph j d) same solution);
  }

  -- a search with nothing under way has sent its work
  pub sent_is_work : (sent : ℕ) → IsCounted net sent → WorkIs rows asked sent
  sent_is_work sent counted =
      let none : asks_in net.pending ≡ [] = ap asks_in settled in
      subst (WorkIs rows asked) (sym (counted.total ∙ ap (letters_sent (members_of net.graph) (heard net.graph)) none))
      (letters_are_work (subst (λ l. AreRight rows asked net.graph.nodes (members_of net.graph) (heard net.graph) l) none (work_right steady.right counted)) all_asked)

-- a search that was just opened has sent one letter
pub opened_counted : (may_ask : NodeAsk → Type 0) (g : GraphState) (letter : Sent) → g.listeners ≡ [] ∷ [] → letter.from ≡ Environment →
    IsCountedBy may_ask (members_of g) (heard g) (asks_in (letter ∷ [])) 1
opened_counted may_ask g letter none from =
    let unheard : heard g ≡ [] = ap (heard_from 0) none in
    let unasked : asks_in (letter ∷ []) ≡ [] = ap (λ by. ask_from by letter.to letter.load ++ []) from in
    record {
      distinct = rw (unheard, unasked) tt;
      askers = λ a has. absurd (Contains-none a (subst (λ l. Contains l a) (ap (λ l. l ++ asks_in (letter ∷ [])) unheard ∙ unasked) has));
      total = rw (unheard, unasked) refl;
    }
