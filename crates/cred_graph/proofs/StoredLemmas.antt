-- The tables stand for a graph, and stay one where a node, a listener or a solution is added.
use Rattle.std.proofs.Common.{◌≤◌, ℕ, zero, suc, ◌+◌, ◌^◌, ◌<◌, ◌≡◌, ◌==◌, ◌∙◌, ap, refl, sym, subst, inl, inr, arith, zero-add, add-zero, true, List, [], ◌∷◌, ◌++◌, Some, Contains, get_or, length, map, set, slice_get, Bool, false, Result, Ok, Err, IfOk, OnOk, OnErr, filter}
use Rattle.std.proofs.lemmas.Bool.{cases_eq, cond-true, cond-false, eq-eqb, ne_eqb}
use Rattle.std.proofs.lemmas.List.{length-set, length_push, map_push, ext_get_or, get_or-set_same, get_or-set_other, length-map}
use Rattle.std.proofs.lemmas.List.Elements.{Contains-push_cases}
use Rattle.credential_text.specs.declared.exprs.Expr.{Expr}
use Rattle.credential_text.specs.declared.exprs.Expr.TheVariants.{Ent}
use Rattle.credential_text.specs.Expr.{HasPartsInRange}
use Rattle.cred_graph.specs.declared.listeners.Listening.{Listening}
use Rattle.cred_graph.specs.declared.listeners.KeptListening.{KeptListening}
use Rattle.cred_graph.specs.declared.solutions.Solution.{Solution}
use Rattle.cred_graph.specs.declared.solutions.Reason.{Reason}
use Rattle.cred_graph.specs.Graph.{IsSolution, Listens, Fits, IsGraph, NodeGiven, GraphState, ListenerGiven, SolutionGiven, listeners_of, members_of}
use Rattle.cred_graph.specs.Numbers.{IsEntity, IsReason, entity_at, reason_at}
use Rattle.cred_graph.specs.NodeLists.{list_at, AreSame, AddsAt}
use Rattle.cred_graph.specs.Stored.{IsKept, Joins, listening_as, lists_from, HasKey, solution_as, graph_as, IsStored, HearsOf, kept_as, Solves, members_by}
use Rattle.cred_graph.proofs.Growth.{listed_with, with_node, with_listener, with_solution, graph_with_node, graph_with_listener, graph_with_solution}
use Rattle.cred_graph.proofs.KeptLemmas.{kept_with_node, same_with_node, kept_joined, same_joined, once_joined, listens_kept, listens_as}
use Rattle.cred_graph.proofs.NodeListLemmas.{Contains-at_place, place_of_Contains, slice_get_push_cases, slice_get_pushed, map_same, behind_map, seen_at, pushed_there, filter_mapped, filtered_from, map-map}
use Rattle.cred_graph.proofs.NumberLemmas.{entity_goes_on, entity_stands, entity_stays, reason_goes_on, reason_stays, entity_is}
use Rattle.cred_graph.specs.declared.listeners.KeptPort.{KeptPort}
use Rattle.cred_graph.proofs.SolutionLemmas.{solver_has_node}

-- the lists of listeners

pub length-lists_from : (nodes : List Expr) (strangers : List Expr) (n k : ℕ) (lists : List (List KeptListening)) → length (lists_from nodes strangers n k lists) ≡ k
length-lists_from nodes strangers n zero lists = refl
length-lists_from nodes strangers n (suc k) lists = ap suc (length-lists_from nodes strangers (suc n) k lists)

at_list : (nodes : List Expr) (strangers : List Expr) (n k : ℕ) (lists : List (List KeptListening)) (m : ℕ) → m < k →
    get_or (lists_from nodes strangers n k lists) m [] ≡ map (listening_as nodes strangers) (list_at lists (n + m))
at_list nodes strangers n zero lists m within = absurd (omega arith)
at_list nodes strangers n (suc k) lists zero within = ap (λ i. map (listening_as nodes strangers) (list_at lists i)) (sym (add-zero n))
at_list nodes strangers n (suc k) lists (suc m) within =
    let same : suc n + m ≡ n + suc m = omega arith in
    at_list nodes strangers (suc n) k lists m (omega arith) ∙ ap (λ i. map (listening_as nodes strangers) (list_at lists i)) same

-- each node's list
pub listed_at-lists_from : (nodes : List Expr) (strangers : List Expr) (k : ℕ) (lists : List (List KeptListening)) (n : ℕ) → n < k →
    list_at (lists_from nodes strangers 0 k lists) n ≡ map (listening_as nodes strangers) (list_at lists n)
listed_at-lists_from nodes strangers k lists n within =
    at_list nodes strangers 0 k lists n within ∙ ap (λ i. map (listening_as nodes strangers) (list_at lists i)) (zero-add n)

more_lists : (nodes : List Expr) (strangers : List Expr) (n k : ℕ) (lists : List (List KeptListening)) →
    lists_from nodes strangers n (suc k) lists ≡ lists_from nodes strangers n k lists ++ map (listening_as nodes strangers) (list_at lists (n + k)) ∷ []
more_lists nodes strangers n zero lists = ap (λ i. map (listening_as nodes strangers) (list_at lists i) ∷ []) (sym (add-zero n))
more_lists nodes strangers n (suc k) lists =
    let same : suc n + k ≡ n + suc k = omega arith in
    ap (λ l. map (listening_as nodes strangers) (list_at lists n) ∷ l)
    (more_lists nodes strangers (suc n) k lists ∙ ap (λ i. lists_from nodes strangers (suc n) k lists ++ map (listening_as nodes strangers) (list_at lists i) ∷ []) same)

-- lists that stand for the same
lists_same : (nodes others : List Expr) (strangers names : List Expr) (lists after : List (List KeptListening)) →
    ((m : ℕ) → map (listening_as others names) (list_at after m) ≡ map (listening_as nodes strangers) (list_at lists m)) → (n k : ℕ) →
    lists_from others names n k after ≡ lists_from nodes strangers n k lists
lists_same nodes others strangers names lists after agree n zero = refl
lists_same nodes others strangers names lists after agree n (suc k) = λ i. agree n i ∷ lists_same nodes others strangers names lists after agree (suc n) k i

-- a list that is added to
lists_with : (nodes : List Expr) (strangers : List Expr) (k : ℕ) (lists after : List (List KeptListening)) (n : ℕ) (l : KeptListening) → n < k → AddsAt lists after n l →
    lists_from nodes strangers 0 k after ≡ listed_with (lists_from nodes strangers 0 k lists) n (listening_as nodes strangers l)
lists_with nodes strangers k lists after n l asked adds =
    let old = lists_from nodes strangers 0 k lists in
    let one_more : List Listening = list_at old n ++ listening_as nodes strangers l ∷ [] in
    let many : length old ≡ k = length-lists_from nodes strangers 0 k lists in
    let within : n < length old = omega (arith, many) in
    ext_get_or [] (lists_from nodes strangers 0 k after) (set old n one_more)
    (length-lists_from nodes strangers 0 k after ∙ sym many ∙ sym (length-set old n one_more))
    (λ m below.
    let small : m < k = omega (arith, length-lists_from nodes strangers 0 k after) in
    listed_at-lists_from nodes strangers k after m small ∙ ap (map (listening_as nodes strangers)) (adds m) ∙
    elim (cases_eq m n) [
      | inl same ↦
          ap (map (listening_as nodes strangers)) (cond-true (m == n) (list_at lists m ++ l ∷ []) (list_at lists m) (eq-eqb m n same)) ∙
          map_push (listening_as nodes strangers) (list_at lists m) l ∙
          ap (λ ls. ls ++ listening_as nodes strangers l ∷ []) (sym (listed_at-lists_from nodes strangers k lists m small) ∙ ap (list_at old) same) ∙
          sym (get_or-set_same old n one_more [] within) ∙
          ap (λ i. get_or (set old n one_more) i []) (sym same)
      | inr other ↦
          ap (map (listening_as nodes strangers)) (cond-false (m == n) (list_at lists m ++ l ∷ []) (list_at lists m) (ne_eqb m n other)) ∙
          sym (listed_at-lists_from nodes strangers k lists m small) ∙
          sym (get_or-set_other old n m one_more [] other)
    ])

-- a node is added

abbrev solution_by : ℕ × ℕ → List ℕ → Reason ℕ (List ℕ) → Solution
solution_by key who why = record { node = key.0; who = who; reason = why }

pub node_view : (nodes : List Expr) (strangers : List Expr) (lists : List (List KeptListening)) (entries : List ((ℕ × ℕ) × Reason ℕ ℕ)) (e : Expr) → IsStored nodes strangers lists entries →
    graph_as (nodes ++ e ∷ []) strangers lists entries ≡ with_node (graph_as nodes strangers lists entries) e
node_view nodes strangers lists entries e stored =
    let longer : length (nodes ++ e ∷ []) ≡ suc (length nodes) = omega (arith, length_push nodes e) in
    let named = lists_same nodes (nodes ++ e ∷ []) strangers strangers lists lists
    (λ m. map_same (listening_as (nodes ++ e ∷ []) strangers) (listening_as nodes strangers) (list_at lists m)
    (λ j l at. ap (λ p. record { asker = l.asker; port = p }) (same_with_node nodes (e ∷ []) strangers l.port (stored.ports m l (Contains-at_place (list_at lists m) j l at))))) 0 (length nodes) in
    let last : list_at lists (0 + length nodes) ≡ [] = ap (list_at lists) (zero-add (length nodes)) ∙ stored.asked (length nodes) (omega arith) in
    let listened : lists_from (nodes ++ e ∷ []) strangers 0 (length (nodes ++ e ∷ [])) lists ≡ lists_from nodes strangers 0 (length nodes) lists ++ [] ∷ [] =
    ap (λ k. lists_from (nodes ++ e ∷ []) strangers 0 k lists) longer ∙ more_lists (nodes ++ e ∷ []) strangers 0 (length nodes) lists ∙
    ap (λ l. lists_from (nodes ++ e ∷ []) strangers 0 (length nodes) lists ++ map (listening_as (nodes ++ e ∷ []) strangers) l ∷ []) last ∙
    ap (λ ls. ls ++ [] ∷ []) named in
    let solved : map (solution_as (nodes ++ e ∷ [])) entries ≡ map (solution_as nodes) entries =
    map_same (solution_as (nodes ++ e ∷ [])) (solution_as nodes) entries
    (λ j s at i. solution_by s.0 (entity_stays nodes (e ∷ []) s.0.1 (stored.members j s at) i) (reason_stays nodes (e ∷ []) s.1 (stored.reasons j s at) i)) in
    λ i. record { nodes = nodes ++ e ∷ []; listeners = listened i; solutions = solved i }

pub stored-node : (nodes : List Expr) (strangers : List Expr) (lists : List (List KeptListening)) (entries : List ((ℕ × ℕ) × Reason ℕ ℕ)) (e : Expr) → IsStored nodes strangers lists entries →
    (Contains nodes e → ⊥) → HasPartsInRange e → length (nodes ++ e ∷ []) ≤ 2 ^ 32 → IsStored (nodes ++ e ∷ []) strangers lists entries
stored-node nodes strangers lists entries e stored absent range short = record {
  graph = subst IsGraph (sym (node_view nodes strangers lists entries e stored)) (graph_with_node (graph_as nodes strangers lists entries) e stored.graph absent range);
  short = short;
  once = stored.once;
  asked = λ n beyond. stored.asked n (omega (arith, length_push nodes e));
  ports = λ n l there. kept_with_node nodes (e ∷ []) strangers l.port (stored.ports n l there);
  members = λ j s at. entity_goes_on nodes (e ∷ []) s.0.1 (stored.members j s at);
  reasons = λ j s at. reason_goes_on nodes (e ∷ []) s.1 (stored.reasons j s at);
}

-- a stranger joins, and lists stay

pub joined_view : (nodes : List Expr) (strangers names : List Expr) (lists after : List (List KeptListening)) (entries : List ((ℕ × ℕ) × Reason ℕ ℕ)) → IsStored nodes strangers lists entries →
    Joins nodes strangers names → AreSame lists after → graph_as nodes names after entries ≡ graph_as nodes strangers lists entries
joined_view nodes strangers names lists after entries stored joins same =
    let listened = lists_same nodes nodes strangers names lists after
    (λ m. ap (map (listening_as nodes names)) (same m) ∙ map_same (listening_as nodes names) (listening_as nodes strangers) (list_at lists m)
    (λ j l at. ap (λ p. record { asker = l.asker; port = p }) (same_joined nodes strangers names joins l.port (stored.ports m l (Contains-at_place (list_at lists m) j l at))))) 0 (length nodes) in
    λ i. record { nodes = nodes; listeners = listened i; solutions = map (solution_as nodes) entries }

pub stored-joined : (nodes : List Expr) (strangers names : List Expr) (lists after : List (List KeptListening)) (entries : List ((ℕ × ℕ) × Reason ℕ ℕ)) → IsStored nodes strangers lists entries →
    Joins nodes strangers names → AreSame lists after → IsStored nodes names after entries
stored-joined nodes strangers names lists after entries stored joins same = record {
  graph = subst IsGraph (sym (joined_view nodes strangers names lists after entries stored joins same)) stored.graph;
  short = stored.short;
  once = once_joined nodes strangers names joins stored.once;
  asked = λ n beyond. same n ∙ stored.asked n beyond;
  ports = λ n l there. kept_joined nodes strangers names joins l.port (stored.ports n l (subst (λ ls. Contains ls l) (same n) there));
  members = stored.members;
  reasons = stored.reasons;
}

-- a listener is added

pub listener_view : (nodes : List Expr) (strangers : List Expr) (lists after : List (List KeptListening)) (entries : List ((ℕ × ℕ) × Reason ℕ ℕ)) (n : ℕ) (l : KeptListening) → n < length nodes → AddsAt lists after n l →
    graph_as nodes strangers after entries ≡ with_listener (graph_as nodes strangers lists entries) n (listening_as nodes strangers l)
listener_view nodes strangers lists after entries n l asked adds =
    let listened = lists_with nodes strangers (length nodes) lists after n l asked adds in
    λ i. record { nodes = nodes; listeners = listened i; solutions = map (solution_as nodes) entries }

-- a node has a listener where its list has what stands for it
pub listens_stored : (nodes : List Expr) (strangers : List Expr) (lists : List (List KeptListening)) (entries : List ((ℕ × ℕ) × Reason ℕ ℕ)) → IsStored nodes strangers lists entries →
    (n : ℕ) (l : KeptListening) → n < length nodes → IsKept nodes strangers l.port → Listens (graph_as nodes strangers lists entries) n (listening_as nodes strangers l) → Contains (list_at lists n) l
listens_stored nodes strangers lists entries stored n l asked is listens =
    listens_kept nodes strangers stored.graph.one_node stored.once (list_at lists n) (stored.ports n) l is
    (subst (λ ls. Contains ls (listening_as nodes strangers l)) (listed_at-lists_from nodes strangers (length nodes) lists n asked) listens)

pub stored_listens : (nodes : List Expr) (strangers : List Expr) (lists : List (List KeptListening)) (entries : List ((ℕ × ℕ) × Reason ℕ ℕ)) (n : ℕ) (l : KeptListening) → n < length nodes →
    Contains (list_at lists n) l → Listens (graph_as nodes strangers lists entries) n (listening_as nodes strangers l)
stored_listens nodes strangers lists entries n l asked there =
    subst (λ ls. Contains ls (listening_as nodes strangers l)) (sym (listed_at-lists_from nodes strangers (length nodes) lists n asked)) (listens_as nodes strangers (list_at lists n) l there)

pub stored-listener : (nodes : List Expr) (strangers : List Expr) (lists after : List (List KeptListening)) (entries : List ((ℕ × ℕ) × Reason ℕ ℕ)) (n : ℕ) (l : KeptListening) → IsStored nodes strangers lists entries →
    n < length nodes → l.asker < length nodes → IsKept nodes strangers l.port → (Contains (list_at lists n) l → ⊥) → AddsAt lists after n l → IsStored nodes strangers after entries
stored-listener nodes strangers lists after entries n l stored asked asker is absent adds = record {
  graph = subst IsGraph (sym (listener_view nodes strangers lists after entries n l asked adds))
      (graph_with_listener (graph_as nodes strangers lists entries) n (listening_as nodes strangers l) stored.graph
      (λ listens. absent (listens_stored nodes strangers lists entries stored n l asked is listens)) asked asker);
  short = stored.short;
  once = stored.once;
  asked = λ m beyond. adds m ∙ cond-false (m == n) (list_at lists m ++ l ∷ []) (list_at lists m) (ne_eqb m n (λ same. omega (arith, same))) ∙ stored.asked m beyond;
  ports = λ m k there. elim (cases_eq m n) [
    | inl same ↦
        let longer = adds m ∙ cond-true (m == n) (list_at lists m ++ l ∷ []) (list_at lists m) (eq-eqb m n same) in
        elim (Contains-push_cases (list_at lists m) l k (subst (λ ls. Contains ls k) longer there)) [
          | inl before ↦ stored.ports m k before
          | inr new ↦ subst (λ (x : KeptListening). IsKept nodes strangers x.port) new is
        ]
    | inr other ↦
        stored.ports m k (subst (λ ls. Contains ls k) (adds m ∙ cond-false (m == n) (list_at lists m ++ l ∷ []) (list_at lists m) (ne_eqb m n other)) there)
  ];
  members = stored.members;
  reasons = stored.reasons;
}

-- a solution is added

pub solution_view : (nodes : List Expr) (strangers : List Expr) (lists : List (List KeptListening)) (entries after : List ((ℕ × ℕ) × Reason ℕ ℕ)) (key : ℕ × ℕ) (r : Reason ℕ ℕ) → after ≡ entries ++ (key, r) ∷ [] →
    graph_as nodes strangers lists after ≡ with_solution (graph_as nodes strangers lists entries) (solution_as nodes (key, r))
solution_view nodes strangers lists entries after key r added =
    let solved = ap (map (solution_as nodes)) added ∙ map_push (solution_as nodes) entries (key, r) in
    λ i. record { nodes = nodes; listeners = lists_from nodes strangers 0 (length nodes) lists; solutions = solved i }

-- an entity is a solution where the table has its number
pub solution_stored : (nodes : List Expr) (strangers : List Expr) (lists : List (List KeptListening)) (entries : List ((ℕ × ℕ) × Reason ℕ ℕ)) → IsStored nodes strangers lists entries →
    (key : ℕ × ℕ) → IsEntity nodes key.1 → IsSolution (graph_as nodes strangers lists entries) key.0 (entity_at nodes key.1) → HasKey entries key
solution_stored nodes strangers lists entries stored key is (why, there) =
    let at = behind_map (solution_as nodes) entries (record { node = key.0; who = entity_at nodes key.1; reason = why }) there in
    let node : at.1.0.0 ≡ key.0 = ap (λ (s : Solution). s.node) at.3 in
    let named : entity_at nodes at.1.0.1 ≡ entity_at nodes key.1 = ap (λ (s : Solution). s.who) at.3 in
    let who : at.1.0.1 ≡ key.1 =
    stored.graph.one_node at.1.0.1 key.1 (Ent (entity_at nodes key.1)) (entity_stands nodes at.1.0.1 (stored.members at.0 at.1 at.2) ∙ ap (λ (x : List ℕ). Some (Ent x)) named) (entity_stands nodes key.1 is) in
    (at.1.1, Contains-at_place entries at.0 (key, at.1.1) (at.2 ∙ ap Some (λ i. ((node i, who i), at.1.1))))

pub stored_solution : (nodes : List Expr) (strangers : List Expr) (lists : List (List KeptListening)) (entries : List ((ℕ × ℕ) × Reason ℕ ℕ)) (key : ℕ × ℕ) → HasKey entries key →
    IsSolution (graph_as nodes strangers lists entries) key.0 (entity_at nodes key.1)
stored_solution nodes strangers lists entries key (r, there) =
    let at = place_of_Contains entries (key, r) there in
    (reason_at nodes r, Contains-at_place (map (solution_as nodes) entries) at.0 (solution_as nodes (key, r)) (seen_at (solution_as nodes) entries at.0 (key, r) at.1))

pub stored-solution : (nodes : List Expr) (strangers : List Expr) (lists : List (List KeptListening)) (entries after : List ((ℕ × ℕ) × Reason ℕ ℕ)) (key : ℕ × ℕ) (r : Reason ℕ ℕ) → IsStored nodes strangers lists entries →
    IsEntity nodes key.1 → IsReason nodes r → (HasKey entries key → ⊥) → Fits (graph_as nodes strangers lists entries) key.0 (entity_at nodes key.1) (reason_at nodes r) →
    after ≡ entries ++ (key, r) ∷ [] → IsStored nodes strangers lists after
stored-solution nodes strangers lists entries after key r stored who why absent fits added = record {
  graph = subst IsGraph (sym (solution_view nodes strangers lists entries after key r added))
      (graph_with_solution (graph_as nodes strangers lists entries) (solution_as nodes (key, r)) stored.graph
      (λ solution. absent (solution_stored nodes strangers lists entries stored key who solution)) fits);
  short = stored.short;
  once = stored.once;
  asked = stored.asked;
  ports = stored.ports;
  members = λ j e at. elim (slice_get_push_cases entries (key, r) j e (ap (λ l. slice_get l j) (sym added) ∙ at)) [
    | inl before ↦ stored.members j e before
    | inr now ↦ subst (λ (x : (ℕ × ℕ) × Reason ℕ ℕ). IsEntity nodes x.0.1) now.1 who
  ];
  reasons = λ j e at. elim (slice_get_push_cases entries (key, r) j e (ap (λ l. slice_get l j) (sym added) ∙ at)) [
    | inl before ↦ stored.reasons j e before
    | inr now ↦ subst (λ (x : (ℕ × ℕ) × Reason ℕ ℕ). IsReason nodes x.1) now.1 why
  ];
}

-- what the calls give

pub node_stored : (nodes after : List Expr) (strangers : List Expr) (lists : List (List KeptListening)) (entries : List ((ℕ × ℕ) × Reason ℕ ℕ)) (e : Expr) → IsStored nodes strangers lists entries →
    (Contains nodes e → ⊥) → HasPartsInRange e → after ≡ nodes ++ e ∷ [] → length nodes < 2 ^ 32 → IsStored after strangers lists entries
node_stored nodes after strangers lists entries e stored absent range is room =
    subst (λ ns. IsStored ns strangers lists entries) (sym is) (stored-node nodes strangers lists entries e stored absent range (omega (arith, length_push nodes e)))

pub node_given : (nodes after : List Expr) (strangers : List Expr) (lists : List (List KeptListening)) (entries : List ((ℕ × ℕ) × Reason ℕ ℕ)) (e : Expr) (n : ℕ) → IsStored nodes strangers lists entries →
    (Contains nodes e → ⊥) → HasPartsInRange e → after ≡ nodes ++ e ∷ [] → n ≡ length nodes →
    NodeGiven (graph_as nodes strangers lists entries) (graph_as after strangers lists entries) e n true
node_given nodes after strangers lists entries e n stored absent range is number =
    (absent, range, number, ap (λ ns. graph_as ns strangers lists entries) is ∙ node_view nodes strangers lists entries e stored)

pub node_stands : (nodes after : List Expr) (e : Expr) (n : ℕ) → after ≡ nodes ++ e ∷ [] → n ≡ length nodes → slice_get after n ≡ Some e
node_stands nodes after e n is number = ap (λ ns. slice_get ns n) is ∙ ap (slice_get (nodes ++ e ∷ [])) number ∙ slice_get_pushed nodes e

-- what a call gives that adds a listener or a solution to the tables

pub record Listened {E : Type 0} (g h : GraphState) (n : ℕ) (l : Listening) (r : Result Bool E) : Type 0 where
  pub ok : IfOk r (λ new. ListenerGiven g h n l new)
  pub listens : OnOk r (Listens h n l)
  pub graph : IsGraph h
  pub growth : OnErr r (Listens g n l → ⊥)
  pub unchanged : OnErr r (h ≡ g)

module _ (nodes : List Expr) (strangers : List Expr) (lists after : List (List KeptListening)) (entries : List ((ℕ × ℕ) × Reason ℕ ℕ)) (stored : IsStored nodes strangers lists entries) where
  unlisted : (n : ℕ) (l : KeptListening) → n < length nodes → IsKept nodes strangers l.port → (Contains (list_at lists n) l → ⊥) → Listens (graph_as nodes strangers lists entries) n (listening_as nodes strangers l) → ⊥
  unlisted n l asked is absent listens = absent (listens_stored nodes strangers lists entries stored n l asked is listens)

  module _ {E : Type 0} (n : ℕ) (l : KeptListening) (asked : n < length nodes) (asker : l.asker < length nodes) (is : IsKept nodes strangers l.port) where
    listener_stored : (r : Result Bool E) → IfOk r (λ new. HearsOf lists after n l new) → OnErr r (AreSame lists after) → IsStored nodes strangers after entries
    listener_stored (Ok true) (absent, adds) same = stored-listener nodes strangers lists after entries n l stored asked asker is absent adds
    listener_stored (Ok false) (there, same) _ = stored-joined nodes strangers strangers lists after entries stored (inl refl) same
    listener_stored (Err e) given same = stored-joined nodes strangers strangers lists after entries stored (inl refl) same

    listened : (r : Result Bool E) → IfOk r (λ new. HearsOf lists after n l new) → OnErr r (Contains (list_at lists n) l → ⊥) → OnErr r (AreSame lists after) →
        Listened (graph_as nodes strangers lists entries) (graph_as nodes strangers after entries) n (listening_as nodes strangers l) r
    listened (Ok true) (absent, adds) growth same =
        let longer : list_at after n ≡ list_at lists n ++ l ∷ [] = adds n ∙ cond-true (n == n) (list_at lists n ++ l ∷ []) (list_at lists n) (eq-eqb n n refl) in
        record {
          ok = (unlisted n l asked is absent, listener_view nodes strangers lists after entries n l asked adds);
          listens = stored_listens nodes strangers after entries n l asked (pushed_there (list_at lists n) (list_at after n) l longer);
          graph = (stored-listener nodes strangers lists after entries n l stored asked asker is absent adds).graph;
          growth = tt;
          unchanged = tt;
        }
    listened (Ok false) (there, same) growth _ = record {
      ok = (stored_listens nodes strangers lists entries n l asked there, joined_view nodes strangers strangers lists after entries stored (inl refl) same);
      listens = stored_listens nodes strangers after entries n l asked (subst (λ ls. Contains ls l) (sym (same n)) there);
      graph = (stored-joined nodes strangers strangers lists after entries stored (inl refl) same).graph;
      growth = tt;
      unchanged = tt;
    }
    listened (Err e) given growth same = record {
      ok = tt;
      listens = tt;
      graph = (stored-joined nodes strangers strangers lists after entries stored (inl refl) same).graph;
      growth = unlisted n l asked is growth;
      unchanged = joined_view nodes strangers strangers lists after entries stored (inl refl) same;
    }

-- the same where a stranger may join before
module _ (nodes : List Expr) (strangers names : List Expr) (lists after : List (List KeptListening)) (entries : List ((ℕ × ℕ) × Reason ℕ ℕ)) (stored : IsStored nodes strangers lists entries)
    (joins : Joins nodes strangers names) where
  pub joined : IsStored nodes names lists entries
  joined = stored-joined nodes strangers names lists lists entries stored joins (λ m. refl)

  pub joined_same : graph_as nodes names lists entries ≡ graph_as nodes strangers lists entries
  joined_same = joined_view nodes strangers names lists lists entries stored joins (λ m. refl)

  module _ {E : Type 0} (n : ℕ) (l : KeptListening) (asked : n < length nodes) (asker : l.asker < length nodes) (is : IsKept nodes names l.port) where
    pub listener_kept : (rest : List ((ℕ × ℕ) × Reason ℕ ℕ)) → rest ≡ entries → (r : Result Bool E) → IfOk r (λ new. HearsOf lists after n l new) → OnErr r (AreSame lists after) → IsStored nodes names after rest
    listener_kept rest stays r given same = subst (IsStored nodes names after) (sym stays) (listener_stored nodes names lists after entries joined n l asked asker is r given same)

    pub listens_by : (rest : List ((ℕ × ℕ) × Reason ℕ ℕ)) → rest ≡ entries → (k : Listening) → listening_as nodes names l ≡ k → (r : Result Bool E) → IfOk r (λ new. HearsOf lists after n l new) → OnErr r (Contains (list_at lists n) l → ⊥) → OnErr r (AreSame lists after) →
        Listened (graph_as nodes strangers lists entries) (graph_as nodes names after rest) n k r
    listens_by rest stays k seen r given growth same =
        subst (λ es. Listened (graph_as nodes strangers lists entries) (graph_as nodes names after es) n k r) (sym stays)
        (subst (λ x. Listened (graph_as nodes strangers lists entries) (graph_as nodes names after entries) n x r) seen
        (subst (λ x. Listened x (graph_as nodes names after entries) n (listening_as nodes names l) r) joined_same (listened nodes names lists after entries joined n l asked asker is r given growth same)))

-- a port that can't be kept is none of a listener's
pub no_listener : (nodes : List Expr) (strangers : List Expr) (lists : List (List KeptListening)) (entries : List ((ℕ × ℕ) × Reason ℕ ℕ)) → IsStored nodes strangers lists entries → (n : ℕ) (l : Listening) → n < length nodes →
    ((p : KeptPort) → IsKept nodes strangers p → kept_as nodes strangers p ≡ l.port → ⊥) → Listens (graph_as nodes strangers lists entries) n l → ⊥
no_listener nodes strangers lists entries stored n l asked none listens =
    let at = behind_map (listening_as nodes strangers) (list_at lists n) l (subst (λ ls. Contains ls l) (listed_at-lists_from nodes strangers (length nodes) lists n asked) listens) in
    none at.1.port (stored.ports n at.1 (Contains-at_place (list_at lists n) at.0 at.1 at.2)) (ap (λ (x : Listening). x.port) at.3)

pub record Found {E : Type 0} (g h : GraphState) (s : Solution) (r : Result Bool E) : Type 0 where
  pub ok : IfOk r (λ new. SolutionGiven g h s new)
  pub solves : OnOk r (IsSolution h s.node s.who)
  pub graph : IsGraph h
  pub growth : OnErr r (IsSolution g s.node s.who → ⊥)
  pub unchanged : OnErr r (h ≡ g)

module _ (nodes : List Expr) (strangers : List Expr) (lists : List (List KeptListening)) (entries after : List ((ℕ × ℕ) × Reason ℕ ℕ)) (stored : IsStored nodes strangers lists entries) where
  unsolved : (key : ℕ × ℕ) → IsEntity nodes key.1 → (HasKey entries key → ⊥) → IsSolution (graph_as nodes strangers lists entries) key.0 (entity_at nodes key.1) → ⊥
  unsolved key who absent solution = absent (solution_stored nodes strangers lists entries stored key who solution)

  module _ {E : Type 0} (key : ℕ × ℕ) (why : Reason ℕ ℕ) (who : IsEntity nodes key.1) (named : IsReason nodes why)
      (fits : Fits (graph_as nodes strangers lists entries) key.0 (entity_at nodes key.1) (reason_at nodes why)) where
    solution_kept : (r : Result Bool E) → IfOk r (λ new. Solves entries after key why new) → OnErr r (after ≡ entries) → IsStored nodes strangers lists after
    solution_kept (Ok true) (absent, added) same = stored-solution nodes strangers lists entries after key why stored who named absent fits added
    solution_kept (Ok false) (there, same) _ = subst (IsStored nodes strangers lists) (sym same) stored
    solution_kept (Err e) given same = subst (IsStored nodes strangers lists) (sym same) stored

    found : (r : Result Bool E) → IfOk r (λ new. Solves entries after key why new) → OnErr r (HasKey entries key → ⊥) → OnErr r (after ≡ entries) →
        Found (graph_as nodes strangers lists entries) (graph_as nodes strangers lists after) (solution_as nodes (key, why)) r
    found (Ok true) (absent, added) growth same = record {
      ok = (unsolved key who absent, solution_view nodes strangers lists entries after key why added);
      solves = stored_solution nodes strangers lists after key (why, pushed_there entries after (key, why) added);
      graph = (stored-solution nodes strangers lists entries after key why stored who named absent fits added).graph;
      growth = tt;
      unchanged = tt;
    }
    found (Ok false) (there, same) growth _ = record {
      ok = (stored_solution nodes strangers lists entries key there, ap (graph_as nodes strangers lists) same);
      solves = stored_solution nodes strangers lists after key (subst (λ es. HasKey es key) (sym same) there);
      graph = (subst (IsStored nodes strangers lists) (sym same) stored).graph;
      growth = tt;
      unchanged = tt;
    }
    found (Err e) given growth same = record {
      ok = tt;
      solves = tt;
      graph = (subst (IsStored nodes strangers lists) (sym same) stored).graph;
      growth = unsolved key who growth;
      unchanged = ap (graph_as nodes strangers lists) same;
    }

-- the same where lists of no listener are added
module _ (nodes : List Expr) (strangers : List Expr) (lists longer : List (List KeptListening)) (entries after : List ((ℕ × ℕ) × Reason ℕ ℕ)) (stored : IsStored nodes strangers lists entries)
    (same_lists : AreSame lists longer) where
  kept : IsStored nodes strangers longer entries
  kept = stored-joined nodes strangers strangers lists longer entries stored (inl refl) same_lists

  kept_same : graph_as nodes strangers longer entries ≡ graph_as nodes strangers lists entries
  kept_same = joined_view nodes strangers strangers lists longer entries stored (inl refl) same_lists

  module _ (key : ℕ × ℕ) (why : Reason ℕ ℕ) (who : IsEntity nodes key.1) (named : IsReason nodes why)
      (fits : Fits (graph_as nodes strangers lists entries) key.0 (entity_at nodes key.1) (reason_at nodes why)) where
    fits_kept : Fits (graph_as nodes strangers longer entries) key.0 (entity_at nodes key.1) (reason_at nodes why)
    fits_kept = subst (λ g. Fits g key.0 (entity_at nodes key.1) (reason_at nodes why)) (sym kept_same) fits

    pub kept_by : {E : Type 0} (r : Result Bool E) → IfOk r (λ new. Solves entries after key why new) → OnErr r (after ≡ entries) → IsStored nodes strangers longer after
    kept_by r given same = solution_kept nodes strangers longer entries after kept key why who named fits_kept r given same

    pub found_by : {E : Type 0} (r : Result Bool E) → IfOk r (λ new. Solves entries after key why new) → OnErr r (HasKey entries key → ⊥) → OnErr r (after ≡ entries) →
        Found (graph_as nodes strangers lists entries) (graph_as nodes strangers longer after) (solution_as nodes (key, why)) r
    found_by r given growth same =
        subst (λ g. Found g (graph_as nodes strangers longer after) (solution_as nodes (key, why)) r) kept_same
        (found nodes strangers longer entries after kept key why who named fits_kept r given growth same)

-- what is read of the tables

module _ (nodes : List Expr) (strangers : List Expr) (lists : List (List KeptListening)) (entries : List ((ℕ × ℕ) × Reason ℕ ℕ)) where
  -- the graph that the tables stand for
  abbrev g : GraphState
  g = graph_as nodes strangers lists entries

  pub length-listeners : (n : ℕ) → n < length nodes → length (list_at lists n) ≡ length (listeners_of g n)
  length-listeners n asked = sym (ap length (listed_at-lists_from nodes strangers (length nodes) lists n asked) ∙ length-map (list_at lists n) (listening_as nodes strangers))

  pub listener_read : (n i : ℕ) (l : KeptListening) → n < length nodes → slice_get (list_at lists n) i ≡ Some l → slice_get (listeners_of g n) i ≡ Some (listening_as nodes strangers l)
  listener_read n i l asked at =
      ap (λ ls. slice_get ls i) (listed_at-lists_from nodes strangers (length nodes) lists n asked) ∙ seen_at (listening_as nodes strangers) (list_at lists n) i l at

  pub port_read : (n i : ℕ) (l : KeptListening) → IsStored nodes strangers lists entries → slice_get (list_at lists n) i ≡ Some l → IsKept nodes strangers l.port
  port_read n i l stored at = stored.ports n l (Contains-at_place (list_at lists n) i l at)

  members_read : (n : ℕ) → members_of g n ≡ map (entity_at nodes) (members_by n entries)
  members_read n =
      ap (map (λ (s : Solution). s.who)) (filter_mapped (λ (s : Solution). s.node == n) (solution_as nodes) entries) ∙
      map-map (λ (s : Solution). s.who) (solution_as nodes) (filter (λ (e : (ℕ × ℕ) × Reason ℕ ℕ). e.0.0 == n) entries) ∙
      sym (map-map (entity_at nodes) (λ (e : (ℕ × ℕ) × Reason ℕ ℕ). e.0.1) (filter (λ (e : (ℕ × ℕ) × Reason ℕ ℕ). e.0.0 == n) entries))

  pub length-members : (n : ℕ) → length (members_by n entries) ≡ length (members_of g n)
  length-members n = sym (ap length (members_read n) ∙ length-map (members_by n entries) (entity_at nodes))

  pub member_read : (n i k : ℕ) → slice_get (members_by n entries) i ≡ Some k → slice_get (members_of g n) i ≡ Some (entity_at nodes k)
  member_read n i k at = ap (λ ms. slice_get ms i) (members_read n) ∙ seen_at (entity_at nodes) (members_by n entries) i k at

  pub member_entity : (n i k : ℕ) → IsStored nodes strangers lists entries → slice_get (members_by n entries) i ≡ Some k → IsEntity nodes k
  member_entity n i k stored at =
      let passes = filter (λ (e : (ℕ × ℕ) × Reason ℕ ℕ). e.0.0 == n) entries in
      let entry = behind_map (λ (e : (ℕ × ℕ) × Reason ℕ ℕ). e.0.1) passes k (Contains-at_place (members_by n entries) i k at) in
      let place = filtered_from (λ (e : (ℕ × ℕ) × Reason ℕ ℕ). e.0.0 == n) entries entry.0 entry.1 entry.2 in
      subst (IsEntity nodes) entry.3 (stored.members place.0 entry.1 place.1)

  -- what is found of a solution

  pub no_such_entity : (n : ℕ) (who : List ℕ) → IsStored nodes strangers lists entries → (Contains nodes (Ent who) → ⊥) → IsSolution g n who → ⊥
  no_such_entity n who stored absent solution = absent (solver_has_node g stored.graph n who solution)

  pub no_such_solution : (n k : ℕ) (who : List ℕ) → IsStored nodes strangers lists entries → slice_get nodes k ≡ Some (Ent who) →
      (HasKey entries (n, k) → ⊥) → IsSolution g n who → ⊥
  no_such_solution n k who stored at absent solution =
      absent (solution_stored nodes strangers lists entries stored (n, k) (who, at) (rw (entity_is nodes k who at) solution))

  pub reason_read : (n k place : ℕ) (who : List ℕ) (r : Reason ℕ ℕ) (why : Reason ℕ (List ℕ)) → slice_get nodes k ≡ Some (Ent who) →
      slice_get entries place ≡ Some ((n, k), r) → why ≡ reason_at nodes r →
      slice_get g.solutions place ≡ Some (record { node = n; who = who; reason = why })
  reason_read n k place who r why at entry is =
      seen_at (solution_as nodes) entries place ((n, k), r) entry ∙
      (λ i. Some (record { node = n; who = entity_is nodes k who at i; reason = (sym is) i }))
