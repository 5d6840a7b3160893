-- A graph stays a graph where a node, a listener or a solution is added.
use Rattle.std.proofs.Common.{ℕ, zero, suc, ◌<◌, ◌≤◌, ◌+◌, ◌≡◌, ◌∙◌, ◌⊎◌, refl, sym, ap, subst, inl, inr, List, [], ◌∷◌, ◌++◌, Some, Contains, length, slice_get, arith, None}
use Rattle.std.specs.Prelude.{slice_set}
use Rattle.std.proofs.lemmas.Bool.{cases_eq}
use Rattle.std.proofs.lemmas.List.{take-append-le, length_push, length-set, get_or-set_same, get_or-set_other}
use Rattle.std.proofs.lemmas.List.Elements.{All-weaker, Contains-push_cases}
use Rattle.std.proofs.lemmas.Option.{slice_get_within}
use Rattle.std.proofs.Math.Seq.{take-append_seam}
use Rattle.credential_text.specs.declared.exprs.Expr.{Expr}
use Rattle.credential_text.specs.declared.intersections.Part.{Part}
use Rattle.credential_text.specs.Expr.{part_expr, HasPartsInRange}
use Rattle.cred_graph.specs.declared.listeners.Listening.{Listening}
use Rattle.cred_graph.specs.declared.solutions.Solution.{Solution}
use Rattle.cred_graph.specs.declared.solutions.Reason.{Reason}
use Rattle.cred_graph.specs.Graph.{GraphState, IsNode, Listens, IsSolution, Known, before, Fits, IsGraph, empty_graph}
use Rattle.cred_graph.specs.NodeLists.{list_at}
use Rattle.cred_graph.proofs.NodeListLemmas.{Contains-at_place, slice_get_stays, slice_get_push_cases}
use Rattle.cred_graph.specs.declared.listeners.KeptListening.{KeptListening}
use Rattle.cred_graph.specs.Stored.{graph_as, IsStored}
use Rattle.cred_graph.specs.declared.solutions.Reason.TheVariants as reason

-- nodes and solutions stay
pub record Grows (g h : GraphState) : Type 0 where
  pub nodes : (n : ℕ) (e : Expr) → IsNode g n e → IsNode h n e
  pub solutions : (s : Solution) → Contains g.solutions s → Contains h.solutions s

pub grown_solution : (g h : GraphState) → Grows g h → (n : ℕ) (who : List ℕ) → IsSolution g n who → IsSolution h n who
grown_solution g h grows n who (why, stands) = (why, grows.solutions (record { node = n; who = who; reason = why }) stands)

pub grown_known : (g h : GraphState) → Grows g h → (who : List ℕ) (e : Expr) → Known g who e → Known h who e
grown_known g h grows who e (n, node, solution) = (n, grows.nodes n e node, grown_solution g h grows n who solution)

-- a reason goes on to fit
pub grown_fits : (g h : GraphState) → Grows g h → (n : ℕ) (who : List ℕ) (why : Reason ℕ (List ℕ)) → Fits g n who why → Fits h n who why
grown_fits g h grows n who reason.Leaf fits = grows.nodes n _ fits
grown_fits g h grows n who (reason.Body m) (r, e, node, body, solution) =
    (r, e, grows.nodes n _ node, grows.nodes m e body, grown_solution g h grows m who solution)
grown_fits g h grows n who (reason.Via b) (r, t, node, base, given) =
    (r, t, grows.nodes n _ node, grown_known g h grows b _ base, grown_known g h grows who _ given)
grown_fits g h grows n who reason.Parts (parts, node, all) =
    (parts, grows.nodes n _ node, All-weaker (λ (p : Part). Known g who (part_expr p)) (λ (p : Part). Known h who (part_expr p)) (λ p known. grown_known g h grows who (part_expr p) known) parts all)

abbrev pub with_node : GraphState → Expr → GraphState
with_node g e = record g { nodes = g.nodes ++ e ∷ []; listeners = g.listeners ++ [] ∷ [] }

-- the lists, with one more listener at the end of that of this number
abbrev pub listed_with : List (List Listening) → ℕ → Listening → List (List Listening)
listed_with lists n l = slice_set lists n (list_at lists n ++ l ∷ [])

abbrev pub with_listener : GraphState → ℕ → Listening → GraphState
with_listener g n l = record g { listeners = listed_with g.listeners n l }

abbrev pub with_solution : GraphState → Solution → GraphState
with_solution g s = record g { solutions = g.solutions ++ s ∷ [] }

-- an element that is new stands at one place
pub one_place : {X : Type 0} (xs : List X) (y : X) → (Contains xs y → ⊥) → ((i j : ℕ) (x : X) → slice_get xs i ≡ Some x → slice_get xs j ≡ Some x → i ≡ j) →
    (i j : ℕ) (x : X) → slice_get (xs ++ y ∷ []) i ≡ Some x → slice_get (xs ++ y ∷ []) j ≡ Some x → i ≡ j
one_place xs y absent once i j x p q =
    elim (slice_get_push_cases xs y i x p) [
      | inl a ↦ elim (slice_get_push_cases xs y j x q) [
        | inl b ↦ once i j x a b
        | inr b ↦ absurd (absent (Contains-at_place xs i y (a ∙ ap Some (sym b.1))))
      ]
      | inr a ↦ elim (slice_get_push_cases xs y j x q) [
        | inl b ↦ absurd (absent (Contains-at_place xs j y (b ∙ ap Some (sym a.1))))
        | inr b ↦ a.0 ∙ sym b.0
      ]
    ]

-- a new node has no listener, and the others keep theirs
pub listed_at-pushed : (lists : List (List Listening)) (m : ℕ) → list_at (lists ++ [] ∷ []) m ≡ list_at lists m
listed_at-pushed [] zero = refl
listed_at-pushed [] (suc m) = refl
listed_at-pushed (ls ∷ lists) zero = refl
listed_at-pushed (ls ∷ lists) (suc m) = listed_at-pushed lists m

-- the list of this number has one more listener, and the others stay
pub listed_with_cases : (lists : List (List Listening)) (n : ℕ) (l : Listening) (m : ℕ) → n < length lists →
    ((m ≡ n) × (list_at (listed_with lists n l) m ≡ list_at lists m ++ l ∷ [])) ⊎ (list_at (listed_with lists n l) m ≡ list_at lists m)
listed_with_cases lists n l m within =
    elim (cases_eq m n) [
      | inl same ↦ inl (same, rw same (get_or-set_same lists n (list_at lists n ++ l ∷ []) [] within))
      | inr other ↦ inr (get_or-set_other lists n m (list_at lists n ++ l ∷ []) [] other)
    ]

pub node_grows : (g : GraphState) (e : Expr) (i : ℕ) → Grows (before i g) (before i (with_node g e))
node_grows g e i = record { nodes = λ n f node. slice_get_stays g.nodes (e ∷ []) n f node; solutions = λ s stands. stands }

pub graph_with_node : (g : GraphState) (e : Expr) → IsGraph g → (Contains g.nodes e → ⊥) → HasPartsInRange e → IsGraph (with_node g e)
graph_with_node g e graph absent range = record {
  one_node = one_place g.nodes e absent graph.one_node;
  parts_in_range = λ n f at. elim (slice_get_push_cases g.nodes e n f at) [
    | inl before ↦ graph.parts_in_range n f before
    | inr new ↦ subst HasPartsInRange new.1 range
  ];
  one_list_each = length_push g.listeners [] ∙ ap (λ n. n + 1) graph.one_list_each ∙ sym (length_push g.nodes e);
  askers_in_range = λ n l listens.
      let asker : l.asker < length g.nodes = graph.askers_in_range n l (subst (λ ls. Contains ls l) (listed_at-pushed g.listeners n) listens) in
      omega (arith, length_push g.nodes e);
  one_listening = λ n i j l p q.
      graph.one_listening n i j l
      (subst (λ ls. slice_get ls i ≡ Some l) (listed_at-pushed g.listeners n) p)
      (subst (λ ls. slice_get ls j ≡ Some l) (listed_at-pushed g.listeners n) q);
  one_solution = graph.one_solution;
  justified = λ i s at. grown_fits (before i g) (before i (with_node g e)) (node_grows g e i) s.node s.who s.reason (graph.justified i s at);
}

pub graph_with_listener : (g : GraphState) (n : ℕ) (l : Listening) → IsGraph g → (Listens g n l → ⊥) → n < length g.nodes → l.asker < length g.nodes → IsGraph (with_listener g n l)
graph_with_listener g n l graph absent asked asker =
    let within : n < length g.listeners = omega (arith, graph.one_list_each) in
    record {
      one_node = graph.one_node;
      parts_in_range = graph.parts_in_range;
      one_list_each = length-set g.listeners n (list_at g.listeners n ++ l ∷ []) ∙ graph.one_list_each;
      askers_in_range = λ m k listens. elim (listed_with_cases g.listeners n l m within) [
        | inl here ↦ elim (Contains-push_cases (list_at g.listeners m) l k (subst (λ ls. Contains ls k) here.1 listens)) [
          | inl before ↦ graph.askers_in_range m k before
          | inr new ↦ subst (λ (x : Listening). x.asker < length g.nodes) new asker
        ]
        | inr other ↦ graph.askers_in_range m k (subst (λ ls. Contains ls k) other listens)
      ];
      one_listening = λ m i j k p q. elim (listed_with_cases g.listeners n l m within) [
        | inl here ↦
            one_place (list_at g.listeners m) l (subst (λ x. Listens g x l → ⊥) (sym here.0) absent) (graph.one_listening m) i j k
            (subst (λ ls. slice_get ls i ≡ Some k) here.1 p)
            (subst (λ ls. slice_get ls j ≡ Some k) here.1 q)
        | inr other ↦
            graph.one_listening m i j k
            (subst (λ ls. slice_get ls i ≡ Some k) other p)
            (subst (λ ls. slice_get ls j ≡ Some k) other q)
      ];
      one_solution = graph.one_solution;
      justified = λ i s at.
          grown_fits (before i g) (before i (with_listener g n l)) (record { nodes = λ n f node. node; solutions = λ s stands. stands }) s.node s.who s.reason (graph.justified i s at);
    }

-- the entity is no solution of the node: so it stands at no place
pub other_solution : (g : GraphState) (s t : Solution) (i : ℕ) → (IsSolution g s.node s.who → ⊥) → slice_get g.solutions i ≡ Some t → s.node ≡ t.node → s.who ≡ t.who → ⊥
other_solution g s t i absent at node who = absent (t.reason, rw (node, who) (Contains-at_place g.solutions i t at))

pub one_solution_more : (g : GraphState) (s : Solution) → IsGraph g → (IsSolution g s.node s.who → ⊥) →
    (i j : ℕ) (t u : Solution) → slice_get (g.solutions ++ s ∷ []) i ≡ Some t → slice_get (g.solutions ++ s ∷ []) j ≡ Some u → t.node ≡ u.node → t.who ≡ u.who → i ≡ j
one_solution_more g s graph absent i j t u p q node who =
    elim (slice_get_push_cases g.solutions s i t p) [
      | inl a ↦ elim (slice_get_push_cases g.solutions s j u q) [
        | inl b ↦ graph.one_solution i j t u a b node who
        | inr b ↦ absurd (other_solution g s t i absent a (ap (λ (x : Solution). x.node) b.1 ∙ sym node) (ap (λ (x : Solution). x.who) b.1 ∙ sym who))
      ]
      | inr a ↦ elim (slice_get_push_cases g.solutions s j u q) [
        | inl b ↦ absurd (other_solution g s u j absent b (ap (λ (x : Solution). x.node) a.1 ∙ node) (ap (λ (x : Solution). x.who) a.1 ∙ who))
        | inr b ↦ a.0 ∙ sym b.0
      ]
    ]

-- the solutions found before a place stay the same
pub solution_grows : (g : GraphState) (s : Solution) (i : ℕ) → i ≤ length g.solutions → Grows (before i g) (before i (with_solution g s))
solution_grows g s i within = record { nodes = λ n f node. node; solutions = λ t stands. rw (take-append-le i g.solutions (s ∷ []) within) stands }

pub justified_more : (g : GraphState) (s : Solution) → IsGraph g → Fits g s.node s.who s.reason →
    (i : ℕ) (t : Solution) → slice_get (g.solutions ++ s ∷ []) i ≡ Some t → Fits (before i (with_solution g s)) t.node t.who t.reason
justified_more g s graph fits i t at =
    elim (slice_get_push_cases g.solutions s i t at) [
      | inl a ↦
          let within : i < length g.solutions = slice_get_within g.solutions i t a in
          grown_fits (before i g) (before i (with_solution g s)) (solution_grows g s i (omega arith)) t.node t.who t.reason (graph.justified i t a)
      | inr a ↦
          let grows : Grows g (before i (with_solution g s)) = record {
            nodes = λ n f node. node;
            solutions = λ u stands. rw (a.0, take-append_seam g.solutions (s ∷ [])) stands;
          } in
          subst (λ (u : Solution). Fits (before i (with_solution g s)) u.node u.who u.reason) a.1 (grown_fits g (before i (with_solution g s)) grows s.node s.who s.reason fits)
    ]

pub graph_with_solution : (g : GraphState) (s : Solution) → IsGraph g → (IsSolution g s.node s.who → ⊥) → Fits g s.node s.who s.reason → IsGraph (with_solution g s)
graph_with_solution g s graph absent fits = record {
  one_node = graph.one_node;
  parts_in_range = graph.parts_in_range;
  one_list_each = graph.one_list_each;
  askers_in_range = graph.askers_in_range;
  one_listening = graph.one_listening;
  one_solution = one_solution_more g s graph absent;
  justified = justified_more g s graph fits;
}

-- what holds of each node, listener and solution holds where there is none

no_place : {X : Type 0} {P : Type 0} (i : ℕ) (x : X) → slice_get [] i ≡ Some x → P
no_place i x at = let clash : None ≡ Some x = at in cc

empty : IsGraph empty_graph
empty = record {
  one_node = λ i j x p q. no_place i x p;
  parts_in_range = λ n e at. no_place n e at;
  one_list_each = refl;
  askers_in_range = λ n l there. absurd (omega (arith, there.1));
  one_listening = λ n i j l p q. no_place i l p;
  one_solution = λ i j s t p q node who. no_place i s p;
  justified = λ i s at. no_place i s at;
}

abbrev Tables : Type 0
Tables = List (List KeptListening) × List ((ℕ × ℕ) × Reason ℕ ℕ)

pub stored : (nodes strangers : List Expr) (tables : Tables) → nodes ≡ [] → strangers ≡ [] → tables ≡ ([], []) → IsStored nodes strangers tables.0 tables.1
stored nodes strangers tables a b c = rw (a, b, c) (record {
  graph = empty;
  short = omega arith;
  once = λ i j x p q. no_place i x p;
  asked = λ n above. refl;
  ports = λ n l there. absurd (omega (arith, there.1));
  members = λ j e at. no_place j e at;
  reasons = λ j e at. no_place j e at;
})

pub none : (nodes strangers : List Expr) (tables : Tables) → nodes ≡ [] → tables ≡ ([], []) → graph_as nodes strangers tables.0 tables.1 ≡ empty_graph
none nodes strangers tables a b = rw (a, b)
