-- The asks of a graph, and what they grow by where a listener or a solution is added.
use Rattle.std.proofs.Common.{ℕ, zero, suc, ◌+◌, ◌<◌, ◌≡◌, ◌≢◌, ◌==◌, ◌∙◌, inl, inr, sym, subst, ap, refl, cond, List, [], ◌∷◌, ◌++◌, length, map, arith}
use Rattle.std.specs.List.{Contains, filter}
use Rattle.std.proofs.lemmas.Bool.{cases_Bool, cases_eq, eq-eqb, eqb-true}
use Rattle.std.proofs.lemmas.List.{length-append, length-map, append_assoc, map-append}
use Rattle.std.proofs.lemmas.List.Elements.{filter-append, Contains-append_left, Contains-append_right}
use Rattle.rt0_rules.proofs.Elements.{Contains-none}
use Rattle.cred_graph.proofs.Growth.{listed_with}
use Rattle.rt0_rules.proofs.Unknown.{Contains-map}
use Rattle.std.proofs.lemmas.Grind.{flat_map-append}
use Rattle.rt0_rules.specs.Letters.{NodeAsk}
use Rattle.cred_graph.specs.declared.listeners.Listening.{Listening}
use Rattle.cred_graph.specs.declared.solutions.Solution.{Solution}
use Rattle.cred_graph.specs.Graph.{GraphState, members_of}
use Rattle.cred_graph.specs.NodeLists.{list_at}
use Rattle.search.specs.Net.{Sent}
use Rattle.search.specs.Search.{heard_of, heard_from, ask_from, asks_in}

-- a list of asks with one more among them
pub record IsInserted (old new : List NodeAsk) (a : NodeAsk) : Type 0 where
  pub before : List NodeAsk
  pub after : List NodeAsk
  pub was : old ≡ before ++ after
  pub is : new ≡ before ++ (a ∷ after)

-- a listener more is an ask more that was heard
pub heard_with : (k n : ℕ) (lists : List (List Listening)) (l : Listening) → n < length lists →
    IsInserted (heard_from k lists) (heard_from k (listed_with lists n l)) (heard_of (k + n) l)
heard_with k n [] l within = absurd (omega arith)
heard_with k zero (ls ∷ lists) l within = record {
  before = map (heard_of k) ls;
  after = heard_from (suc k) lists;
  was = refl;
  is = simp (map-append, append_assoc) (ap (λ j. map (heard_of k) ls ++ (heard_of j l ∷ heard_from (suc k) lists)) (omega arith));
}
heard_with k (suc n) (ls ∷ lists) l within =
    let rest : IsInserted (heard_from (suc k) lists) (heard_from (suc k) (listed_with lists n l)) (heard_of (suc k + n) l) = heard_with (suc k) n lists l (omega arith) in
    record {
      before = map (heard_of k) ls ++ rest.before;
      after = rest.after;
      was = ap (λ later. map (heard_of k) ls ++ later) rest.was ∙ sym (append_assoc (map (heard_of k) ls) rest.before rest.after);
      is = ap (λ later. map (heard_of k) ls ++ later) rest.is ∙ sym (append_assoc (map (heard_of k) ls) rest.before (heard_of (suc k + n) l ∷ rest.after))
          ∙ ap (λ j. (map (heard_of k) ls ++ rest.before) ++ (heard_of j l ∷ rest.after)) (omega arith);
    }

-- a new node has heard nothing
pub heard_pushed : (k : ℕ) (lists : List (List Listening)) → heard_from k (lists ++ [] ∷ []) ≡ heard_from k lists
heard_pushed k [] = refl
heard_pushed k (ls ∷ lists) = ap (λ later. map (heard_of k) ls ++ later) (heard_pushed (suc k) lists)

-- what a node heard of its listeners, by whom it was asked
of_node : (k n : ℕ) (ls : List Listening) → k ≡ n → length (filter (λ a. a.asked == n) (map (heard_of k) ls)) ≡ length ls
of_node k n [] same = refl
of_node k n (l ∷ ls) same =
    let rest : length (filter (λ a. a.asked == n) (map (heard_of k) ls)) ≡ length ls = of_node k n ls same in
    rw (eq-eqb k n same) (omega arith)

of_others : (k n : ℕ) (ls : List Listening) → k ≢ n → length (filter (λ a. a.asked == n) (map (heard_of k) ls)) ≡ 0
of_others k n [] other = refl
of_others k n (l ∷ ls) other =
    let rest : length (filter (λ a. a.asked == n) (map (heard_of k) ls)) ≡ 0 = of_others k n ls other in
    elim (cases_Bool (k == n)) [
      | inl here ↦ absurd (other (eqb-true k n here))
      | inr elsewhere ↦ rw elsewhere rest
    ]

of_later : (k n : ℕ) (lists : List (List Listening)) → n < k → length (filter (λ a. a.asked == n) (heard_from k lists)) ≡ 0
of_later k n [] before = refl
of_later k n (ls ∷ lists) before =
    let rest : length (filter (λ a. a.asked == n) (heard_from (suc k) lists)) ≡ 0 = of_later (suc k) n lists (omega arith) in
    let here : length (filter (λ a. a.asked == n) (map (heard_of k) ls)) ≡ 0 = of_others k n ls (λ same. omega arith) in
    simp (filter-append, length-append) (omega arith)

-- a node has heard as many asks as it has listeners
pub heard_by : (k j : ℕ) (lists : List (List Listening)) → length (filter (λ a. a.asked == k + j) (heard_from k lists)) ≡ length (list_at lists j)
heard_by k j [] = refl
heard_by k zero (ls ∷ lists) =
    let here : length (filter (λ a. a.asked == k + 0) (map (heard_of k) ls)) ≡ length ls = of_node k (k + 0) ls (omega arith) in
    let rest : length (filter (λ a. a.asked == k + 0) (heard_from (suc k) lists)) ≡ 0 = of_later (suc k) (k + 0) lists (omega arith) in
    simp (filter-append, length-append) (omega arith)
heard_by k (suc j) (ls ∷ lists) =
    let here : length (filter (λ a. a.asked == k + suc j) (map (heard_of k) ls)) ≡ 0 = of_others k (k + suc j) ls (λ same. omega arith) in
    let rest : length (filter (λ a. a.asked == suc k + j) (heard_from (suc k) lists)) ≡ length (list_at lists j) = heard_by (suc k) j lists in
    let again : length (filter (λ a. a.asked == k + suc j) (heard_from (suc k) lists)) ≡ length (list_at lists j) =
    subst (λ n. length (filter (λ a. a.asked == n) (heard_from (suc k) lists)) ≡ length (list_at lists j)) (omega arith) rest in
    simp (filter-append, length-append) (omega arith)

-- a solution more is a member more of its node
pub members_with : (g : GraphState) (s : Solution) (m : ℕ) →
    length (members_of (record g { solutions = g.solutions ++ s ∷ [] }) m) ≡ length (members_of g m) + cond (m == s.node) 1 0
members_with g s m =
    simp (filter-append, length-map, length-append) (elim (cases_eq s.node m) [
      | inl same ↦ rw (eq-eqb s.node m same, eq-eqb m s.node (sym same)) (omega arith)
      | inr other ↦ elim (cases_Bool (s.node == m)) [
        | inl here ↦ absurd (other (eqb-true s.node m here))
        | inr differ ↦ elim (cases_Bool (m == s.node)) [
          | inl here ↦ absurd (other (sym (eqb-true m s.node here)))
          | inr none ↦ rw (differ, none) (omega arith)
        ]
      ]
    ])

-- the asks among more letters
pub asks_in-append : (xs ys : List Sent) → asks_in (xs ++ ys) ≡ asks_in xs ++ asks_in ys
asks_in-append xs ys = flat_map-append (λ (x : Sent). ask_from x.from x.to x.load) xs ys

-- what a listener asked was heard
pub heard_has : (k n : ℕ) (lists : List (List Listening)) (l : Listening) → Contains (list_at lists n) l → Contains (heard_from k lists) (heard_of (k + n) l)
heard_has k n [] l has = absurd (Contains-none l has)
heard_has k zero (ls ∷ lists) l has =
    Contains-append_left (map (heard_of k) ls) (heard_from (suc k) lists) (heard_of (k + 0) l)
    (subst (λ j. Contains (map (heard_of k) ls) (heard_of j l)) (omega arith) (Contains-map (heard_of k) ls l has))
heard_has k (suc n) (ls ∷ lists) l has =
    Contains-append_right (map (heard_of k) ls) (heard_from (suc k) lists) (heard_of (k + suc n) l)
    (subst (λ j. Contains (heard_from (suc k) lists) (heard_of j l)) (omega arith) (heard_has (suc k) n lists l has))
