-- Solutions in their table, by numbers.
use Rattle.std.proofs.Common.{ℕ, ◌≡◌, ◌==◌, ◌∙◌, ap, refl, sym, subst, inl, inr, if◌then◌else◌, List, [], ◌∷◌, ◌++◌, Some, None, filter, map, slice_get, zero, suc, ◌<◌, arith, All, Contains, length, take}
use Rattle.std.specs.Map.{lookup, lookup_key}
use Rattle.std.proofs.lemmas.Bool.{cases_eq, cond-true, cond-false, eq-eqb, ne_eqb}
use Rattle.std.proofs.lemmas.List.{append-nil, map_push}
use Rattle.std.proofs.lemmas.List.Elements.{filter-append, All-head}
use Rattle.indexmap.specs.IndexMap.{insert_entry}
use Rattle.indexmap.proofs.MapLemmas.{absent_from_lookup, insert_entry-absent}
use Rattle.cred_graph.specs.declared.solutions.Reason.{Reason}
use Rattle.cred_graph.specs.NodeLists.{list_at, AddsAt, AreSame}
use Rattle.cred_graph.specs.Stored.{HasKey, members_by}
use Rattle.cred_graph.proofs.Keys.{solved_decided, solved_eq}
use Rattle.cred_graph.proofs.NodeListLemmas.{Contains-at_place, place_of_Contains}
use Rattle.cred_graph.proofs.Lookups.{lookup_key_is, lookup_key_none, lookup_key_there, lookup_none}
use Rattle.std.proofs.lemmas.Option.{none-some, slice_get_within}
use Rattle.credential_text.specs.declared.exprs.Expr.{Expr}
use Rattle.credential_text.specs.declared.exprs.Expr.TheVariants.{Ent, Meet}
use Rattle.credential_text.specs.declared.intersections.Part.{Part}
use Rattle.credential_text.specs.Expr.{part_expr, HasPartsInRange}
use Rattle.cred_graph.specs.declared.solutions.Solution.{Solution}
use Rattle.cred_graph.specs.Graph.{GraphState, IsNode, IsSolution, Known, before, Fits, IsGraph}
use Rattle.cred_graph.specs.Numbers.{HasNumbers}
use Rattle.cred_graph.specs.declared.solutions.Reason.TheVariants as reason

pub found_entry : (es : List ((ℕ × ℕ) × Reason ℕ ℕ)) (key k : ℕ × ℕ) (r : Reason ℕ ℕ) (place : ℕ) →
    Some k ≡ lookup_key (solved_eq key) es → slice_get es place ≡ Some (k, r) → slice_get es place ≡ Some (key, r)
found_entry es key k r place found at = at ∙ ap (λ (x : ℕ × ℕ). Some (x, r)) (sym (lookup_key_is solved_eq solved_decided es key k (sym found)))

pub no_entry : (es : List ((ℕ × ℕ) × Reason ℕ ℕ)) (key : ℕ × ℕ) → None ≡ lookup_key (solved_eq key) es → HasKey es key → ⊥
no_entry es key none (r, stands) =
    let at = place_of_Contains es (key, r) stands in
    lookup_key_none solved_eq solved_decided es key (sym none) at.0 (key, r) at.1 refl

pub no_value : (es : List ((ℕ × ℕ) × Reason ℕ ℕ)) (key : ℕ × ℕ) → lookup (solved_eq key) es ≡ None → HasKey es key → ⊥
no_value es key none (r, stands) =
    let at = place_of_Contains es (key, r) stands in
    lookup_none solved_eq solved_decided es key none at.0 (key, r) at.1 refl

pub has_key : (es : List ((ℕ × ℕ) × Reason ℕ ℕ)) (key k : ℕ × ℕ) → lookup_key (solved_eq key) es ≡ Some k → HasKey es key
has_key es key k found =
    let at = lookup_key_there solved_eq solved_decided es key k found in
    (at.1, Contains-at_place es at.0 (key, at.1) at.2)

-- an entry whose key isn't there goes last
pub entry_added : (es mid after : List ((ℕ × ℕ) × Reason ℕ ℕ)) (key : ℕ × ℕ) (r : Reason ℕ ℕ) → lookup (solved_eq key) es ≡ None →
    mid ≡ es → after ≡ insert_entry solved_eq mid key r → after ≡ es ++ (key, r) ∷ []
entry_added es mid after key r none reserved is =
    is ∙ ap (λ l. insert_entry solved_eq l key r) reserved ∙ insert_entry-absent solved_eq key r es (absent_from_lookup (solved_eq key) es none)

members_pushed : (n : ℕ) (es : List ((ℕ × ℕ) × Reason ℕ ℕ)) (e : (ℕ × ℕ) × Reason ℕ ℕ) →
    members_by n (es ++ e ∷ []) ≡ map (λ (x : (ℕ × ℕ) × Reason ℕ ℕ). x.0.1) (filter (λ (x : (ℕ × ℕ) × Reason ℕ ℕ). x.0.0 == n) es ++ (if e.0.0 == n then e ∷ [] else []))
members_pushed n es e = ap (map (λ (x : (ℕ × ℕ) × Reason ℕ ℕ). x.0.1)) (filter-append (λ (x : (ℕ × ℕ) × Reason ℕ ℕ). x.0.0 == n) es (e ∷ []))

pub members_same : (es after : List ((ℕ × ℕ) × Reason ℕ ℕ)) (old new : List (List ℕ)) → ((n : ℕ) → list_at old n ≡ members_by n es) → after ≡ es → AreSame old new → ((n : ℕ) → list_at new n ≡ members_by n after)
members_same es after old new are same lists_same n = lists_same n ∙ are n ∙ ap (members_by n) (sym same)

pub members_added : (es after : List ((ℕ × ℕ) × Reason ℕ ℕ)) (old new : List (List ℕ)) (key : ℕ × ℕ) (r : Reason ℕ ℕ) → ((n : ℕ) → list_at old n ≡ members_by n es) →
    AddsAt old new key.0 key.1 → after ≡ es ++ (key, r) ∷ [] → ((n : ℕ) → list_at new n ≡ members_by n after)
members_added es after old new key r are adds added =
    subst (λ l. ((n : ℕ) → list_at new n ≡ members_by n l)) (sym added) (λ n.
    let before = filter (λ (x : (ℕ × ℕ) × Reason ℕ ℕ). x.0.0 == n) es in
    let who = λ (x : (ℕ × ℕ) × Reason ℕ ℕ). x.0.1 in
    elim (cases_eq n key.0) [
      | inl same ↦
          adds n ∙ cond-true (n == key.0) (list_at old n ++ key.1 ∷ []) (list_at old n) (eq-eqb n key.0 same) ∙
          ap (λ l. l ++ key.1 ∷ []) (are n) ∙
          sym (map_push who before (key, r)) ∙
          ap (λ l. map who (before ++ l)) (sym (cond-true (key.0 == n) ((key, r) ∷ []) [] (eq-eqb key.0 n (sym same)))) ∙
          sym (members_pushed n es (key, r))
      | inr other ↦
          adds n ∙ cond-false (n == key.0) (list_at old n ++ key.1 ∷ []) (list_at old n) (ne_eqb n key.0 other) ∙
          are n ∙
          ap (map who) (sym (append-nil before)) ∙
          ap (λ l. map who (before ++ l)) (sym (cond-false (key.0 == n) ((key, r) ∷ []) [] (ne_eqb key.0 n (λ same. other (sym same))))) ∙
          sym (members_pushed n es (key, r))
    ])

-- who is a solution has a node: only an entity's own node makes one, and all other reasons lead back to earlier ones

-- what stands among the first stands at the same place of all
taken : {X : Type 0} (i : ℕ) (xs : List X) (j : ℕ) (x : X) → slice_get (take i xs) j ≡ Some x → (j < i) × (slice_get xs j ≡ Some x)
taken (suc i) (y ∷ xs) zero x at = (omega arith, at)
taken (suc i) (y ∷ xs) (suc j) x at = let rest = taken i xs j x at in (omega (arith, rest.0), rest.1)
taken _ _ j x at = absurd (none-some x at)

abbrev Solvers : GraphState → Type 0
Solvers g = (n : ℕ) (who : List ℕ) → IsSolution g n who → Contains g.nodes (Ent who)

known_has_node : (g : GraphState) → Solvers g → (who : List ℕ) (e : Expr) → Known g who e → Contains g.nodes (Ent who)
known_has_node g solvers who e (n, node, solution) = solvers n who solution

part_has_node : (g : GraphState) → Solvers g → (who : List ℕ) (parts : List Part) → HasPartsInRange (Meet parts) → All (λ p. Known g who (part_expr p)) parts → Contains g.nodes (Ent who)
part_has_node g solvers who [] range all = absurd (omega (arith, range.0))
part_has_node g solvers who (p ∷ parts) range all = known_has_node g solvers who (part_expr p) (All-head (λ (q : Part). Known g who (part_expr q)) p parts all)

-- whom a reason fits has a node
fits_has_node : (g : GraphState) → ((n : ℕ) (e : Expr) → IsNode g n e → HasPartsInRange e) → Solvers g → (n : ℕ) (who : List ℕ) (why : Reason ℕ (List ℕ)) → Fits g n who why → Contains g.nodes (Ent who)
fits_has_node g range solvers n who reason.Leaf fits = Contains-at_place g.nodes n (Ent who) fits
fits_has_node g range solvers n who (reason.Body m) (r, e, node, body, solution) = solvers m who solution
fits_has_node g range solvers n who (reason.Via b) (r, t, node, base, given) = known_has_node g solvers who _ given
fits_has_node g range solvers n who reason.Parts (parts, node, all) = part_has_node g solvers who parts (range n (Meet parts) node) all

solver_at : (g : GraphState) → IsGraph g → (m i : ℕ) (s : Solution) → i < m → slice_get g.solutions i ≡ Some s → Contains g.nodes (Ent s.who)
solver_at g graph zero i s within at = absurd (omega arith)
solver_at g graph (suc m) i s within at =
    fits_has_node (before i g) graph.parts_in_range
    (λ n who solution.
    let t : Solution = record { node = n; who = who; reason = solution.0 } in
    let there = place_of_Contains (take i g.solutions) t solution.1 in
    let place = taken i g.solutions there.0 t there.1 in
    solver_at g graph m there.0 t (omega (arith, place.0)) place.1)
    s.node s.who s.reason (graph.justified i s at)

-- a solution has a node
pub solver_has_node : (g : GraphState) → IsGraph g → (n : ℕ) (who : List ℕ) → IsSolution g n who → Contains g.nodes (Ent who)
solver_has_node g graph n who solution =
    let s : Solution = record { node = n; who = who; reason = solution.0 } in
    let there = place_of_Contains g.solutions s solution.1 in
    solver_at g graph (suc there.0) there.0 s (omega arith) there.1

pub new_solver_has_node : (g : GraphState) → IsGraph g → (n : ℕ) (who : List ℕ) (why : Reason ℕ (List ℕ)) → Fits g n who why → Contains g.nodes (Ent who)
new_solver_has_node g graph n who why fits = fits_has_node g graph.parts_in_range (solver_has_node g graph) n who why fits

-- the numbers that a reason needs are there
pub reason_has_numbers : (g : GraphState) → IsGraph g → (n : ℕ) (who : List ℕ) (why : Reason ℕ (List ℕ)) → Fits g n who why → HasNumbers g.nodes why
reason_has_numbers g graph n who (reason.Body m) (r, e, node, body, solution) = slice_get_within g.nodes m e body
reason_has_numbers g graph n who (reason.Via b) (r, t, node, base, given) = known_has_node g (solver_has_node g graph) b _ base
reason_has_numbers g graph n who _ fits = tt

-- a reason fits a node
pub fits_node : (g : GraphState) (n : ℕ) (who : List ℕ) (why : Reason ℕ (List ℕ)) → Fits g n who why → n < length g.nodes
fits_node g n who reason.Leaf fits = slice_get_within g.nodes n _ fits
fits_node g n who (reason.Body m) (r, e, node, body, solution) = slice_get_within g.nodes n _ node
fits_node g n who (reason.Via b) (r, t, node, base, given) = slice_get_within g.nodes n _ node
fits_node g n who reason.Parts (parts, node, all) = slice_get_within g.nodes n _ node
