-- What a node tells, and what its monitor hears.
use Rattle.std.specs.Prelude.{ℕ, Bool, List, Some, map, slice_get, slice_set, ◌≡◌}
use Rattle.cred_graph.specs.declared.listeners.Port.{Port}
use Rattle.cred_graph.specs.Graph.{GraphState, listeners_of, members_of}
use Rattle.monitors.specs.LinkMonitor.{AddsKey}
use Rattle.monitors.specs.MeetMonitor.{MeetTold, HearsPart}
use Rattle.search.specs.declared.findings.Monitor.{Monitor}
use Rattle.search.specs.Net.{Words}
use Rattle.std.proofs.Common.{zero, suc, ◌+◌, ◌∙◌, sym, ap, [], ◌∷◌, ◌++◌, take, append_assoc, add-one, length, ◌≤◌, subst}
use Rattle.std.proofs.lemmas.List.{length-map, take_all}
use Rattle.std.proofs.lemmas.Option.{same_Some}
use Rattle.search.specs.Answers.{Progress}
use Rattle.search.specs.declared.letters.Load.TheVariants as load
use Rattle.search.specs.declared.findings.Monitor.TheVariants as monitor

-- a Tell to every listener of the node
abbrev pub new_tells : GraphState → ℕ → List ℕ → List (ℕ × Words)
new_tells g n who = map (λ l. (l.asker, load.Tell l.port who)) (listeners_of g n)

-- a Tell to the asker for each solution that the node has
abbrev pub known_tells : GraphState → ℕ → ℕ → Port (List ℕ) → List (ℕ × Words)
known_tells g n m p = map (λ who. (m, load.Tell p who)) (members_of g n)

-- the monitor of a linked role hears a member of its base, and the answer says whether that is new
abbrev pub BaseHeard : List Monitor → List Monitor → ℕ → List ℕ → Bool → Type 0
BaseHeard ms ms' node base new =
    (x y : List (List ℕ)) × (slice_get ms node ≡ Some (monitor.Link x)) × AddsKey x y base new × (ms' ≡ slice_set ms node (monitor.Link y))

-- the monitor of an intersection hears that a part told an entity, and the answer says whether it is the last
abbrev pub PartHeard : List Monitor → List Monitor → ℕ → ℕ → List ℕ → Bool → Type 0
PartHeard ms ms' node i who last =
    (x y : MeetTold) × (slice_get ms node ≡ Some (monitor.Meet x)) × HearsPart x y i who last × (ms' ≡ slice_set ms node (monitor.Meet y))

-- what a loop that sends one letter for each element of a list has sent so far

-- one more element of the list is taken
pub take_next : {A B : Type 0} (f : A → B) (xs : List A) (k : ℕ) (x : A) → slice_get xs k ≡ Some x → take (suc k) (map f xs) ≡ take k (map f xs) ++ f x ∷ []
take_next f [] k x at = cc
take_next f (y ∷ xs) zero x at = ap (λ z. f z ∷ []) (same_Some y x at)
take_next f (y ∷ xs) (suc k) x at = ap (λ zs. f y ∷ zs) (take_next f xs k x at)

pub sent_next : {A B : Type 0} (f : A → B) (xs : List A) (k : ℕ) (x : A) (start now : List B) → slice_get xs k ≡ Some x → now ≡ start ++ take k (map f xs) →
    now ++ f x ∷ [] ≡ start ++ take (k + 1) (map f xs)
sent_next f xs k x start now at so_far =
    ap (λ zs. zs ++ f x ∷ []) so_far ∙ append_assoc start (take k (map f xs)) (f x ∷ []) ∙ ap (λ zs. start ++ zs) (sym (take_next f xs k x at)) ∙ ap (λ n. start ++ take n (map f xs)) (sym (add-one k))

-- what stands while a letter is sent for each element of a list of the graph: so many were sent, and the graph is left
abbrev pub IsTelling : {A : Type 0} → (GraphState → Type 0) → (GraphState → A → ℕ × Words) → (GraphState → List A) → Progress → ℕ → Progress → Type 0
IsTelling P f xs s k t = P t.graph × (t.monitors ≡ s.monitors) × (t.outs ≡ s.outs ++ take k (map (f t.graph) (xs t.graph)))

-- one more was sent
pub tells_on : {A : Type 0} (P : GraphState → Type 0) (f : GraphState → A → ℕ × Words) (xs : GraphState → List A) (s now next : Progress) (k : ℕ) (x : A) → IsTelling P f xs s k now → slice_get (xs now.graph) k ≡ Some x →
    next ≡ record now { outs = now.outs ++ f now.graph x ∷ [] } → IsTelling P f xs s (k + 1) next
tells_on P f xs s now next k x (holds, monitors, so_far) at done =
    subst (IsTelling P f xs s (k + 1)) (sym done) (holds, monitors, sent_next (f now.graph) (xs now.graph) k x s.outs now.outs at so_far)

-- all were sent
pub told_all : {A : Type 0} (f : GraphState → A → ℕ × Words) (xs : GraphState → List A) (s t : Progress) (k : ℕ) → t.outs ≡ s.outs ++ take k (map (f t.graph) (xs t.graph)) → length (xs t.graph) ≤ k → t.outs ≡ s.outs ++ map (f t.graph) (xs t.graph)
told_all f xs s t k outs past =
    outs ∙ ap (λ zs. s.outs ++ zs) (take_all k (map (f t.graph) (xs t.graph)) (subst (λ n. n ≤ k) (sym (length-map (xs t.graph) (f t.graph))) past))
