-- A walk goes on by a premise or by a step, and ends in a proof.
use Rattle.std.proofs.Common.{ℕ, suc, ◌+◌, ◌-◌, ◌*◌, ◌<◌, ◌≤◌, ◌≡◌, ◌∙◌, inl, inr, ap, sym, subst, refl, arith, List, [], ◌∷◌, ◌++◌, Some, Contains, length, slice_get}
use Rattle.std.proofs.lemmas.List.{length_push}
use Rattle.std.proofs.lemmas.List.Elements.{Contains-push, Contains-push_cases, Contains-append_left}
use Rattle.std.proofs.lemmas.Option.{same_Some, slice_get_within}
use Rattle.credential_text.specs.declared.exprs.Expr.{Expr}
use Rattle.rt0_rules.proofs.Elements.{Contains-none, Contains-first, Contains-later, Contains-cons_cases}
use Rattle.cred_graph.specs.Graph.{GraphState, IsNode}
use Rattle.cred_graph.proofs.NodeListLemmas.{place_of_Contains, slice_get_stays, slice_get_push_cases, slice_get_pushed}
use Rattle.search.proofs.Kept.{zip_right}
use Rattle.proof_trees.specs.declared.placed_solutions.PlacedSolution.{PlacedSolution}
use Rattle.proof_trees.specs.declared.steps.Step.{Step}
use Rattle.proof_trees.specs.declared.steps.Rule.{Rule}
use Rattle.proof_trees.specs.Proof.{Concludes}
use Rattle.proof_trees.specs.Lean.{IsLean}
use Rattle.proof_trees.specs.PlacedSolution.{Stands, IsPremise}
use Rattle.proof_trees.specs.Draft.{DraftState, IsStepOf, IsDraft, IsMissingPremise, IsByReason, IsStepped}
use Rattle.proof_trees.proofs.PlacedSolutionLemmas.{premise_earlier}
use Rattle.proof_trees.proofs.DraftLemmas.{claims_found, are_apart, cites_premise, draft_stepped}
use Rattle.proof_trees.proofs.Numbered.{element_at, bounded-le}
use Rattle.proof_trees.proofs.Zipped.{zip_length}
use Rattle.proof_trees.proofs.Walk.{Supports, IsPath, IsNeeded, IsOfUse, IsWalk, first_need, walk_left}

-- the one that the last of a path is a premise of
pub record HasCause (g : GraphState) (fs : List PlacedSolution) (p : PlacedSolution) : Type 0 where
  pub cause : PlacedSolution
  pub among : Contains fs cause
  pub supports : Supports g cause p

module _ (g : GraphState) where
  path_cause : (f : PlacedSolution) (ps : List PlacedSolution) (p : PlacedSolution) → IsPath g f (ps ++ p ∷ []) → HasCause g (f ∷ ps) p
  path_cause f [] p path = record { cause = f; among = Contains-first f []; supports = path.0 }
  path_cause f (q ∷ ps) p path =
      let rest : HasCause g (q ∷ ps) p = path_cause q ps p path.1 in
      record { cause = rest.cause; among = Contains-later f (q ∷ ps) rest.cause rest.among; supports = rest.supports }

  path_front : (f : PlacedSolution) (ps : List PlacedSolution) (p : PlacedSolution) → IsPath g f (ps ++ p ∷ []) → IsPath g f ps
  path_front f [] p path = tt
  path_front f (q ∷ ps) p path = (path.0, path_front q ps p path.1)

  path_more : (f : PlacedSolution) (ps : List PlacedSolution) (p q : PlacedSolution) → IsPath g f (ps ++ p ∷ []) → Supports g p q → IsPath g f ((ps ++ p ∷ []) ++ q ∷ [])
  path_more f [] p q path supports = (path.0, (supports, tt))
  path_more f (r ∷ ps) p q path supports = (path.0, path_more r ps p q path.1 supports)

  -- along a path the places fall
  path_falls : (f : PlacedSolution) (ps : List PlacedSolution) (p : PlacedSolution) → IsPath g f (ps ++ p ∷ []) → (q : PlacedSolution) → Contains (f ∷ ps) q → p.place < q.place
  path_falls f [] p path q among = elim (Contains-cons_cases f [] q among) [
    | inl same ↦ subst (λ (x : PlacedSolution). p.place < x.place) same path.0.earlier
    | inr none ↦ absurd (Contains-none q none)
  ]
  path_falls f (r ∷ ps) p path q among =
      let below : p.place < r.place = path_falls r ps p path.1 r (Contains-first r ps) in
      elim (Contains-cons_cases f (r ∷ ps) q among) [
        | inl same ↦ subst (λ (x : PlacedSolution). p.place < x.place) same (omega (arith, path.0.earlier))
        | inr later ↦ path_falls r ps p path.1 q later
      ]

  -- each of a path stands in the graph
  path_stands : (f : PlacedSolution) (ps : List PlacedSolution) → Stands g f → IsPath g f ps → (q : PlacedSolution) → Contains (f ∷ ps) q → Stands g q
  path_stands f [] stands path q among = elim (Contains-cons_cases f [] q among) [
    | inl same ↦ subst (Stands g) same stands
    | inr none ↦ absurd (Contains-none q none)
  ]
  path_stands f (p ∷ ps) stands path q among = elim (Contains-cons_cases f (p ∷ ps) q among) [
    | inl same ↦ subst (Stands g) same stands
    | inr later ↦ path_stands p ps path.0.stands path.1 q later
  ]

  module _ (asked : PlacedSolution) (stands : Stands g asked) where
    pub needed_stands : (places : List ℕ) (needed : List PlacedSolution) → IsNeeded g asked places needed → (q : PlacedSolution) → Contains needed q → Stands g q
    needed_stands places [] is q among = absurd (Contains-none q among)
    needed_stands places (f ∷ fs) is q among = path_stands f fs (subst (Stands g) (sym is.0) stands) is.1 q among

    -- one premise more
    needed_more : (places : List ℕ) (rest : List PlacedSolution) (p q : PlacedSolution) → IsNeeded g asked places (rest ++ p ∷ []) → Supports g p q → IsNeeded g asked places ((rest ++ p ∷ []) ++ q ∷ [])
    needed_more places [] p q is supports = (is.0, (supports, tt))
    needed_more places (f ∷ fs) p q is supports = (is.0, path_more f fs p q is.1 supports)

    -- one step more
    needed_less : (places : List ℕ) (rest : List PlacedSolution) (p : PlacedSolution) → IsNeeded g asked places (rest ++ p ∷ []) → IsNeeded g asked (places ++ p.place ∷ []) rest
    needed_less places [] p is = (places, ap (λ (f : PlacedSolution). places ++ f.place ∷ []) is.0)
    needed_less places (f ∷ fs) p is = (is.0, path_front f fs p is.1)

    needed_falls : (places : List ℕ) (rest : List PlacedSolution) (p : PlacedSolution) → IsNeeded g asked places (rest ++ p ∷ []) → (q : PlacedSolution) → Contains rest q → p.place < q.place
    needed_falls places [] p is q among = absurd (Contains-none q among)
    needed_falls places (f ∷ fs) p is q among = path_falls f fs p is.1 q among

first_need-push : (fs : List PlacedSolution) (p : PlacedSolution) → first_need (fs ++ p ∷ []) ≡ p.place
first_need-push [] p = refl
first_need-push (f ∷ []) p = refl
first_need-push (f ∷ q ∷ fs) p = first_need-push (q ∷ fs) p

not_none : (rest : List PlacedSolution) (p : PlacedSolution) → rest ++ p ∷ [] ≡ [] → ⊥
not_none rest p none = let long : length (rest ++ p ∷ []) ≡ 0 = ap length none in omega (arith, length_push rest p)

-- what is needed, where its last was taken out
pub popped : {g : GraphState} {asked : PlacedSolution} {d : DraftState} (needed rest : List PlacedSolution) (found : PlacedSolution) → needed ≡ rest ++ found ∷ [] → IsWalk g asked d needed →
    IsWalk g asked d (rest ++ found ∷ [])
popped {g = g} {asked = asked} {d = d} needed rest found items walk = subst (λ (l : List PlacedSolution). IsWalk g asked d l) items walk

module _ (g : GraphState) (asked : PlacedSolution) (stands : Stands g asked) where
  module _ (d : DraftState) (rest : List PlacedSolution) (found : PlacedSolution) (walk : IsWalk g asked d (rest ++ found ∷ [])) where
    pub found_stands : Stands g found
    found_stands = needed_stands g asked stands d.places (rest ++ found ∷ []) walk.needed_is found (Contains-push rest found)

    pub found_absent : Contains d.places found.place → ⊥
    found_absent = walk.absent found (Contains-push rest found)

    missing_supports : (p : PlacedSolution) → IsMissingPremise g d found.solution p → Supports g found p
    missing_supports p missing = record {
      stands = missing.stands;
      earlier = premise_earlier g walk.draft.graph found p missing.expr found_stands missing.stands missing.node missing.premise;
      expr = missing.expr;
      node = missing.node;
      premise = missing.premise;
    }

    -- a premise that no step claims yet is needed first
    pub walk_waits : (p : PlacedSolution) → IsMissingPremise g d found.solution p → IsWalk g asked d ((rest ++ found ∷ []) ++ p ∷ [])
    walk_waits p missing = record {
      draft = walk.draft;
      needed_is = needed_more g asked stands d.places rest found p walk.needed_is (missing_supports p missing);
      absent = λ f among. elim (Contains-push_cases (rest ++ found ∷ []) p f among) [
        | inl before ↦ walk.absent f before
        | inr same ↦ subst (λ (x : PlacedSolution). Contains d.places x.place → ⊥) same missing.absent
      ];
      of_use = λ i s at. elim (walk.of_use i s at) [
        | inl is_cited ↦ inl is_cited
        | inr (inl (f, among, premise)) ↦ inr (inl (f, Contains-append_left (rest ++ found ∷ []) (p ∷ []) f among, premise))
        | inr (inr (none, last)) ↦ absurd (not_none rest found none)
      ];
    }

    module _ (by : Rule) (claim : Expr) (node : IsNode g found.solution.node claim)
        (is : IsByReason g d.steps found.solution.node found.solution.who found.solution.reason by) where
      abbrev new_step : Step
      new_step = record { who = found.solution.who; claim = claim; rule = by }

      abbrev after : DraftState
      after = record { places = d.places ++ found.place ∷ []; steps = d.steps ++ new_step ∷ [] }

      -- who needs the new step awaits it
      new_of_use : (rest : List PlacedSolution) → IsNeeded g asked d.places (rest ++ found ∷ []) → IsOfUse g after.steps rest (length d.steps) new_step
      new_of_use [] needed = inr (inr (refl, sym (length_push d.steps new_step)))
      new_of_use (f ∷ fs) needed =
          let has : HasCause g (f ∷ fs) found = path_cause g f fs found needed.1 in
          let same : has.supports.expr ≡ claim = same_Some has.supports.expr claim (sym has.supports.node ∙ node) in
          inr (inl (has.cause, has.among, subst (IsPremise g has.cause.solution found.solution.who) same has.supports.premise))

      -- an earlier step is cited by it now, or as before
      old_of_use : (i : ℕ) (s : Step) → slice_get d.steps i ≡ Some s → IsOfUse g after.steps rest i s
      old_of_use i s at = elim (walk.of_use i s at) [
        | inl (j, t, later, there, cites) ↦ inl (j, t, later, slice_get_stays d.steps (new_step ∷ []) j t there, cites)
        | inr (inl (f, among, premise)) ↦ elim (Contains-push_cases rest found f among) [
          | inl before ↦ inr (inl (f, before, premise))
          | inr same ↦
              let of_found = subst (λ (x : PlacedSolution). IsPremise g x.solution s.who s.claim) (sym same) premise in
              inl (
                length d.steps,
                new_step,
                slice_get_within d.steps i s at,
                slice_get_pushed d.steps new_step,
                cites_premise g d walk.draft found.solution.node found.solution.who found.solution.reason by s.who s.claim i is of_found (s, at, refl, refl),
              )
        ]
        | inr (inr (none, last)) ↦ absurd (not_none rest found none)
      ]

      pub walk_steps : IsWalk g asked after rest
      walk_steps = record {
        draft = draft_stepped g d after walk.draft found by found_stands found_absent is (record { claim = claim; node = node; after = refl });
        needed_is = needed_less g asked stands d.places rest found walk.needed_is;
        absent = λ f among has. elim (Contains-push_cases d.places found.place f.place has) [
          | inl before ↦ walk.absent f (Contains-append_left rest (found ∷ []) f among) before
          | inr same ↦
              let falls : found.place < f.place = needed_falls g asked stands d.places rest found walk.needed_is f among in
              absurd (omega arith)
        ];
        of_use = λ i s at. elim (slice_get_push_cases d.steps new_step i s at) [
          | inl old ↦ old_of_use i s old
          | inr (last, new) ↦
              subst (λ (t : Step). IsOfUse g after.steps rest i t) new
              (subst (λ n. IsOfUse g after.steps rest n new_step) (sym last) (new_of_use rest walk.needed_is))
        ];
      }

    pub walk_stepped : (e : DraftState) (by : Rule) → IsByReason g d.steps found.solution.node found.solution.who found.solution.reason by → IsStepped g d e found by → IsWalk g asked e rest
    walk_stepped e by is stepped = subst (λ (x : DraftState). IsWalk g asked x rest) (sym stepped.after) (walk_steps by stepped.claim stepped.node is)

  -- nothing is needed any more
  module _ (d : DraftState) (walk : IsWalk g asked d []) where
    pub walk_concludes : (e : Expr) → IsNode g asked.solution.node e → Concludes d.steps asked.solution.who e
    walk_concludes e node =
        let (front, places) = walk.needed_is in
        let long : length d.steps ≡ length front + 1 = omega (arith, zip_length (IsStepOf g) d.places d.steps walk.draft.claims, ap length places, length_push front asked.place) in
        let at : slice_get d.places (length front) ≡ Some asked.place = ap (λ l. slice_get l (length front)) places ∙ slice_get_pushed front asked.place in
        (length front, long, claims_found g d walk.draft (length front) asked e stands node at)

    pub walk_lean : IsLean d.steps
    walk_lean = record {
      apart = are_apart g d walk.draft;
      used = λ i within.
          let (s, at) = element_at d.steps i (omega arith) in
          elim (walk.of_use i s at) [
            | inl is_cited ↦ is_cited
            | inr (inl (f, among, premise)) ↦ absurd (Contains-none f among)
            | inr (inr (none, last)) ↦ absurd (omega arith)
          ];
    }

-- the walk comes nearer to its end
module _ (g : GraphState) (asked : PlacedSolution) (stands : Stands g asked) where
  places_below : (d : DraftState) → IsDraft g d → length d.places ≤ length g.solutions
  places_below d draft = bounded-le d.places (length g.solutions) draft.distinct within
    where
      within : (k : ℕ) → Contains d.places k → k < length g.solutions
      within k among =
          let at = place_of_Contains d.places k among in
          let (s, there, step) = zip_right (IsStepOf g) d.places d.steps draft.claims at.0 k at.1 in
          slice_get_within g.solutions k _ step.solution

  first_below : (fs : List PlacedSolution) → ((q : PlacedSolution) → Contains fs q → Stands g q) → first_need fs ≤ length g.solutions
  first_below [] all = omega arith
  first_below (f ∷ []) all = let within : f.place < length g.solutions = slice_get_within g.solutions f.place f.solution (all f (Contains-first f [])) in omega arith
  first_below (f ∷ p ∷ fs) all = first_below (p ∷ fs) (λ q among. all q (Contains-later f (p ∷ fs) q among))

  nearer : (n k p q : ℕ) → k + 1 ≤ n → q ≤ n → (n - (k + 1)) * (n + 1) + q < (n - k) * (n + 1) + p
  nearer n k p q room bound =
      let one : n - k ≡ suc (n - (k + 1)) = omega arith in
      rw one (omega arith)

  module _ (d : DraftState) (rest : List PlacedSolution) (found : PlacedSolution) (walk : IsWalk g asked d (rest ++ found ∷ [])) where
    pub nearer_by_premise : (p : PlacedSolution) → IsMissingPremise g d found.solution p → walk_left g d ((rest ++ found ∷ []) ++ p ∷ []) < walk_left g d (rest ++ found ∷ [])
    nearer_by_premise p missing =
        let falls : p.place < found.place = (missing_supports g asked stands d rest found walk p missing).earlier in
        rw (first_need-push (rest ++ found ∷ []) p, first_need-push rest found) (omega arith)

    pub nearer_by_step : (e : DraftState) (by : Rule) → IsByReason g d.steps found.solution.node found.solution.who found.solution.reason by → IsStepped g d e found by →
        walk_left g e rest < walk_left g d (rest ++ found ∷ [])
    nearer_by_step e by is stepped =
        let next : IsWalk g asked e rest = walk_stepped g asked stands d rest found walk e by is stepped in
        let more : length e.places ≡ length d.places + 1 = ap (λ (x : DraftState). length x.places) stepped.after ∙ length_push d.places found.place in
        let room : length e.places ≤ length g.solutions = places_below e next.draft in
        let bound : first_need rest ≤ length g.solutions = first_below rest (needed_stands g asked stands e.places rest next.needed_is) in
        rw (more, first_need-push rest found) (nearer (length g.solutions) (length d.places) found.place (first_need rest) (omega arith) bound)
