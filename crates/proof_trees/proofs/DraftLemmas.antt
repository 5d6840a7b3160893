-- What a draft claims, and what one step more keeps.
use Rattle.std.proofs.Common.{ℕ, ◌==◌, ◌<◌, ◌≡◌, ◌∙◌, inl, inr, ap, sym, subst, refl, arith, List, [], ◌∷◌, ◌++◌, Some, Contains, length, take, slice_get}
use Rattle.std.proofs.lemmas.List.{take-append-le}
use Rattle.std.proofs.lemmas.Option.{same_Some, slice_get_within}
use Rattle.std.proofs.Math.Seq.{take-append_seam}
use Rattle.credential_text.specs.declared.credentials.Credential.{Credential}
use Rattle.credential_text.specs.declared.exprs.Expr.{Expr}
use Rattle.credential_text.specs.declared.exprs.Expr.TheVariants as expr
use Rattle.credential_text.specs.Expr.{part_expr}
use Rattle.cred_graph.specs.declared.solutions.Reason.{Reason}
use Rattle.cred_graph.specs.declared.solutions.Reason.TheVariants as reason
use Rattle.cred_graph.specs.declared.solutions.Solution.{Solution}
use Rattle.cred_graph.specs.Graph.{GraphState, IsNode}
use Rattle.cred_graph.proofs.NodeListLemmas.{Contains-at_place, place_of_Contains, slice_get_push_cases}
use Rattle.indexmap.specs.IndexSet.{insert_key}
use Rattle.indexmap.proofs.SetLemmas.{AllZip-push}
use Rattle.search.specs.Net.{ByRow}
use Rattle.search.proofs.Kept.{zip_left, zip_right}
use Rattle.proof_trees.specs.declared.placed_solutions.PlacedSolution.{PlacedSolution}
use Rattle.proof_trees.specs.declared.steps.Step.{Step}
use Rattle.proof_trees.specs.declared.steps.Rule.{Rule}
use Rattle.proof_trees.specs.declared.steps.Rule.TheVariants as rule
use Rattle.proof_trees.specs.Proof.{Claims, IsBy, leaf, credential, link, meet}
use Rattle.proof_trees.specs.Lean.{AreApart, cited}
use Rattle.proof_trees.specs.PlacedSolution.{Stands, AreByRows, IsPremiseOf}
use Rattle.proof_trees.specs.Draft.{DraftState, IsStepOf, IsDraft, IsByReason, IsStepped}
use Rattle.proof_trees.proofs.Numbered.{one_place_each, distinct_push, pushed_key}

module _ (g : GraphState) (d : DraftState) (draft : IsDraft g d) where
  -- the step at the number of a solution's place claims it
  pub claims_found : (number : ℕ) (f : PlacedSolution) (e : Expr) → Stands g f → IsNode g f.solution.node e → slice_get d.places number ≡ Some f.place → Claims d.steps number f.solution.who e
  claims_found number f e stands node at =
      let (s, there, step) = zip_right (IsStepOf g) d.places d.steps draft.claims number f.place at in
      let same : record { node = step.node; who = s.who; reason = step.reason } ≡ f.solution = same_Some _ f.solution (sym step.solution ∙ stands) in
      let node_is : step.node ≡ f.solution.node = ap (λ (x : Solution). x.node) same in
      let claimed : IsNode g f.solution.node s.claim = subst (λ n. IsNode g n s.claim) node_is step.claim in
      (s, there, ap (λ (x : Solution). x.who) same, same_Some s.claim e (sym claimed ∙ node))

  pub are_apart : AreApart d.steps
  are_apart i j s t at there whose what =
      let (p, p_at, s_step) = zip_left (IsStepOf g) d.places d.steps draft.claims i s at in
      let (q, q_at, t_step) = zip_left (IsStepOf g) d.places d.steps draft.claims j t there in
      let nodes : s_step.node ≡ t_step.node = draft.graph.one_node s_step.node t_step.node t.claim (subst (IsNode g s_step.node) what s_step.claim) t_step.claim in
      let places : p ≡ q = draft.graph.one_solution p q _ _ s_step.solution t_step.solution nodes whose in
      one_place_each d.places q draft.distinct i j (p_at ∙ ap Some places) q_at

  pub claims_once : (j k : ℕ) (who : List ℕ) (e : Expr) → Claims d.steps j who e → Claims d.steps k who e → j ≡ k
  claims_once j k who e (s, at, s_who, s_claim) (t, there, t_who, t_claim) = are_apart j k s t at there (s_who ∙ sym t_who) (s_claim ∙ sym t_claim)

  -- a rule cites the step of each premise
  pub cites_premise : (n : ℕ) (who : List ℕ) (why : Reason ℕ (List ℕ)) (by : Rule) (w : List ℕ) (e : Expr) (k : ℕ) →
      IsByReason g d.steps n who why by → IsPremiseOf g n who why w e → Claims d.steps k w e → Contains (cited by) k
  cites_premise n who reason.Leaf by w e k is premise claims = absurd premise
  cites_premise n who (reason.Body m) (rule.Cred place) w e k (f, node, body) (same, again) claims =
      let exprs : f ≡ e = cc in
      let number : place ≡ k = claims_once place k w e (subst (λ x. Claims d.steps place x e) (sym same) (subst (Claims d.steps place who) exprs body)) claims in
      Contains-at_place (place ∷ []) 0 k (ap Some number)
  cites_premise n who (reason.Via b) (rule.Link base_place role_place) w e k (base, name, node, in_base, in_role) (base', name', again, inl (same, is)) claims =
      let bases : base ≡ base' = cc in
      let number : base_place ≡ k = claims_once base_place k w e
      (subst (λ x. Claims d.steps base_place x e) (sym same) (subst (Claims d.steps base_place b) (ap expr.Rol bases ∙ sym is) in_base)) claims in
      Contains-at_place (base_place ∷ role_place ∷ []) 0 k (ap Some number)
  cites_premise n who (reason.Via b) (rule.Link base_place role_place) w e k (base, name, node, in_base, in_role) (base', name', again, inr (same, is)) claims =
      let names : name ≡ name' = cc in
      let number : role_place ≡ k = claims_once role_place k w e
      (subst (λ x. Claims d.steps role_place x e) (sym same)
      (subst (Claims d.steps role_place who) (ap (λ (x : List ℕ). expr.Rol (record { owner = b; name = x })) names ∙ sym is) in_role)) claims in
      Contains-at_place (base_place ∷ role_place ∷ []) 1 k (ap Some number)
  cites_premise n who reason.Parts (rule.Parts places) w e k (p, ps, node, each) (parts', part, again, among, same, is) claims =
      let lists : parts' ≡ p ∷ ps = cc in
      let at = place_of_Contains (p ∷ ps) part (subst (λ l. Contains l part) lists among) in
      let (place, there, claimed) = zip_left (λ place part. Claims d.steps place who (part_expr part)) places (p ∷ ps) each at.0 part at.1 in
      let number : place ≡ k = claims_once place k w e (subst (λ x. Claims d.steps place x e) (sym same) (subst (Claims d.steps place who) (sym is) claimed)) claims in
      subst (Contains places) number (Contains-at_place places at.0 place there)
  cites_premise n who why by w e k is premise claims = absurd is

-- a rule that follows the reason is RT0's
by_rule : (rows : List Credential) (g : GraphState) (steps : List Step) (n : ℕ) (who : List ℕ) (why : Reason ℕ (List ℕ)) (by : Rule) (claim : Expr) →
    ByRow rows g n why → IsNode g n claim → IsByReason g steps n who why by → IsBy rows steps who claim by
by_rule rows g steps n who reason.Leaf rule.Leaf claim row node is =
    subst (λ (e : Expr). IsBy rows steps who e rule.Leaf) (same_Some (expr.Ent who) claim (sym is ∙ node)) leaf
by_rule rows g steps n who (reason.Body m) (rule.Cred place) claim (c, among, head, body) node (e, again, claims) =
    let exprs : e ≡ c.body = cc in
    subst (λ (x : Expr). IsBy rows steps who x (rule.Cred place)) (same_Some (expr.Rol c.head) claim (sym head ∙ node))
    (credential c among refl (subst (Claims steps place who) exprs claims))
by_rule rows g steps n who (reason.Via b) (rule.Link base_place role_place) claim row node (base, name, again, in_base, in_role) =
    subst (λ (x : Expr). IsBy rows steps who x (rule.Link base_place role_place)) (same_Some (expr.Link base name) claim (sym again ∙ node))
    (link b in_base in_role)
by_rule rows g steps n who reason.Parts (rule.Parts places) claim row node (p, ps, again, each) =
    subst (λ (x : Expr). IsBy rows steps who x (rule.Parts places)) (same_Some (expr.Meet (p ∷ ps)) claim (sym again ∙ node)) (meet each)
by_rule rows g steps n who why by claim row node is = absurd is

-- a draft with one step more is a draft
module _ (g : GraphState) (d e : DraftState) (draft : IsDraft g d) (f : PlacedSolution) (by : Rule) (stands : Stands g f) (absent : Contains d.places f.place → ⊥)
    (is : IsByReason g d.steps f.solution.node f.solution.who f.solution.reason by) (stepped : IsStepped g d e f by) where
  abbrev new_step : Step
  new_step = record { who = f.solution.who; claim = stepped.claim; rule = by }

  step_by_rule : (rows : List Credential) → AreByRows rows g → (i : ℕ) (s : Step) → slice_get (d.steps ++ new_step ∷ []) i ≡ Some s →
      IsBy rows (take i (d.steps ++ new_step ∷ [])) s.who s.claim s.rule
  step_by_rule rows by_rows i s at = elim (slice_get_push_cases d.steps new_step i s at) [
    | inl old ↦
        let within : i < length d.steps = slice_get_within d.steps i s old in
        let front : take i (d.steps ++ new_step ∷ []) ≡ take i d.steps = take-append-le i d.steps (new_step ∷ []) (omega arith) in
        subst (λ before. IsBy rows before s.who s.claim s.rule) (sym front) (draft.by_rules rows by_rows i s old)
    | inr (last, new) ↦
        let front : take i (d.steps ++ new_step ∷ []) ≡ d.steps = ap (λ n. take n (d.steps ++ new_step ∷ [])) last ∙ take-append_seam d.steps (new_step ∷ []) in
        let ruled = by_rule rows g d.steps f.solution.node f.solution.who f.solution.reason by stepped.claim
        (by_rows f.solution (Contains-at_place g.solutions f.place f.solution stands)) stepped.node is in
        subst (λ (t : Step). IsBy rows (take i (d.steps ++ new_step ∷ [])) t.who t.claim t.rule) new
        (subst (λ before. IsBy rows before f.solution.who stepped.claim by) (sym front) ruled)
  ]

  pub draft_stepped : IsDraft g e
  draft_stepped = subst (IsDraft g) (sym stepped.after) (record {
    graph = draft.graph;
    claims = AllZip-push (IsStepOf g) d.places d.steps f.place new_step draft.claims
        (record { node = f.solution.node; reason = f.solution.reason; solution = stands; claim = stepped.node });
    distinct = distinct_push d.places f.place draft.distinct absent;
    by_rules = step_by_rule;
  })

pub stepped_is : (g : GraphState) (d : DraftState) (f : PlacedSolution) (by : Rule) (claim : Expr) (places after : List ℕ) (steps grown : List Step) →
    record { places = places; steps = steps } ≡ d → (Contains d.places f.place → ⊥) → IsNode g f.solution.node claim →
    after ≡ insert_key (λ x y. x == y) places f.place → grown ≡ steps ++ record { who = f.solution.who; claim = claim; rule = by } ∷ [] →
    IsStepped g d (record { places = after; steps = grown }) f by
stepped_is g d f by claim places after steps grown view absent node inserted pushed =
    let places_is : places ≡ d.places = ap (λ (x : DraftState). x.places) view in
    let steps_is : steps ≡ d.steps = ap (λ (x : DraftState). x.steps) view in
    let keys : after ≡ places ++ f.place ∷ [] = pushed_key places after f.place (subst (λ l. Contains l f.place → ⊥) (sym places_is) absent) inserted in
    record { claim = claim; node = node; after = cc }
