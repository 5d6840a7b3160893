-- A search stays steady where a linked role hears a member of its base, and where an intersection hears a part.
use Rattle.std.proofs.Common.{ℕ, zero, suc, ◌<◌, ◌≡◌, ◌∙◌, ◌⊎◌, inl, inr, sym, subst, ap, refl, Bool, true, false, ◌||◌, List, [], ◌∷◌, ◌++◌, Some, Contains, length, set, slice_get, ◌+◌, map, arith}
use Rattle.std.specs.List.{AllZip, AllByRecursion}
use Rattle.std.specs.Ordering.{eq_by_cmp}
use Rattle.std.proofs.lemmas.Bool.{cases_eq, cases_Bool, false≢true}
use Rattle.std.proofs.lemmas.Option.{same_Some}
use Rattle.std.proofs.lemmas.Cmp.{eq_by_cmp_equiv}
use Rattle.std.proofs.lemmas.Map.Views.{tells_apart}
use Rattle.std.proofs.lemmas.List.Elements.{Contains-append_left, Contains-push, Contains-push_cases}
use Rattle.names.specs.declared.roles.Role.{Role}
use Rattle.credential_text.specs.declared.credentials.Credential.{Credential}
use Rattle.credential_text.specs.declared.intersections.Part.{Part}
use Rattle.credential_text.specs.declared.exprs.Expr.{Expr}
use Rattle.credential_text.specs.declared.exprs.Expr.TheVariants.{Rol, Link, Meet, Ent}
use Rattle.cred_graph.specs.Graph.{GraphState, IsNode, IsSolution, Known}
use Rattle.monitors.specs.MeetMonitor.{MeetTold, HasTold, AllTold, with_tell, told_order}
use Rattle.monitors.proofs.NamedLemmas.{told_order_total, told_order_tied}
use Rattle.search.specs.declared.findings.Monitor.{Monitor}
use Rattle.search.specs.Net.{Net, Sent, IsBaseTold, IsPartTold, IsAsked, PartFits, MonitorFits, IsSteady, why_of, IsOpen, IsTaken, ListensFor, IsPendingBetween, IsRight, IsPaid, OwesRules}
use Rattle.search.proofs.Kept.{Grows, part_fits_stays, asked_stays, zip_left, one_expr, steady_grown}
use Rattle.credential_text.specs.Expr.{part_expr}
use Rattle.rt0_rules.specs.Derivation.{Derives}
use Rattle.rt0_rules.specs.Asks.{Why, Asks, asks_body, asks_base, asks_via, asks_part}
use Rattle.rt0_rules.specs.FixedPoint.{Follows, by_leaf, by_credential, by_link, by_meet}
use Rattle.rt0_rules.proofs.Elements.{Contains-first, Contains-later}
use Rattle.cred_graph.specs.declared.listeners.Port.{Port}
use Rattle.std.specs.FinSet as fin
use Rattle.cred_graph.specs.declared.listeners.Port.TheVariants as port
use Rattle.search.specs.declared.findings.Monitor.TheVariants as monitor
use Rattle.search.specs.declared.letters.Load.TheVariants as load

-- a list where one place is written
pub set_same : {X : Type 0} (xs : List X) (n : ℕ) (x y : X) → slice_get xs n ≡ Some x → slice_get (set xs n y) n ≡ Some y
set_same [] n x y at = cc
set_same (z ∷ xs) zero x y at = refl
set_same (z ∷ xs) (suc n) x y at = set_same xs n x y at

pub set_other : {X : Type 0} (xs : List X) (n k : ℕ) (y : X) → (k ≡ n → ⊥) → slice_get (set xs n y) k ≡ slice_get xs k
set_other (z ∷ xs) zero zero y other = absurd (other refl)
set_other (z ∷ xs) (suc n) (suc k) y other = set_other xs n k y (λ e. other (ap suc e))
set_other _ _ _ y other = refl

-- what stands where one place is written is what was written there, or what stood
set_cases : {X : Type 0} (xs : List X) (n k : ℕ) (x y z : X) → slice_get xs n ≡ Some x → slice_get (set xs n y) k ≡ Some z → ((k ≡ n) × (y ≡ z)) ⊎ (slice_get xs k ≡ Some z)
set_cases {X} xs n k x y z at there =
    elim (cases_eq k n) [
      | inl same ↦ inl (same, same_Some y z (sym (set_same xs n x y at) ∙ subst (λ m. slice_get (set xs n y) m ≡ Some z) same there))
      | inr other ↦ inr (sym (set_other xs n k y other) ∙ there)
    ]

-- what stood stands still, or was written over
set_stays : {X : Type 0} (xs : List X) (n k : ℕ) (x y z : X) → slice_get xs n ≡ Some x → slice_get xs k ≡ Some z → ((k ≡ n) × (x ≡ z)) ⊎ (slice_get (set xs n y) k ≡ Some z)
set_stays {X} xs n k x y z at there =
    elim (cases_eq k n) [
      | inl same ↦ inl (same, same_Some x z (sym at ∙ subst (λ m. slice_get xs m ≡ Some z) same there))
      | inr other ↦ inr (set_other xs n k y other ∙ there)
    ]

pub zip_set : {A B : Type 0} (R : A → B → Type 0) (xs : List A) (ys : List B) (n : ℕ) (y z : B) → AllZip R xs ys → slice_get ys n ≡ Some y → ((x : A) → R x y → R x z) → AllZip R xs (set ys n z)
zip_set R [] [] n y z all at holds = cc
zip_set R (x ∷ xs) (w ∷ ys) zero y z all at holds = (holds x (subst (R x) (same_Some w y at) all.0), all.1)
zip_set R (x ∷ xs) (w ∷ ys) (suc n) y z all at holds = (all.0, zip_set R xs ys n y z all.1 at holds)
zip_set R _ _ n y z all at holds = absurd all

link_stays : (x y : List (List ℕ)) (e : Expr) → MonitorFits e (monitor.Link x) → MonitorFits e (monitor.Link y)
link_stays x y (Link r t) fits = tt
link_stays x y _ fits = absurd fits

meet_stays : (x y : MeetTold) → y.parts ≡ x.parts → (e : Expr) → MonitorFits e (monitor.Meet x) → MonitorFits e (monitor.Meet y)
meet_stays x y same (Meet parts) fits = same ∙ fits
meet_stays x y same _ fits = absurd fits

pub same_link : (x y : List (List ℕ)) → monitor.Link x ≡ monitor.Link y → x ≡ y
same_link x y e = cc

pub same_meet : (x y : MeetTold) → monitor.Meet x ≡ monitor.Meet y → x ≡ y
same_meet x y e = cc

-- the monitor of a linked role hears a member of its base
module _ (rows : List Credential) (asked : Role) (g : GraphState) (ms : List Monitor) (pending : List Sent) (node : ℕ) (x : List (List ℕ)) (base : List ℕ) (at : slice_get ms node ≡ Some (monitor.Link x)) where
  abbrev told_link : List (List ℕ)
  told_link = x ++ base ∷ []

  abbrev old : Net
  old = record { graph = g; monitors = ms; pending = pending }

  abbrev new : Net
  new = record { graph = g; monitors = set ms node (monitor.Link told_link); pending = pending }

  now_there : (m : ℕ) → m ≡ node → slice_get (set ms node (monitor.Link told_link)) m ≡ Some (monitor.Link told_link)
  now_there m same =
      subst (λ (k : ℕ). slice_get (set ms node (monitor.Link told_link)) k ≡ Some (monitor.Link told_link)) (sym same) (set_same ms node (monitor.Link x) (monitor.Link told_link) at)

  bases_on : (m : ℕ) (b : List ℕ) → IsBaseTold old m b → IsBaseTold new m b
  bases_on m b (y, there, among) =
      elim (set_stays ms node m (monitor.Link x) (monitor.Link told_link) (monitor.Link y) at there) [
        | inl here ↦ (told_link, now_there m here.0, Contains-append_left x (base ∷ []) b (subst (λ (z : List (List ℕ)). Contains z b) (sym (same_link x y here.1)) among))
        | inr still ↦ (y, still, among)
      ]

  bases_cases : (m : ℕ) (b : List ℕ) → IsBaseTold new m b → IsBaseTold old m b ⊎ ((m ≡ node) × (base ≡ b))
  bases_cases m b (y, there, among) =
      elim (set_cases ms node m (monitor.Link x) (monitor.Link told_link) (monitor.Link y) at there) [
        | inl here ↦ elim (Contains-push_cases x base b (subst (λ (z : List (List ℕ)). Contains z b) (sym (same_link told_link y here.1)) among)) [
          | inl before ↦ inl (x, subst (λ (k : ℕ). slice_get ms k ≡ Some (monitor.Link x)) (sym here.0) at, before)
          | inr fresh ↦ inr (here.0, fresh)
        ]
        | inr before ↦ inl (y, before, among)
      ]

  link_parts_on : (m i : ℕ) (who : List ℕ) → IsPartTold old m i who → IsPartTold new m i who
  link_parts_on m i who (y, there, told) =
      elim (set_stays ms node m (monitor.Link x) (monitor.Link told_link) (monitor.Meet y) at there) [
        | inl here ↦ let clash : monitor.Link x ≡ monitor.Meet y = here.1 in cc
        | inr still ↦ (y, still, told)
      ]

  link_parts_before : (m i : ℕ) (who : List ℕ) → IsPartTold new m i who → IsPartTold old m i who
  link_parts_before m i who (y, there, told) =
      elim (set_cases ms node m (monitor.Link x) (monitor.Link told_link) (monitor.Meet y) at there) [
        | inl here ↦ let clash : monitor.Link told_link ≡ monitor.Meet y = here.1 in cc
        | inr before ↦ (y, before, told)
      ]

  pub base_grows : Grows old new
  base_grows = record {
    nodes = λ n f is. is;
    listeners = λ n l listens. listens;
    solutions = λ s stands. stands;
    bases = bases_on;
    parts = link_parts_on;
    pending = λ y stands. stands;
    start = λ start. start;
  }

  pub base_taken : IsBaseTold new node base
  base_taken = (told_link, set_same ms node (monitor.Link x) (monitor.Link told_link) at, Contains-push x base)

  pub base_steady : IsSteady rows asked old → ((r : Role) (t : List ℕ) → IsNode g node (Link r t) → IsAsked old node (port.Via base) (Rol (record { owner = base; name = t }))) → IsSteady rows asked new
  base_steady steady asks =
      steady_grown base_grows steady (record {
        graph = steady.right.found.graph;
        fit = zip_set MonitorFits g.nodes ms node (monitor.Link x) (monitor.Link told_link) steady.right.fit at (link_stays x told_link);
        nodes = λ n f is. inl is;
        listeners = λ n m p listens. inl listens;
        solutions = λ s stands. inl stands;
        letters = λ y stands. inl stands;
        parts = λ m i who told. inl (link_parts_before m i who told);
      }) (record {
        opened = λ m opens. inl opens;
        via = λ m b told. elim (bases_cases m b told) [
          | inl before ↦ inl before
          | inr fresh ↦ inr (λ r t is. asked_stays base_grows m (port.Via b) _ (
              subst (λ (k : ℕ). IsAsked old k (port.Via b) (Rol (record { owner = b; name = t }))) (sym fresh.0)
              (subst (λ (w : List ℕ). IsAsked old node (port.Via w) (Rol (record { owner = w; name = t }))) fresh.1 (asks r t (subst (λ (k : ℕ). IsNode g k (Link r t)) fresh.0 is)))))
        ];
        told = λ n m p who listens solution. inl (listens, solution);
        met = λ m parts who is all. inl (λ i below. link_parts_before m i who (all i below));
      })

-- what was told before and one more tell
pub tell_cases : (x : MeetTold) (i j : ℕ) (who w : List ℕ) → HasTold (with_tell x i who) j w → HasTold x j w ⊎ ((j ≡ i) × (w ≡ who))
tell_cases x i j who w told =
    let is : (eq_by_cmp told_order (j, w) (i, who) || fin.contains x.told (j, w)) ≡ true = sym (fin.contains-insert told_order_total x.told (i, who) (j, w)) ∙ told in
    elim (cases_Bool (eq_by_cmp told_order (j, w) (i, who))) [
      | inl same ↦
          let pair : ◌≡◌ {A = ℕ × List ℕ} (j, w) (i, who) = tells_apart told_order_tied (j, w) (i, who) same in
          inr (ap (λ (t : ℕ × List ℕ). t.0) pair, ap (λ (t : ℕ × List ℕ). t.1) pair)
      | inr other ↦ inl (rw other at is)
    ]

tell_on : (x : MeetTold) (i j : ℕ) (who w : List ℕ) → HasTold x j w → HasTold (with_tell x i who) j w
tell_on x i j who w told =
    fin.contains-insert told_order_total x.told (i, who) (j, w) ∙ or_right (eq_by_cmp told_order (j, w) (i, who)) (fin.contains x.told (j, w)) told
  where
    or_right : (a b : Bool) → b ≡ true → (a || b) ≡ true
    or_right true b e = refl
    or_right false b e = e

tell_there : (x : MeetTold) (i : ℕ) (who : List ℕ) → HasTold (with_tell x i who) i who
tell_there x i who =
    fin.contains-insert told_order_total x.told (i, who) (i, who) ∙ ap (λ b. b || fin.contains x.told (i, who)) ((eq_by_cmp_equiv told_order_total).refl (i, who))

-- whether two names are one
cases_name : (w who : List ℕ) → (w ≡ who) ⊎ (w ≡ who → ⊥)
cases_name w who =
    elim (cases_Bool (eq_by_cmp told_order (0, w) (0, who))) [
      | inl same ↦ inl (ap (λ (t : ℕ × List ℕ). t.1) (tells_apart told_order_tied (0, w) (0, who) same))
      | inr other ↦ inr (λ e. false≢true (sym other ∙ subst (λ (v : List ℕ). eq_by_cmp told_order (0, w) (0, v) ≡ true) e ((eq_by_cmp_equiv told_order_total).refl (0, w))))
    ]

-- the monitor of an intersection hears a part
module _ (rows : List Credential) (asked : Role) (g : GraphState) (ms : List Monitor) (pending : List Sent) (node : ℕ) (x : MeetTold) (i : ℕ) (who : List ℕ) (at : slice_get ms node ≡ Some (monitor.Meet x)) where
  abbrev told_meet : MeetTold
  told_meet = with_tell x i who

  abbrev unheard : Net
  unheard = record { graph = g; monitors = ms; pending = pending }

  abbrev heard : Net
  heard = record { graph = g; monitors = set ms node (monitor.Meet told_meet); pending = pending }

  parts_on : (m j : ℕ) (w : List ℕ) → IsPartTold unheard m j w → IsPartTold heard m j w
  parts_on m j w (y, there, told) =
      elim (set_stays ms node m (monitor.Meet x) (monitor.Meet told_meet) (monitor.Meet y) at there) [
        | inl here ↦ (
          told_meet,
          subst (λ (k : ℕ). slice_get (set ms node (monitor.Meet told_meet)) k ≡ Some (monitor.Meet told_meet)) (sym here.0) (set_same ms node (monitor.Meet x) (monitor.Meet told_meet) at),
          tell_on x i j who w (subst (λ (z : MeetTold). HasTold z j w) (sym (same_meet x y here.1)) told),
        )
        | inr still ↦ (y, still, told)
      ]

  parts_cases : (m j : ℕ) (w : List ℕ) → IsPartTold heard m j w → IsPartTold unheard m j w ⊎ ((m ≡ node) × ((j ≡ i) × (w ≡ who)))
  parts_cases m j w (y, there, told) =
      elim (set_cases ms node m (monitor.Meet x) (monitor.Meet told_meet) (monitor.Meet y) at there) [
        | inl here ↦ elim (tell_cases x i j who w (subst (λ (z : MeetTold). HasTold z j w) (sym (same_meet told_meet y here.1)) told)) [
          | inl before ↦ inl (x, subst (λ (k : ℕ). slice_get ms k ≡ Some (monitor.Meet x)) (sym here.0) at, before)
          | inr fresh ↦ inr (here.0, fresh)
        ]
        | inr before ↦ inl (y, before, told)
      ]

  meet_bases_on : (m : ℕ) (b : List ℕ) → IsBaseTold unheard m b → IsBaseTold heard m b
  meet_bases_on m b (y, there, among) =
      elim (set_stays ms node m (monitor.Meet x) (monitor.Meet told_meet) (monitor.Link y) at there) [
        | inl here ↦ let clash : monitor.Meet x ≡ monitor.Link y = here.1 in cc
        | inr still ↦ (y, still, among)
      ]

  meet_bases_before : (m : ℕ) (b : List ℕ) → IsBaseTold heard m b → IsBaseTold unheard m b
  meet_bases_before m b (y, there, among) =
      elim (set_cases ms node m (monitor.Meet x) (monitor.Meet told_meet) (monitor.Link y) at there) [
        | inl here ↦ let clash : monitor.Meet told_meet ≡ monitor.Link y = here.1 in cc
        | inr before ↦ (y, before, among)
      ]

  pub part_grows : Grows unheard heard
  part_grows = record {
    nodes = λ n f is. is;
    listeners = λ n l listens. listens;
    solutions = λ s stands. stands;
    bases = meet_bases_on;
    parts = parts_on;
    pending = λ y stands. stands;
    start = λ start. start;
  }

  pub part_taken : IsPartTold heard node i who
  part_taken = (told_meet, set_same ms node (monitor.Meet x) (monitor.Meet told_meet) at, tell_there x i who)

  told_at : (m j : ℕ) → m ≡ node → IsPartTold heard m j who → HasTold told_meet j who
  told_at m j same (y, there, told) =
      let here : slice_get (set ms node (monitor.Meet told_meet)) node ≡ Some (monitor.Meet y) = subst (λ (k : ℕ). slice_get (set ms node (monitor.Meet told_meet)) k ≡ Some (monitor.Meet y)) same there in
      let is : told_meet ≡ y = same_meet told_meet y (same_Some (monitor.Meet told_meet) (monitor.Meet y) (sym (set_same ms node (monitor.Meet x) (monitor.Meet told_meet) at) ∙ here)) in
      subst (λ (z : MeetTold). HasTold z j who) (sym is) told

  met_cases : AllZip MonitorFits g.nodes ms → (AllTold told_meet who → IsSolution g node who) → (m : ℕ) (parts : List Part) (w : List ℕ) → IsNode g m (Meet parts) → ((j : ℕ) → j < length parts → IsPartTold heard m j w) →
      ((j : ℕ) → j < length parts → IsPartTold unheard m j w) ⊎ IsSolution g m w
  met_cases fit solves m parts w is all =
      elim (cases_eq m node) [
        | inr other ↦ inl (λ j below. elim (parts_cases m j w (all j below)) [ inl before ↦ before | inr fresh ↦ absurd (other fresh.0) ])
        | inl same ↦ elim (cases_name w who) [
          | inr other ↦ inl (λ j below. elim (parts_cases m j w (all j below)) [ inl before ↦ before | inr fresh ↦ absurd (other fresh.1.1) ])
          | inl name ↦
              let was = zip_left MonitorFits g.nodes ms fit node (monitor.Meet x) at in
              let expr : was.0 ≡ Meet parts = one_expr g node was.0 (Meet parts) was.1 (subst (λ (k : ℕ). IsNode g k (Meet parts)) same is) in
              let count : x.parts ≡ length parts = subst (λ (f : Expr). MonitorFits f (monitor.Meet x)) expr was.2 in
              let told : AllTold told_meet who = λ j below. told_at m j same (subst (λ (v : List ℕ). IsPartTold heard m j v) name (all j (subst (λ (n : ℕ). j < n) count below))) in
              inr (subst (λ (k : ℕ). IsSolution g k w) (sym same) (subst (IsSolution g node) (sym name) (solves told)))
        ]
      ]

  pub part_steady : IsSteady rows asked unheard → PartFits unheard node i who → (AllTold told_meet who → IsSolution g node who) → IsSteady rows asked heard
  part_steady steady fits solves =
      steady_grown part_grows steady (record {
        graph = steady.right.found.graph;
        fit = zip_set MonitorFits g.nodes ms node (monitor.Meet x) (monitor.Meet told_meet) steady.right.fit at (meet_stays x told_meet refl);
        nodes = λ n f is. inl is;
        listeners = λ n m p listens. inl listens;
        solutions = λ s stands. inl stands;
        letters = λ y stands. inl stands;
        parts = λ m j w told. elim (parts_cases m j w told) [
          | inl before ↦ inl before
          | inr fresh ↦ inr (subst (λ (k : ℕ). PartFits heard k j w) (sym fresh.0) (subst (λ (k : ℕ). PartFits heard node k w) (sym fresh.1.0) (subst (PartFits heard node i) (sym fresh.1.1) (part_fits_stays part_grows node i who fits))))
        ];
      }) (record {
        opened = λ m opens. inl opens;
        via = λ m b told. inl (meet_bases_before m b told);
        told = λ n m p w listens solution. inl (listens, solution);
        met = met_cases steady.right.fit solves;
      })

-- what a steady search has found and sent is what the rules call for, or a letter that is under way

module _ (rows : List Credential) (asked : Role) (net : Net) (right : IsRight rows asked net) (paid : IsPaid rows net) where
  -- what was asked is heard, or between the two a letter is under way
  asks_owed : (m : ℕ) (e : Expr) (p : Port (List ℕ)) (f : Expr) → IsNode net.graph m e → IsAsked net m p f → ListensFor net e (why_of p) f ⊎ IsPendingBetween net e f
  asks_owed m e p f node (n, at, inl listens) = inl (m, n, p, node, at, refl, listens)
  asks_owed m e p f node (n, at, inr pending) = inr (m, n, node, at, (load.Ask p, inl pending))

  -- what an asked expression has is taken in, or between the two a letter is under way
  told_owed : (m : ℕ) (e : Expr) (p : Port (List ℕ)) (f : Expr) (who : List ℕ) → IsNode net.graph m e → IsAsked net m p f → Known net.graph who f → IsTaken net m p who ⊎ IsPendingBetween net e f
  told_owed m e p f who node (n, at, inr pending) known = inr (m, n, node, at, (load.Ask p, inl pending))
  told_owed m e p f who node (n, at, inl listens) (k, place, found) =
      let same : k ≡ n = right.found.graph.one_node k n f place at in
      elim (paid.told n m p who listens (subst (λ (j : ℕ). IsSolution net.graph j who) same found)) [
        | inl pending ↦ inr (m, n, node, at, (load.Tell p who, inr pending))
        | inr taken ↦ inl taken
      ]

  pub sound : (d : List ℕ) (e : Expr) → Known net.graph d e → Derives rows d e
  sound d e (n, node, (why, stands)) =
      let fits = right.found.solutions_fit (record { node = n; who = d; reason = why }) stands in
      subst (Derives rows d) (one_expr net.graph n fits.expr e fits.node node) fits.derives

  -- a linked role asks the role of each known member of its base
  via_owed : (m : ℕ) (r : Role) (t b : List ℕ) → IsNode net.graph m (Link r t) → IsOpen net m → Known net.graph b (Rol r) →
      IsAsked net m (port.Via b) (Rol (record { owner = b; name = t })) ⊎ IsPendingBetween net (Link r t) (Rol r)
  via_owed m r t b node opens known =
      elim (told_owed m (Link r t) port.Base (Rol r) b node (paid.opened m (Link r t) node opens) known) [
        | inl told ↦ inl (paid.via m r t b node told)
        | inr pending ↦ inr pending
      ]

  heard_for : (e f : Expr) (why : Why) → ((n : ℕ) × IsNode net.graph n e × IsOpen net n) → Asks rows (Known net.graph) e why f →
      ListensFor net e why f ⊎ (IsPendingBetween net e f ⊎ ((r : Role) × (n : List ℕ) × (e ≡ Link r n) × IsPendingBetween net e (Rol r)))
  heard_for e f why (m, node, opens) (asks_body {r} c among head) =
      elim (asks_owed m (Rol r) port.Body c.body node (paid.opened m (Rol r) node opens c among head)) [ inl listens ↦ inl listens | inr pending ↦ inr (inl pending) ]
  heard_for e f why (m, node, opens) (asks_base r n) =
      elim (asks_owed m (Link r n) port.Base (Rol r) node (paid.opened m (Link r n) node opens)) [ inl listens ↦ inl listens | inr pending ↦ inr (inl pending) ]
  heard_for e f why (m, node, opens) (asks_via {r} n b member) =
      elim (via_owed m r n b node opens member) [
        | inl asked ↦ elim (asks_owed m (Link r n) (port.Via b) (Rol (record { owner = b; name = n })) node asked) [ inl listens ↦ inl listens | inr pending ↦ inr (inl pending) ]
        | inr pending ↦ inr (inr (r, n, refl, pending))
      ]
  heard_for e f why (m, node, opens) (asks_part {parts} i p at) =
      elim (asks_owed m (Meet parts) (port.Part i) (part_expr p) node (paid.opened m (Meet parts) node opens i p at)) [ inl listens ↦ inl listens | inr pending ↦ inr (inl pending) ]

  -- of the parts from one on, each has told the entity, or a letter to one of them is under way
  parts_owed : (m : ℕ) (parts : List Part) (who : List ℕ) → IsNode net.graph m (Meet parts) →
      (i : ℕ) (ps : List Part) → ((k : ℕ) (p : Part) → slice_get ps k ≡ Some p → IsAsked net m (port.Part (i + k)) (part_expr p)) →
      AllByRecursion (λ q. Known net.graph who (part_expr q)) ps →
      ((k : ℕ) → k < length ps → IsPartTold net m (i + k) who) ⊎ ((f : Expr) × Contains (map part_expr ps) f × IsPendingBetween net (Meet parts) f)
  parts_owed m parts who node i [] asked all = inl (λ k below. absurd (omega arith))
  parts_owed m parts who node i (p ∷ ps) asked all =
      let here : IsAsked net m (port.Part i) (part_expr p) = subst (λ (j : ℕ). IsAsked net m (port.Part j) (part_expr p)) (omega arith) (asked 0 p refl) in
      let later : (k : ℕ) (q : Part) → slice_get ps k ≡ Some q → IsAsked net m (port.Part ((i + 1) + k)) (part_expr q) =
      λ k q at. subst (λ (j : ℕ). IsAsked net m (port.Part j) (part_expr q)) (omega arith) (asked (suc k) q at) in
      elim (told_owed m (Meet parts) (port.Part i) (part_expr p) who node here all.0) [
        | inr pending ↦ inr (part_expr p, Contains-first (part_expr p) (map part_expr ps), pending)
        | inl told ↦ elim (parts_owed m parts who node (i + 1) ps later all.1) [
          | inr owed ↦ inr (owed.0, Contains-later (part_expr p) (map part_expr ps) owed.0 owed.1, owed.2)
          | inl rest ↦ inl (each told rest)
        ]
      ]
    where
      each : IsPartTold net m i who → ((k : ℕ) → k < length ps → IsPartTold net m ((i + 1) + k) who) → (k : ℕ) → k < length (p ∷ ps) → IsPartTold net m (i + k) who
      each told rest zero below = subst (λ (j : ℕ). IsPartTold net m j who) (omega arith) told
      each told rest (suc k) below = subst (λ (j : ℕ). IsPartTold net m j who) (omega arith) (rest k (omega arith))

  applied : (d : List ℕ) (e : Expr) (premises : List Expr) → ((n : ℕ) × IsNode net.graph n e × IsOpen net n) → Follows rows (Known net.graph) d e premises →
      Known net.graph d e ⊎ ((f : Expr) × Contains premises f × IsPendingBetween net e f)
  applied d e premises (m, node, opens) (by_leaf w) = inl (m, node, paid.opened m (Ent w) node opens)
  applied d e premises (m, node, opens) (by_credential {r = r} c among head known) =
      elim (told_owed m (Rol r) port.Body c.body d node (paid.opened m (Rol r) node opens c among head) known) [
        | inl found ↦ inl (m, node, found)
        | inr pending ↦ inr (c.body, Contains-first c.body [], pending)
      ]
  applied d e premises (m, node, opens) (by_link {r = r} {n = n} b member given) =
      elim (via_owed m r n b node opens member) [
        | inr pending ↦ inr (Rol r, Contains-first (Rol r) (Rol (record { owner = b; name = n }) ∷ []), pending)
        | inl asked ↦ elim (told_owed m (Link r n) (port.Via b) (Rol (record { owner = b; name = n })) d node asked given) [
          | inl found ↦ inl (m, node, found)
          | inr pending ↦ inr (Rol (record { owner = b; name = n }), Contains-later (Rol r) (Rol (record { owner = b; name = n }) ∷ []) (Rol (record { owner = b; name = n })) (Contains-first (Rol (record { owner = b; name = n })) []), pending)
        ]
      ]
  applied d e premises (m, node, opens) (by_meet {p = p} {ps = ps} all) =
      elim (parts_owed m (p ∷ ps) d node 0 (p ∷ ps) (λ k q at. subst (λ (j : ℕ). IsAsked net m (port.Part j) (part_expr q)) (omega arith) (paid.opened m (Meet (p ∷ ps)) node opens k q at)) all) [
        | inl told ↦ inl (m, node, paid.met m (p ∷ ps) d node (λ i below. subst (λ (j : ℕ). IsPartTold net m j d) (omega arith) (told i below)))
        | inr owed ↦ inr owed
      ]

  pub owes_rules : OwesRules rows asked net
  owes_rules = record {
    sound = sound;
    opened = λ e f why listens. (listens.1, listens.4, inl (listens.0, listens.2, listens.6));
    root = elim paid.root [ inl opens ↦ inl (0, right.found.root_node, opens) | inr start ↦ inr start ];
    heard = heard_for;
    applied = applied;
  }
