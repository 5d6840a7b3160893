-- The asks that a node sends where expressions are asked in turn.
use Rattle.std.proofs.Common.{ℕ, ◌≡◌, ◌∙◌, inl, inr, sym, subst, ap, refl, List, [], ◌∷◌, ◌++◌, Some, length, slice_get, arith, true, false, zero, suc, ◌+◌, take, add-one, ◌⊎◌, filter}
use Rattle.std.specs.List.{Contains, AllZip}
use Rattle.std.proofs.lemmas.Option.{same_Some}
use Rattle.std.proofs.lemmas.List.{append-nil, length-append, append_assoc, map-append}
use Rattle.credential_text.specs.declared.exprs.Expr.{Expr}
use Rattle.rt0_rules.specs.Asks.{Why, for_body, for_base, for_via, for_part}
use Rattle.rt0_rules.specs.Letters.{NodeAsk}
use Rattle.rt0_rules.proofs.Elements.{Contains-none, Contains-first, Contains-later, Contains-cons_cases}
use Rattle.cred_graph.specs.declared.listeners.Port.{Port}
use Rattle.cred_graph.specs.Graph.{GraphState}
use Rattle.cred_graph.proofs.NodeListLemmas.{slice_get_stays, slice_get_pushed}
use Rattle.scholten_core.specs.declared.parents.Parent.TheVariants.{Node}
use Rattle.search.specs.declared.letters.Load.{Load}
use Rattle.search.specs.Net.{sent_by, why_of}
use Rattle.search.specs.Answers.{Progress, AsksFor, AsksEach, row_asks, part_asks}
use Rattle.search.specs.Search.{heard, asks_in}
use Rattle.search.proofs.CountedGraph.{heard_pushed, asks_in-append}
use Rattle.credential_text.specs.declared.credentials.Credential.{Credential}
use Rattle.credential_text.specs.declared.intersections.Part.{Part}
use Rattle.credential_text.specs.Expr.{part_expr}
use Rattle.std.specs.declared.cmp.Ordering.{Ordering}
use Rattle.std.specs.declared.cmp.Ordering.TheVariants.{Less, Equal, Greater}
use Rattle.std.specs.Ordering.{is_eq, is_lt, is_le}
use Rattle.std.specs.List.Sorted.{IsStrictlySortedBy}
use Rattle.std.proofs.lemmas.Map.Keys.{sorted_head, sorted_tail}
use Rattle.std.proofs.lemmas.List.Elements.{All-contains, All-from_recursion, Contains-append_left, Contains-append_right, Contains-append_cases}
use Rattle.names.specs.declared.roles.Role.{Role}
use Rattle.names.specs.Role.{role_order}
use Rattle.names.proofs.OrderLemmas.{names_in_order, roles_in_order}
use Rattle.credential_text.specs.Credential.{credential_order}
use Rattle.credential_text.proofs.OrderLemmas.{credentials_in_order}
use Rattle.rt0_rules.specs.Work.{AreDistinct}
use Rattle.rt0_rules.proofs.Distinct.{filtered, kept_by, AreDistinct-filter}
use Rattle.vaults.specs.Journal.{Vault, credentials}
use Rattle.snapshots.specs.Snapshot.{IsOrdered}
use Rattle.snapshots.specs.Span.{is_owned, is_row, is_before, is_through, rows_of, role_rows, span_of}
use Rattle.snapshots.proofs.Views.{sorted_rows_of}
use Rattle.search.proofs.Steps.{AreRowsOf}
use Rattle.cred_graph.specs.declared.listeners.Port.TheVariants as port
use Rattle.search.specs.declared.letters.Load.TheVariants as load

-- the ask that goes from the node to that of the expression, on the port
pub record IsAskFor (nodes : List Expr) (n : ℕ) (w : Expr × Port (List ℕ)) (a : NodeAsk) : Type 0 where
  pub asker : a.asker ≡ n
  pub why : a.why ≡ why_of w.1
  pub asked : slice_get nodes a.asked ≡ Some w.0

abbrev port_of : Why → Port (List ℕ)
port_of for_body = port.Body
port_of for_base = port.Base
port_of (for_via b) = port.Via b
port_of (for_part i) = port.Part i

port_back : (p : Port (List ℕ)) → port_of (why_of p) ≡ p
port_back port.Body = refl
port_back _ = refl

port_by_why : (p q : Port (List ℕ)) → why_of p ≡ why_of q → p ≡ q
port_by_why p q same = sym (port_back p) ∙ ap port_of same ∙ port_back q

-- an ask is for one expression on one port
pub ask_for_one : (nodes : List Expr) (n : ℕ) (v w : Expr × Port (List ℕ)) (a : NodeAsk) → IsAskFor nodes n v a → IsAskFor nodes n w a → v ≡ w
ask_for_one nodes n v w a is also =
    let expr : v.0 ≡ w.0 = same_Some v.0 w.0 (sym is.asked ∙ also.asked) in
    let on : v.1 ≡ w.1 = port_by_why v.1 w.1 (sym is.why ∙ also.why) in
    λ i. (expr i, on i)

ask_for_stays : (nodes more : List Expr) (n : ℕ) (ws : List (Expr × Port (List ℕ))) (asks : List NodeAsk) →
    AllZip (IsAskFor nodes n) ws asks → AllZip (IsAskFor (nodes ++ more) n) ws asks
ask_for_stays nodes more n [] [] all = tt
ask_for_stays nodes more n (w ∷ ws) (a ∷ asks) all =
    (record { asker = all.0.asker; why = all.0.why; asked = slice_get_stays nodes more a.asked w.0 all.0.asked }, ask_for_stays nodes more n ws asks all.1)
ask_for_stays nodes more n _ _ all = absurd all

-- what asking these expressions in turn does
pub record AskedFor (n : ℕ) (s t : Progress) (ws : List (Expr × Port (List ℕ))) : Type 0 where
  pub asks : List NodeAsk
  pub letters : List (ℕ × Load (List ℕ))
  pub more : List Expr
  pub nodes : t.graph.nodes ≡ s.graph.nodes ++ more
  pub outs : t.outs ≡ s.outs ++ letters
  pub sent : asks_in (sent_by n letters) ≡ asks
  pub number : length letters ≡ length asks
  pub solutions : t.graph.solutions ≡ s.graph.solutions
  pub heard_same : heard t.graph ≡ heard s.graph
  pub are : AllZip (IsAskFor t.graph.nodes n) ws asks

asked_one : (n : ℕ) (s t : Progress) (e : Expr) (p : Port (List ℕ)) → AsksFor s t e p → AskedFor n s t ((e, p) ∷ [])
asked_one n s t e p (to, false, (node, graph), outs, monitors) = record {
  asks = record { asker = n; why = why_of p; asked = to } ∷ [];
  letters = (to, load.Ask p) ∷ [];
  more = [];
  nodes = ap (λ (g : GraphState). g.nodes) graph ∙ sym (append-nil s.graph.nodes);
  outs = outs;
  sent = refl;
  number = refl;
  solutions = ap (λ (g : GraphState). g.solutions) graph;
  heard_same = ap heard graph;
  are = (record { asker = refl; why = refl; asked = subst (λ (g : GraphState). slice_get g.nodes to ≡ Some e) (sym graph) node }, tt);
}
asked_one n s t e p (to, true, (absent, range, is, graph), outs, monitors) = record {
  asks = record { asker = n; why = why_of p; asked = to } ∷ [];
  letters = (to, load.Ask p) ∷ [];
  more = e ∷ [];
  nodes = ap (λ (g : GraphState). g.nodes) graph;
  outs = outs;
  sent = refl;
  number = refl;
  solutions = ap (λ (g : GraphState). g.solutions) graph;
  heard_same = ap heard graph ∙ heard_pushed 0 s.graph.listeners;
  are = (record { asker = refl; why = refl; asked = subst (λ (g : GraphState). slice_get g.nodes to ≡ Some e) (sym graph) (rw is (slice_get_pushed s.graph.nodes e)) }, tt);
}

-- each node of a list of letters sends one after another
pub sent_more : (n : ℕ) (xs ys : List (ℕ × Load (List ℕ))) → asks_in (sent_by n (xs ++ ys)) ≡ asks_in (sent_by n xs) ++ asks_in (sent_by n ys)
sent_more n xs ys =
    ap asks_in (map-append (λ (out : ℕ × Load (List ℕ)). record { from = Node n; to = out.0; load = out.1 }) xs ys) ∙ asks_in-append (sent_by n xs) (sent_by n ys)

pub asked_each : (n : ℕ) (s t : Progress) (ws : List (Expr × Port (List ℕ))) → AsksEach s ws t → AskedFor n s t ws
asked_each n s t [] same = record {
  asks = [];
  letters = [];
  more = [];
  nodes = ap (λ (p : Progress). p.graph.nodes) same ∙ sym (append-nil s.graph.nodes);
  outs = ap (λ (p : Progress). p.outs) same ∙ sym (append-nil s.outs);
  sent = refl;
  number = refl;
  solutions = ap (λ (p : Progress). p.graph.solutions) same;
  heard_same = ap (λ (p : Progress). heard p.graph) same;
  are = tt;
}
asked_each n s t (w ∷ ws) (mid, first, rest) =
    let one : AskedFor n s mid (w ∷ []) = asked_one n s mid w.0 w.1 first in
    let others : AskedFor n mid t ws = asked_each n mid t ws rest in
    record {
      asks = one.asks ++ others.asks;
      letters = one.letters ++ others.letters;
      more = one.more ++ others.more;
      nodes = others.nodes ∙ ap (λ l. l ++ others.more) one.nodes ∙ append_assoc s.graph.nodes one.more others.more;
      outs = others.outs ∙ ap (λ l. l ++ others.letters) one.outs ∙ append_assoc s.outs one.letters others.letters;
      sent = sent_more n one.letters others.letters ∙ ap (λ l. l ++ asks_in (sent_by n others.letters)) one.sent ∙ ap (λ l. one.asks ++ l) others.sent;
      number = simp length-append (omega (arith, one.number, others.number));
      solutions = others.solutions ∙ one.solutions;
      heard_same = others.heard_same ∙ one.heard_same;
      are = zipped_append (IsAskFor t.graph.nodes n) (w ∷ []) ws one.asks others.asks
          (subst (λ nodes. AllZip (IsAskFor nodes n) (w ∷ []) one.asks) (sym others.nodes) (ask_for_stays mid.graph.nodes others.more n (w ∷ []) one.asks one.are))
          others.are;
    }
  where
    zipped_append : {X Y : Type 0} (R : X → Y → Type 0) (xs zs : List X) (ys ws : List Y) → AllZip R xs ys → AllZip R zs ws → AllZip R (xs ++ zs) (ys ++ ws)
    zipped_append R [] zs [] ws all more = more
    zipped_append R (x ∷ xs) zs (y ∷ ys) ws all more = (all.0, zipped_append R xs zs ys ws all.1 more)
    zipped_append R _ zs _ ws all more = absurd all

-- an ask among them is for one of the expressions
pub own_ask : {nodes : List Expr} (n : ℕ) (ws : List (Expr × Port (List ℕ))) (asks : List NodeAsk) → AllZip (IsAskFor nodes n) ws asks → (a : NodeAsk) → Contains asks a →
    (w : Expr × Port (List ℕ)) × Contains ws w × IsAskFor nodes n w a
own_ask n [] [] all a has = absurd (Contains-none a has)
own_ask n (w ∷ ws) (b ∷ asks) all a has =
    elim (Contains-cons_cases b asks a has) [
      | inl same ↦ (w, Contains-first w ws, subst (IsAskFor _ n w) same all.0)
      | inr later ↦ let (v, among, is) = own_ask n ws asks all.1 a later in (v, Contains-later w ws v among, is)
    ]
own_ask n _ _ all a has = absurd all

-- what a loop that asks each expression of a list has asked so far

take_more : {A : Type 0} (xs : List A) (k : ℕ) (x : A) → slice_get xs k ≡ Some x → take (suc k) xs ≡ take k xs ++ x ∷ []
take_more [] k x at = cc
take_more (y ∷ xs) zero x at = ap (λ z. z ∷ []) (same_Some y x at)
take_more (y ∷ xs) (suc k) x at = ap (λ zs. y ∷ zs) (take_more xs k x at)

asks_push : (ws : List (Expr × Port (List ℕ))) (s mid t : Progress) (e : Expr) (p : Port (List ℕ)) → AsksEach s ws mid → AsksFor mid t e p → AsksEach s (ws ++ (e, p) ∷ []) t
asks_push [] s mid t e p same ask = (t, subst (λ (u : Progress). AsksFor u t e p) same ask, refl)
asks_push (w ∷ ws) s mid t e p (next, first, later) ask = (next, first, asks_push ws next mid t e p later ask)

pub asks_next : (ws : List (Expr × Port (List ℕ))) (k : ℕ) (s mid t : Progress) (e : Expr) (p : Port (List ℕ)) → AsksEach s (take k ws) mid → slice_get ws k ≡ Some (e, p) → AsksFor mid t e p → AsksEach s (take (k + 1) ws) t
asks_next ws k s mid t e p so_far at ask =
    subst (λ (vs : List (Expr × Port (List ℕ))). AsksEach s vs t) (sym (ap (λ n. take n ws) (add-one k) ∙ take_more ws k (e, p) at)) (asks_push (take k ws) s mid t e p so_far ask)

pub take_all : {A : Type 0} (xs : List A) (n : ℕ) → n ≡ length xs → take n xs ≡ xs
take_all [] zero e = refl
take_all (x ∷ xs) (suc n) e = ap (λ zs. x ∷ zs) (take_all xs n (omega arith))
take_all _ _ e = absurd (omega arith)

pub asks_all : (ws : List (Expr × Port (List ℕ))) (n : ℕ) (s t : Progress) → n ≡ length ws → AsksEach s (take n ws) t → AsksEach s ws t
asks_all ws n s t count so_far = subst (λ (vs : List (Expr × Port (List ℕ))). AsksEach s vs t) (take_all ws n count) so_far

pub row_ask_at : (rows : List Credential) (k : ℕ) (c : Credential) → slice_get rows k ≡ Some c → slice_get (row_asks rows) k ≡ Some (c.body, port.Body)
row_ask_at [] k c at = cc
row_ask_at (d ∷ rows) zero c at = ap (λ (x : Credential). Some (x.body, port.Body)) (same_Some d c at)
row_ask_at (d ∷ rows) (suc k) c at = row_ask_at rows k c at

pub row_asks_count : (rows : List Credential) → length (row_asks rows) ≡ length rows
row_asks_count [] = refl
row_asks_count (c ∷ rows) = omega (arith, row_asks_count rows)

part_ask_from : (i : ℕ) (parts : List Part) (k : ℕ) (p : Part) (place : ℕ) → place ≡ i + k → slice_get parts k ≡ Some p → slice_get (part_asks i parts) k ≡ Some (part_expr p, port.Part place)
part_ask_from i [] k p place is at = cc
part_ask_from i (q ∷ parts) zero p place is at =
    let here : i ≡ place = omega arith in
    ap (λ (r : Part). Some (part_expr r, port.Part i)) (same_Some q p at) ∙ ap (λ (n : ℕ). Some (part_expr p, port.Part n)) here
part_ask_from i (q ∷ parts) (suc k) p place is at = part_ask_from (i + 1) parts k p place (omega arith) at

pub part_ask_at : (parts : List Part) (k : ℕ) (p : Part) → slice_get parts k ≡ Some p → slice_get (part_asks 0 parts) k ≡ Some (part_expr p, port.Part k)
part_ask_at parts k p at = part_ask_from 0 parts k p k (omega arith) at

part_asks_from : (i : ℕ) (parts : List Part) → length (part_asks i parts) ≡ length parts
part_asks_from i [] = refl
part_asks_from i (p ∷ parts) = omega (arith, part_asks_from (i + 1) parts)

pub part_asks_count : (parts : List Part) → length (part_asks 0 parts) ≡ length parts
part_asks_count parts = part_asks_from 0 parts

-- the rows of a role are the credentials of the view with that head

is_eq_Equal : (o : Ordering) → is_eq o ≡ true → o ≡ Equal
is_eq_Equal Equal e = refl
is_eq_Equal _ e = cc

in_credentials : (vs : List Vault) (v : Vault) (c : Credential) → Contains vs v → Contains v.rows c → Contains (credentials vs) c
in_credentials [] v c there among = absurd (Contains-none v there)
in_credentials (w ∷ vs) v c there among =
    elim (Contains-cons_cases w vs v there) [
      | inl same ↦ Contains-append_left w.rows (credentials vs) c (subst (λ (u : Vault). Contains u.rows c) (sym same) among)
      | inr later ↦ Contains-append_right w.rows (credentials vs) c (in_credentials vs v c later among)
    ]

-- a credential of a view stands in one of its vaults
pub record IsHeldIn (vs : List Vault) (c : Credential) : Type 0 where
  pub vault : Vault
  pub there : Contains vs vault
  pub among : Contains vault.rows c

of_credentials : (vs : List Vault) (c : Credential) → Contains (credentials vs) c → IsHeldIn vs c
of_credentials [] c among = absurd (Contains-none c among)
of_credentials (w ∷ vs) c among =
    elim (Contains-append_cases w.rows (credentials vs) c among) [
      | inl here ↦ record { vault = w; there = Contains-first w vs; among = here }
      | inr later ↦
          let rest = of_credentials vs c later in
          record { vault = rest.vault; there = Contains-later w vs rest.vault rest.there; among = rest.among }
    ]

pub role_rows_are : (view : List Vault) (r : Role) → IsOrdered view → AreRowsOf (credentials view) r (role_rows view r)
role_rows_are view r ordered c = (from, to)
  where
    from : Contains (role_rows view r) c → Contains (credentials view) c × (c.head ≡ r)
    from among =
        let kept = filtered (is_row r) (rows_of view r.owner) c among in
        let held = of_credentials (filter (is_owned r.owner) view) c kept.0 in
        let vault = filtered (is_owned r.owner) view held.vault held.there in
        (in_credentials view held.vault c vault.0 held.among, (roles_in_order.tied c.head r).0 (is_eq_Equal (role_order c.head r) kept.1))

    to : Contains (credentials view) c × (c.head ≡ r) → Contains (role_rows view r) c
    to (among, head) =
        let held = of_credentials view c among in
        let own : c.head.owner ≡ held.vault.owner = All-contains (λ (d : Credential). d.head.owner ≡ held.vault.owner) held.vault.rows c (ordered.own held.vault held.there) held.among in
        let owner : held.vault.owner ≡ r.owner = sym own ∙ ap (λ (q : Role). q.owner) head in
        let owned : is_owned r.owner held.vault ≡ true = ap is_eq ((names_in_order.tied held.vault.owner r.owner).1 owner) in
        let row : is_row r c ≡ true = ap is_eq ((roles_in_order.tied c.head r).1 head) in
        kept_by (is_row r) (rows_of view r.owner) c (in_credentials (filter (is_owned r.owner) view) held.vault c (kept_by (is_owned r.owner) view held.vault held.there owned) held.among) row

-- what stands in order stands once
once_in_order : (cs : List Credential) → IsStrictlySortedBy credential_order cs → AreDistinct cs
once_in_order [] sorted = tt
once_in_order (c ∷ cs) sorted = (
  λ has.
      let later : Less ≡ credential_order c c =
      sym (All-contains (λ d. credential_order c d ≡ Less) cs c (All-from_recursion (λ d. credential_order c d ≡ Less) cs (sorted_head credential_order c cs sorted)) has) in
      let itself : credential_order c c ≡ Equal = (credentials_in_order.tied c c).1 refl in
      let clash : Less ≡ Equal = later ∙ itself in
      cc,
  once_in_order cs (sorted_tail credential_order c cs sorted),
)

-- the rows of one role, each once
abbrev pub AreRowsOfOne : List Credential → Type 0
AreRowsOfOne rows = AreDistinct rows × ((c d : Credential) → Contains rows c → Contains rows d → c.head ≡ d.head)

-- the rows of a role stand once each
pub role_rows_once : (view : List Vault) (r : Role) → IsOrdered view → AreRowsOfOne (role_rows view r)
role_rows_once view r ordered = (
  AreDistinct-filter (is_row r) (rows_of view r.owner) (once_in_order (rows_of view r.owner) (sorted_rows_of r.owner view ordered)),
  λ c d has_c has_d. ((role_rows_are view r ordered c).0 has_c).1 ∙ sym ((role_rows_are view r ordered d).0 has_d).1,
)

-- a role's rows are those through the last of them, less those before the first
row_cases : (o : Ordering) → ((is_lt o ≡ true) × ((is_eq o ≡ false) × (is_le o ≡ true))) ⊎ (((is_lt o ≡ false) × ((is_eq o ≡ true) × (is_le o ≡ true))) ⊎ ((is_lt o ≡ false) × ((is_eq o ≡ false) × (is_le o ≡ false))))
row_cases Less = inl (refl, (refl, refl))
row_cases Equal = inr (inl (refl, (refl, refl)))
row_cases Greater = inr (inr (refl, (refl, refl)))

span_count : (r : Role) (cs : List Credential) → length (filter (is_through r) cs) ≡ length (filter (is_before r) cs) + length (filter (is_row r) cs)
span_count r [] = refl
span_count r (c ∷ cs) =
    let rest = span_count r cs in
    elim (row_cases (role_order c.head r)) [
      | inl h ↦ rw (h.0, h.1.0, h.1.1) (omega arith)
      | inr h ↦ elim h [
        | inl k ↦ rw (k.0, k.1.0, k.1.1) (omega arith)
        | inr k ↦ rw (k.0, k.1.0, k.1.1) (omega arith)
      ]
    ]

pub span_length : (view : List Vault) (r : Role) → (span_of view r).hi ≡ (span_of view r).lo + length (role_rows view r)
span_length view r = span_count r (rows_of view r.owner)
