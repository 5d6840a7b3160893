-- A delivered signal, by the fields
use Rattle.std.proofs.Common.{◌≡◌, ℕ, ◌+◌, ◌==◌, ◌&&◌, if◌then◌else◌, Bool, true, false, cond, List, [], ◌∷◌, ◌++◌, Option, Some, None, remove, is_some, option_to_list, refl, sym, ap, ◌∙◌, subst, arith, eq-eqb, ne_eqb, zero, suc, ◌<◌, length, option_map, unwrap_or}
use Rattle.std.specs.List.{slice_get}
use Rattle.std.proofs.lemmas.List.{append-nil}
use Rattle.scholten_core.specs.declared.parents.Parent.{Parent}
use Rattle.scholten_core.specs.declared.parents.Parent.TheVariants.{Neutral, Environment, Node}
use Rattle.scholten_core.specs.declared.engagement.Engagement.{Engagement}
use Rattle.scholten_core.specs.Computation.{Computation, deficit, same_parent, outstanding}
use Rattle.scholten_core.specs.Step.{settles, DeliversSignal}
use Rattle.scholten_core.specs.Kept.{Delivers, IsKept, engaged_from, engager, held_in, kept, parent_kept, Pays, engagement_of, hit}
use Rattle.scholten_core.specs.LetterTable.{LetterTableState}
use Rattle.scholten_core.proofs.Trees.{get-remove_same, get-remove_other, one_or_other}
use Rattle.scholten_core.proofs.Fields.{engagements_are, get-engagements, is_delivered}
use Rattle.scholten_core.proofs.Steps.{deficit-delivered, delivered, settles_is, settles_under}
use Rattle.std.specs.FinMap as fin

pub stays_none : (b : Bool) (by kept_by : Option Parent) → by ≡ None → (if b && is_some by then None else kept_by) ≡ kept_by
stays_none b by kept_by none =
    ap (λ (o : Option Parent). if b && is_some o then None else kept_by) none
    ∙ elim b as (λ c. (if c && false then None else kept_by) ≡ kept_by) [ true ↦ refl | false ↦ refl ]

none_either : (b : Bool) → if◌then◌else◌ {A = Option Parent} b None None ≡ None
none_either true = refl
none_either false = refl

-- what the fields hold once a signal is delivered
pub record IsSignalled {P : Type 0} (d : Computation P) (place : ℕ) (e : Computation P) (owed : ℕ) (nodes : List (Option Engagement)) : Type 0 where
  pub step : DeliversSignal d place e
  pub kept : IsKept e owed nodes

-- the fields after a signal to one is delivered, where the counts and the nodes are as they are told
module _ {P : Type 0} (table : LetterTableState P) (signals : List Parent) (owed : ℕ) (nodes : List (Option Engagement)) (keeps : IsKept (held_in table signals nodes) owed nodes) (place : ℕ) (to : Parent) (at : slice_get signals place ≡ Some to) (owed_after : ℕ) (nodes_after : List (Option Engagement)) (by : Option Parent) (delivers : Delivers owed owed_after nodes nodes_after to by) where
  abbrev before : Computation P
  before = held_in table signals nodes

  abbrev taken : Computation P
  taken = delivered before place to at

  -- the counts are those of the computation without the signal
  counts_taken : (p : Parent) → kept owed_after nodes_after p ≡ deficit taken p
  counts_taken p = omega (arith, delivers.counts p, keeps.counts p, deficit-delivered before place to at p)

  -- where nobody is let go, only the signal is gone
  stays : by ≡ None → taken ≡ held_in table (remove signals place ++ option_to_list by) nodes_after
  stays none =
      λ i. record {
        sent = table.sent;
        letters = table.letters;
        signals = (sym (append-nil (remove signals place)) ∙ ap (λ o. remove signals place ++ option_to_list o) (sym none)) i;
        engaged = engagements_are (engaged_from 0 nodes) nodes_after (λ n. get-engagements nodes n ∙ sym (delivers.parents n ∙ stays_none _ by _ none)) i;
      }

  removed : (n : ℕ) (parent : Parent) → to ≡ Node n → by ≡ Some parent → (q : ℕ) → fin.get (fin.remove (engaged_from 0 nodes) n) q ≡ parent_kept nodes_after q
  removed n parent is some q =
      let test : (same_parent to (Node q) && is_some by) ≡ ((n == q) && true) = λ i. same_parent (is i) (Node q) && is_some (some i) in
      let after = delivers.parents q ∙ ap (λ b. if b then None else parent_kept nodes q) test in
      one_or_other q n
      (λ one. ap (fin.get _) one ∙ get-remove_same (engaged_from 0 nodes) n ∙ sym (after ∙ ap (λ b. if b && true then None else parent_kept nodes q) (ap (λ x. n == x) one ∙ eq-eqb n n refl)))
      (λ other. get-remove_other (engaged_from 0 nodes) n q other ∙ get-engagements nodes q ∙ sym (after ∙ ap (λ b. if b && true then None else parent_kept nodes q) (ne_eqb n q (λ e. other (sym e)))))

  -- where a node is let go, its engagement goes and a signal goes to the one that engaged it
  goes : (n : ℕ) (parent : Parent) → to ≡ Node n → by ≡ Some parent → record taken { signals = remove signals place ++ parent ∷ []; engaged = fin.remove (engaged_from 0 nodes) n } ≡ held_in table (remove signals place ++ option_to_list by) nodes_after
  goes n parent is some =
      λ i. record {
        sent = table.sent;
        letters = table.letters;
        signals = ap (λ o. remove signals place ++ option_to_list o) (sym some) i;
        engaged = engagements_are (fin.remove (engaged_from 0 nodes) n) nodes_after (removed n parent is some) i;
      }

  -- the answer, with what the one is owed
  answer : (x : Parent) → to ≡ x → (b : Bool) → (deficit taken x == 0) ≡ b → by ≡ (if b then engager nodes x else None)
  answer x is b owed_is =
      delivers.signal ∙ (λ i. if (ap (λ n. n == 0) (ap (kept owed_after nodes_after) is ∙ counts_taken x) ∙ owed_is) i then engager nodes (is i) else None)

  settles_node : (n : ℕ) → to ≡ Node n → (o : Option Parent) → fin.get (engaged_from 0 nodes) n ≡ o → settles_under taken n o ≡ held_in table (remove signals place ++ option_to_list by) nodes_after
  settles_node n is None gone =
      stays (answer (Node n) is _ refl ∙ ap (λ o. if deficit taken (Node n) == 0 then o else None) (sym (get-engagements nodes n) ∙ gone) ∙ none_either _)
  settles_node n is (Some parent) engaged =
      elim (deficit taken (Node n) == 0) as (λ b. (deficit taken (Node n) == 0) ≡ b → cond b (record taken { signals = remove signals place ++ parent ∷ []; engaged = fin.remove (engaged_from 0 nodes) n }) taken ≡ held_in table (remove signals place ++ option_to_list by) nodes_after) [
        | true ↦ λ nothing. goes n parent is (answer (Node n) is true nothing ∙ sym (get-engagements nodes n) ∙ engaged)
        | false ↦ λ something. stays (answer (Node n) is false something)
      ] refl

  settles_one : (x : Parent) → to ≡ x → settles taken x ≡ held_in table (remove signals place ++ option_to_list by) nodes_after
  settles_one Neutral is = stays (answer Neutral is _ refl ∙ none_either _)
  settles_one Environment is = stays (answer Environment is _ refl ∙ none_either _)
  settles_one (Node n) is = settles_is taken n ∙ settles_node n is (fin.get (engaged_from 0 nodes) n) refl

  signalled_is : settles taken to ≡ held_in table (remove signals place ++ option_to_list by) nodes_after
  signalled_is = settles_one to refl

  signalled_kept : IsKept (settles taken to) owed_after nodes_after
  signalled_kept =
      let after = is_delivered before place to at keeps.sound in
      record { sound = after.sound; counts = λ p. omega (arith, delivers.counts p, keeps.counts p, after.deficits p) }

  -- the fields hold the computation with the signal delivered
  pub signalled_fields : (signals_after : List Parent) → signals_after ≡ remove signals place ++ option_to_list by → IsSignalled before place (held_in table signals_after nodes_after) owed_after nodes_after
  signalled_fields signals_after signals_are =
      let is : held_in table signals_after nodes_after ≡ settles taken to = ap (λ s. held_in table s nodes_after) signals_are ∙ sym signalled_is in
      let kept = subst (λ d. IsKept d owed_after nodes_after) (sym is) signalled_kept in
      let after = is_delivered before place to at keeps.sound in
      record {
        step = record {
          to = to;
          found = at;
          signalled = is;
          letters = refl;
          sent = refl;
          less = ap (λ d. outstanding d + 1) is ∙ after.amount;
          sound = kept.sound;
        };
        kept = kept;
      }

-- a node that is owed one less

-- the count of an engagement, and who engaged
abbrev pub count_of : Option Engagement → ℕ
count_of o = unwrap_or (option_map (λ e. e.deficit) o) 0

abbrev parent_in : Option Engagement → Option Parent
parent_in o = option_map (λ e. e.parent) o

-- the count kept for a node
abbrev pub deficit_kept : List (Option Engagement) → ℕ → ℕ
deficit_kept nodes n = kept 0 nodes (Node n)

-- a node for which a count is kept has a place
pub engaged_within : (nodes : List (Option Engagement)) (n : ℕ) → 0 < deficit_kept nodes n → n < length nodes
engaged_within [] n owed = absurd (omega (arith, owed))
engaged_within (o ∷ nodes) zero owed = omega arith
engaged_within (o ∷ nodes) (suc n) owed = omega (arith, engaged_within nodes n owed)

module _ (nodes nodes_after : List (Option Engagement)) (node : ℕ) (by : Option Parent) (owed : 0 < deficit_kept nodes node) (pays : Pays nodes nodes_after node by) where
  cases : {C : Type 0} → ((e : Engagement) → engagement_of nodes node ≡ Some e → 1 < e.deficit → C) → ((e : Engagement) → engagement_of nodes node ≡ Some e → e.deficit ≡ 1 → C) → C
  cases {C} more last =
      elim (engagement_of nodes node) as (λ o. engagement_of nodes node ≡ o → C) [
        | None ↦ λ none. absurd (omega (arith, ap count_of none))
        | Some e ↦ λ there. elim e.deficit as (λ n. e.deficit ≡ n → C) [
          | zero ↦ λ nothing. absurd (omega (arith, ap count_of there, nothing))
          | suc n ↦ λ some. one_or_other e.deficit 1 (λ one. last e there one) (λ other. more e there (omega arith))
        ] refl
      ] refl

  count_paid : deficit_kept nodes_after node + 1 ≡ deficit_kept nodes node
  count_paid =
      cases (λ e there more. omega (arith, more, ap count_of there, ap count_of (pays.paid e there more).1))
      (λ e there one. omega (arith, one, ap count_of there, ap count_of (pays.gone e there one).1))

  count_of_node : (n : ℕ) → deficit_kept nodes_after n + hit (Node n) (Node node) ≡ deficit_kept nodes n
  count_of_node n =
      one_or_other n node
      (λ one. (λ i. deficit_kept nodes_after (one i) + (if (one i) == node then 1 else 0)) ∙ ap (λ b. deficit_kept nodes_after node + (if b then 1 else 0)) (eq-eqb node node refl) ∙ count_paid ∙ ap (deficit_kept nodes) (sym one))
      (λ other. (λ i. count_of (pays.same n other i) + (if ne_eqb n node other i then 1 else 0)) ∙ omega arith)

  counts_paid : (owed_environment : ℕ) (p : Parent) → kept owed_environment nodes_after p + hit p (Node node) ≡ kept owed_environment nodes p
  counts_paid owed_environment Neutral = refl
  counts_paid owed_environment Environment = omega arith
  counts_paid owed_environment (Node n) = count_of_node n

  by_paid : by ≡ (if deficit_kept nodes_after node == 0 then parent_kept nodes node else None)
  by_paid =
      cases (λ e there more. let left = ap count_of (pays.paid e there more).1 in
      (pays.paid e there more).0 ∙ sym (ap (λ b. if b then parent_kept nodes node else None) (ne_eqb (deficit_kept nodes_after node) 0 (omega (arith, left, more)))))
      (λ e there one. (pays.gone e there one).0 ∙ sym (ap parent_in there) ∙ sym (ap (λ n. if n == 0 then parent_kept nodes node else None) (ap count_of (pays.gone e there one).1)))

  parents_paid : (n : ℕ) → parent_kept nodes_after n ≡ (if same_parent (Node node) (Node n) && is_some by then None else parent_kept nodes n)
  parents_paid n =
      one_or_other n node
      (λ one. ap (parent_kept nodes_after) one ∙ here ∙ (λ i. if (node == sym one i) && is_some by then None else parent_kept nodes (sym one i)))
      (λ other. ap parent_in (pays.same n other) ∙ sym (ap (λ b. if b && is_some by then None else parent_kept nodes n) (ne_eqb node n (λ e. other (sym e)))))
    where
      here : parent_kept nodes_after node ≡ (if (node == node) && is_some by then None else parent_kept nodes node)
      here =
          cases (λ e there more. ap parent_in (pays.paid e there more).1 ∙ sym (ap parent_in there) ∙ sym (stays_none (node == node) by _ (pays.paid e there more).0))
          (λ e there one. ap parent_in (pays.gone e there one).1 ∙ (λ i. if sym (eq-eqb node node refl) i && is_some (sym (pays.gone e there one).0 i) then None else parent_kept nodes node))

  -- so a node's signal is delivered
  pub delivers_paid : (owed_environment : ℕ) → Delivers owed_environment owed_environment nodes nodes_after (Node node) by
  delivers_paid owed_environment = record { counts = counts_paid owed_environment; signal = by_paid; parents = parents_paid }
