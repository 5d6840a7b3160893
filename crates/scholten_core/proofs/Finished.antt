-- A finished letter, by the fields
use Rattle.std.proofs.Common.{◌≡◌, ◌≢◌, ℕ, zero, suc, ◌+◌, ◌<◌, ◌==◌, true, cond, List, [], ◌∷◌, ◌++◌, Option, Some, None, length, is_some, option_map, option_to_list, refl, sym, ap, ◌∙◌, subst, arith, zero-add, eq-eqb, ne_eqb}
use Rattle.std.specs.Ordering.{nat_cmp}
use Rattle.std.specs.FinMap as fin
use Rattle.std.specs.FinMap.{FinMap}
use Rattle.std.specs.Map.{lookup}
use Rattle.std.proofs.lemmas.List.{append-nil}
use Rattle.scholten_core.specs.declared.parents.Parent.{Parent}
use Rattle.scholten_core.specs.declared.parents.Parent.TheVariants.{Neutral, Environment, Node}
use Rattle.scholten_core.specs.declared.letters.Letter.{Letter}
use Rattle.scholten_core.specs.declared.engagement.Engagement.{Engagement}
use Rattle.scholten_core.specs.Computation.{Computation, deficit, outstanding}
use Rattle.scholten_core.specs.Step.{finishes, numbered, receives, sends, settles, FinishesLetter}
use Rattle.scholten_core.specs.Kept.{IsKept, Receives, engagement_of, engaged_from, held_in, kept, parent_kept}
use Rattle.scholten_core.specs.LetterTable.{LetterTableState}
use Rattle.scholten_core.proofs.Trees.{get-insert_same, get-insert_other, one_or_other, remove-insert, same_parent-self}
use Rattle.scholten_core.proofs.Fields.{engagements_are, get-engagements, is_finished}
use Rattle.scholten_core.proofs.Delivered.{count_of, deficit_kept}
use Rattle.scholten_core.proofs.Steps.{IsReceived, acknowledged, deficit-sends, engages, received, rest, settles_is, settles_under, settled_sound}

module _ {P : Type 0} (e : Computation P) (n : ℕ) where
  stays_under : 0 < deficit e (Node n) → (o : Option Parent) → settles_under e n o ≡ e
  stays_under owed None = refl
  stays_under owed (Some by) =
      ap (λ b. cond b (record e { signals = e.signals ++ by ∷ []; engaged = fin.remove e.engaged n }) e) (ne_eqb (deficit e (Node n)) 0 (omega arith))

  -- one that is owed something stays
  settles_stays : 0 < deficit e (Node n) → settles e (Node n) ≡ e
  settles_stays owed = settles_is e n ∙ stays_under owed (fin.get e.engaged n)

  -- an engaged node that is owed nothing goes
  settles_goes : (by : Parent) → fin.get e.engaged n ≡ Some by → deficit e (Node n) ≡ 0 → settles e (Node n) ≡ record e { signals = e.signals ++ by ∷ []; engaged = fin.remove e.engaged n }
  settles_goes by engaged nothing =
      settles_is e n ∙ ap (settles_under e n) engaged
      ∙ ap (λ k. cond (k == 0) (record e { signals = e.signals ++ by ∷ []; engaged = fin.remove e.engaged n }) e) nothing

-- what the fields hold once a letter is finished
pub record IsFinishedIn {P : Type 0} (d : Computation P) (number : ℕ) (outs : List (ℕ × P)) (e : Computation P) (owed : ℕ) (nodes : List (Option Engagement)) : Type 0 where
  pub step : FinishesLetter d number outs e
  pub kept : IsKept e owed nodes

-- what the fields hold after a letter is finished
module _ {P : Type 0} (table : LetterTableState P) (signals : List Parent) (owed : ℕ) (nodes : List (Option Engagement)) (keeps : IsKept (held_in table signals nodes) owed nodes) (number : ℕ) (l : Letter P) (found : lookup (λ n. n == number) table.letters ≡ Some l) (outs : List (ℕ × P)) (nodes_after : List (Option Engagement)) (by : Option Parent) (receives_it : Receives nodes nodes_after l.from l.to (length outs) by) where
  abbrev before : Computation P
  before = held_in table signals nodes

  -- the computation after it, but for the signals and the engaged nodes
  abbrev with_parts : List Parent → FinMap nat_cmp Parent → Computation P
  with_parts s m =
      record { sent = table.sent + length outs; letters = rest before number l ++ numbered (Node l.to) (table.sent + 1) outs; signals = s; engaged = m }

  abbrev after : Computation P
  after = with_parts (signals ++ option_to_list by) (engaged_from 0 nodes_after)

  got : IsReceived before number l (receives before number l)
  got = received before number l (settled_sound before keeps.sound) found

  owed_to : deficit (sends (receives before number l) (Node l.to) outs) (Node l.to) ≡ deficit before (Node l.to) + length outs
  owed_to =
      omega (arith, deficit-sends (receives before number l) (Node l.to) outs (Node l.to), ap (λ b. cond b (length outs) 0) (same_parent-self (Node l.to)), got.owed.deficits (Node l.to))

  engaged_before : (o : Option Engagement) → engagement_of nodes l.to ≡ o → fin.contains_key before.engaged l.to ≡ is_some o
  engaged_before o is =
      ap is_some (get-engagements nodes l.to) ∙ ap (λ x. is_some (option_map (λ (e : Engagement). e.parent) x)) is ∙ elim o as (λ x. is_some (option_map (λ (e : Engagement). e.parent) x) ≡ is_some x) [ None ↦ refl | Some e ↦ refl ]

  -- a map is that of the fields where it answers as before at every other node, and at this one as
  -- the fields do
  parts_are : (s : List Parent) (m : FinMap nat_cmp Parent) → s ≡ signals ++ option_to_list by → ((n : ℕ) → n ≢ l.to → fin.get m n ≡ parent_kept nodes n) → fin.get m l.to ≡ parent_kept nodes_after l.to → with_parts s m ≡ after
  parts_are s m signals_are others here =
      λ i. with_parts (signals_are i) (engagements_are m nodes_after (λ n. one_or_other n l.to
      (λ one. ap (fin.get m) one ∙ here ∙ ap (parent_kept nodes_after) (sym one))
      (λ other. others n other ∙ ap (option_map (λ (e : Engagement). e.parent)) (sym (receives_it.same n other)))) i)

  -- the letter came to an engaged node
  finished_engaged : (e : Engagement) → engagement_of nodes l.to ≡ Some e → finishes before number l outs ≡ after
  finished_engaged e there =
      let is = engaged_before (Some e) there in
      let acknowledges = ap (λ b. cond b (acknowledged before number l) (engages before number l)) is in
      let owing = keeps.sound.busy l.to is in
      let got_it = receives_it.engaged e there in
      settles_stays (sends (receives before number l) (Node l.to) outs) l.to (omega (arith, owed_to, owing))
      ∙ ap (λ x. sends x (Node l.to) outs) acknowledges
      ∙ parts_are (signals ++ l.from ∷ []) (engaged_from 0 nodes) (ap (λ o. signals ++ option_to_list o) (sym got_it.0)) (λ n _. get-engagements nodes n) (get-engagements nodes l.to ∙ ap (option_map (λ (x : Engagement). x.parent)) there ∙ ap (option_map (λ (x : Engagement). x.parent)) (sym got_it.1))

  module _ (gone : engagement_of nodes l.to ≡ None) where
    engages_it : receives before number l ≡ engages before number l
    engages_it = ap (λ b. cond b (acknowledged before number l) (engages before number l)) (engaged_before None gone)

    parent_gone : fin.get (engaged_from 0 nodes) l.to ≡ None
    parent_gone = get-engagements nodes l.to ∙ ap (option_map (λ (x : Engagement). x.parent)) gone

    -- it came to a neutral node, which sends letters
    finished_anew : 0 < length outs → finishes before number l outs ≡ after
    finished_anew some =
        let got_it = receives_it.anew gone some in
        settles_stays (sends (receives before number l) (Node l.to) outs) l.to (omega (arith, owed_to))
        ∙ ap (λ x. sends x (Node l.to) outs) engages_it
        ∙ parts_are signals (fin.insert (engaged_from 0 nodes) l.to l.from) (sym (append-nil signals) ∙ ap (λ o. signals ++ option_to_list o) (sym got_it.0)) (λ n other. get-insert_other _ l.to l.from n other ∙ get-engagements nodes n) (get-insert_same _ l.to l.from ∙ ap (option_map (λ (x : Engagement). x.parent)) (sym got_it.1))

    -- it came to a neutral node, which sends none
    finished_idle : length outs ≡ 0 → finishes before number l outs ≡ after
    finished_idle none =
        let got_it = receives_it.idle gone none in
        let neutral = keeps.sound.idle (Node l.to) (engaged_before None gone) in
        let sent_by = sends (engages before number l) (Node l.to) outs in
        let nothing : deficit sent_by (Node l.to) ≡ 0 = ap (λ x. deficit (sends x (Node l.to) outs) (Node l.to)) (sym engages_it) ∙ omega (arith, owed_to, neutral, none) in
        ap (λ x. settles (sends x (Node l.to) outs) (Node l.to)) engages_it
        ∙ settles_goes sent_by l.to l.from (get-insert_same _ l.to l.from) nothing
        ∙ ap (with_parts (signals ++ l.from ∷ [])) (remove-insert (engaged_from 0 nodes) l.to l.from parent_gone)
        ∙ parts_are (signals ++ l.from ∷ []) (engaged_from 0 nodes) (ap (λ o. signals ++ option_to_list o) (sym got_it.0)) (λ n _. get-engagements nodes n) (parent_gone ∙ ap (option_map (λ (x : Engagement). x.parent)) (sym got_it.1))

  finished_is : finishes before number l outs ≡ after
  finished_is =
      elim (engagement_of nodes l.to) as (λ o. engagement_of nodes l.to ≡ o → finishes before number l outs ≡ after) [
        | None ↦ λ gone. elim (length outs) as (λ n. length outs ≡ n → finishes before number l outs ≡ after) [
          | zero ↦ λ none. finished_idle gone none
          | suc n ↦ λ some. finished_anew gone (omega arith)
        ] refl
        | Some e ↦ λ there. finished_engaged e there
      ] refl

  -- the receiver is owed so many more
  count_here : deficit_kept nodes_after l.to ≡ deficit_kept nodes l.to + length outs
  count_here =
      elim (engagement_of nodes l.to) as (λ o. engagement_of nodes l.to ≡ o → count_of (engagement_of nodes_after l.to) ≡ count_of o + length outs) [
        | None ↦ λ gone. elim (length outs) as (λ n. length outs ≡ n → count_of (engagement_of nodes_after l.to) ≡ length outs) [
          | zero ↦ λ none. ap count_of (receives_it.idle gone none).1 ∙ sym none
          | suc n ↦ λ some. ap count_of (receives_it.anew gone (omega arith)).1
        ] refl ∙ sym (zero-add (length outs))
        | Some e ↦ λ there. ap count_of (receives_it.engaged e there).1
      ] refl

  count_after : (n : ℕ) → deficit_kept nodes_after n ≡ deficit_kept nodes n + cond (n == l.to) (length outs) 0
  count_after n =
      one_or_other n l.to
      (λ one. let test : (n == l.to) ≡ true = ap (λ x. x == l.to) one ∙ eq-eqb l.to l.to refl in
      ap (deficit_kept nodes_after) one ∙ count_here ∙ (λ i. deficit_kept nodes (sym one i) + cond (sym test i) (length outs) 0))
      (λ other. ap count_of (receives_it.same n other) ∙ omega (arith, ap (λ b. cond {A = ℕ} b (length outs) 0) (ne_eqb n l.to other)))

  finished_kept : IsKept (finishes before number l outs) owed nodes_after
  finished_kept =
      let done = is_finished before number l outs keeps.sound found in
      record { sound = done.sound; counts = counts_after }
    where
      counts_after : (p : Parent) → kept owed nodes_after p ≡ deficit (finishes before number l outs) p
      counts_after Neutral = sym ((is_finished before number l outs keeps.sound found).sound.idle Neutral refl)
      counts_after Environment = omega (arith, keeps.counts Environment, (is_finished before number l outs keeps.sound found).deficits Environment)
      counts_after (Node n) = omega (arith, count_after n, keeps.counts (Node n), (is_finished before number l outs keeps.sound found).deficits (Node n))

  -- the fields hold the computation with the letter finished
  pub finished_fields : (table_now : LetterTableState P) → table_now.letters ≡ rest before number l ++ numbered (Node l.to) (table.sent + 1) outs → table_now.sent ≡ table.sent + length outs → (signals_now : List Parent) → signals_now ≡ signals ++ option_to_list by → IsFinishedIn before number outs (held_in table_now signals_now nodes_after) owed nodes_after
  finished_fields table_now letters_are sent_is signals_now signals_are =
      let is : held_in table_now signals_now nodes_after ≡ finishes before number l outs = (λ i. record {
        sent = sent_is i;
        letters = letters_are i;
        signals = signals_are i;
        engaged = engaged_from 0 nodes_after;
      }) ∙ sym finished_is in
      let done = is_finished before number l outs keeps.sound found in
      record {
        step = record { letter = l; found = found; finished = is; letters = letters_are; sent = sent_is; more = ap outstanding is ∙ done.amount };
        kept = subst (λ d. IsKept d owed nodes_after) (sym is) finished_kept;
      }
