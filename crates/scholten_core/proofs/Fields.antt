-- The fields as a computation
use Rattle.std.proofs.Common.{◌≡◌, ℕ, zero, suc, ◌+◌, ◌<◌, ◌==◌, Bool, true, not, List, [], ◌∷◌, Option, Some, None, map, IsSomeAnd, IsTrue, option_map, unwrap_or, refl, sym, ap, ◌∙◌, subst, arith, zero-add, cond, ◌++◌, filter, length}
use Rattle.std.specs.Ordering.{nat_cmp}
use Rattle.std.specs.FinMap.{FinMap}
use Rattle.std.specs.List.{slice_get}
use Rattle.std.specs.Map.{lookup}
use Rattle.scholten_core.specs.declared.parents.Parent.{Parent}
use Rattle.scholten_core.specs.declared.parents.Parent.TheVariants.{Neutral, Environment, Node}
use Rattle.scholten_core.specs.declared.letters.Letter.{Letter}
use Rattle.scholten_core.specs.declared.engagement.Engagement.{Engagement}
use Rattle.scholten_core.specs.Computation.{deficit, outstanding, same_parent, waiting, Computation, letter_of}
use Rattle.scholten_core.specs.Step.{mark, marked, started, TakesLetter, finishes, numbered, receives, sends, settles}
use Rattle.scholten_core.specs.Kept.{IsKept, engaged_from, engagement_of, held_in, kept, parent_kept, hit}
use Rattle.scholten_core.specs.LetterTable.{LetterTableState}
use Rattle.scholten_core.proofs.Complete.{sound_started}
use Rattle.scholten_core.proofs.Trees.{alike, count-empty, get-insert_other, get-insert_same}
use Rattle.scholten_core.proofs.Lists.{lookup-changed, lookup_from_filter}
use Rattle.scholten_core.proofs.Steps.{deficit-le-outstanding, deficit-marked, settled_marked, settled_sound, sound_settled, delivered, deficit-delivered, deficit-sends, outstanding-delivered, outstanding-sends, received, settled-settles, settled_delivered, settled_sends}
use Rattle.scholten_core.specs.Sound.{IsSound}
use Rattle.std.specs.FinMap as fin

-- nobody engaged a node whose place comes before those looked at
before : (k n : ℕ) (nodes : List (Option Engagement)) → n < k → fin.get (engaged_from k nodes) n ≡ None
before k n [] less = fin.get-empty nat_cmp n
before k n (None ∷ nodes) less = before (k + 1) n nodes (omega arith)
before k n (Some e ∷ nodes) less = get-insert_other _ k e.parent n (λ same. absurd (omega (arith, same))) ∙ before (k + 1) n nodes (omega arith)

-- who engaged a node of the places from k on
get-engaged_from : (k i n : ℕ) (nodes : List (Option Engagement)) → n ≡ k + i → fin.get (engaged_from k nodes) n ≡ option_map (λ e. e.parent) (engagement_of nodes i)
get-engaged_from k i n [] is = fin.get-empty nat_cmp n
get-engaged_from k zero n (None ∷ nodes) is = before (k + 1) n nodes (omega (arith, is))
get-engaged_from k zero n (Some e ∷ nodes) is =
    let here : n ≡ k = omega (arith, is) in
    ap (fin.get (fin.insert (engaged_from (k + 1) nodes) k e.parent)) here ∙ get-insert_same (engaged_from (k + 1) nodes) k e.parent
get-engaged_from k (suc i) n (None ∷ nodes) is = get-engaged_from (k + 1) i n nodes (omega (arith, is))
get-engaged_from k (suc i) n (Some e ∷ nodes) is =
    get-insert_other _ k e.parent n (λ same. absurd (omega (arith, is, same))) ∙ get-engaged_from (k + 1) i n nodes (omega (arith, is))

-- who engaged a node, by the list of the fields
pub get-engagements : (nodes : List (Option Engagement)) (n : ℕ) → fin.get (engaged_from 0 nodes) n ≡ parent_kept nodes n
get-engagements nodes n = get-engaged_from 0 n n nodes (sym (zero-add n))

-- a map of parents is that of the fields where it answers as they do
pub engagements_are : (m : FinMap nat_cmp Parent) (nodes : List (Option Engagement)) → ((n : ℕ) → fin.get m n ≡ parent_kept nodes n) → m ≡ engaged_from 0 nodes
engagements_are m nodes same = alike m (engaged_from 0 nodes) (λ n. same n ∙ sym (get-engagements nodes n))

-- before any node is engaged
module _ {P : Type 0} (root : ℕ) (load : P) (nodes : List (Option Engagement)) (bare : nodes ≡ []) where
  first_counts : (p : Parent) → kept 1 nodes p ≡ deficit (started root load) p
  first_counts Neutral = sym ((sound_started root load).idle Neutral refl)
  first_counts Environment = omega (arith, count-empty (same_parent Environment))
  first_counts (Node n) =
      omega (arith, count-empty (same_parent (Node n)), ap (λ es. unwrap_or (option_map (λ (e : Engagement). e.deficit) (engagement_of es n)) 0) bare)

  pub started_kept : IsKept (started root load) 1 nodes
  started_kept = record { sound = sound_started root load; counts = first_counts }

-- a letter is marked in the table
module _ {P : Type 0} (table after : LetterTableState P) (signals : List Parent) (owed : ℕ) (nodes : List (Option Engagement)) (keeps : IsKept (held_in table signals nodes) owed nodes) (number : ℕ) (held : Bool) (letters : after.letters ≡ map (mark number held) table.letters) (sent : after.sent ≡ table.sent) where
  pub marked_is : held_in after signals nodes ≡ marked (held_in table signals nodes) number held
  marked_is = λ i. record { sent = sent i; letters = letters i; signals = signals; engaged = engaged_from 0 nodes }

  pub marked_kept : IsKept (held_in after signals nodes) owed nodes
  marked_kept =
      subst (λ d. IsKept d owed nodes) (sym marked_is) (record {
        sound = sound_settled _ (settled_marked (held_in table signals nodes) number held Neutral (settled_sound _ keeps.sound));
        counts = λ p. keeps.counts p ∙ sym (deficit-marked (held_in table signals nodes) number held p);
      })

-- the waiting letter at a place is taken
module _ {P : Type 0} (table after : LetterTableState P) (signals : List Parent) (owed : ℕ) (nodes : List (Option Engagement)) (keeps : IsKept (held_in table signals nodes) owed nodes) (place number : ℕ) (letters : after.letters ≡ map (mark number true) table.letters) (sent : after.sent ≡ table.sent) where
  pub taken_kept : IsKept (held_in after signals nodes) owed nodes
  taken_kept = marked_kept table after signals owed nodes keeps number true letters sent

  pub takes_letter : (l : Letter P) × (slice_get (waiting table.letters) place ≡ Some (number, l)) → TakesLetter (held_in table signals nodes) place number (held_in after signals nodes)
  takes_letter (letter, waited) =
      let found = lookup_from_filter (λ (l : ℕ × Letter P). not l.1.held) 0 table.letters table.sent place number letter keeps.sound.numbers waited in
      let taken = ap (lookup (λ n. n == number)) letters ∙ lookup-changed number (λ l. record l { held = true }) table.letters ∙ ap (option_map (λ (l : Letter P). record l { held = true })) found in
      record {
        letter = letter;
        waited = waited;
        marked = marked_is table after signals owed nodes keeps number true letters sent;
        taken = taken;
        held = subst (λ (o : Option (Letter P)). IsSomeAnd o (λ l. IsTrue l.held)) (sym taken) refl;
        sound = taken_kept.sound;
      }

-- what is kept is kept where the letters, the signals and the entries of the nodes stay
pub unchanged_kept : {P : Type 0} (table after : LetterTableState P) (signals signals_after : List Parent) (owed : ℕ) (nodes same : List (Option Engagement)) → after.letters ≡ table.letters → after.sent ≡ table.sent → signals_after ≡ signals → same ≡ nodes → IsKept (held_in table signals nodes) owed nodes → IsKept (held_in after signals_after same) owed same
unchanged_kept table after signals signals_after owed nodes same letters sent signals_are entries keeps =
    let is : held_in after signals_after same ≡ held_in table signals nodes = λ i. record {
      sent = sent i;
      letters = letters i;
      signals = signals_are i;
      engaged = engaged_from 0 (entries i);
    } in
    subst (λ d. IsKept d owed same) (sym is) (record { sound = keeps.sound; counts = λ p. same_counts p ∙ keeps.counts p })
  where
    same_counts : (p : Parent) → kept owed same p ≡ kept owed nodes p
    same_counts Neutral = refl
    same_counts Environment = refl
    same_counts (Node n) = ap (λ es. unwrap_or (option_map (λ (e : Engagement). e.deficit) (engagement_of es n)) 0) entries

-- where nothing is outstanding no node is engaged, so that no entry is kept for any
module _ {P : Type 0} (table after : LetterTableState P) (signals signals_after : List Parent) (owed : ℕ) (nodes bare : List (Option Engagement)) (letters : after.letters ≡ table.letters) (sent : after.sent ≡ table.sent) (signals_are : signals_after ≡ signals) (empty : bare ≡ []) (none : outstanding (held_in table signals nodes) ≡ 0) where
  nobody_engaged : engaged_from 0 bare ≡ engaged_from 0 nodes
  nobody_engaged = ap (engaged_from 0) empty ∙ sym (fin.empty_of_len (engaged_from 0 nodes) (omega (arith, none)))

  pub emptied_is : held_in after signals_after bare ≡ held_in table signals nodes
  emptied_is = λ i. record { sent = sent i; letters = letters i; signals = signals_are i; engaged = nobody_engaged i }

  pub emptied_kept : IsKept (held_in table signals nodes) owed nodes → IsKept (held_in after signals_after bare) owed bare
  emptied_kept keeps =
      subst (λ d. IsKept d owed bare) (sym emptied_is) (record { sound = keeps.sound; counts = counts })
    where
      counts : (p : Parent) → kept owed bare p ≡ deficit (held_in table signals nodes) p
      counts Neutral = keeps.counts Neutral
      counts Environment = keeps.counts Environment
      counts (Node n) =
          omega (arith, none, deficit-le-outstanding (held_in table signals nodes) (Node n), ap (λ es. unwrap_or (option_map (λ (e : Engagement). e.deficit) (engagement_of es n)) 0) empty)

-- what the whole steps do: a letter is finished, a signal is delivered

-- what a finished letter leaves
pub record IsFinished {P : Type 0} (d : Computation P) (k : ℕ) (l : Letter P) (outs : List (ℕ × P)) (e : Computation P) : Type 0 where
  pub sound : IsSound e
  pub letters : e.letters ≡ filter (λ x. not (x.0 == k)) d.letters ++ numbered (Node l.to) (d.sent + 1) outs
  pub sent : e.sent ≡ d.sent + length outs
  pub amount : outstanding e ≡ outstanding d + length outs
  pub deficits : (p : Parent) → deficit e p ≡ deficit d p + cond (same_parent p (Node l.to)) (length outs) 0

pub is_finished : {P : Type 0} (d : Computation P) (k : ℕ) (l : Letter P) (outs : List (ℕ × P)) → IsSound d → letter_of d k ≡ Some l → IsFinished d k l outs (finishes d k l outs)
is_finished d k l outs sound found =
    let got = received d k l (settled_sound d sound) found in
    let to = Node l.to in
    let after = settled-settles (sends (receives d k l) to outs) to (settled_sends (receives d k l) to outs got.active to got.settled) in
    record {
      sound = sound_settled _ after.settled;
      letters = after.letters ∙ (λ i. got.letters i ++ numbered to (got.owed.sent i + 1) outs);
      sent = after.owed.sent ∙ ap (λ n. n + length outs) got.owed.sent;
      amount = omega (arith, after.owed.amount, outstanding-sends (receives d k l) to outs, got.owed.amount);
      deficits = λ p. omega (arith, after.owed.deficits p, deficit-sends (receives d k l) to outs p, got.owed.deficits p);
    }

-- what a delivered signal leaves
pub record IsDelivered {P : Type 0} (d : Computation P) (to : Parent) (e : Computation P) : Type 0 where
  pub sound : IsSound e
  pub letters : e.letters ≡ d.letters
  pub sent : e.sent ≡ d.sent
  pub amount : outstanding e + 1 ≡ outstanding d
  pub deficits : (p : Parent) → deficit e p + hit p to ≡ deficit d p

pub is_delivered : {P : Type 0} (d : Computation P) (place : ℕ) (to : Parent) (at : slice_get d.signals place ≡ Some to) → IsSound d → IsDelivered d to (settles (delivered d place to at) to)
is_delivered d place to at sound =
    let after = settled-settles (delivered d place to at) to (settled_delivered d place to at (settled_sound d sound)) in
    record {
      sound = sound_settled _ after.settled;
      letters = after.letters;
      sent = after.owed.sent;
      amount = omega (arith, after.owed.amount, outstanding-delivered d place to at);
      deficits = λ p. omega (arith, after.owed.deficits p, deficit-delivered d place to at p);
    }
