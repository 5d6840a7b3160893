-- What follows for a sound computation: it is complete exactly where nothing is outstanding
use Rattle.std.proofs.Common.{◌≡◌, ℕ, zero, suc, cond, List, [], ◌∷◌, length, count_by, is_some, refl, ap, ◌∙◌, arith}
use Rattle.std.specs.Ordering.{nat_cmp}
use Rattle.std.specs.FinMap as fin
use Rattle.std.proofs.lemmas.List.Sums.{sum_by-cons}
use Rattle.scholten_core.specs.declared.parents.Parent.{Parent}
use Rattle.scholten_core.specs.declared.parents.Parent.TheVariants.{Neutral, Environment, Node}
use Rattle.scholten_core.specs.declared.letters.Letter.{Letter}
use Rattle.scholten_core.specs.Computation.{Computation, StandByNumber, deficit, same_parent, outstanding}
use Rattle.scholten_core.specs.Step.{started}
use Rattle.scholten_core.specs.Sound.{IsSound, bare}
use Rattle.scholten_core.proofs.Trees.{count-empty, hit-self, no_root, some_leaf}
use Rattle.scholten_core.proofs.Lists.{Contains_from_lookup, lookup_from_Contains}
use Rattle.scholten_core.proofs.Steps.{IsSettledBut, deficit-le-outstanding, settled_sends, sound_settled}

-- the computation before the first letter
abbrev nothing : {P : Type 0} → Computation P
nothing = record { sent = 0; letters = []; signals = []; engaged = fin.empty }

settled_nothing : {P : Type 0} → IsSettledBut (nothing {P = P}) Neutral
settled_nothing = record {
  busy = λ n apart there. absurd (cc (ap is_some (fin.get-empty {X = Parent} nat_cmp n)));
  idle = λ p idle. omega (arith, count-empty (same_parent p));
  tree = bare;
  numbers = omega arith;
  one_each = omega (arith, fin.len-empty nat_cmp Parent);
}

module _ {P : Type 0} where
  pub sound_started : (root : ℕ) (load : P) → IsSound (started root load)
  sound_started root load = sound_settled _ (settled_sends nothing Environment ((root, load) ∷ []) refl Neutral settled_nothing)

  -- a letter stands under its number alone
  pub stand_by_number : (d : Computation P) → IsSound d → StandByNumber d
  stand_by_number d sound number l =
      (λ there. lookup_from_Contains 0 d.letters d.sent number l sound.numbers there, λ found. Contains_from_lookup number d.letters l found)

  -- a letter's sender is owed something
  no_letter : (d : Computation P) (letters : List (ℕ × Letter P)) → ((p : Parent) → count_by (λ (l : ℕ × Letter P). same_parent p l.1.from) letters ≡ 0) → length letters ≡ 0
  no_letter d [] none = refl
  no_letter d (l ∷ ls) none =
      absurd (omega (arith, none l.1.from, hit-self l.1.from, sum_by-cons (λ (x : ℕ × Letter P). cond {A = ℕ} (same_parent l.1.from x.1.from) 1 0) l ls))

no_signal : (signals : List Parent) → ((p : Parent) → count_by (same_parent p) signals ≡ 0) → length signals ≡ 0
no_signal [] none = refl
no_signal (s ∷ ss) none = absurd (omega (arith, none s, hit-self s, sum_by-cons (λ (x : Parent). cond {A = ℕ} (same_parent s x) 1 0) s ss))

module _ {P : Type 0} (d : Computation P) (sound : IsSound d) where
  -- where the environment is owed nothing, nobody is
  owed_nothing : deficit d Environment ≡ 0 → fin.len d.engaged ≡ 0 → (p : Parent) → deficit d p ≡ 0
  owed_nothing ended alone Neutral = sound.idle Neutral refl
  owed_nothing ended alone Environment = ended
  owed_nothing ended alone (Node n) =
      sound.idle (Node n) (ap (λ m. fin.contains_key m n) (fin.empty_of_len d.engaged alone) ∙ ap is_some (fin.get-empty {X = Parent} nat_cmp n))

  -- never an early end
  pub complete : deficit d Environment ≡ 0 → outstanding d ≡ 0
  complete ended =
      let alone = no_root sound.tree (omega (arith, ended)) in
      let owed = owed_nothing ended alone in
      omega (arith, alone, no_letter d d.letters (λ p. omega (arith, owed p)), no_signal d.signals (λ p. omega (arith, owed p)))

  pub ended : outstanding d ≡ 0 → deficit d Environment ≡ 0
  ended none = omega (arith, none, deficit-le-outstanding d Environment)

  -- never stuck
  pub never_stuck : d.letters ≡ [] → d.signals ≡ [] → outstanding d ≡ 0
  never_stuck no_letters no_signals =
      let leafless : fin.len d.engaged ≡ 0 = elim (fin.len d.engaged) as (λ n. fin.len d.engaged ≡ n → n ≡ 0) [
        | zero ↦ λ _. refl
        | suc n ↦ λ e. let leaf = some_leaf sound.tree (omega (arith, e)) in
            absurd (omega (arith, sound.busy leaf.0 leaf.1, leaf.2, ap (count_by (λ (l : ℕ × Letter P). same_parent (Node leaf.0) l.1.from)) no_letters, ap (count_by (same_parent (Node leaf.0))) no_signals))
      ] refl in
      omega (arith, leafless, ap length no_letters, ap length no_signals)
