-- What each part of a step does to what one is owed, and to what is outstanding
use Rattle.std.proofs.Common.{◌≡◌, ℕ, ◌+◌, ◌<◌, ◌≤◌, ◌==◌, ◌&&◌, if◌then◌else◌, Bool, true, false, cond, not, List, [], ◌∷◌, ◌++◌, Option, Some, None, filter, length, remove, count_by, is_some, refl, sym, ap, ◌∙◌, subst, arith, length-append}
use Rattle.std.specs.List.{slice_get}
use Rattle.std.specs.Option.{unwrap_or}
use Rattle.std.proofs.lemmas.Bool.{eqb-false, false_from_ne_true}
use Rattle.std.specs.FinMap as fin
use Rattle.std.proofs.lemmas.Option.{slice_get_within}
use Rattle.std.proofs.lemmas.List.{length-map}
use Rattle.std.proofs.lemmas.List.Edits.{length-remove}
use Rattle.std.proofs.lemmas.List.Sums.{sum_by-append, sum_by_push, count_by-le-length}
use Rattle.std.proofs.lemmas.Map.Views.{exact_unsigned_eq}
use Rattle.scholten_core.specs.declared.parents.Parent.{Parent}
use Rattle.scholten_core.specs.declared.parents.Parent.TheVariants.{Neutral, Environment, Node}
use Rattle.scholten_core.specs.declared.letters.Letter.{Letter}
use Rattle.scholten_core.specs.Computation.{Computation, deficit, same_parent, letter_of, outstanding}
use Rattle.scholten_core.specs.Step.{marked, numbered, receives, sends, settles}
use Rattle.scholten_core.specs.Sound.{IsNumbered, IsSound, IsTree, grown, is_active}
use Rattle.scholten_core.specs.Kept.{hit}
use Rattle.scholten_core.proofs.Trees.{count-insert, count-remove, count-le-len, get-insert_same, get-insert_other, get-remove_same, get-remove_other, len-insert_new, len-remove_old, one_or_other, hit-self, hit-other, same_parent-other, same_parent-self, same_true, active-insert, active-remove, none_there, tree_remove}
use Rattle.scholten_core.proofs.Lists.{changed, length-filter_number, numbered-append, numbered-changed, numbered-filter, sum_by-filter_number, sum_by-map_same, sum_by-remove_at, count-numbered, length-numbered, numbered_rise}

-- the same as that it is sound, but that the engaged node x may be owed nothing
pub record IsSettledBut {P : Type 0} (d : Computation P) (x : Parent) : Type 0 where
  pub busy : (n : ℕ) → (x ≡ Node n → ⊥) → fin.contains_key d.engaged n ≡ true → 0 < deficit d (Node n)
  pub idle : (p : Parent) → is_active d.engaged p ≡ false → deficit d p ≡ 0
  pub tree : IsTree d.engaged
  pub numbers : IsNumbered 0 d.letters d.sent
  pub one_each : outstanding d ≤ d.sent

module _ {P : Type 0} (d : Computation P) where
  pub settled_sound : IsSound d → IsSettledBut d Neutral
  settled_sound is = record { busy = λ n apart there. is.busy n there; idle = is.idle; tree = is.tree; numbers = is.numbers; one_each = is.one_each }

  pub sound_settled : IsSettledBut d Neutral → IsSound d
  sound_settled settled = record {
    busy = λ n there. settled.busy n (λ e. cc) there;
    idle = settled.idle;
    tree = settled.tree;
    numbers = settled.numbers;
    one_each = settled.one_each;
  }

module _ {P : Type 0} where
  -- nobody is owed more than is outstanding
  pub deficit-le-outstanding : (d : Computation P) (p : Parent) → deficit d p ≤ outstanding d
  deficit-le-outstanding d p =
      omega (arith, count_by-le-length (λ (l : ℕ × Letter P). same_parent p l.1.from) d.letters, count_by-le-length (same_parent p) d.signals, count-le-len (same_parent p) d.engaged)

  -- whoever is owed something may send
  pub active_owed : (d : Computation P) (x : Parent) → IsSettledBut d x → (p : Parent) → 0 < deficit d p → is_active d.engaged p ≡ true
  active_owed d x settled p owed =
      elim (is_active d.engaged p) as (λ b. is_active d.engaged p ≡ b → b ≡ true) [
        | true ↦ λ _. refl
        | false ↦ λ idle. absurd (omega (arith, settled.idle p idle))
      ] refl

-- a letter is marked
module _ {P : Type 0} (d : Computation P) (number : ℕ) (held : Bool) where
  pub deficit-marked : (p : Parent) → deficit (marked d number held) p ≡ deficit d p
  deficit-marked p =
      let letters = sum_by-map_same (λ (l : ℕ × Letter P). cond {A = ℕ} (same_parent p l.1.from) 1 0) (changed number (λ l. record l { held = held })) (λ l. elim (l.0 == number) as (λ b. cond {A = ℕ} (same_parent p (cond {A = ℕ × Letter P} b (l.0, record l.1 { held = held }) l).1.from) 1 0 ≡ cond (same_parent p l.1.from) 1 0) [ true ↦ refl | false ↦ refl ]) d.letters in
      omega (arith, letters)

  pub settled_marked : (x : Parent) → IsSettledBut d x → IsSettledBut (marked d number held) x
  settled_marked x settled = record {
    busy = λ n apart engaged. omega (arith, deficit-marked (Node n), settled.busy n apart engaged);
    idle = λ p idle. deficit-marked p ∙ settled.idle p idle;
    tree = settled.tree;
    numbers = numbered-changed number (λ l. record l { held = held }) 0 d.letters d.sent settled.numbers;
    one_each = omega (arith, settled.one_each, length-map d.letters (changed number (λ l. record l { held = held })));
  }

-- a signal is taken from the list
module _ {P : Type 0} (d : Computation P) (place : ℕ) (to : Parent) (at : slice_get d.signals place ≡ Some to) where
  abbrev pub delivered : Computation P
  delivered = record d { signals = remove d.signals place }

  pub deficit-delivered : (p : Parent) → deficit delivered p + hit p to ≡ deficit d p
  deficit-delivered p = omega (arith, sum_by-remove_at (λ q. cond {A = ℕ} (same_parent p q) 1 0) d.signals place to at)

  pub outstanding-delivered : outstanding delivered + 1 ≡ outstanding d
  outstanding-delivered = omega (arith, length-remove d.signals place (slice_get_within d.signals place to at))

  pub settled_delivered : IsSettledBut d Neutral → IsSettledBut delivered to
  settled_delivered settled = record {
    busy = λ n apart engaged.
        omega (arith, deficit-delivered (Node n), hit-other (Node n) to (λ e. apart (sym e)), settled.busy n (λ e. cc) engaged);
    idle = λ p idle. omega (arith, deficit-delivered p, settled.idle p idle);
    tree = settled.tree;
    numbers = settled.numbers;
    one_each = omega (arith, settled.one_each, outstanding-delivered);
  }

-- what a step keeps that changes neither deficits nor what is outstanding
pub record KeepsOwed {P : Type 0} (d e : Computation P) : Type 0 where
  pub deficits : (p : Parent) → deficit e p ≡ deficit d p
  pub amount : outstanding e ≡ outstanding d
  pub sent : e.sent ≡ d.sent

-- a letter is received
module _ {P : Type 0} (d : Computation P) (k : ℕ) (l : Letter P) where
  abbrev pub rest : List (ℕ × Letter P)
  rest = filter (λ x. not (x.0 == k)) d.letters

  abbrev pub acknowledged : Computation P
  acknowledged = record d { letters = rest; signals = d.signals ++ l.from ∷ [] }

  abbrev pub engages : Computation P
  engages = record d { letters = rest; engaged = fin.insert d.engaged l.to l.from }

  -- what a received letter leaves
  pub record IsReceived (e : Computation P) : Type 0 where
    pub owed : KeepsOwed d e
    pub letters : e.letters ≡ rest
    pub settled : IsSettledBut e (Node l.to)
    pub active : is_active e.engaged (Node l.to) ≡ true

  module _ (settled : IsSettledBut d Neutral) (found : letter_of d k ≡ Some l) where
    letters_owed : (p : Parent) → count_by (λ (x : ℕ × Letter P). same_parent p x.1.from) rest + hit p l.from ≡ count_by (λ x. same_parent p x.1.from) d.letters
    letters_owed p = sum_by-filter_number 0 d.letters d.sent k l settled.numbers found (λ x. cond {A = ℕ} (same_parent p x.1.from) 1 0)

    letters_left : length rest + 1 ≡ length d.letters
    letters_left = length-filter_number 0 d.letters d.sent k l settled.numbers found

    sender_active : is_active d.engaged l.from ≡ true
    sender_active = active_owed d Neutral settled l.from (omega (arith, letters_owed l.from, hit-self l.from))

    owed-acknowledged : KeepsOwed d acknowledged
    owed-acknowledged = record {
      deficits = λ p. omega (arith, letters_owed p, sum_by_push (λ q. cond {A = ℕ} (same_parent p q) 1 0) d.signals l.from);
      amount = omega (arith, letters_left, length-append d.signals (l.from ∷ []));
      sent = refl;
    }

    received-acknowledged : fin.contains_key d.engaged l.to ≡ true → IsReceived acknowledged
    received-acknowledged engaged = record {
      owed = owed-acknowledged;
      letters = refl;
      settled = record {
        busy = λ n apart there.
            omega (arith, owed-acknowledged.deficits (Node n), settled.busy n (λ e. cc) there);
        idle = λ p idle. owed-acknowledged.deficits p ∙ settled.idle p idle;
        tree = settled.tree;
        numbers = numbered-filter _ 0 d.letters d.sent settled.numbers;
        one_each = omega (arith, owed-acknowledged.amount, settled.one_each);
      };
      active = engaged;
    }

    module _ (neutral : fin.contains_key d.engaged l.to ≡ false) where
      none : fin.get d.engaged l.to ≡ None
      none = none_there d.engaged l.to neutral

      owed-engages : KeepsOwed d engages
      owed-engages = record {
        deficits = λ p. omega (arith, letters_owed p, count-insert (same_parent p) l.to l.from d.engaged none);
        amount = omega (arith, letters_left, len-insert_new d.engaged l.to l.from none);
        sent = refl;
      }

      received-engages : IsReceived engages
      received-engages = record {
        owed = owed-engages;
        letters = refl;
        settled = record {
          busy = λ n apart there.
              let was : fin.contains_key d.engaged n ≡ true = sym (ap is_some (get-insert_other d.engaged l.to l.from n (λ e. apart (ap Node (sym e))))) ∙ there in
              omega (arith, owed-engages.deficits (Node n), settled.busy n (λ e. cc) was);
          idle = λ p idle.
              owed-engages.deficits p
              ∙ settled.idle p (false_from_ne_true (is_active d.engaged p) (λ was. cc (active-insert d.engaged l.to l.from p was)));
          tree = grown settled.tree l.to l.from none sender_active (fin.insert d.engaged l.to l.from) refl;
          numbers = numbered-filter _ 0 d.letters d.sent settled.numbers;
          one_each = omega (arith, owed-engages.amount, settled.one_each);
        };
        active = ap is_some (get-insert_same d.engaged l.to l.from);
      }

    pub received : IsReceived (receives d k l)
    received =
        elim (fin.contains_key d.engaged l.to) as (λ b. fin.contains_key d.engaged l.to ≡ b → IsReceived (cond b acknowledged engages)) [
          | true ↦ λ engaged. received-acknowledged engaged
          | false ↦ λ neutral. received-engages neutral
        ] refl

-- letters are sent
module _ {P : Type 0} (d : Computation P) (from : Parent) (outs : List (ℕ × P)) where
  pub deficit-sends : (p : Parent) → deficit (sends d from outs) p ≡ deficit d p + cond (same_parent p from) (length outs) 0
  deficit-sends p =
      omega (arith, sum_by-append (λ (l : ℕ × Letter P). cond {A = ℕ} (same_parent p l.1.from) 1 0) d.letters (numbered from (d.sent + 1) outs), count-numbered from p (d.sent + 1) outs)

  pub outstanding-sends : outstanding (sends d from outs) ≡ outstanding d + length outs
  outstanding-sends = omega (arith, length-append d.letters (numbered from (d.sent + 1) outs), length-numbered from (d.sent + 1) outs)

  pub settled_sends : is_active d.engaged from ≡ true → (x : Parent) → IsSettledBut d x → IsSettledBut (sends d from outs) x
  settled_sends active x settled = record {
    busy = λ n apart engaged. omega (arith, deficit-sends (Node n), settled.busy n apart engaged);
    idle = λ p idle.
        let other = same_parent-other p from (λ e. cc) in
        deficit-sends p ∙ ap (λ b. deficit d p + cond b (length outs) 0) other ∙ omega (arith, settled.idle p idle);
    tree = settled.tree;
    numbers = numbered-append 0 d.letters d.sent _ _ settled.numbers (numbered_rise from d.sent outs);
    one_each = omega (arith, outstanding-sends, settled.one_each);
  }

-- what settling leaves
pub record IsSettled {P : Type 0} (d e : Computation P) : Type 0 where
  pub owed : KeepsOwed d e
  pub letters : e.letters ≡ d.letters
  pub settled : IsSettledBut e Neutral

-- where nothing is to be done
unsettled : {P : Type 0} (d : Computation P) → IsSettledBut d Neutral → IsSettled d d
unsettled d settled = record { owed = record { deficits = λ p. refl; amount = refl; sent = refl }; letters = refl; settled = settled }

-- an engaged node that is owed nothing is let go
module _ {P : Type 0} (d : Computation P) (n : ℕ) (by : Parent) (settled : IsSettledBut d (Node n)) (engaged : fin.get d.engaged n ≡ Some by) where
  abbrev pub let_go : Computation P
  let_go = record d { signals = d.signals ++ by ∷ []; engaged = fin.remove d.engaged n }

  owed-let_go : KeepsOwed d let_go
  owed-let_go = record {
    deficits = λ p. omega (arith, sum_by_push (λ q. cond {A = ℕ} (same_parent p q) 1 0) d.signals by, count-remove (same_parent p) n by d.engaged engaged);
    amount = omega (arith, length-append d.signals (by ∷ []), len-remove_old d.engaged n by engaged);
    sent = refl;
  }

  settled-let_go : deficit d (Node n) ≡ 0 → IsSettled d let_go
  settled-let_go nothing = record {
    owed = owed-let_go;
    letters = refl;
    settled = record {
      busy = λ m apart there.
          one_or_other m n
          (λ one. absurd (cc (ap is_some (get-remove_same d.engaged n))))
          (λ other. omega (arith, owed-let_go.deficits (Node m), settled.busy m (λ e. other (cc)) (sym (ap is_some (get-remove_other d.engaged n m other)) ∙ there)));
      idle = λ p idle.
          owed-let_go.deficits p
          ∙ elim (is_active d.engaged p) as (λ b. is_active d.engaged p ≡ b → deficit d p ≡ 0) [
            | true ↦ λ was. elim (same_parent p (Node n)) as (λ b. same_parent p (Node n) ≡ b → deficit d p ≡ 0) [
              | true ↦ λ same. ap (deficit d) (same_true p (Node n) same) ∙ nothing
              | false ↦ λ apart. absurd (cc (active-remove d.engaged n p (λ e. cc (ap (λ q. same_parent q (Node n)) e, same_parent-self (Node n))) was))
            ] refl
            | false ↦ λ was. settled.idle p was
          ] refl;
      tree = tree_remove settled.tree n (ap is_some engaged) (omega (arith, nothing));
      numbers = settled.numbers;
      one_each = omega (arith, owed-let_go.amount, settled.one_each);
    };
  }

-- a node settles, where that one engaged it
abbrev pub settles_under : {P : Type 0} → Computation P → ℕ → Option Parent → Computation P
settles_under d n None = d
settles_under d n (Some by) = if deficit d (Node n) == 0 then record d { signals = d.signals ++ by ∷ []; engaged = fin.remove d.engaged n } else d

module _ {P : Type 0} (d : Computation P) (n : ℕ) where
  engaged_by : (o : Option Parent) → (if is_some o && (deficit d (Node n) == 0) then record d { signals = d.signals ++ unwrap_or o Neutral ∷ []; engaged = fin.remove d.engaged n } else d) ≡ settles_under d n o
  engaged_by None = refl
  engaged_by (Some by) = refl

  pub settles_is : settles d (Node n) ≡ settles_under d n (fin.get d.engaged n)
  settles_is = engaged_by (fin.get d.engaged n)

-- whoever may have come to be owed nothing settles
module _ {P : Type 0} (d : Computation P) where
  -- where every engaged node is owed something
  all_busy : (x : Parent) → IsSettledBut d x → ((n : ℕ) → fin.contains_key d.engaged n ≡ true → 0 < deficit d (Node n)) → IsSettled d d
  all_busy x settled busy =
      unsettled d (record {
        busy = λ n _ there. busy n there;
        idle = settled.idle;
        tree = settled.tree;
        numbers = settled.numbers;
        one_each = settled.one_each;
      })

  settled-settles_under : (n : ℕ) → IsSettledBut d (Node n) → (o : Option Parent) → fin.get d.engaged n ≡ o → IsSettled d (settles_under d n o)
  settled-settles_under n settled None gone = all_busy (Node n) settled (λ m there. settled.busy m (λ e. cc) there)
  settled-settles_under n settled (Some by) engaged =
      elim (deficit d (Node n) == 0) as (λ b. (deficit d (Node n) == 0) ≡ b → IsSettled d (cond b (let_go d n by settled engaged) d)) [
        | true ↦ λ nothing. settled-let_go d n by settled engaged (exact_unsigned_eq (deficit d (Node n)) 0 nothing)
        | false ↦ λ something. all_busy (Node n) settled (λ m there. one_or_other m n
            (λ one. subst (λ k. 0 < deficit d (Node k)) (sym one) (omega (arith, eqb-false (deficit d (Node n)) 0 something)))
            (λ other. settled.busy m (λ e. other (cc)) there))
      ] refl

  pub settled-settles : (x : Parent) → IsSettledBut d x → IsSettled d (settles d x)
  settled-settles Neutral settled = unsettled d settled
  settled-settles Environment settled = all_busy Environment settled (λ n there. settled.busy n (λ e. cc) there)
  settled-settles (Node n) settled = subst (IsSettled d) (sym (settles_is d n)) (settled-settles_under n settled (fin.get d.engaged n) refl)
