-- What the calls of the table keep
use Rattle.std.proofs.Common.{◌≡◌, ℕ, suc, ◌+◌, ◌-◌, ◌<◌, ◌≤◌, true, false, not, List, [], ◌∷◌, ◌++◌, ◌⊎◌, inl, inr, Option, Some, None, filter, length, max, min, take, is_some, refl, sym, ap, ◌∙◌, subst, arith, add-one, length-append}
use Rattle.std.specs.List.{slice_get}
use Rattle.std.specs.Option.{is_none}
use Rattle.std.proofs.lemmas.List.{append-nil, take-append-le, take_all}
use Rattle.std.proofs.lemmas.Option.{slice_get_within}
use Rattle.scholten_core.specs.declared.letters.Letter.{Letter}
use Rattle.scholten_core.specs.Sound.{IsNumbered}
use Rattle.scholten_core.specs.LetterTable.{set_value_at, IsTable, count, does_wait, standing}
use Rattle.scholten_core.proofs.Standing.{one, count-append, count-le-length, count-set, count-take, count-take-le, count-take-pop, count-take-same, count-take-set, count-take-suc, either_way, holes-full, take-set_value, waits-full, waits_full, length-numbered_le, length-set_value, numbered-front, numbered-set_value, standing-append}
use Rattle.scholten_core.proofs.Lists.{numbered-append, numbered-filter}

module _ {P : Type 0} (sent waits holes first last : ℕ) (es : List (ℕ × Option (Letter P))) (is : IsTable sent waits holes first last es) where
  pub waits-le-sent : waits ≤ sent
  waits-le-sent = omega (arith, is.waiting, count-le-length does_wait es, length-numbered_le 0 es sent is.numbers)

  pub holes-le-length : holes ≤ length es
  holes-le-length = omega (arith, is.gone, count-le-length is_none es)

  pub holes-le-sent : holes ≤ sent
  holes-le-sent = omega (arith, holes-le-length, length-numbered_le 0 es sent is.numbers)

  -- a letter is sent
  pub pushed : (o : Option (Letter P)) → does_wait o ≡ true → IsTable (sent + 1) (waits + 1) holes first (length (es ++ (sent + 1, o) ∷ [])) (es ++ (sent + 1, o) ∷ [])
  pushed o waiting =
      let added : List (ℕ × Option (Letter P)) = (sent + 1, o) ∷ [] in
      let more : List (ℕ × Option (Letter P)) = es ++ added in
      let counts : one (does_wait o) ≡ 1 = ap one waiting in
      let full = waits_full o waiting in
      let all : take (length more) more ≡ more = take_all (length more) more (omega arith) in
      record {
        numbers = numbered-append 0 es sent added (sent + 1) is.numbers (omega arith, omega arith);
        waiting = omega (arith, is.waiting, count-append does_wait es added, counts);
        gone = omega (arith, is.gone, count-append is_none es added, full);
        before = ap (count does_wait) (take-append-le first es added is.within_first) ∙ is.before;
        all = ap (count does_wait) all ∙ omega (arith, is.waiting, count-append does_wait es added, counts);
        within_first = omega (arith, is.within_first, length-append es added);
        within_last = omega arith;
      }

  -- the holes are dropped
  pub dropped : IsTable sent waits 0 0 (length (filter (λ e. is_some e.1) es)) (filter (λ e. is_some e.1) es)
  dropped =
      let full = filter (λ (e : ℕ × Option (Letter P)). is_some e.1) es in
      record {
        numbers = numbered-filter (λ e. is_some e.1) 0 es sent is.numbers;
        waiting = is.waiting ∙ sym (waits-full es);
        gone = sym (holes-full es);
        before = refl;
        all = ap (count does_wait) (take_all (length full) full (omega arith)) ∙ waits-full es ∙ sym is.waiting;
        within_first = omega arith;
        within_last = omega arith;
      }

  module _ (at k : ℕ) (l : Letter P) (there : slice_get es at ≡ Some (k, Some l)) where
    inside : at < length es
    inside = slice_get_within es at (k, Some l) there

    -- a waiting letter is taken; the ends move to it, or stay
    pub taken : (place : ℕ) → count does_wait (take at es) ≡ place → not l.held ≡ true → (low high : ℕ) → (low ≡ first) ⊎ ((low ≡ at + 1) × (place ≡ 0)) → (high ≡ last) ⊎ ((high ≡ at) × (place + 1 ≡ waits)) → IsTable sent (waits - 1) holes low high (set_value_at es at (Some (record l { held = true })))
    taken place place_is waiting low high low_is high_is =
        let now = Some (record l { held = true }) in
        let before : one (does_wait (Some l)) ≡ 1 = ap one waiting in
        let size = length-set_value es at now in
        let counted = count-set does_wait es at k (Some l) now there in
        record {
          numbers = numbered-set_value 0 es sent at now is.numbers;
          waiting = omega (arith, is.waiting, counted, before);
          gone = omega (arith, is.gone, count-set is_none es at k (Some l) now there);
          before = elim low_is [
            | inl same ↦ ap (λ n. count does_wait (take n (set_value_at es at now))) same ∙ first_stays
            | inr moved ↦ ap (λ n. count does_wait (take n (set_value_at es at now))) moved.0 ∙ past ∙ place_is ∙ moved.1
          ];
          all = elim high_is [
            | inl same ↦ ap (λ n. count does_wait (take n (set_value_at es at now))) same ∙ last_stays
            | inr moved ↦ ap (λ n. count does_wait (take n (set_value_at es at now))) moved.0 ∙ here ∙ omega (arith, place_is, moved.1)
          ];
          within_first = elim low_is [
            | inl same ↦ omega (arith, same, is.within_first, size)
            | inr moved ↦ omega (arith, moved.0, inside, size)
          ];
          within_last = elim high_is [
            | inl same ↦ omega (arith, same, is.within_last, size)
            | inr moved ↦ omega (arith, moved.0, inside, size)
          ];
        }
      where
        here : count does_wait (take at (set_value_at es at (Some (record l { held = true })))) ≡ count does_wait (take at es)
        here = ap (count does_wait) (take-set_value at at es (Some (record l { held = true })) (omega arith))

        counts : one (does_wait (Some l)) ≡ 1
        counts = ap one waiting

        past : count does_wait (take (at + 1) (set_value_at es at (Some (record l { held = true })))) ≡ count does_wait (take at es)
        past =
            rw add-one (omega (arith, counts, count-take-suc does_wait at es (k, Some l) there, count-take-set does_wait (suc at) es at k (Some l) (Some (record l { held = true })) (omega arith) there))

        all_there : count does_wait (take at es) + 1 ≤ waits
        all_there =
            omega (arith, is.waiting, counts, count-take-set does_wait (suc at) es at k (Some l) None (omega arith) there, count-take does_wait (suc at) es, count-take-le does_wait at (suc at) (set_value_at es at None) (omega arith), ap (count does_wait) (take-set_value at at es None (omega arith)))

        first_stays : count does_wait (take first (set_value_at es at (Some (record l { held = true })))) ≡ 0
        first_stays =
            either_way first at
            (λ less. ap (count does_wait) (take-set_value first at es (Some (record l { held = true })) less) ∙ is.before)
            (λ more. absurd (omega (arith, is.before, counts, count-take-set does_wait first es at k (Some l) (Some (record l { held = true })) more there)))

        last_stays : count does_wait (take last (set_value_at es at (Some (record l { held = true })))) ≡ waits - 1
        last_stays =
            either_way last at
            (λ less. absurd (omega (arith, is.all, all_there, count-take-le does_wait last at es less)))
            (λ more. omega (arith, is.all, counts, count-take-set does_wait last es at k (Some l) (Some (record l { held = true })) more there))

    -- a held letter waits again
    pub put_back : l.held ≡ true → IsTable sent (waits + 1) holes (min first at) (max last (at + 1)) (set_value_at es at (Some (record l { held = false })))
    put_back held =
        let now = Some (record l { held = false }) in
        let counts : one (does_wait (Some l)) ≡ 0 = ap (λ b. one (not b)) held in
        let size = length-set_value es at now in
        let low = min first at in
        let high = max last (at + 1) in
        let counted = count-set does_wait es at k (Some l) now there in
        let stays = ap (count does_wait) (take-set_value low at es now (omega arith)) in
        let moves = count-take-set does_wait high es at k (Some l) now (omega arith) there in
        record {
          numbers = numbered-set_value 0 es sent at now is.numbers;
          waiting = omega (arith, is.waiting, counted, counts);
          gone = omega (arith, is.gone, count-set is_none es at k (Some l) now there);
          before = omega (arith, stays, is.before, count-take-le does_wait low first es (omega arith));
          all = omega (arith, moves, counts, is.all, is.waiting, count-take-le does_wait last high es (omega arith), count-take does_wait high es);
          within_first = omega (arith, is.within_first, size);
          within_last = omega (arith, is.within_last, size, inside);
        }

    -- a held letter is finished
    pub left_hole : l.held ≡ true → IsTable sent waits (holes + 1) first last (set_value_at es at None)
    left_hole held =
        let counts : one (does_wait (Some l)) ≡ 0 = ap (λ b. one (not b)) held in
        let size = length-set_value es at None in
        record {
          numbers = numbered-set_value 0 es sent at None is.numbers;
          waiting = omega (arith, is.waiting, count-set does_wait es at k (Some l) None there, counts);
          gone = omega (arith, is.gone, count-set is_none es at k (Some l) None there);
          before = count-take-same does_wait first es at k (Some l) None there counts ∙ is.before;
          all = count-take-same does_wait last es at k (Some l) None there counts ∙ is.all;
          within_first = omega (arith, is.within_first, size);
          within_last = omega (arith, is.within_last, size);
        }

-- the last entry, a hole, is popped
module _ {P : Type 0} (es front : List (ℕ × Option (Letter P))) (k : ℕ) (is : es ≡ front ++ (k, None) ∷ []) where
  pub standing-popped : standing front ≡ standing es
  standing-popped = sym (ap standing is ∙ standing-append front ((k, None) ∷ []) ∙ append-nil (standing front))

  pub numbered-popped : (sent : ℕ) → IsNumbered 0 es sent → IsNumbered 0 front sent
  numbered-popped sent numbers = numbered-front 0 front ((k, None) ∷ []) sent (subst (λ xs. IsNumbered 0 xs sent) is numbers)

  pub waits-popped : count does_wait es ≡ count does_wait front
  waits-popped = omega (arith, ap (count does_wait) is, count-append does_wait front ((k, None) ∷ []))

  pub holes-popped : count is_none es ≡ count is_none front + 1
  holes-popped = omega (arith, ap (count is_none) is, count-append is_none front ((k, None) ∷ []))

  pub take-popped : (n : ℕ) → count does_wait (take n front) ≡ count does_wait (take n es)
  take-popped n = count-take-pop does_wait n front (k, None) refl ∙ ap (λ xs. count does_wait (take n xs)) (sym is)

-- the ends are cut to the length
pub cut_ends : {P : Type 0} (sent waits holes first last : ℕ) (es : List (ℕ × Option (Letter P))) → IsNumbered 0 es sent → waits ≡ count does_wait es → holes ≡ count is_none es → count does_wait (take first es) ≡ 0 → count does_wait (take last es) ≡ waits → IsTable sent waits holes (min first (length es)) (min last (length es)) es
cut_ends sent waits holes first last es numbers waiting gone before all = record {
  numbers = numbers;
  waiting = waiting;
  gone = gone;
  before = omega (arith, before, count-take-le does_wait (min first (length es)) first es (omega arith));
  all = either_way last (length es)
      (λ within. let same : min last (length es) ≡ last = omega (arith, within) in ap (λ n. count does_wait (take n es)) same ∙ all)
      (λ beyond. ap (count does_wait) (take_all (min last (length es)) es (omega (arith, beyond))) ∙ sym waiting);
  within_first = omega arith;
  within_last = omega arith;
}
