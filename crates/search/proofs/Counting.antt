-- Each ask stands once and the letters are counted, where more is asked, heard and found.
use Rattle.std.proofs.Common.{ℕ, ◌+◌, ◌≡◌, ◌==◌, ◌⊎◌, inl, inr, sym, subst, cond, List, [], ◌∷◌, ◌++◌, length, arith}
use Rattle.std.specs.List.{Contains, filter, sum_by, AllZip}
use Rattle.std.proofs.lemmas.List.{length-append, append_assoc}
use Rattle.std.proofs.lemmas.List.Sums.{sum_by-append, sum_by-cons}
use Rattle.std.proofs.lemmas.List.Elements.{Contains-append_left, Contains-append_right, Contains-append_cases}
use Rattle.rt0_rules.specs.Work.{AreDistinct}
use Rattle.rt0_rules.specs.Letters.{NodeAsk}
use Rattle.rt0_rules.proofs.Elements.{Contains-none, Contains-first, Contains-later, Contains-cons_cases}
use Rattle.rt0_rules.proofs.Distinct.{AreDistinct-append}
use Rattle.rt0_rules.proofs.LetterSteps.{letters_asked, letters_solved}
use Rattle.search.specs.Search.{IsCountedBy}

-- an element of a list with one taken to another place is one of the list
pub Contains-moved : {X : Type 0} (xs ys zs : List X) (x y : X) → Contains (xs ++ (y ∷ (ys ++ zs))) x → Contains (xs ++ (ys ++ (y ∷ zs))) x
Contains-moved xs ys zs x y has =
    elim (Contains-append_cases xs (y ∷ (ys ++ zs)) x has) [
      | inl before ↦ Contains-append_left xs (ys ++ (y ∷ zs)) x before
      | inr behind ↦ Contains-append_right xs (ys ++ (y ∷ zs)) x (elim (Contains-cons_cases y (ys ++ zs) x behind) [
        | inl same ↦ Contains-append_right ys (y ∷ zs) x (subst (Contains (y ∷ zs)) same (Contains-first y zs))
        | inr later ↦ elim (Contains-append_cases ys zs x later) [
          | inl first ↦ Contains-append_left ys (y ∷ zs) x first
          | inr last ↦ Contains-append_right ys (y ∷ zs) x (Contains-later y zs x last)
        ]
      ])
    ]

-- a list without repeats has none where one is taken to its front
AreDistinct-to_front : {X : Type 0} (ys zs : List X) (y : X) → AreDistinct (ys ++ (y ∷ zs)) → AreDistinct (y ∷ (ys ++ zs))
AreDistinct-to_front [] zs y distinct = distinct
AreDistinct-to_front (x ∷ ys) zs y distinct =
    let rest : AreDistinct (y ∷ (ys ++ zs)) = AreDistinct-to_front ys zs y distinct.1 in (
      (λ has. elim (Contains-cons_cases x (ys ++ zs) y has) [
        | inl same ↦ distinct.0 (Contains-append_right ys (y ∷ zs) x (subst (λ w. Contains (y ∷ zs) w) (sym same) (Contains-first y zs)))
        | inr later ↦ rest.0 later
      ]),
      ((λ has. distinct.0 (Contains-moved [] ys zs x y (Contains-later y (ys ++ zs) x has))), rest.1),
    )

pub AreDistinct-moved : {X : Type 0} (xs ys zs : List X) (y : X) → AreDistinct (xs ++ (ys ++ (y ∷ zs))) → AreDistinct (xs ++ (y ∷ (ys ++ zs)))
AreDistinct-moved [] ys zs y distinct = AreDistinct-to_front ys zs y distinct
AreDistinct-moved (x ∷ xs) ys zs y distinct = ((λ has. distinct.0 (Contains-moved xs ys zs x y has)), AreDistinct-moved xs ys zs y distinct.1)

-- lists one by one related, where the relation tells the first ones apart
pub AreDistinct-zipped : {X Y : Type 0} (R : X → Y → Type 0) → ((x z : X) (y : Y) → R x y → R z y → x ≡ z) → (xs : List X) (ys : List Y) →
    AllZip R xs ys → AreDistinct xs → AreDistinct ys
AreDistinct-zipped R apart [] [] all distinct = tt
AreDistinct-zipped R apart (x ∷ xs) (y ∷ ys) all distinct =
    let from = zip_found R xs ys all.1 in (
      (λ has. let (z, among, related) = from y has in distinct.0 (subst (Contains xs) (apart z x y related all.0) among)),
      AreDistinct-zipped R apart xs ys all.1 distinct.1,
    )
  where
    zip_found : {X Y : Type 0} (R : X → Y → Type 0) (xs : List X) (ys : List Y) → AllZip R xs ys → (y : Y) → Contains ys y → (x : X) × Contains xs x × R x y
    zip_found R [] [] all y has = absurd (Contains-none y has)
    zip_found R [] (z ∷ ys) all y has = absurd all
    zip_found R (x ∷ xs) [] all y has = absurd all
    zip_found R (x ∷ xs) (z ∷ ys) all y has =
        elim (Contains-cons_cases z ys y has) [
          | inl same ↦ (x, Contains-first x xs, subst (R x) same all.0)
          | inr later ↦ let (w, among, related) = zip_found R xs ys all.1 y later in (w, Contains-later x xs w among, related)
        ]
AreDistinct-zipped R apart _ _ all distinct = absurd all

module _ {may_ask : NodeAsk → Type 0} {members : ℕ → List (List ℕ)} {listeners pending : List NodeAsk} {sent : ℕ} (counted : IsCountedBy may_ask members listeners pending sent) where
  -- whoever might ask may still
  pub counted_stays : {more : NodeAsk → Type 0} → ((a : NodeAsk) → may_ask a → more a) → IsCountedBy more members listeners pending sent
  counted_stays stays = record { distinct = counted.distinct; askers = λ a has. stays a (counted.askers a has); total = counted.total }

  -- more is asked, by some that might not ask so far
  pub counted_asked : (asks : List NodeAsk) → AreDistinct asks → ((a : NodeAsk) → Contains asks a → may_ask a → ⊥) →
      IsCountedBy (λ a. may_ask a ⊎ Contains asks a) members listeners (pending ++ asks) (sent + length asks)
  counted_asked asks distinct fresh = record {
    distinct = subst AreDistinct (append_assoc listeners pending asks)
        (AreDistinct-append (listeners ++ pending) asks counted.distinct distinct (λ a old new. fresh a new (counted.askers a old)));
    askers = λ a has. elim (Contains-append_cases (listeners ++ pending) asks a (subst (λ l. Contains l a) (sym (append_assoc listeners pending asks)) has)) [
      | inl old ↦ inl (counted.askers a old)
      | inr new ↦ inr new
    ];
    total = omega (arith, counted.total, letters_asked members listeners pending asks);
  }

  -- a node has one more member, and its listeners are told
  pub counted_solved : (after : ℕ → List (List ℕ)) (n : ℕ) → ((m : ℕ) → length (after m) ≡ length (members m) + cond (m == n) 1 0) →
      IsCountedBy may_ask after listeners pending (sent + length (filter (λ a. a.asked == n) listeners))
  counted_solved after n one_more = record {
    distinct = counted.distinct;
    askers = counted.askers;
    total = omega (arith, counted.total, letters_solved members after listeners pending n one_more);
  }

-- an ask that was under way is heard, and its asker is told the members that are known
pub counted_heard : {may_ask : NodeAsk → Type 0} {members : ℕ → List (List ℕ)} {sent : ℕ} (before after xs ys : List NodeAsk) (a : NodeAsk) →
    IsCountedBy may_ask members (before ++ after) (xs ++ (a ∷ ys)) sent →
    IsCountedBy may_ask members (before ++ (a ∷ after)) (xs ++ ys) (sent + length (members a.asked))
counted_heard {may_ask = may_ask} {members = members} {sent = sent} before after xs ys a counted = record {
  distinct = subst AreDistinct joined (AreDistinct-moved before (after ++ xs) ys a (subst AreDistinct parted counted.distinct));
  askers = λ b has. counted.askers b (subst (λ l. Contains l b) (sym parted) (Contains-moved before (after ++ xs) ys b a (subst (λ l. Contains l b) (sym joined) has)));
  total = omega (arith, counted.total, lengths, tells);
}
  where
    parted : (before ++ after) ++ (xs ++ (a ∷ ys)) ≡ before ++ ((after ++ xs) ++ (a ∷ ys))
    parted = simp append_assoc

    joined : before ++ (a ∷ ((after ++ xs) ++ ys)) ≡ (before ++ (a ∷ after)) ++ (xs ++ ys)
    joined = simp append_assoc

    lengths : length (before ++ (a ∷ after)) + length (xs ++ ys) ≡ length (before ++ after) + length (xs ++ (a ∷ ys))
    lengths = simp length-append (omega arith)

    tells : sum_by (λ (b : NodeAsk). length (members b.asked)) (before ++ (a ∷ after)) ≡ sum_by (λ (b : NodeAsk). length (members b.asked)) (before ++ after) + length (members a.asked)
    tells = simp (sum_by-append, sum_by-cons) (omega arith)
