-- Each step keeps the rule.
use Rattle.std.proofs.Common.{◌≡◌, ◌≢◌, ◌⊎◌, ◌==◌, ℕ, zero, suc, ◌<◌, ◌+◌, List, [], ◌∷◌, ◌++◌, length, set, Bool, true, false, cond, true≢false, refl, sym, ap, ◌∙◌, subst, arith, inl, inr, ⊎_elim}
use Rattle.std.proofs.lemmas.Bool.Decides.{eqb_tells}
use mathlib.Core.Option.{none, some, some-ne-none, some-injective}
use mathlib.Core.List.{IsPrefix}
use lib.ListN.{get_elem?}
use Rattle.atomic_table.specs.Table.{State, Me, Step, keeps, step, Allows, Splits, Joins}
use Rattle.atomic_table.proofs.Lists.{at_set}
use Rattle.pool.specs.declared.turns.Item.{Item}
use Rattle.pool.specs.declared.seats.Knows.{Knows}
use Rattle.pool.specs.Histories.{name_of, own_of}
use Rattle.pool.specs.Rules.{keeper, adds_under, Fits, IsKept, Adds}
use Rattle.pool.proofs.Named.{own_other}
use Rattle.pool.proofs.Prefixes.{prefix_self, prefix_trans}

-- a seat that knows nothing any more
abbrev pub gone : Knows
gone = record { keeps = false; drawn = 0; all = []; named = false; name = 0; seen = [] }

-- a seat that adds under no name from now on
abbrev pub unnamed : Knows → Knows
unnamed v = record v { named = false; name = 0; seen = [] }

abbrev pub rule : State ℕ Knows → Type 0
rule s = IsKept s.views

-- all seats fit after one was changed
fits_set : (F : ℕ → Knows → Type 0) (views : List Knows) (by : ℕ) (w : Knows) →
    ((j : ℕ) (u : Knows) → j ≢ by → get_elem? views j ≡ some u → F j u) → F by w →
    (j : ℕ) (u : Knows) → get_elem? (set views by w) j ≡ some u → F j u
fits_set F views by w others mine j u e =
    ⊎_elim
    (λ (x : (j ≡ by) × (w ≡ u)). subst (λ (y : ℕ × Knows). F y.0 y.1) (λ i. (sym x.0 i, x.1 i)) mine)
    (λ (x : (j ≢ by) × (get_elem? views j ≡ some u)). others j u x.0 x.1)
    (at_set views by j w u e)

off : false ≡ true → ⊥
off e = true≢false (sym e)

nothing : (xs : List Item) → IsPrefix [] xs
nothing xs = (xs, refl)

-- the last seat has the last number
at_end : (l : List Knows) (a b : Knows) (j : ℕ) → get_elem? (l ++ a ∷ []) j ≡ some b → (get_elem? l j ≡ some b) ⊎ ((j ≡ length l) × (a ≡ b))
at_end [] a b zero e = inr (refl, some-injective a b e)
at_end [] a b (suc j) e = absurd (some-ne-none b (sym e))
at_end (x ∷ xs) a b zero e = inl e
at_end (x ∷ xs) a b (suc j) e = ⊎_elim (λ was. inl was) (λ t. inr (ap suc t.0, t.1)) (at_end xs a b j e)

pub begins : IsKept (keeper 0 [] ∷ [])
begins = (0, 0, [], (λ _. 0), one)
  where
    one : (by : ℕ) (v : Knows) → get_elem? (keeper 0 [] ∷ []) by ≡ some v → Fits 0 0 [] (λ _. 0) by v
    one zero v e = subst (Fits 0 0 [] (λ _. 0) 0) (some-injective _ _ e) ((λ _. (refl, refl, refl)), (λ n. absurd (off n)), nothing [])
    one (suc by) v e = absurd (some-ne-none v (sym e))

-- a seat of which nothing is said
fits_gone : (seat drawn : ℕ) (history : List Item) (owner : ℕ → ℕ) (by : ℕ) → Fits seat drawn history owner by gone
fits_gone seat drawn history owner by = ((λ k. absurd (off k)), (λ n. absurd (off n)), nothing history)

-- the owners of names, where one is given to a seat
given : ℕ → ℕ → (ℕ → ℕ) → ℕ → ℕ
given name by owner n = cond (n == name) by (owner n)

given_same : (name by : ℕ) (owner : ℕ → ℕ) (n : ℕ) → n ≡ name → by ≡ given name by owner n
unfolding given
given_same name by owner n is =
    let bit : (n == name) ≡ true = elim (eqb_tells n name) [ inl e ↦ e.0 | inr e ↦ absurd (e.1 is) ] in sym (ap (λ (b : Bool). cond b by (owner n)) bit)

given_other : (name by : ℕ) (owner : ℕ → ℕ) (n : ℕ) → n ≢ name → owner n ≡ given name by owner n
unfolding given
given_other name by owner n other =
    let bit : (n == name) ≡ false = elim (eqb_tells n name) [ inl e ↦ absurd (other e.1) | inr e ↦ e.0 ] in sym (ap (λ (b : Bool). cond b by (owner n)) bit)

-- a seat keeps its name where another name is given away
fits_given : (seat drawn : ℕ) (history : List Item) (owner : ℕ → ℕ) (name to : ℕ) (j : ℕ) (u : Knows) → (u.named ≡ true → u.name ≢ name) →
    Fits seat drawn history owner j u → Fits seat drawn history (given name to owner) j u
fits_given seat drawn history owner name to j u apart fits = (
  fits.0,
  (λ n. let has = fits.1 n in (has.0, has.1 ∙ given_other name to owner u.name (apart n), has.2)),
  fits.2,
)

pub adds : (by : ℕ) (v : Knows) (slots : ℕ) (f : ℕ → ℕ) (i : Item) → v.keeps ≡ true → v.named ≡ true → name_of i ≡ v.name →
    Allows rule slots by (v, []) 0 f (Adds i (step slots 0 0 0 none) (v, []))
adds by v slots f i knows named own s (seat, drawn, history, owner, fits) homes at word =
    let mine = fits by v at in
    let known = mine.0 knows in
    let has = mine.1 named in
    let more : List Item = history ++ i ∷ [] in
    let whole : v.all ++ i ∷ [] ≡ more = ap (λ l. l ++ i ∷ []) known.2 in
    let w : Knows = record v { all = v.all ++ i ∷ []; seen = v.all ++ i ∷ [] } in (
      w,
      keeps,
      tt,
      (
        seat,
        drawn,
        more,
        owner,
        fits_set (Fits seat drawn more owner) s.views by w
            (λ j u apart e. let theirs = fits j u e in (
              (λ k. absurd (apart ((theirs.0 k).0 ∙ sym known.0))),
              (λ n. let has_too = theirs.1 n in (
                has_too.0,
                has_too.1,
                has_too.2
                    ∙ sym (own_other u.name history i (λ same. apart (has_too.1 ∙ ap owner (sym same ∙ own) ∙ sym has.1))),
              )),
              prefix_trans u.seen history more theirs.2 (i ∷ [], refl),
            )) (
              (λ _. (known.0, known.1, whole)),
              (λ _. (has.0, has.1, ap (own_of v.name) whole)),
              subst (λ l. IsPrefix l more) (sym whole) (prefix_self more),
            ),
      ),
      (
        refl,
        refl,
        subst (λ l. IsPrefix v.seen l) (sym known.2) mine.2,
        subst (λ n. v.name < n) (sym known.1) has.0,
        ap (own_of v.name) known.2 ∙ sym has.2,
      ),
    )

-- the keeper compares a beginning with all
abbrev pub Looks : Step ℕ → Me ℕ Knows → ℕ → Me ℕ Knows → Type 0
Looks s v found w = (w.0 ≡ record v.0 { seen = v.0.all }) × (w.1 ≡ v.1) × IsPrefix v.0.seen v.0.all

looks_idle : (by : ℕ) (v : Knows) (slots : ℕ) (f : ℕ → ℕ) → v.keeps ≡ true → v.named ≡ true →
    Allows rule slots by (v, []) 0 f (Looks (step slots 0 0 0 none) (v, []))
looks_idle by v slots f knows named s (seat, drawn, history, owner, fits) homes at word =
    let mine = fits by v at in
    let known = mine.0 knows in
    let has = mine.1 named in
    let w : Knows = record v { seen = v.all } in (
      w,
      keeps,
      tt,
      (
        seat,
        drawn,
        history,
        owner,
        fits_set (Fits seat drawn history owner) s.views by w (λ j u apart e. fits j u e)
            ((λ _. known), (λ _. (has.0, has.1, ap (own_of v.name) known.2)), subst (λ l. IsPrefix l history) (sym known.2) (prefix_self history)),
      ),
      (refl, refl, subst (λ l. IsPrefix v.seen l) (sym known.2) mine.2),
    )

pub looks : (by : ℕ) (me : Me ℕ Knows) (slots : ℕ) (f : ℕ → ℕ) → me.0.keeps ≡ true → me.0.named ≡ true → me.1 ≡ [] →
    Allows rule slots by me 0 f (Looks (step slots 0 0 0 none) me)
looks by me slots f knows named idle =
    subst (λ (c : List (ℕ × ℕ)). Allows rule slots by (me.0, c) 0 f (Looks (step slots 0 0 0 none) (me.0, c))) (sym idle) (looks_idle by me.0 slots f knows named)

-- a seat more, under a name that was not drawn before
pub draws : (by drawn : ℕ) (all : List Item) → Splits rule by (keeper drawn all) (keeper (drawn + 1) all) (adds_under drawn all)
draws by drawn all s (seat, n, history, owner, fits) at =
    let v : Knows = keeper drawn all in
    let w : Knows = keeper (drawn + 1) all in
    let known = (fits by v at).0 refl in
    let to : ℕ = length (set s.views by w) in
    let holders : ℕ → ℕ = given drawn to owner in (
      seat,
      n + 1,
      history,
      holders,
      λ j u e. ⊎_elim
          (λ was. fits_set (Fits seat (n + 1) history holders) s.views by w
          (λ i y apart e'. let theirs = fits i y e' in
          fits_given seat (n + 1) history owner drawn to i y
          (λ named same. let has = theirs.1 named in omega (arith, has.0, same, known.1)) (
            (λ k. absurd (apart ((theirs.0 k).0 ∙ sym known.0))),
            (λ named. let has = theirs.1 named in (omega (arith, has.0), has.1, has.2)),
            theirs.2,
          ))
          ((λ _. (known.0, ap (λ m. m + 1) known.1, known.2)), (λ named. absurd (off named)), nothing history)
          j u was)
          (λ same. subst (Fits seat (n + 1) history holders j) same.1 (
            (λ k. absurd (off k)),
            (λ _. (omega (arith, known.1), same.0 ∙ given_same drawn to owner drawn refl, ap (own_of drawn) known.2)),
            subst (λ l. IsPrefix l history) (sym known.2) (prefix_self history),
          ))
          (at_end (set s.views by w) (adds_under drawn all) u j e),
    )

-- the keeper takes a seat in, with its name
pub takes_in : (by drawn : ℕ) (all : List Item) (other name : ℕ) (seen : List Item) →
    Joins rule by (keeper drawn all) other (adds_under name seen) (record (keeper drawn all) { named = true; name = name; seen = seen }) gone
takes_in by drawn all other name seen s (seat, n, history, owner, fits) at apart there =
    let v : Knows = keeper drawn all in
    let w : Knows = record v { named = true; name = name; seen = seen } in
    let u : Knows = adds_under name seen in
    let known = (fits by v at).0 refl in
    let theirs = ⊎_elim (λ (t : (other ≡ by) × (w ≡ u)). absurd (apart t.0)) (λ (t : (other ≢ by) × (get_elem? s.views other ≡ some u)). fits other u t.1)
    (at_set s.views by other w u there) in
    let has = theirs.1 refl in
    let holders : ℕ → ℕ = given name by owner in
    let free : (j : ℕ) (y : Knows) → j ≢ other → get_elem? s.views j ≡ some y → y.named ≡ true → y.name ≢ name =
    λ j y else e named same. else (((fits j y e).1 named).1 ∙ ap owner same ∙ sym has.1) in
    let after : (j : ℕ) (y : Knows) → j ≢ other → get_elem? (set s.views by w) j ≡ some y → Fits seat n history holders j y =
    λ j y else e. ⊎_elim
    (λ (t : (j ≡ by) × (w ≡ y)). subst (λ (z : ℕ × Knows). Fits seat n history holders z.0 z.1) (λ i. (sym t.0 i, t.1 i))
    ((λ _. known), (λ _. (has.0, given_same name by owner name refl, has.2)), theirs.2))
    (λ (t : (j ≢ by) × (get_elem? s.views j ≡ some y)). fits_given seat n history owner name by j y (free j y else t.1) (fits j y t.1))
    (at_set s.views by j w y e) in
    (seat, n, history, holders, fits_set (Fits seat n history holders) (set s.views by w) other gone after (fits_gone seat n history holders other))

-- and lets it out again
pub lets_out : (by : ℕ) (v : Knows) → v.keeps ≡ true → v.named ≡ true → Splits rule by v (unnamed v) (adds_under v.name v.all)
lets_out by v knows named s (seat, n, history, owner, fits) at =
    let w : Knows = unnamed v in
    let mine = fits by v at in
    let known = mine.0 knows in
    let has = mine.1 named in
    let to : ℕ = length (set s.views by w) in
    let holders : ℕ → ℕ = given v.name to owner in (
      seat,
      n,
      history,
      holders,
      λ j u e. ⊎_elim
          (λ was. fits_set (Fits seat n history holders) s.views by w
          (λ i y apart e'. fits_given seat n history owner v.name to i y
          (λ holds same. apart (((fits i y e').1 holds).1 ∙ ap owner same ∙ sym has.1))
          (fits i y e'))
          ((λ _. known), (λ none. absurd (off none)), nothing history)
          j u was)
          (λ same. subst (Fits seat n history holders j) same.1 (
            (λ k. absurd (off k)),
            (λ _. (has.0, same.0 ∙ given_same v.name to owner v.name refl, ap (own_of v.name) known.2)),
            subst (λ l. IsPrefix l history) (sym known.2) (prefix_self history),
          ))
          (at_end (set s.views by w) (adds_under v.name v.all) u j e),
    )

-- the moves, at a seat that is known
pub draws_as : (by : ℕ) (v : Knows) → v ≡ keeper v.drawn v.all → Splits rule by v (record v { drawn = v.drawn + 1 }) (adds_under v.drawn v.all)
draws_as by v is = subst (λ (u : Knows). Splits rule by u (record u { drawn = u.drawn + 1 }) (adds_under u.drawn u.all)) (sym is) (draws by v.drawn v.all)

pub takes_in_as : (by : ℕ) (v : Knows) (other : ℕ) (u : Knows) → v ≡ keeper v.drawn v.all → u ≡ adds_under u.name u.seen →
    Joins rule by v other u (record v { named = u.named; name = u.name; seen = u.seen }) gone
takes_in_as by v other u is front =
    subst (λ (x : Knows × Knows). Joins rule by x.0 other x.1 (record x.0 { named = x.1.named; name = x.1.name; seen = x.1.seen }) gone)
    (λ i. (sym is i, sym front i)) (takes_in by v.drawn v.all other u.name u.seen)

pub adds_as : (by : ℕ) (me : Me ℕ Knows) (slots : ℕ) (f : ℕ → ℕ) (i : Item) → me.0.keeps ≡ true → me.0.named ≡ true → name_of i ≡ me.0.name → me.1 ≡ [] →
    Allows rule slots by me 0 f (Adds i (step slots 0 0 0 none) me)
adds_as by me slots f i knows named own idle =
    subst (λ (c : List (ℕ × ℕ)). Allows rule slots by (me.0, c) 0 f (Adds i (step slots 0 0 0 none) (me.0, c))) (sym idle) (adds by me.0 slots f i knows named own)
