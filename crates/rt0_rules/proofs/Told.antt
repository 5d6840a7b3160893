-- What askers are told: the members of what each of them asks.
use Rattle.std.proofs.Common.{ℕ, List, [], ◌∷◌, ◌+◌, ◌≡◌, ◌∙◌, sym, ap, subst, arith, refl, map, length, length-append}
use Rattle.std.specs.List.{Contains, flat_map, sum_by}
use Rattle.std.proofs.lemmas.List.{length-map}
use Rattle.std.proofs.lemmas.List.Sums.{sum_by-cons}
use Rattle.rt0_rules.specs.Work.{Ask, Tell, AreDistinct}
use Rattle.rt0_rules.proofs.Elements.{Contains-flat_map}
use Rattle.rt0_rules.proofs.Unknown.{Contains-map}
use Rattle.rt0_rules.proofs.Distinct.{IsMapped, mapped, IsJoined, joined, AreDistinct-map, AreDistinct-flat_map}

-- what one asker is told
abbrev pub told : Ask → List (List ℕ) → List Tell
told ask members = map (λ d. record { ask = ask; who = d }) members

-- what they are told, each of them for its ask
abbrev pub all_told : {X : Type 0} → (X → Ask) → (X → List (List ℕ)) → List X → List Tell
all_told ask_of members xs = flat_map (λ x. told (ask_of x) (members x)) xs

-- a tell that stands there
pub record IsToldBy {X : Type 0} (ask_of : X → Ask) (members : X → List (List ℕ)) (xs : List X) (tell : Tell) : Type 0 where
  pub asker : X
  pub among : Contains xs asker
  pub ask : ask_of asker ≡ tell.ask
  pub who : Contains (members asker) tell.who

pub told_by : {X : Type 0} (ask_of : X → Ask) (members : X → List (List ℕ)) (xs : List X) (tell : Tell) →
    Contains (all_told ask_of members xs) tell → IsToldBy ask_of members xs tell
told_by ask_of members xs tell among =
    let from : IsJoined (λ x. told (ask_of x) (members x)) xs tell = joined (λ x. told (ask_of x) (members x)) xs tell among in
    let at : IsMapped (λ d. record { ask = ask_of from.from; who = d }) (members from.from) tell =
    mapped (λ d. record { ask = ask_of from.from; who = d }) (members from.from) tell from.has in
    record {
      asker = from.from;
      among = from.among;
      ask = ap (λ (t : Tell). t.ask) at.is;
      who = subst (Contains (members from.from)) (ap (λ (t : Tell). t.who) at.is) at.among;
    }

pub is_told : {X : Type 0} (ask_of : X → Ask) (members : X → List (List ℕ)) (xs : List X) (x : X) (tell : Tell) →
    Contains xs x → ask_of x ≡ tell.ask → Contains (members x) tell.who → Contains (all_told ask_of members xs) tell
is_told ask_of members xs x tell among ask known =
    let same : record { ask = ask_of x; who = tell.who } ≡ tell = λ i. record { ask = ask i; who = tell.who } in
    Contains-flat_map (λ y. told (ask_of y) (members y)) xs x tell among
    (subst (Contains (told (ask_of x) (members x))) same (Contains-map (λ d. record { ask = ask_of x; who = d }) (members x) tell.who known))

-- askers whose asks differ are told each member once
pub told_distinct : {X : Type 0} (ask_of : X → Ask) (members : X → List (List ℕ)) (xs : List X) →
    ((x y : X) → Contains xs x → Contains xs y → ask_of x ≡ ask_of y → x ≡ y) → ((x : X) → AreDistinct (members x)) →
    AreDistinct xs → AreDistinct (all_told ask_of members xs)
told_distinct ask_of members xs apart each distinct =
    AreDistinct-flat_map (λ x. told (ask_of x) (members x)) xs
    (λ x. AreDistinct-map (λ d. record { ask = ask_of x; who = d }) (members x) (λ d e _ _ same. ap (λ (t : Tell). t.who) same) (each x))
    (λ x y t of_x of_y has_x has_y.
    let from_x : IsMapped (λ d. record { ask = ask_of x; who = d }) (members x) t = mapped (λ d. record { ask = ask_of x; who = d }) (members x) t of_x in
    let from_y : IsMapped (λ d. record { ask = ask_of y; who = d }) (members y) t = mapped (λ d. record { ask = ask_of y; who = d }) (members y) t of_y in
    apart x y has_x has_y (ap (λ (u : Tell). u.ask) (from_x.is ∙ sym from_y.is)))
    distinct

pub length-all_told : {X : Type 0} (ask_of : X → Ask) (members : X → List (List ℕ)) (xs : List X) →
    length (all_told ask_of members xs) ≡ sum_by (λ x. length (members x)) xs
length-all_told ask_of members [] = refl
length-all_told ask_of members (x ∷ xs) =
    let here : length (told (ask_of x) (members x)) ≡ length (members x) = length-map (members x) (λ d. record { ask = ask_of x; who = d }) in
    let both : length (all_told ask_of members (x ∷ xs)) ≡ length (told (ask_of x) (members x)) + length (all_told ask_of members xs) =
    length-append (told (ask_of x) (members x)) (all_told ask_of members xs) in
    both ∙ omega (arith, here, length-all_told ask_of members xs, sum_by-cons (λ y. length (members y)) x xs)
