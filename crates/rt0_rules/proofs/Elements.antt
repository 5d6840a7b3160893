-- Elements of lists, and what a search for one finds.
use Rattle.std.proofs.Common.{ℕ, Bool, true, false, List, [], ◌∷◌, ◌++◌, ◌+◌, ◌<◌, ◌≤◌, ◌≡◌, ◌∙◌, ◌⊎◌, inl, inr, ap, sym, subst, arith, cond, All, Some, None, length, take, get_or}
use Rattle.std.proofs.lemmas.List.{flat_map_more, take_more, take_all, append-nil}
use Rattle.std.specs.List.{Contains, find, flat_map}
use Rattle.std.proofs.lemmas.List.Elements.{All-nil, All-cons, Contains-append_left, Contains-append_right, Contains-append_cases, Contains-push, Contains-push_cases}
use Rattle.std.proofs.lemmas.Bool.{cases_Bool}

pub Contains-none : {X : Type 0} (x : X) → Contains [] x → ⊥
Contains-none x h = omega (arith, h.1)

pub Contains-first : {X : Type 0} (x : X) (xs : List X) → Contains (x ∷ xs) x
Contains-first x xs = Contains-append_left (x ∷ []) xs x (Contains-push [] x)

pub Contains-later : {X : Type 0} (y : X) (xs : List X) (x : X) → Contains xs x → Contains (y ∷ xs) x
Contains-later y xs x h = Contains-append_right (y ∷ []) xs x h

-- an element is the first one or a later one
pub Contains-cons_cases : {X : Type 0} (y : X) (xs : List X) (x : X) → Contains (y ∷ xs) x → (y ≡ x) ⊎ Contains xs x
Contains-cons_cases y xs x h =
    elim (Contains-append_cases (y ∷ []) xs x h) [
      | inl one ↦ elim (Contains-push_cases [] y x one) [ inl none ↦ absurd (Contains-none x none) | inr same ↦ inl same ]
      | inr later ↦ inr later
    ]

-- what a list made of each element's list has
pub Contains-flat_map : {X Y : Type 0} (f : X → List Y) (xs : List X) (x : X) (y : Y) → Contains xs x → Contains (f x) y → Contains (flat_map f xs) y
Contains-flat_map f [] x y among has = absurd (Contains-none x among)
Contains-flat_map f (z ∷ zs) x y among has =
    elim (Contains-cons_cases z zs x among) [
      | inl same ↦ Contains-append_left (f z) (flat_map f zs) y (subst (λ w. Contains (f w) y) (sym same) has)
      | inr later ↦ Contains-append_right (f z) (flat_map f zs) y (Contains-flat_map f zs x y later has)
    ]

-- what a search finds is an element that passes
pub find-Some : {X : Type 0} (p : X → Bool) (xs : List X) (x : X) → find p xs ≡ Some x → Contains xs x × (p x ≡ true)
find-Some p [] x e = cc
find-Some p (y ∷ ys) x e =
    elim (cases_Bool (p y)) [
      | inl passes ↦ let same : y ≡ x = let f : Some y ≡ Some x = rw passes at e in cc in
          subst (λ w. Contains (y ∷ ys) w × (p w ≡ true)) same (Contains-first y ys, passes)
      | inr fails ↦ let later : Contains ys x × (p x ≡ true) = find-Some p ys x (rw fails at e) in (Contains-later y ys x later.0, later.1)
    ]

-- a search that finds nothing went past elements that fail
pub find-None : {X : Type 0} (p : X → Bool) (xs : List X) → find p xs ≡ None → All (λ x. p x ≡ false) xs
find-None p [] e = All-nil (λ x. p x ≡ false)
find-None p (y ∷ ys) e =
    elim (cases_Bool (p y)) [
      | inl passes ↦ let f : Some y ≡ None = rw passes at e in cc
      | inr fails ↦ All-cons (λ x. p x ≡ false) y ys fails (find-None p ys (rw fails at e))
    ]

-- what a loop appends for one element more
pub appends_next : {X Y : Type 0} (f : X → List Y) (xs : List X) (i : ℕ) (x : X) (start before after : List Y) →
    i < length xs → x ≡ get_or xs i x → before ≡ start ++ flat_map f (take i xs) → after ≡ before ++ f x → after ≡ start ++ flat_map f (take (i + 1) xs)
appends_next f xs i x start before after within is so_far now =
    now ∙ ap (λ l. l ++ f x) so_far ∙ flat_map_more f start (take i xs) x
    ∙ ap (λ l. start ++ flat_map f l) (ap (λ y. take i xs ++ y ∷ []) is ∙ sym (take_more xs i x within))

-- what a loop has appended past all elements
pub appends_all : {X Y : Type 0} (f : X → List Y) (xs : List X) (i : ℕ) (start now : List Y) → length xs ≤ i →
    now ≡ start ++ flat_map f (take i xs) → now ≡ start ++ flat_map f xs
appends_all f xs i start now past so_far = so_far ∙ ap (λ l. start ++ flat_map f l) (take_all i xs past)

-- an element that is appended where something holds
pub appends_where : {X : Type 0} (holds : Bool) (x : X) (before after : List X) → holds ≡ true → after ≡ before ++ x ∷ [] →
    after ≡ before ++ cond holds (x ∷ []) []
appends_where true x before after is now = now
appends_where false x before after is now = cc

-- and nothing where it doesn't hold
pub appends_nothing : {X : Type 0} (holds : Bool) (x : X) (before after : List X) → holds ≡ false → after ≡ before →
    after ≡ before ++ cond holds (x ∷ []) []
appends_nothing true x before after is now = cc
appends_nothing false x before after is now = now ∙ sym (append-nil before)
