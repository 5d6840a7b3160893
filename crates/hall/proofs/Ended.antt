-- Which searches come to their ends from one hall to another, and of which it is told.
use Rattle.std.proofs.Common.{◌≡◌, ◌∙◌, ◌⊎◌, ◌∷◌, ◌++◌, ℕ, List, [], ap, sym, subst, refl, inl, inr, Option, Some, None, Bool, true, false, if◌then◌else◌}
use Rattle.std.specs.Prelude.{IsSomeAnd, Contains}
use Rattle.std.proofs.lemmas.{List.append_assoc, Option.same_Some}
use Rattle.std.proofs.lemmas.List.Elements.{Contains-append_left, Contains-append_right, Contains-append_cases}
use Rattle.rt0_rules.proofs.Elements.{Contains-none, Contains-first, Contains-cons_cases}
use Rattle.search.specs.Search.{settled_of}
use Rattle.search.specs.Ending.{Nothing}
use Rattle.hall.specs.Hall.{HallState, Running, search_at, with_search}
use Rattle.hall.specs.Kept.{IsOver}
use Rattle.hall.specs.Work.{StillWorks, SearchIsQuiet, TellsEnds}
use Rattle.hall.proofs.Carrying.{none_quiet, quiet_in}
use Rattle.hall.proofs.Picked.{rests}
use Rattle.hall.proofs.Placed.{found_after, put_back, put_twice}
use Rattle.hall.proofs.laws.HallChanges.{search_of, replaced_each, tenant_of}

abbrev Name : Type 0
Name = List ℕ × ℕ

-- a search works where it is there and has come to nothing yet
at_work : (h : HallState) (name : Name) (r : Running) → search_at h name.0 name.1 ≡ Some r → settled_of r.search ≡ Nothing → StillWorks h name
at_work h name r at unsettled = subst (λ (o : Option Running). IsSomeAnd o (λ x. settled_of x.search ≡ Nothing)) (sym at) unsettled

who_works : (h : HallState) (name : Name) → StillWorks h name → (r : Running) × (search_at h name.0 name.1 ≡ Some r) × (settled_of r.search ≡ Nothing)
who_works h name = by (search_at h name.0 name.1) refl
  where
    by : (o : Option Running) → search_at h name.0 name.1 ≡ o → IsSomeAnd o (λ x. settled_of x.search ≡ Nothing) →
        (r : Running) × (search_at h name.0 name.1 ≡ Some r) × (settled_of r.search ≡ Nothing)
    by None none works = absurd works
    by (Some r) at unsettled = (r, at, unsettled)

-- where one search goes on, what holds of it and of those before holds of each
each_after : (P : Name → Running → Type 0) (h : HallState) (who : List ℕ) (k : ℕ) (r s : Running) → search_at h who k ≡ Some r → P (who, k) s →
    ((name : Name) (q : Running) → search_at h name.0 name.1 ≡ Some q → P name q) →
    (name : Name) (q : Running) → search_at (with_search h who k s) name.0 name.1 ≡ Some q → P name q
each_after P h who k r s at this each name q found =
    let (t, here, there) = tenant_of (with_search h who k s) name.0 name.1 q found in
    replaced_each (λ n t j x. P (n, j) x) h who k r s (λ t m j x holds. holds) at (λ t holds. this)
    (λ n u j x known is. each (n, j) x (ap (search_of j) known ∙ is)) name.0 t name.1 q here there

-- it is told where the search is over
abbrev pub told_of : Bool → Name → List Name
told_of over name = if over then name ∷ [] else []

told_is : (over : Bool) (n name : Name) → Contains (told_of over n) name → n ≡ name
told_is true n name tells = elim (Contains-cons_cases n [] name tells) [ inl one ↦ one | inr none ↦ absurd (Contains-none name none) ]
told_is false n name tells = absurd (Contains-none name tells)

module _ (h : HallState) (who : List ℕ) (k : ℕ) (r : Running) (at : search_at h who k ≡ Some r) (s : Running) (before : settled_of s.search ≡ Nothing → settled_of r.search ≡ Nothing)
    (over : Bool) (is_over : IsOver s.search over) where
  abbrev after : HallState
  after = with_search h who k s

  abbrev told : List Name
  told = told_of over (who, k)

  found : search_at after who k ≡ Some s
  found = found_after h who k r at s

  -- one search goes on, and is told of where it is over
  ends_there : TellsEnds (Some (who, k)) h after told
  ends_there = record {
    each = λ name works.
        let (q, is, unsettled) = who_works h name works in
        each_after (λ n x. settled_of x.search ≡ Nothing → StillWorks after n ⊎ Contains told n) after who k s r found (λ u. this over is_over refl)
        (λ n x is u. inl (at_work after n x is u)) name q (subst (λ (g : HallState). search_at g name.0 name.1 ≡ Some q) (sym back) is) unsettled;
    were = λ name tells. inr (ap Some (told_is over (who, k) name tells));
    over = λ name tells. over_by over is_over refl name tells;
    none_again = λ name works.
        let (q, is, unsettled) = who_works after name works in
        each_after (λ n x. settled_of x.search ≡ Nothing → StillWorks h n) h who k r s at (λ u. at_work h (who, k) r at (before u)) (λ n x is u. at_work h n x is u) name q is unsettled;
  }
    where
      back : with_search after who k r ≡ h
      back = put_twice h who k r at s r ∙ put_back h who k r at

      this : (so : Bool) → IsOver s.search so → over ≡ so → StillWorks after (who, k) ⊎ Contains told (who, k)
      this true settled is = inr (subst (λ (x : Bool). Contains (told_of x (who, k)) (who, k)) (sym is) (Contains-first (who, k) []))
      this false unsettled is = inl (at_work after (who, k) s found unsettled)

      over_by : (so : Bool) → IsOver s.search so → over ≡ so → (name : Name) → Contains told name → StillWorks after name → ⊥
      over_by true settled is name tells works =
          let same : (who, k) ≡ name = told_is over (who, k) name tells in
          let (q, there, unsettled) = who_works after (who, k) (subst (StillWorks after) (sym same) works) in
          let both : Some s ≡ Some q = sym found ∙ there in
          let one : s ≡ q = cc in
          settled (subst (λ (x : Running). settled_of x.search ≡ Nothing) (sym one) unsettled)
      over_by false unsettled is name tells works = Contains-none name (subst (λ (x : Bool). Contains (told_of x (who, k)) name) is tells)

-- one after another
ends_both : (own : Option Name) (a b c : HallState) (x y : List Name) → TellsEnds own a b x → TellsEnds None b c y → TellsEnds own a c (x ++ y)
ends_both own a b c x y first second = record {
  each = λ name works. elim (first.each name works) [
    | inl on ↦ elim (second.each name on) [ inl still ↦ inl still | inr told ↦ inr (Contains-append_right x y name told) ]
    | inr told ↦ inr (Contains-append_left x y name told)
  ];
  were = λ name told. elim (Contains-append_cases x y name told) [
    | inl early ↦ first.were name early
    | inr late ↦ elim (second.were name late) [ inl works ↦ inl (first.none_again name works) | inr none ↦ absurd (cc) ]
  ];
  over = λ name told works. elim (Contains-append_cases x y name told) [
    | inl early ↦ first.over name early (second.none_again name works)
    | inr late ↦ second.over name late works
  ];
  none_again = λ name works. first.none_again name (second.none_again name works);
}

-- more of them are told
abbrev pub TellsMore : Option Name → HallState → HallState → List Name → List Name → Type 0
TellsMore own old new before after = (told : List Name) × (after ≡ before ++ told) × TellsEnds own old new told

pub tells_both : (own : Option Name) (a b c : HallState) (x y z : List Name) → TellsMore own a b x y → TellsMore None b c y z → TellsMore own a c x z
tells_both own a b c x y z (told, is, ends) (more, so, late) =
    (told ++ more, so ∙ ap (λ (l : List Name). l ++ more) is ∙ append_assoc x told more, ends_both own a b c told more ends late)

-- something of a search is left, so it works
pub left_works : (h : HallState) (name : Name) → (SearchIsQuiet h name.0 name.1 → ⊥) → StillWorks h name
left_works h name left = by (search_at h name.0 name.1) refl
  where
    by : (o : Option Running) → search_at h name.0 name.1 ≡ o → StillWorks h name
    by None none = absurd (left (none_quiet h name.0 name.1 none))
    by (Some r) at = elim (rests r.search) [ inl unsettled ↦ at_work h name r at unsettled | inr quiet ↦ absurd (left (quiet_in h name.0 name.1 r at quiet)) ]

-- the one of that name worked
pub tells_working : (name : Name) (old new : HallState) (before later : List Name) → StillWorks old name → TellsMore (Some name) old new before later →
    TellsMore None old new before later
tells_working name old new before later works (told, is, ends) = (
  told,
  is,
  record {
    each = ends.each;
    were = λ n tells. elim (ends.were n tells) [ inl worked ↦ inl worked | inr same ↦ inl (subst (StillWorks old) (same_Some name n same) works) ];
    over = ends.over;
    none_again = ends.none_again;
  },
)

pub tells_there : (old new : HallState) (who : List ℕ) (k : ℕ) (r : Running) → search_at old who k ≡ Some r → (s : Running) → (settled_of s.search ≡ Nothing → settled_of r.search ≡ Nothing) →
    (over : Bool) → IsOver s.search over → new ≡ with_search old who k s → (before later : List Name) → later ≡ before ++ told_of over (who, k) →
    TellsMore (Some (who, k)) old new before later
tells_there old new who k r at s before over is_over is before_told later more =
    (told_of over (who, k), more, subst (λ (h : HallState). TellsEnds (Some (who, k)) old h (told_of over (who, k))) (sym is) (ends_there old who k r at s before over is_over))

pub tells_all : (own : Option Name) (old new : HallState) (before later : List Name) → before ≡ [] → TellsMore own old new before later → TellsEnds own old new later
tells_all own old new before later none (told, is, ends) = subst (TellsEnds own old new) (sym (is ∙ ap (λ (l : List Name). l ++ told) none)) ends
