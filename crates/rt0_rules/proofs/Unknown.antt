-- How many of the memberships that could be found aren't known yet: fewer with each one that is found.
use Rattle.std.proofs.Common.{ℕ, Bool, true, false, List, [], ◌∷◌, ◌++◌, ◌+◌, ◌<◌, ◌≤◌, ◌≡◌, inl, inr, sym, subst, arith, cond, map, not}
use Rattle.std.specs.List.{Contains, flat_map}
use Rattle.std.proofs.lemmas.Bool.{cases_Bool, or_left, or_right, and_parts, not-true}
use Rattle.std.proofs.lemmas.List.Folds.{list_any-append}
use Rattle.credential_text.specs.declared.credentials.Credential.{Credential}
use Rattle.names.specs.declared.roles.Role.{Role}
use Rattle.rt0_rules.specs.declared.facts.Fact.{Fact}
use Rattle.rt0_rules.specs.Facts.{says, knows, is_owed, IsOwed, holds}
use Rattle.rt0_rules.proofs.Elements.{Contains-none, Contains-first, Contains-later, Contains-cons_cases, Contains-flat_map}
use Rattle.rt0_rules.proofs.SameTexts.{says_itself}

-- how many fail the test
abbrev pub failing : {X : Type 0} → (X → Bool) → List X → ℕ
failing p [] = 0
failing p (x ∷ xs) = cond (p x) (failing p xs) (failing p xs + 1)

-- no more fail a weaker test
pub failing-le : {X : Type 0} (p q : X → Bool) → ((x : X) → p x ≡ true → q x ≡ true) → (xs : List X) → failing q xs ≤ failing p xs
failing-le p q weaker [] = omega arith
failing-le p q weaker (x ∷ xs) =
    let rest : failing q xs ≤ failing p xs = failing-le p q weaker xs in
    elim (cases_Bool (p x)) [
      | inl passes ↦ let too : q x ≡ true = weaker x passes in rw (passes, too) rest
      | inr fails ↦ elim (cases_Bool (q x)) [
        | inl passes ↦ rw (fails, passes) (omega arith)
        | inr still ↦ rw (fails, still) (omega arith)
      ]
    ]

-- fewer fail a weaker test that one of them passes
pub failing-lt : {X : Type 0} (p q : X → Bool) → ((x : X) → p x ≡ true → q x ≡ true) →
    (xs : List X) (x : X) → Contains xs x → p x ≡ false → q x ≡ true → failing q xs < failing p xs
failing-lt p q weaker [] x among fails passes = absurd (Contains-none x among)
failing-lt p q weaker (y ∷ ys) x among fails passes =
    elim (Contains-cons_cases y ys x among) [
      | inl same ↦
          let y_fails : p y ≡ false = subst (λ w. p w ≡ false) (sym same) fails in
          let y_passes : q y ≡ true = subst (λ w. q w ≡ true) (sym same) passes in
          let rest : failing q ys ≤ failing p ys = failing-le p q weaker ys in
          rw (y_fails, y_passes) (omega arith)
      | inr later ↦
          let rest : failing q ys < failing p ys = failing-lt p q weaker ys x later fails passes in
          elim (cases_Bool (p y)) [
            | inl y_passes ↦ let too : q y ≡ true = weaker y y_passes in rw (y_passes, too) rest
            | inr y_fails ↦ elim (cases_Bool (q y)) [
              | inl y_passes ↦ rw (y_fails, y_passes) (omega arith)
              | inr still ↦ rw (y_fails, still) (omega arith)
            ]
          ]
    ]

-- the memberships that the credentials could give to the entities
abbrev pub all_facts : List Credential → List (List ℕ) → List Fact
all_facts C entities = flat_map (λ c. map (λ d. record { role = c.head; who = d }) entities) C

abbrev pub is_known : List Fact → Fact → Bool
is_known facts fact = knows facts fact.role fact.who

-- how many of them aren't known
abbrev pub unknown : List Credential → List (List ℕ) → List Fact → ℕ
unknown C entities facts = failing (is_known facts) (all_facts C entities)

-- what was known stays known
pub knows_kept : (facts : List Fact) (fact : Fact) (role : Role) (d : List ℕ) → knows facts role d ≡ true → knows (facts ++ fact ∷ []) role d ≡ true
knows_kept facts fact role d known = rw (list_any-append (says role d) facts (fact ∷ [])) (or_left (knows facts role d) (knows (fact ∷ []) role d) known)

-- what was added is known
pub knows_added : (facts : List Fact) (fact : Fact) → knows (facts ++ fact ∷ []) fact.role fact.who ≡ true
knows_added facts fact =
    rw (list_any-append (says fact.role fact.who) facts (fact ∷ []))
    (or_right (knows facts fact.role fact.who) (knows (fact ∷ []) fact.role fact.who) (or_left (says fact.role fact.who fact) false (says_itself fact)))

pub Contains-map : {X Y : Type 0} (f : X → Y) (xs : List X) (x : X) → Contains xs x → Contains (map f xs) (f x)
Contains-map f [] x among = absurd (Contains-none x among)
Contains-map f (y ∷ ys) x among =
    elim (Contains-cons_cases y ys x among) [
      | inl same ↦ subst (λ w. Contains (map f (y ∷ ys)) (f w)) same (Contains-first (f y) (map f ys))
      | inr later ↦ Contains-later (f y) (map f ys) (f x) (Contains-map f ys x later)
    ]

-- what is owed isn't known
pub owed_parts : (facts : List Fact) (c : Credential) (d : List ℕ) → is_owed facts c d ≡ true → (holds facts d c.body ≡ true) × (knows facts c.head d ≡ false)
owed_parts facts c d e =
    let both : (holds facts d c.body ≡ true) × (not (knows facts c.head d) ≡ true) = and_parts _ _ e in
    (both.0, not-true (knows facts c.head d) both.1)

-- a membership that a credential could give
pub owed_among : (C : List Credential) (entities : List (List ℕ)) (facts : List Fact) (fact : Fact) → IsOwed C entities facts fact → Contains (all_facts C entities) fact
owed_among C entities facts fact owed =
    let made : Fact = record { role = owed.credential.head; who = fact.who } in
    let same : made ≡ fact = λ i. record { role = sym owed.head i; who = fact.who } in
    subst (Contains (all_facts C entities)) same
    (Contains-flat_map (λ c. map (λ d. record { role = c.head; who = d }) entities) C owed.credential made owed.among
    (Contains-map (λ d. record { role = owed.credential.head; who = d }) entities fact.who owed.listed))

pub owed_unknown : (C : List Credential) (entities : List (List ℕ)) (facts : List Fact) (fact : Fact) → IsOwed C entities facts fact → is_known facts fact ≡ false
owed_unknown C entities facts fact owed =
    subst (λ r. knows facts r fact.who ≡ false) (sym owed.head) (owed_parts facts owed.credential fact.who owed.owed).1

-- fewer are unknown once an owed one is added
pub unknown-lt : (C : List Credential) (entities : List (List ℕ)) (facts : List Fact) (fact : Fact) → IsOwed C entities facts fact →
    unknown C entities (facts ++ fact ∷ []) < unknown C entities facts
unknown-lt C entities facts fact owed =
    failing-lt (is_known facts) (is_known (facts ++ fact ∷ [])) (λ x known. knows_kept facts fact x.role x.who known)
    (all_facts C entities) fact (owed_among C entities facts fact owed) (owed_unknown C entities facts fact owed) (knows_added facts fact)

-- the same at the values that a round has
pub unknown_falls : (C : List Credential) (entities told : List (List ℕ)) (facts seen grown : List Fact) (fact : Fact) →
    told ≡ entities → seen ≡ facts → grown ≡ facts ++ fact ∷ [] → IsOwed C told seen fact → unknown C entities grown < unknown C entities facts
unknown_falls C entities told facts seen grown fact same_entities same_facts pushed owed =
    let here : IsOwed C entities facts fact = subst (λ (es : List (List ℕ)). IsOwed C es facts fact) same_entities (subst (λ (fs : List Fact). IsOwed C told fs fact) same_facts owed) in
    rw pushed (unknown-lt C entities facts fact here)
