-- What the expressions ask by the facts is what they ask by the rules; and what a whole search asks is found by asking in turn.
use Rattle.std.specs.Prelude.{nat_lt}
use Rattle.std.proofs.Common.{ℕ, Bool, true, false, List, [], ◌∷◌, ◌++◌, ◌+◌, ◌<◌, ◌≤◌, ◌≡◌, ◌∙◌, inl, inr, sym, subst, ap, arith, cond, zero, suc, refl, map, length, take, get_or, append_assoc, Some}
use Rattle.std.specs.List.{Contains, flat_map, slice_get}
use Rattle.std.proofs.lemmas.List.{take_more, take_all, take-append-le, length-take-le, length-map}
use Rattle.std.proofs.lemmas.List.Elements.{Contains-push_cases, Contains-get_or}
use Rattle.std.proofs.lemmas.Bool.{ltb-true, ltb-false}
use Rattle.names.specs.declared.roles.Role.{Role}
use Rattle.credential_text.specs.declared.credentials.Credential.{Credential}
use Rattle.credential_text.specs.declared.intersections.Part.{Part}
use Rattle.credential_text.specs.declared.exprs.Expr.{Expr}
use Rattle.credential_text.specs.declared.exprs.Expr.TheVariants.{Ent, Rol, Link, Meet}
use Rattle.rt0_rules.specs.declared.facts.Fact.{Fact}
use Rattle.rt0_rules.specs.declared.asks.Ask.{Ask as Asked}
use Rattle.rt0_rules.specs.declared.asks.Why.{Why as Cause}
use Rattle.rt0_rules.specs.declared.asks.Why.TheVariants as cause
use Rattle.rt0_rules.specs.Derivation.{Derives}
use Rattle.rt0_rules.specs.Facts.{is_same_role, knows, all_entities, IsSound, IsClosed}
use Rattle.rt0_rules.specs.Asks.{Why, Asks, asks_body, asks_base, asks_via, asks_part, Demanded, asked_role, asked_by}
use Rattle.rt0_rules.specs.Work.{Ask, IsAsk, AreDistinct, ListsAll, WorkExceeds}
use Rattle.rt0_rules.specs.Asked.{why_of, ask_of, body_asks, via_asks, part_ask, part_asks, asks_from, Adds, IsAskedWithin}
use Rattle.rt0_rules.proofs.SameTexts.{same_role, role_itself}
use Rattle.rt0_rules.proofs.Elements.{Contains-none, Contains-first, Contains-later, Contains-cons_cases, Contains-flat_map}
use Rattle.rt0_rules.proofs.Distinct.{IsMapped, mapped, IsJoined, joined, AreDistinct-map}
use Rattle.rt0_rules.proofs.Unknown.{Contains-map}
use Rattle.rt0_rules.proofs.Complete.{IsFound, complete}

-- one part more of an intersection
part_asks-push : (all : List Part) (k : ℕ) (ps : List Part) (p : Part) → part_asks all k (ps ++ p ∷ []) ≡ part_asks all k ps ++ part_ask all (k + length ps) p ∷ []
part_asks-push all k [] p = let here : k ≡ k + length {A = Part} [] = omega arith in ap (λ place. part_ask all place p ∷ []) here
part_asks-push all k (q ∷ ps) p =
    let place : (k + 1) + length ps ≡ k + length (q ∷ ps) = omega arith in
    ap (λ l. part_ask all k q ∷ l) (part_asks-push all (k + 1) ps p ∙ ap (λ i. part_asks all (k + 1) ps ++ part_ask all i p ∷ []) place)

pub part_step : (all ps : List Part) (place : ℕ) (p : Part) (start before after : List Asked) (ask : Asked) →
    place < length ps → p ≡ get_or ps place p → ask ≡ part_ask all place p → before ≡ start ++ part_asks all 0 (take place ps) →
    after ≡ before ++ ask ∷ [] → after ≡ start ++ part_asks all 0 (take (place + 1) ps)
part_step all ps place p start before after ask within is made so_far pushed =
    let at : 0 + length (take place ps) ≡ place = omega (arith, length-take-le place ps) in
    let whole : part_asks all 0 (take (place + 1) ps) ≡ part_asks all 0 (take place ps) ++ ask ∷ [] =
    ap (part_asks all 0) (take_more ps place p within ∙ ap (λ q. take place ps ++ q ∷ []) (sym is))
    ∙ part_asks-push all 0 (take place ps) p ∙ ap (λ i. part_asks all 0 (take place ps) ++ part_ask all i p ∷ []) at
    ∙ ap (λ l. part_asks all 0 (take place ps) ++ l ∷ []) (sym made) in
    pushed ∙ ap (λ l. l ++ ask ∷ []) so_far ∙ append_assoc start (part_asks all 0 (take place ps)) (ask ∷ []) ∙ ap (λ l. start ++ l) (sym whole)

-- an ask of the expression, by the rules
pub record IsFrom (C : List Credential) (e : Expr) (x : Asked) : Type 0 where
  pub asker : x.asker ≡ e
  pub asks : Asks C (Derives C) e (why_of x.why) x.asked

-- the element that a test lets stand
when_true : {X : Type 0} (b : Bool) (x y : X) → Contains (cond b (x ∷ []) []) y → (b ≡ true) × (x ≡ y)
when_true true x y has = elim (Contains-cons_cases x [] y has) [ inl same ↦ (refl, same) | inr none ↦ absurd (Contains-none y none) ]
when_true false x y has = absurd (Contains-none y has)

stands_when : {X : Type 0} (b : Bool) (x : X) → b ≡ true → Contains (cond b (x ∷ []) []) x
stands_when true x e = Contains-first x []
stands_when false x e = cc

part_from : (C : List Credential) (all : List Part) (k : ℕ) (ps : List Part) (x : Asked) →
    ((i : ℕ) (p : Part) → slice_get ps i ≡ Some p → slice_get all (k + i) ≡ Some p) → Contains (part_asks all k ps) x → IsFrom C (Meet all) x
part_from C all k [] x places has = absurd (Contains-none x has)
part_from C all k (p ∷ ps) x places has =
    elim (Contains-cons_cases (part_ask all k p) (part_asks all (k + 1) ps) x has) [
      | inl same ↦
          let here : k + 0 ≡ k = omega arith in
          subst (IsFrom C (Meet all)) same (record { asker = refl; asks = asks_part k p (subst (λ i. slice_get all i ≡ Some p) here (places 0 p refl)) })
      | inr later ↦
          part_from C all (k + 1) ps x
          (λ i q at. let there : k + suc i ≡ (k + 1) + i = omega arith in subst (λ j. slice_get all j ≡ Some q) there (places (suc i) q at)) later
    ]

pub asks_right : (C : List Credential) (facts : List Fact) (everyone : List (List ℕ)) → IsSound C facts → (e : Expr) (x : Asked) →
    Contains (asks_from C facts everyone e) x → IsFrom C e x
asks_right C facts everyone sound (Ent d) x has = absurd (Contains-none x has)
asks_right C facts everyone sound (Rol role) x has =
    let from : IsJoined (body_asks role) C x = joined (body_asks role) C x has in
    let made : Asked = record { asker = Rol role; why = cause.Body; asked = from.from.body } in
    let is : (is_same_role from.from.head role ≡ true) × (made ≡ x) = when_true (is_same_role from.from.head role) made x from.has in
    subst (IsFrom C (Rol role)) is.1 (record { asker = refl; asks = asks_body from.from from.among (same_role from.from.head role is.0) })
asks_right C facts everyone sound (Link base n) x has =
    elim (Contains-cons_cases (record { asker = Link base n; why = cause.Base; asked = Rol base }) (flat_map (via_asks facts base n) everyone) x has) [
      | inl same ↦ subst (IsFrom C (Link base n)) same (record { asker = refl; asks = asks_base base n })
      | inr later ↦
          let from : IsJoined (via_asks facts base n) everyone x = joined (via_asks facts base n) everyone x later in
          let made : Asked = record { asker = Link base n; why = cause.Via from.from; asked = Rol (record { owner = from.from; name = n }) } in
          let is : (knows facts base from.from ≡ true) × (made ≡ x) = when_true (knows facts base from.from) made x from.has in
          subst (IsFrom C (Link base n)) is.1 (record { asker = refl; asks = asks_via n from.from (sound base from.from is.0) })
    ]
asks_right C facts everyone sound (Meet parts) x has =
    part_from C parts 0 parts x (λ i p at. let here : i ≡ 0 + i = omega arith in subst (λ j. slice_get parts j ≡ Some p) here at) has

-- the program's ask for an ask of the rules
pub record IsMade (C : List Credential) (facts : List Fact) (everyone : List (List ℕ)) (e : Expr) (why : Why) (f : Expr) : Type 0 where
  pub ask : Asked
  pub among : Contains (asks_from C facts everyone e) ask
  pub is : ask_of ask ≡ record { asker = e; why = why; asked = f }

part_made : (all : List Part) (k i : ℕ) (ps : List Part) (p : Part) → slice_get ps i ≡ Some p →
    Contains (part_asks all k ps) (part_ask all (k + i) p)
part_made all k i [] p at = cc
part_made all k zero (q ∷ ps) p at =
    let same : q ≡ p = cc in
    let here : k ≡ k + 0 = omega arith in
    let made : part_ask all k q ≡ part_ask all (k + 0) p = λ j. part_ask all (here j) (same j) in
    subst (Contains (part_asks all k (q ∷ ps))) made (Contains-first (part_ask all k q) (part_asks all (k + 1) ps))
part_made all k (suc i) (q ∷ ps) p at =
    let there : (k + 1) + i ≡ k + suc i = omega arith in
    subst (λ j. Contains (part_asks all k (q ∷ ps)) (part_ask all j p)) there
    (Contains-later (part_ask all k q) (part_asks all (k + 1) ps)
    (part_ask all ((k + 1) + i) p) (part_made all (k + 1) i ps p at))

pub asks_made : (C : List Credential) (facts : List Fact) (everyone : List (List ℕ)) → IsClosed C (all_entities C) facts → ListsAll (Contains (all_entities C)) everyone →
    (e : Expr) (why : Why) (f : Expr) → Asks C (Derives C) e why f → IsMade C facts everyone e why f
asks_made C facts everyone closed all e why f (asks_body {r = r} c among head) =
    let made : Asked = record { asker = Rol r; why = cause.Body; asked = c.body } in
    let same : is_same_role c.head r ≡ true = subst (λ (q : Role). is_same_role c.head q ≡ true) head (role_itself c.head) in
    record { ask = made; among = Contains-flat_map (body_asks r) C c made among (stands_when (is_same_role c.head r) made same); is = refl }
asks_made C facts everyone closed all e why f (asks_base r n) =
    let made : Asked = record { asker = Link r n; why = cause.Base; asked = Rol r } in
    record { ask = made; among = Contains-first made (flat_map (via_asks facts r n) everyone); is = refl }
asks_made C facts everyone closed all e why f (asks_via {r = r} n b member) =
    let made : Asked = record { asker = Link r n; why = cause.Via b; asked = Rol (record { owner = b; name = n }) } in
    let found : IsFound (all_entities C) facts b (Rol r) = complete C facts closed b (Rol r) member (record { each = λ w has. absurd (Contains-none w has) }) in
    record {
      ask = made;
      among = Contains-later (record { asker = Link r n; why = cause.Base; asked = Rol r }) (flat_map (via_asks facts r n) everyone) made
          (Contains-flat_map (via_asks facts r n) everyone b made ((all.exact b).1 found.listed) (stands_when (knows facts r b) made found.holds));
      is = refl;
    }
asks_made C facts everyone closed all e why f (asks_part {parts = parts} i p at) =
    let here : 0 + i ≡ i = omega arith in
    record {
      ask = part_ask parts i p;
      among = subst (λ j. Contains (part_asks parts 0 parts) (part_ask parts j p)) here (part_made parts 0 i parts p at);
      is = refl;
    }

-- Each of the asks belongs to the search; what the role asks stands there, and what is asked by those before the place.
pub record AskedSoFar (C : List Credential) (facts : List Fact) (everyone : List (List ℕ)) (role : Role) (asks : List Asked) (place : ℕ) : Type 0 where
  pub distinct : AreDistinct asks
  pub right : (x : Asked) → Contains asks x → IsAsk C role (ask_of x)
  pub first : (x : Asked) → Contains (asks_from C facts everyone (Rol role)) x → Contains asks x
  pub others : (y x : Asked) → Contains (take place asks) y → Contains (asks_from C facts everyone y.asked) x → Contains asks x

-- an ask of a demanded expression
ask_belongs : (C : List Credential) (role : Role) (e : Expr) (x : Asked) → Demanded C role e → IsFrom C e x → IsAsk C role (ask_of x)
ask_belongs C role e x demanded from =
    (subst (Demanded C role) (sym from.asker) demanded, subst (λ f. Asks C (Derives C) f (why_of x.why) x.asked) (sym from.asker) from.asks)

-- what the role asks
pub asked_first : (C : List Credential) (facts : List Fact) (everyone : List (List ℕ)) (role : Role) (first start asks : List Asked) → IsSound C facts →
    first ≡ asks_from C facts everyone (Rol role) → start ≡ [] → Adds first start asks → AskedSoFar C facts everyone role asks 0
asked_first C facts everyone role first start asks sound is empty adds = record {
  distinct = adds.distinct (subst AreDistinct (sym empty) tt);
  right = λ x has. elim ((adds.exact x).0 has) [
    | inl none ↦ absurd (Contains-none x (subst (λ l. Contains l x) empty none))
    | inr new ↦ ask_belongs C role (Rol role) x asked_role (asks_right C facts everyone sound (Rol role) x (subst (λ l. Contains l x) is new))
  ];
  first = λ x has. (adds.exact x).1 (inr (subst (λ l. Contains l x) (sym is) has));
  others = λ y x none. absurd (Contains-none y none);
}

-- what the ask at the place asks for asks in its turn
pub asked_next : (C : List Credential) (facts : List Fact) (everyone : List (List ℕ)) (role : Role) (more asks grown : List Asked) (place : ℕ) (y : Asked) → IsSound C facts →
    place < length asks → y ≡ get_or asks place y → more ≡ asks_from C facts everyone y.asked → AskedSoFar C facts everyone role asks place →
    Adds more asks grown → AskedSoFar C facts everyone role grown (place + 1)
asked_next C facts everyone role more asks grown place y sound within is asked so_far adds =
    let among : Contains asks y = subst (Contains asks) (sym is) (Contains-get_or asks place y within) in
    let of_y : IsAsk C role (ask_of y) = so_far.right y among in
    let demanded : Demanded C role y.asked = asked_by (why_of y.why) of_y.0 of_y.1 in
    let front : take (place + 1) grown ≡ take place asks ++ y ∷ [] =
    ap (take (place + 1)) adds.grown ∙ take-append-le (place + 1) asks adds.more (omega arith) ∙ take_more asks place y within ∙ ap (λ z. take place asks ++ z ∷ []) (sym is) in
    let stays : (x : Asked) → Contains asks x → Contains grown x = λ x has. (adds.exact x).1 (inl has) in
    record {
      distinct = adds.distinct so_far.distinct;
      right = λ x has. elim ((adds.exact x).0 has) [
        | inl before ↦ so_far.right x before
        | inr new ↦ ask_belongs C role y.asked x demanded (asks_right C facts everyone sound y.asked x (subst (λ l. Contains l x) asked new))
      ];
      first = λ x has. stays x (so_far.first x has);
      others = λ z x taken has. elim (Contains-push_cases (take place asks) y z (subst (λ l. Contains l z) front taken)) [
        | inl before ↦ stays x (so_far.others z x before has)
        | inr same ↦ (adds.exact x).1 (inr (subst (λ l. Contains l x) (sym asked) (subst (λ w. Contains (asks_from C facts everyone w.asked) x) (sym same) has)))
      ];
    }

-- where all have asked in their turn, the asks of each demanded expression stand there
asked_each : (C : List Credential) (facts : List Fact) (everyone : List (List ℕ)) (role : Role) (asks : List Asked) (place : ℕ) →
    IsClosed C (all_entities C) facts → ListsAll (Contains (all_entities C)) everyone → AskedSoFar C facts everyone role asks place → length asks ≤ place →
    (e : Expr) → Demanded C role e → (x : Asked) → Contains (asks_from C facts everyone e) x → Contains asks x
asked_each C facts everyone role asks place closed all so_far past e asked_role x has = so_far.first x has
asked_each C facts everyone role asks place closed all so_far past f (asked_by {e = e} why demanded by) x has =
    let made : IsMade C facts everyone e why f = asks_made C facts everyone closed all e why f by in
    let among : Contains asks made.ask = asked_each C facts everyone role asks place closed all so_far past e demanded made.ask made.among in
    so_far.others made.ask x (subst (λ l. Contains l made.ask) (sym (take_all place asks past)) among)
    (subst (λ w. Contains (asks_from C facts everyone w) x) (sym (ap (λ (a : Ask). a.asked) made.is)) has)

why_of_apart : (v w : Cause) → why_of v ≡ why_of w → v ≡ w
why_of_apart cause.Body cause.Body same = refl
why_of_apart cause.Base cause.Base same = refl
why_of_apart (cause.Via b) (cause.Via c) same = let is : b ≡ c = cc in ap cause.Via is
why_of_apart (cause.Part i) (cause.Part j) same = let is : i ≡ j = cc in ap cause.Part is
why_of_apart v w same = cc

pub ask_of_apart : (x y : Asked) → ask_of x ≡ ask_of y → x ≡ y
ask_of_apart x y same =
    let why : x.why ≡ y.why = why_of_apart x.why y.why (ap (λ (a : Ask). a.why) same) in
    λ i. record { asker = (same i).asker; why = why i; asked = (same i).asked }

-- all asks of the search
pub asked_all : (C : List Credential) (facts : List Fact) (everyone : List (List ℕ)) (role : Role) (asks : List Asked) (place : ℕ) →
    IsClosed C (all_entities C) facts → ListsAll (Contains (all_entities C)) everyone → AskedSoFar C facts everyone role asks place → length asks ≤ place →
    ListsAll (IsAsk C role) (map ask_of asks)
asked_all C facts everyone role asks place closed all so_far past = record {
  distinct = AreDistinct-map ask_of asks (λ x y _ _ same. ask_of_apart x y same) so_far.distinct;
  exact = λ ask. (
    λ has.
        let from : IsMapped ask_of asks ask = mapped ask_of asks ask has in
        subst (IsAsk C role) from.is (so_far.right from.from from.among),
    λ is.
        let made : IsMade C facts everyone ask.asker ask.why ask.asked = asks_made C facts everyone closed all ask.asker ask.why ask.asked is.1 in
        let among : Contains asks made.ask = asked_each C facts everyone role asks place closed all so_far past ask.asker is.0 made.ask made.among in
        subst (Contains (map ask_of asks)) made.is (Contains-map ask_of asks made.ask among),
  );
}

-- so many asks that the work exceeds the limit
pub asked_much : (C : List Credential) (facts : List Fact) (everyone : List (List ℕ)) (role : Role) (asks : List Asked) (place limit : ℕ) →
    AskedSoFar C facts everyone role asks place → limit ≤ length asks → WorkExceeds C role limit
asked_much C facts everyone role asks place limit so_far many = record {
  asks = map ask_of asks;
  tells = [];
  asks_are = record {
    distinct = AreDistinct-map ask_of asks (λ x y _ _ same. ask_of_apart x y same) so_far.distinct;
    right = λ ask has.
        let from : IsMapped ask_of asks ask = mapped ask_of asks ask has in
        subst (IsAsk C role) from.is (so_far.right from.from from.among);
  };
  tells_are = record { distinct = tt; right = λ tell none. absurd (Contains-none tell none) };
  over = omega (arith, length-map asks ask_of);
}

-- all asks, where they are fewer than the limit
pub asked_within : (C : List Credential) (facts : List Fact) (everyone : List (List ℕ)) (role : Role) (asks : List Asked)
    (place limit : ℕ) (all : Bool) →
    all ≡ nat_lt (length asks) limit → IsClosed C (all_entities C) facts → ListsAll (Contains (all_entities C)) everyone →
    AskedSoFar C facts everyone role asks place → (length asks < limit → length asks ≤ place) → IsAskedWithin C role limit all asks
asked_within C facts everyone role asks place limit true is closed everyone_listed so_far past =
    let below : length asks < limit = ltb-true (length asks) limit (sym is) in
    (asked_all C facts everyone role asks place closed everyone_listed so_far (past below), below)
asked_within C facts everyone role asks place limit false is closed everyone_listed so_far past =
    asked_much C facts everyone role asks place limit so_far (ltb-false (length asks) limit (sym is))
