-- The letters that a search has sent are its work: no more than that while it runs, and just that when all was asked and found.
use Rattle.std.proofs.Common.{ℕ, List, [], ◌++◌, ◌+◌, ◌<◌, ◌≡◌, ◌∙◌, sym, ap, subst, arith, map, length, get_or, length-append, Some}
use Rattle.std.specs.List.{Contains, slice_get}
use Rattle.std.proofs.lemmas.Option.{get_or_from_slice_get}
use Rattle.std.proofs.lemmas.List.{length-map}
use Rattle.std.proofs.lemmas.List.Elements.{Contains-append_left}
use Rattle.names.specs.declared.roles.Role.{Role}
use Rattle.credential_text.specs.declared.credentials.Credential.{Credential}
use Rattle.credential_text.specs.declared.exprs.Expr.{Expr}
use Rattle.credential_text.specs.declared.exprs.Expr.TheVariants.{Ent}
use Rattle.rt0_rules.specs.Derivation.{Derives}
use Rattle.rt0_rules.specs.Asks.{Demanded, asked_by}
use Rattle.rt0_rules.specs.Work.{Ask, Tell, IsAsk, IsTell, ListsSome, WorkIs, WorkExceeds}
use Rattle.rt0_rules.specs.Letters.{NodeAsk, letters_sent, IsAskBetween, AreRight, AreAll}
use Rattle.rt0_rules.proofs.Unknown.{Contains-map}
use Rattle.rt0_rules.proofs.Distinct.{IsMapped, mapped, AreDistinct-map, AreDistinct-append_left}
use Rattle.rt0_rules.proofs.Told.{all_told, IsToldBy, told_by, is_told, told_distinct, length-all_told}

-- the ask between the expressions of the nodes
abbrev pub ask_between : List Expr → NodeAsk → Ask
ask_between nodes a = record { asker = get_or nodes a.asker (Ent []); why = a.why; asked = get_or nodes a.asked (Ent []) }

-- what the listeners are told
abbrev pub told_to : List Expr → (ℕ → List (List ℕ)) → List NodeAsk → List Tell
told_to nodes members listeners = all_told (ask_between nodes) (λ l. members l.asked) listeners

pub asks_alike : (nodes : List Expr) (a : NodeAsk) (ask : Ask) → IsAskBetween nodes a ask → ask_between nodes a ≡ ask
asks_alike nodes a ask is =
    let asker : get_or nodes a.asker (Ent []) ≡ ask.asker = get_or_from_slice_get nodes a.asker ask.asker (Ent []) is.asker in
    let asked : get_or nodes a.asked (Ent []) ≡ ask.asked = get_or_from_slice_get nodes a.asked ask.asked (Ent []) is.asked in
    λ i. record { asker = asker i; why = is.why i; asked = asked i }

module _ {C : List Credential} {role : Role} {nodes : List Expr} {members : ℕ → List (List ℕ)} {listeners pending : List NodeAsk}
    (right : AreRight C role nodes members listeners pending) where
  -- two asks between nodes are one where they are one between expressions
  told_apart : (a b : NodeAsk) → Contains (listeners ++ pending) a → Contains (listeners ++ pending) b → ask_between nodes a ≡ ask_between nodes b → a ≡ b
  told_apart a b has_a has_b same =
      let of_a : (ask : Ask) × IsAskBetween nodes a ask × IsAsk C role ask = right.asks_right a has_a in
      let of_b : (ask : Ask) × IsAskBetween nodes b ask × IsAsk C role ask = right.asks_right b has_b in
      let one : of_a.0 ≡ of_b.0 = sym (asks_alike nodes a of_a.0 of_a.1) ∙ same ∙ asks_alike nodes b of_b.0 of_b.1 in
      let asker : a.asker ≡ b.asker = right.one_node a.asker b.asker of_a.0.asker of_a.1.asker (of_b.1.asker ∙ ap (λ (x : Ask). Some x.asker) (sym one)) in
      let asked : a.asked ≡ b.asked = right.one_node a.asked b.asked of_a.0.asked of_a.1.asked (of_b.1.asked ∙ ap (λ (x : Ask). Some x.asked) (sym one)) in
      let why : a.why ≡ b.why = ap (λ (x : Ask). x.why) same in
      λ i. record { asker = asker i; why = why i; asked = asked i }

  ask_right : (a : NodeAsk) → Contains (listeners ++ pending) a → IsAsk C role (ask_between nodes a)
  ask_right a has =
      let of_a : (ask : Ask) × IsAskBetween nodes a ask × IsAsk C role ask = right.asks_right a has in
      subst (IsAsk C role) (sym (asks_alike nodes a of_a.0 of_a.1)) of_a.2

  -- the asks that were heard or are under way
  asks_are : ListsSome (IsAsk C role) (map (ask_between nodes) (listeners ++ pending))
  asks_are = record {
    distinct = AreDistinct-map (ask_between nodes) (listeners ++ pending) told_apart right.asks_distinct;
    right = λ ask has.
        let from : IsMapped (ask_between nodes) (listeners ++ pending) ask = mapped (ask_between nodes) (listeners ++ pending) ask has in
        subst (IsAsk C role) from.is (ask_right from.from from.among);
  }

  listener : (a : NodeAsk) → Contains listeners a → Contains (listeners ++ pending) a
  listener a has = Contains-append_left listeners pending a has

  -- the members that listeners are told
  tells_are : ListsSome (IsTell C role) (told_to nodes members listeners)
  tells_are = record {
    distinct = told_distinct (ask_between nodes) (λ l. members l.asked) listeners
        (λ a b has_a has_b same. told_apart a b (listener a has_a) (listener b has_b) same) (λ a. right.members_distinct a.asked)
        (AreDistinct-append_left listeners pending right.asks_distinct);
    right = λ tell has.
        let by : IsToldBy (ask_between nodes) (λ l. members l.asked) listeners tell = told_by (ask_between nodes) (λ l. members l.asked) listeners tell has in
        let of_who : (e : Expr) × (slice_get nodes by.asker.asked ≡ Some e) × Derives C tell.who e = right.members_right by.asker.asked tell.who by.who in
        let derived : Derives C tell.who (ask_between nodes by.asker).asked =
        subst (Derives C tell.who) (sym (get_or_from_slice_get nodes by.asker.asked of_who.0 (Ent []) of_who.1)) of_who.2 in
        (subst (IsAsk C role) by.ask (ask_right by.asker (listener by.asker by.among)), subst (λ (x : Ask). Derives C tell.who x.asked) by.ask derived);
  }

-- the letters that were sent, as asks and tells
letters_counted : (nodes : List Expr) (members : ℕ → List (List ℕ)) (listeners pending : List NodeAsk) →
    letters_sent members listeners pending ≡ 1 + length (map (ask_between nodes) (listeners ++ pending)) + length (told_to nodes members listeners)
letters_counted nodes members listeners pending =
    let asks : length (map (ask_between nodes) (listeners ++ pending)) ≡ length listeners + length pending =
    length-map (listeners ++ pending) (ask_between nodes) ∙ length-append listeners pending in
    omega (arith, asks, length-all_told (ask_between nodes) (λ (l : NodeAsk). members l.asked) listeners)

-- more letters than the limit are more work than the limit
pub letters_exceed : {C : List Credential} {role : Role} {nodes : List Expr} {members : ℕ → List (List ℕ)} {listeners pending : List NodeAsk} →
    AreRight C role nodes members listeners pending → (limit : ℕ) → limit < letters_sent members listeners pending → WorkExceeds C role limit
letters_exceed {nodes = nodes} {members = members} {listeners = listeners} {pending = pending} right limit over = record {
  asks = map (ask_between nodes) (listeners ++ pending);
  tells = told_to nodes members listeners;
  asks_are = asks_are right;
  tells_are = tells_are right;
  over = omega (arith, letters_counted nodes members listeners pending);
}

-- where all was asked and found, and nothing is under way, the letters are the work
pub letters_are_work : {C : List Credential} {role : Role} {nodes : List Expr} {members : ℕ → List (List ℕ)} {listeners : List NodeAsk} →
    AreRight C role nodes members listeners [] → AreAll C role nodes members listeners → WorkIs C role (letters_sent members listeners [])
letters_are_work {C = C} {role = role} {nodes = nodes} {members = members} {listeners = listeners} right all = record {
  asks = map (ask_between nodes) (listeners ++ []);
  tells = told_to nodes members listeners;
  asks_are = record {
    distinct = (asks_are right).distinct;
    exact = λ ask. (
      (asks_are right).right ask,
      λ is.
          let heard : (a : NodeAsk) × Contains listeners a × IsAskBetween nodes a ask = all.asks_heard ask is in
          subst (Contains (map (ask_between nodes) (listeners ++ []))) (asks_alike nodes heard.0 ask heard.2)
          (Contains-map (ask_between nodes) (listeners ++ []) heard.0 (Contains-append_left listeners [] heard.0 heard.1)),
    );
  };
  tells_are = record {
    distinct = (tells_are right).distinct;
    exact = λ tell. (
      (tells_are right).right tell,
      λ is.
          let heard : (a : NodeAsk) × Contains listeners a × IsAskBetween nodes a tell.ask = all.asks_heard tell.ask is.0 in
          let demanded : Demanded C role tell.ask.asked = asked_by tell.ask.why is.0.0 is.0.1 in
          let known : Contains (members heard.0.asked) tell.who = all.members_known heard.0.asked tell.ask.asked tell.who heard.2.asked demanded is.1 in
          is_told (ask_between nodes) (λ l. members l.asked) listeners heard.0 tell heard.1 (asks_alike nodes heard.0 tell.ask heard.2) known,
    );
  };
  total = letters_counted nodes members listeners [];
}
