-- All asks of a search, and all that its askers are told, are its work.
use Rattle.std.proofs.Common.{ℕ, List, ◌≡◌, sym, subst, arith, true, map, Option, Some, None}
use Rattle.std.specs.List.{Contains}
use Rattle.std.proofs.lemmas.Option.{slice_get_within, get_or_from_slice_get}
use Rattle.std.proofs.lemmas.List.{length-map}
use Rattle.names.specs.declared.roles.Role.{Role}
use Rattle.credential_text.specs.declared.credentials.Credential.{Credential}
use Rattle.credential_text.specs.declared.intersections.Part.{Part}
use Rattle.credential_text.specs.declared.intersections.Part.TheVariants as part
use Rattle.credential_text.specs.declared.exprs.Expr.{Expr}
use Rattle.credential_text.specs.declared.exprs.Expr.TheVariants.{Meet}
use Rattle.credential_text.specs.Expr.{part_expr}
use Rattle.rt0_rules.specs.declared.facts.Fact.{Fact}
use Rattle.rt0_rules.specs.declared.asks.Ask.{Ask as Asked}
use Rattle.rt0_rules.specs.Derivation.{Derives}
use Rattle.rt0_rules.specs.Facts.{holds, entities_in, entities_in_part, all_entities, IsSound, IsClosed}
use Rattle.rt0_rules.specs.Asks.{asks_body, asks_base, asks_via, asks_part, Demanded, asked_role, asked_by}
use Rattle.rt0_rules.specs.Work.{Ask, IsAsk, IsTell, ListsAll, WorkIs, IsWorkWithin}
use Rattle.rt0_rules.specs.Asked.{ask_of, members_among, count_of, IsCountedWithin}
use Rattle.rt0_rules.proofs.Elements.{Contains-flat_map}
use Rattle.rt0_rules.proofs.Unknown.{Contains-map}
use Rattle.rt0_rules.proofs.Sound.{sound_in}
use Rattle.rt0_rules.proofs.Complete.{AreListed, IsFound, bodies_listed, role_listed, complete}
use Rattle.rt0_rules.proofs.Distinct.{IsMapped, mapped, filtered, kept_by, AreDistinct-filter, AreDistinct-from_map}
use Rattle.rt0_rules.proofs.Told.{all_told, IsToldBy, told_by, is_told, told_distinct, length-all_told}
use Rattle.rt0_rules.proofs.WorkLaws.{above_exceeds}
use Rattle.rt0_rules.proofs.Asking.{ask_of_apart}

in_part : (p : Part) (d : List ℕ) → Contains (entities_in (part_expr p)) d → Contains (entities_in_part p) d
in_part (part.Ent e) d has = has
in_part (part.Rol r) d has = has
in_part (part.Link base n) d has = has

-- the entities of a demanded expression stand in bodies
demanded_listed : (C : List Credential) (role : Role) (e : Expr) → Demanded C role e → AreListed (all_entities C) e
demanded_listed C role e asked_role = role_listed (all_entities C) role
demanded_listed C role f (asked_by why demanded (asks_body c among head)) = bodies_listed C c among
demanded_listed C role f (asked_by why demanded (asks_base r n)) = role_listed (all_entities C) r
demanded_listed C role f (asked_by why demanded (asks_via n b member)) = role_listed (all_entities C) (record { owner = b; name = n })
demanded_listed C role f (asked_by why demanded (asks_part {parts = parts} i p at)) =
    let whole : AreListed (all_entities C) (Meet parts) = demanded_listed C role (Meet parts) demanded in
    let among : Contains parts p = (i, slice_get_within parts i p at, get_or_from_slice_get parts i p p at) in
    record { each = λ d has. whole.each d (Contains-flat_map entities_in_part parts p d among (in_part p d has)) }

-- the members of what each asks
abbrev members_of : List Fact → List (List ℕ) → Asked → List (List ℕ)
members_of facts everyone x = members_among facts everyone x.asked

-- what the askers are told
tells_all : (C : List Credential) (facts : List Fact) (everyone : List (List ℕ)) (role : Role) (asks : List Asked) →
    IsSound C facts → IsClosed C (all_entities C) facts → ListsAll (Contains (all_entities C)) everyone → ListsAll (IsAsk C role) (map ask_of asks) →
    ListsAll (IsTell C role) (all_told ask_of (members_of facts everyone) asks)
tells_all C facts everyone role asks sound closed all are = record {
  distinct = told_distinct ask_of (members_of facts everyone) asks (λ x y _ _ same. ask_of_apart x y same)
      (λ x. AreDistinct-filter (λ d. holds facts d x.asked) everyone all.distinct) (AreDistinct-from_map ask_of asks are.distinct);
  exact = λ tell. (
    λ has.
        let by : IsToldBy ask_of (members_of facts everyone) asks tell = told_by ask_of (members_of facts everyone) asks tell has in
        let member : Contains everyone tell.who × (holds facts tell.who by.asker.asked ≡ true) =
        filtered (λ d. holds facts d by.asker.asked) everyone tell.who by.who in (
          subst (IsAsk C role) by.ask ((are.exact (ask_of by.asker)).0 (Contains-map ask_of asks by.asker by.among)),
          subst (λ (a : Ask). Derives C tell.who a.asked) by.ask (sound_in C facts sound by.asker.asked tell.who member.1),
        ),
    λ is.
        let from : IsMapped ask_of asks tell.ask = mapped ask_of asks tell.ask ((are.exact tell.ask).1 is.0) in
        let derived : Derives C tell.who from.from.asked = subst (λ (a : Ask). Derives C tell.who a.asked) (sym from.is) is.1 in
        let own : IsAsk C role (ask_of from.from) = subst (IsAsk C role) (sym from.is) is.0 in
        let found : IsFound (all_entities C) facts tell.who from.from.asked =
        complete C facts closed tell.who from.from.asked derived (demanded_listed C role from.from.asked (asked_by (ask_of from.from).why own.0 own.1)) in
        is_told ask_of (members_of facts everyone) asks from.from tell from.among from.is
        (kept_by (λ d. holds facts d from.from.asked) everyone tell.who ((all.exact tell.who).1 found.listed) found.holds),
  );
}

work_is : (C : List Credential) (facts : List Fact) (everyone : List (List ℕ)) (role : Role) (asks : List Asked) →
    IsSound C facts → IsClosed C (all_entities C) facts → ListsAll (Contains (all_entities C)) everyone → ListsAll (IsAsk C role) (map ask_of asks) →
    WorkIs C role (count_of facts everyone asks)
work_is C facts everyone role asks sound closed all are = record {
  asks = map ask_of asks;
  tells = all_told ask_of (members_of facts everyone) asks;
  asks_are = are;
  tells_are = tells_all C facts everyone role asks sound closed all are;
  total = omega (arith, length-map asks ask_of, length-all_told ask_of (members_of facts everyone) asks);
}

-- the count of them, within a limit
pub counted_within : (C : List Credential) (facts : List Fact) (everyone : List (List ℕ)) (role : Role) (asks : List Asked) (limit : ℕ) (count : Option ℕ) →
    IsSound C facts → IsClosed C (all_entities C) facts → ListsAll (Contains (all_entities C)) everyone → ListsAll (IsAsk C role) (map ask_of asks) →
    IsCountedWithin limit (count_of facts everyone asks) count → IsWorkWithin C role limit count
counted_within C facts everyone role asks limit (Some work) sound closed all are counted =
    (subst (WorkIs C role) (sym counted.0) (work_is C facts everyone role asks sound closed all are), counted.1)
counted_within C facts everyone role asks limit None sound closed all are above =
    above_exceeds C role (count_of facts everyone asks) limit (work_is C facts everyone role asks sound closed all are) above

-- the count at equal lists
pub count_alike : (facts facts' : List Fact) (everyone everyone' : List (List ℕ)) (asks asks' : List Asked) (limit : ℕ) (count : Option ℕ) →
    facts ≡ facts' → everyone ≡ everyone' → asks ≡ asks' → IsCountedWithin limit (count_of facts everyone asks) count →
    IsCountedWithin limit (count_of facts' everyone' asks') count
count_alike facts facts' everyone everyone' asks asks' limit count same_facts same_people same_asks counted =
    subst (λ (n : ℕ). IsCountedWithin limit n count) (λ i. count_of (same_facts i) (same_people i) (same_asks i)) counted
