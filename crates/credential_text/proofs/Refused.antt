-- A short text is refused exactly where it spells no credential.
use Rattle.std.proofs.Common.{ℕ, Bool, true, false, List, [], ◌∷◌, ◌<◌, ◌≤◌, ◌≡◌, refl, ap, sym, ◌∙◌, Option, Some, None, length, length-append, cond, nat_lt, map, ◌||◌, arith}
use Rattle.std.specs.List.{list_all, list_any}
use Rattle.std.proofs.lemmas.List.{append-nil, length-map}
use Rattle.std.proofs.lemmas.Bool.{cond-false, false_from_ne_true, ltb-false, le-ltb, and_parts, and_from, or_parts, or_from}
use Rattle.names.specs.declared.faults.NameFault.{NameFault}
use Rattle.names.specs.declared.faults.NameFault.TheVariants as name
use Rattle.names.specs.declared.roles.Role.{Role}
use Rattle.names.specs.Name.{is_name, IsName}
use Rattle.names.specs.Fault.{role_fault, or_then}
use Rattle.names.specs.Texts.{dot, pieces, IsSpaces, is_space, trim, trim_end}
use Rattle.names.specs.Role.{role_text, SpellsRole}
use Rattle.names.proofs.PieceLemmas.{pieces_none, some_piece}
use Rattle.names.proofs.RoleLemmas.{role_pieces, role_faultless, faultless_are_roles, neither}
use Rattle.credential_text.specs.declared.faults.CredFault.{CredFault}
use Rattle.credential_text.specs.declared.faults.CredFault.TheVariants as faults
use Rattle.credential_text.specs.declared.intersections.Part.{Part}
use Rattle.credential_text.specs.declared.intersections.Part.TheVariants.{Ent, Rol, Link}
use Rattle.credential_text.specs.declared.exprs.Expr.{Expr}
use Rattle.credential_text.specs.declared.credentials.Credential.{Credential}
use Rattle.credential_text.specs.Part.{has_names, part_text, is_based_on}
use Rattle.credential_text.specs.Expr.{expr_parts, HasPartsInRange}
use Rattle.credential_text.specs.Spelling.{Spells, ampersand}
use Rattle.credential_text.specs.Refusal.{split_arrow, head_fault, head_fault_of, part_fault, first_part_fault, is_empty, part_texts, parts_fault, body_fault, first_piece, owner_text, fault_round, refusal}
use Rattle.credential_text.specs.Reading.{ReadsAs, ReadsParts, ReadsBody, Shows}
use Rattle.credential_text.specs.Laws.{RefusedUnlessSpelled}
use Rattle.credential_text.proofs.Bytes.{one_name, spaces_avoid}
use Rattle.names.proofs.Spaces.{trim_start-spaces}
use Rattle.credential_text.proofs.Readings.{part_faultless, faultless_reads}
use Rattle.credential_text.proofs.ExprLemmas.{few_parts, some_expr}
use Rattle.credential_text.proofs.Showing.{shown, spelled_from}

name_some : (text : List ℕ) → IsName text → text ≡ [] → ⊥
name_some text name e = let nil : is_name text ≡ is_name [] = ap is_name e in cc

-- a part's text isn't empty
part_some : (p : Part) → has_names p ≡ true → part_text p ≡ [] → ⊥
part_some (Ent e) named nothing = name_some e (one_name e named) nothing
part_some (Rol r) named nothing = absurd (omega (arith, ap length nothing, length-append r.owner (dot ∷ r.name)))
part_some (Link r n) named nothing = absurd (omega (arith, ap length nothing, length-append (role_text r) (dot ∷ n)))

some_not_empty : (text : List ℕ) → (text ≡ [] → ⊥) → is_empty text ≡ false
some_not_empty [] some = absurd (some refl)
some_not_empty (b ∷ bs) some = refl

pub trim-spaces : (text : List ℕ) → IsSpaces text → trim text ≡ []
trim-spaces text spaces = ap trim (sym (append-nil text)) ∙ ap trim_end (trim_start-spaces text [] spaces)

-- the texts of a blank body
blank_texts : (text : List ℕ) → IsSpaces text → part_texts text ≡ [] ∷ []
blank_texts text spaces =
    ap (map trim) (pieces_none ampersand text (spaces_avoid ampersand refl text spaces)) ∙ ap (λ (t : List ℕ). t ∷ []) (trim-spaces text spaces)

blank_reads_none : (ps : List Part) → list_all has_names ps ≡ true → [] ∷ [] ≡ map part_text ps → ⊥
blank_reads_none [] named same = cc
blank_reads_none (p ∷ ps) named same =
    let both : (has_names p ≡ true) × (list_all has_names ps ≡ true) = and_parts _ _ named in
    let nothing : part_text p ≡ [] = cc in
    part_some p both.0 nothing

-- a body that reads as parts isn't blank
not_blank : (body : List ℕ) (ps : List Part) → list_all has_names ps ≡ true → part_texts body ≡ map part_text ps → list_all is_space body ≡ false
not_blank body ps named reads =
    false_from_ne_true (list_all is_space body) (λ (blank : list_all is_space body ≡ true). blank_reads_none ps named (sym (blank_texts body blank) ∙ reads))

none_empty : (ps : List Part) → list_all has_names ps ≡ true → list_any is_empty (map part_text ps) ≡ false
none_empty [] named = refl
none_empty (p ∷ ps) named =
    let both : (has_names p ≡ true) × (list_all has_names ps ≡ true) = and_parts _ _ named in
    or_from (is_empty (part_text p)) (list_any is_empty (map part_text ps)) (some_not_empty (part_text p) (part_some p both.0)) (none_empty ps both.1)

none_at_fault : (owner : List ℕ) (ps : List Part) → list_all has_names ps ≡ true → list_all (is_based_on owner) ps ≡ true → first_part_fault owner (map part_text ps) ≡ None
none_at_fault owner [] named based = refl
none_at_fault owner (p ∷ ps) named based =
    let of_names : (has_names p ≡ true) × (list_all has_names ps ≡ true) = and_parts _ _ named in
    let of_bases : (is_based_on owner p ≡ true) × (list_all (is_based_on owner) ps ≡ true) = and_parts _ _ based in
    ap (λ (f : Option CredFault). or_then f (first_part_fault owner (map part_text ps))) (part_faultless owner p of_names.0 of_bases.0)
    ∙ none_at_fault owner ps of_names.1 of_bases.1

body_faultless : (owner body : List ℕ) (e : Expr) → ReadsBody owner body e → body_fault owner body ≡ None
body_faultless owner body e reads =
    let texts : List (List ℕ) = map part_text (expr_parts e) in
    let few : nat_lt 8 (length texts) ≡ false = le-ltb 8 (length texts) (omega (arith, length-map (expr_parts e) part_text, few_parts e reads.range)) in
    cond-false (list_all is_space body) _ _ (not_blank body (expr_parts e) reads.named reads.texts)
    ∙ ap (parts_fault owner) reads.texts
    ∙ cond-false (nat_lt 8 (length texts) || list_any is_empty texts) _ _ (or_from _ _ few (none_empty (expr_parts e) reads.named))
    ∙ none_at_fault owner (expr_parts e) reads.named reads.based

-- what spells a role has no fault as a head
pub head_faultless : (head : List ℕ) (r : Role) → SpellsRole head r → head_fault head ≡ None
head_faultless head r spells = ap head_fault_of (role_faultless head r spells)

-- what stands before the dot of a role's text is its owner
pub owner_of : (head : List ℕ) (r : Role) → SpellsRole head r → owner_text head ≡ r.owner
owner_of head r spells = ap owner_text spells.spelled ∙ ap first_piece (role_pieces r.owner r.name spells.owner spells.name)

-- a text of a good head is refused as its body is
pub refused_as_body : (text before after : List ℕ) (r : Role) → length text ≤ 4096 → split_arrow text ≡ Some (before, after) → SpellsRole (trim before) r → refusal text ≡ body_fault r.owner after
refused_as_body text before after r short arrow head =
    cond-false (nat_lt 4096 (length text)) _ _ (le-ltb 4096 (length text) short)
    ∙ ap fault_round arrow
    ∙ ap (λ (g : Option CredFault). or_then g (body_fault (owner_text (trim before)) after)) (head_faultless (trim before) r head)
    ∙ ap (λ (owner : List ℕ). body_fault owner after) (owner_of (trim before) r head)

-- one without an arrow is refused for that
pub no_arrow_refused : (text : List ℕ) → length text ≤ 4096 → split_arrow text ≡ None
    → refusal text ≡ Some faults.NoArrow
no_arrow_refused text short none =
    cond-false (nat_lt 4096 (length text)) _ _ (le-ltb 4096 (length text) short) ∙ ap fault_round none

shown_head : (text : List ℕ) (c : Credential) (s : Shows text c) → SpellsRole (trim s.before) c.head
shown_head text c s = record { spelled = s.head; owner = s.is_credential.owner; name = s.is_credential.name }

shown_unrefused : (text : List ℕ) (c : Credential) → length text ≤ 4096 → Shows text c → refusal text ≡ None
shown_unrefused text c short s =
    refused_as_body text s.before s.after c.head short s.arrow (shown_head text c s)
    ∙ body_faultless c.head.owner s.after c.body
    (record { texts = s.body; named = s.is_credential.names; based = c.issuer_kept; range = s.is_credential.parts })

no_head_fault : (o : Option NameFault) → head_fault_of o ≡ None → o ≡ None
no_head_fault None e = refl
no_head_fault (Some name.Empty) e = cc
no_head_fault (Some name.Start) e = cc
no_head_fault (Some name.Byte) e = cc
no_head_fault (Some name.Long) e = cc
no_head_fault (Some name.NotRole) e = cc

-- of two answers by a test, the one that isn't a fault
passed : (b : Bool) (f : CredFault) (o : Option CredFault) → cond b (Some f) o ≡ None → (b ≡ false) × (o ≡ None)
passed true f o e = cc
passed false f o e = (refl, e)

-- texts without a fault read as parts
texts_read : (owner : List ℕ) (texts : List (List ℕ)) → first_part_fault owner texts ≡ None → (ps : List Part) × ReadsParts owner texts ps
texts_read owner [] e = ([], record { spelled = refl; named = refl; based = refl })
texts_read owner (t ∷ ts) e =
    let both : (part_fault owner t ≡ None) × (first_part_fault owner ts ≡ None) = neither (part_fault owner t) (first_part_fault owner ts) e in
    let first : (p : Part) × ReadsAs owner t p = faultless_reads owner t both.0 in
    let others : (ps : List Part) × ReadsParts owner ts ps = texts_read owner ts both.1 in (
      first.0 ∷ others.0,
      record {
        spelled = λ i. first.1.spelled i ∷ others.1.spelled i;
        named = and_from _ _ first.1.named others.1.named;
        based = and_from _ _ first.1.based others.1.based;
      },
    )

-- an expression of the parts that a body's texts read as
pub body_from : (owner body : List ℕ) (ps : List Part) (e : Expr) → ReadsParts owner (part_texts body) ps → expr_parts e ≡ ps → HasPartsInRange e → ReadsBody owner body e
body_from owner body ps e reads same range = record {
  texts = reads.spelled ∙ ap (map part_text) (sym same);
  named = ap (list_all has_names) same ∙ reads.named;
  based = ap (list_all (is_based_on owner)) same ∙ reads.based;
  range = range;
}

-- a body has one text or more
pub some_text : (body : List ℕ) → 0 < length (part_texts body)
some_text body = omega (arith, some_piece ampersand body, length-map (pieces ampersand body) trim)

body_reads : (owner body : List ℕ) → body_fault owner body ≡ None → (e : Expr) × ReadsBody owner body e
body_reads owner body none =
    let texts : List (List ℕ) = part_texts body in
    let some : (list_all is_space body ≡ false) × (parts_fault owner texts ≡ None) = passed _ _ _ none in
    let few : ((nat_lt 8 (length texts) || list_any is_empty texts) ≡ false) × (first_part_fault owner texts ≡ None) = passed _ _ _ some.1 in
    let at_most : (nat_lt 8 (length texts) ≡ false) × (list_any is_empty texts ≡ false) = or_parts _ _ few.0 in
    let read : (ps : List Part) × ReadsParts owner texts ps = texts_read owner texts few.1 in
    let same : length texts ≡ length read.0 = ap length read.1.spelled ∙ length-map read.0 part_text in
    let e : (e : Expr) × (expr_parts e ≡ read.0) × HasPartsInRange e =
    some_expr read.0 (omega (arith, some_text body)) (omega (arith, ltb-false 8 (length texts) at_most.0)) in
    (e.0, body_from owner body read.0 e.0 read.1 e.1 e.2)

-- what is read of a head and a body shows their credential
pub shown_by : (text before after : List ℕ) (c : Credential) → split_arrow text ≡ Some (before, after) → SpellsRole (trim before) c.head → ReadsBody c.head.owner after c.body → Shows text c
shown_by text before after c arrow head body = record {
  is_credential = record { owner = head.owner; name = head.name; names = body.named; parts = body.range };
  before = before;
  after = after;
  arrow = arrow;
  head = head.spelled;
  body = body.texts;
}

round_shows : (text : List ℕ) (o : Option (List ℕ × List ℕ)) → split_arrow text ≡ o → fault_round o ≡ None → (c : Credential) × Shows text c
round_shows text None arrow e = cc
round_shows text (Some (before, after)) arrow e =
    let both : (head_fault (trim before) ≡ None) × (body_fault (owner_text (trim before)) after ≡ None) = neither (head_fault (trim before)) (body_fault (owner_text (trim before)) after) e in
    let head : (r : Role) × SpellsRole (trim before) r = (faultless_are_roles (trim before)).0 (no_head_fault (role_fault (trim before)) both.0) in
    let body : (e : Expr) × ReadsBody head.0.owner after e = body_reads head.0.owner after (ap (λ (o : List ℕ). body_fault o after) (sym (owner_of (trim before) head.0 head.1)) ∙ both.1) in
    let c : Credential = record { head = head.0; body = body.0; issuer_kept = body.1.based } in
    (c, shown_by text before after c arrow head.1 body.1)

unrefused_spells : (text : List ℕ) → refusal text ≡ None → (length text ≤ 4096) × (c : Credential) × Spells text c
unrefused_spells text e =
    let short : (nat_lt 4096 (length text) ≡ false) × (fault_round (split_arrow text) ≡ None) = passed _ _ _ e in
    let some : (c : Credential) × Shows text c = round_shows text (split_arrow text) refl short.1 in
    (ltb-false 4096 (length text) short.0, some.0, spelled_from text some.0 some.1)

pub refused_unless_spelled : RefusedUnlessSpelled
refused_unless_spelled text = (
  unrefused_spells text,
  λ (spelled : (length text ≤ 4096) × (c : Credential) × Spells text c). shown_unrefused text spelled.1 spelled.0 (shown text spelled.1 spelled.2),
)

-- parts that were read are at least one
pub some_read : (owner body : List ℕ) (ps : List Part) → ReadsParts owner (part_texts body) ps → 0 < length ps
some_read owner body ps reads = omega (arith, some_text body, ap length reads.spelled, length-map ps part_text)

-- a body whose parts were read has no fault
pub read_faultless : (owner body : List ℕ) (ps : List Part) → list_all is_space body ≡ false → (nat_lt 8 (length (part_texts body)) || list_any is_empty (part_texts body)) ≡ false →
    ReadsParts owner (part_texts body) ps → body_fault owner body ≡ None
read_faultless owner body ps some parts reads =
    cond-false (list_all is_space body) _ _ some
    ∙ cond-false (nat_lt 8 (length (part_texts body)) || list_any is_empty (part_texts body)) _ _ parts
    ∙ ap (first_part_fault owner) reads.spelled
    ∙ none_at_fault owner ps reads.named reads.based
