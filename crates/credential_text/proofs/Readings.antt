-- What a part's text and its pieces tell of the part.
use Rattle.std.proofs.Common.{ℕ, Bool, true, false, List, [], ◌∷◌, ◌++◌, ◌≡◌, refl, ap, sym, subst, ◌∙◌, Option, Some, None, length, ◌<◌, arith, append_assoc, cond}
use Rattle.std.specs.Prelude.{MatchOption, is_some, if◌then◌else◌}
use Rattle.std.specs.List.{join_with_byte}
use Rattle.std.proofs.lemmas.List.Splits.{join_with_byte-slice_split}
use Rattle.std.proofs.lemmas.Bool.{and_from}
use Rattle.names.specs.declared.faults.NameFault.{NameFault}
use Rattle.names.specs.declared.roles.Role.{Role}
use Rattle.names.specs.Name.{IsName, is_same}
use Rattle.names.specs.Fault.{name_fault, or_then}
use Rattle.names.specs.Texts.{dot, pieces}
use Rattle.names.specs.Role.{role_text}
use Rattle.names.proofs.Avoiding.{name_avoids}
use Rattle.names.proofs.PieceLemmas.{pieces_at, pieces_none, some_piece}
use Rattle.names.proofs.RoleLemmas.{role_pieces, name_faultless, faultless_name, neither}
use Rattle.credential_text.specs.declared.faults.CredFault.TheVariants as faults
use Rattle.credential_text.specs.declared.intersections.Part.{Part}
use Rattle.credential_text.specs.declared.intersections.Part.TheVariants.{Ent, Rol, Link}
use Rattle.credential_text.specs.Part.{has_names, part_names, part_text, is_based_on}
use Rattle.credential_text.specs.PartOrder.{names_tell}
use Rattle.credential_text.specs.Refusal.{as_cred_fault, part_fault, part_fault_of}
use Rattle.credential_text.specs.Reading.{ReadsAs}
use Rattle.credential_text.proofs.Bytes.{one_name, two_names, three_names}

link_text : (a b c : List ℕ) → (a ++ dot ∷ b) ++ dot ∷ c ≡ a ++ dot ∷ (b ++ dot ∷ c)
link_text a b c = simp append_assoc

-- the pieces of a part's text are its names
pub part_pieces : (p : Part) → has_names p ≡ true → pieces dot (part_text p) ≡ part_names p
part_pieces (Ent e) named = pieces_none dot e (name_avoids dot refl e (one_name e named))
part_pieces (Rol r) named = let both : IsName r.owner × IsName r.name = two_names r.owner r.name named in role_pieces r.owner r.name both.0 both.1
part_pieces (Link r n) named =
    let all : IsName r.owner × IsName r.name × IsName n = three_names r.owner r.name n named in
    ap (pieces dot) (link_text r.owner r.name n)
    ∙ pieces_at dot r.owner (r.name ++ dot ∷ n) (name_avoids dot refl r.owner all.0)
    ∙ ap (λ (ps : List (List ℕ)). r.owner ∷ ps) (role_pieces r.name n all.1 all.2)

-- parts of the same text are the same
pub texts_tell : (p q : Part) → has_names p ≡ true → has_names q ≡ true → part_text p ≡ part_text q → p ≡ q
texts_tell p q named_p named_q same = names_tell p q (sym (part_pieces p named_p) ∙ ap (pieces dot) same ∙ part_pieces q named_q)

-- roles of the same text are the same
pub role_texts_tell : (r s : Role) → IsName r.owner → IsName r.name → IsName s.owner → IsName s.name → role_text r ≡ role_text s → r ≡ s
role_texts_tell r s r_owner r_name s_owner s_name same =
    let all : r.owner ∷ r.name ∷ [] ≡ s.owner ∷ s.name ∷ [] =
    sym (role_pieces r.owner r.name r_owner r_name) ∙ ap (pieces dot) same ∙ role_pieces s.owner s.name s_owner s_name in
    let owner : r.owner ≡ s.owner = cc in
    let name : r.name ≡ s.name = cc in
    λ i. record { owner = owner i; name = name i }

-- the names of a part have no fault where a linked role in it has its base with the owner
pub names_faultless : (owner : List ℕ) (p : Part) → has_names p ≡ true → is_based_on owner p ≡ true → part_fault_of owner (part_names p) ≡ None
names_faultless owner (Ent e) named based = ap as_cred_fault (name_faultless e (one_name e named))
names_faultless owner (Rol r) named based =
    let both : IsName r.owner × IsName r.name = two_names r.owner r.name named in
    simp (name_faultless r.owner both.0, name_faultless r.name both.1)
names_faultless owner (Link r n) named based =
    let all : IsName r.owner × IsName r.name × IsName n = three_names r.owner r.name n named in
    simp (name_faultless r.owner all.0, name_faultless r.name all.1, name_faultless n all.2, based)

pub part_faultless : (owner : List ℕ) (p : Part) → has_names p ≡ true → is_based_on owner p ≡ true → part_fault owner (part_text p) ≡ None
part_faultless owner p named based = ap (part_fault_of owner) (part_pieces p named) ∙ names_faultless owner p named based

pub no_name_fault : (o : Option NameFault) → as_cred_fault o ≡ None → o ≡ None
no_name_fault None e = refl
no_name_fault (Some fault) e = cc

-- a base that is not refused
base_kept : (same : Bool) → cond same None (Some faults.LinkBase) ≡ None → same ≡ true
base_kept true e = refl
base_kept false e = cc

-- the names of a part without a fault
read_pieces : (owner text : List ℕ) (ps : List (List ℕ)) → 0 < length ps → join_with_byte dot ps ≡ text → part_fault_of owner ps ≡ None → (p : Part) × ReadsAs owner text p
read_pieces owner text [] some joined e = absurd (omega arith)
read_pieces owner text (a ∷ []) some joined e =
    (Ent a, record { named = and_from _ _ (faultless_name a (no_name_fault (name_fault a) e)) refl; based = refl; spelled = sym joined })
read_pieces owner text (a ∷ b ∷ []) some joined e =
    let both : (name_fault a ≡ None) × (name_fault b ≡ None) = neither (name_fault a) (name_fault b) (no_name_fault _ e) in (
      Rol (record { owner = a; name = b }),
      record { named = and_from _ _ (faultless_name a both.0) (and_from _ _ (faultless_name b both.1) refl); based = refl; spelled = sym joined },
    )
read_pieces owner text (a ∷ b ∷ c ∷ []) some joined e =
    let split : (as_cred_fault (or_then (name_fault a) (or_then (name_fault b) (name_fault c))) ≡ None) × (cond (is_same a owner) None (Some faults.LinkBase) ≡ None) = neither _ _ e in
    let first : (name_fault a ≡ None) × (or_then (name_fault b) (name_fault c) ≡ None) = neither _ _ (no_name_fault _ split.0) in
    let others : (name_fault b ≡ None) × (name_fault c ≡ None) = neither _ _ first.1 in (
      Link (record { owner = a; name = b }) c,
      record {
        named = and_from _ _ (faultless_name a first.0) (and_from _ _ (faultless_name b others.0) (and_from _ _ (faultless_name c others.1) refl));
        based = base_kept (is_same a owner) split.1;
        spelled = sym joined ∙ sym (link_text a b c);
      },
    )
read_pieces owner text (a ∷ b ∷ c ∷ d ∷ more) some joined e = cc

-- a part without a fault reads as one
pub faultless_reads : (owner text : List ℕ) → part_fault owner text ≡ None → (p : Part) × ReadsAs owner text p
faultless_reads owner text e = read_pieces owner text (pieces dot text) (some_piece dot text) (join_with_byte-slice_split dot text) e

many_pieces : (owner a b c : List ℕ) (more : List (List ℕ)) → 0 < length more → part_fault_of owner (a ∷ b ∷ c ∷ more) ≡ Some faults.Dots
many_pieces owner a b c [] some = absurd (omega arith)
many_pieces owner a b c (d ∷ others) some = refl

-- a part with three dots or more
pub four_pieces : {B : Type 0} (value : B → List ℕ) (owner text a rest b last c : List ℕ) (more : Option B) → pieces dot text ≡ a ∷ pieces dot rest → pieces dot rest ≡ b ∷ pieces dot last →
    is_some more ≡ true → MatchOption more (pieces dot last ≡ c ∷ []) (λ m. pieces dot last ≡ c ∷ pieces dot (value m)) → part_fault owner text ≡ Some faults.Dots
four_pieces value owner text a rest b last c None first second some third = cc
four_pieces value owner text a rest b last c (Some more) first second some third =
    ap (part_fault_of owner) first ∙ ap (λ (ps : List (List ℕ)). part_fault_of owner (a ∷ ps)) second
    ∙ ap (λ (ps : List (List ℕ)). part_fault_of owner (a ∷ b ∷ ps)) third ∙ many_pieces owner a b c (pieces dot (value more)) (some_piece dot (value more))

earlier : (x y z : Option NameFault) (fault : NameFault) → or_then x y ≡ Some fault
    → or_then x (or_then y z) ≡ Some fault
earlier (Some x) y z fault e = e
earlier None (Some y) z fault e = e
earlier None None z fault e = cc

-- a text with two dots is three pieces
pub three_pieces : {B : Type 0} (value : B → List ℕ) (text a rest b last c : List ℕ) (more : Option B)
    → pieces dot text ≡ a ∷ pieces dot rest → pieces dot rest ≡ b ∷ pieces dot last → is_some more ≡ false
    → MatchOption more (pieces dot last ≡ c ∷ []) (λ m. pieces dot last ≡ c ∷ pieces dot (value m))
    → pieces dot text ≡ a ∷ b ∷ c ∷ []
three_pieces value text a rest b last c None first second none third =
    first ∙ ap (λ (ps : List (List ℕ)). a ∷ ps) second ∙ ap (λ (ps : List (List ℕ)). a ∷ b ∷ ps) third
three_pieces value text a rest b last c (Some more) first second none third = cc

-- it spells a linked role whose base is the owner's
pub linked_reads : {B : Type 0} (value : B → List ℕ) (owner text a rest b last c : List ℕ) (more : Option B) (base : Role) (n : List ℕ)
    → text ≡ a ++ dot ∷ rest → rest ≡ b ++ dot ∷ last → is_some more ≡ false
    → MatchOption more (last ≡ c) (λ m. last ≡ c ++ dot ∷ value m) → IsName a × (base.owner ≡ a) → IsName b × (base.name ≡ b)
    → IsName c → n ≡ c → is_same base.owner owner ≡ true → ReadsAs owner text (Link base n)
linked_reads value owner text a rest b last c None base n first second none third of_a of_b of_c is based = record {
  named =
      and_from _ _ (subst IsName (sym of_a.1) of_a.0)
      (and_from _ _ (subst IsName (sym of_b.1) of_b.0) (and_from _ _ (subst IsName (sym is) of_c) refl));
  based = based;
  spelled =
      first ∙ ap (λ t. a ++ dot ∷ t) (second ∙ ap (λ t. b ++ dot ∷ t) third) ∙ sym (link_text a b c)
      ∙ (λ i. part_text (Link (record { owner = sym of_a.1 i; name = sym of_b.1 i }) (sym is i)));
}
linked_reads value owner text a rest b last c (Some more) base n first second none third of_a of_b of_c is based = cc

-- it is refused for the first fault of its base
pub base_refused : (owner text a b c : List ℕ) (fault : NameFault) → pieces dot text ≡ a ∷ b ∷ c ∷ []
    → or_then (name_fault a) (name_fault b) ≡ Some fault → part_fault owner text ≡ Some (faults.Name fault)
base_refused owner text a b c fault three of_base =
    ap (part_fault_of owner) three
    ∙ ap (λ (f : Option NameFault). or_then (as_cred_fault f) (if is_same a owner then None else Some faults.LinkBase))
    (earlier (name_fault a) (name_fault b) (name_fault c) fault of_base)

-- or else for that of its last name
pub last_refused : (owner text a b c : List ℕ) (fault : NameFault) → pieces dot text ≡ a ∷ b ∷ c ∷ []
    → IsName a → IsName b → name_fault c ≡ Some fault → part_fault owner text ≡ Some (faults.Name fault)
last_refused owner text a b c fault three of_a of_b of_c =
    ap (part_fault_of owner) three ∙ simp (name_faultless a of_a, name_faultless b of_b, of_c)
