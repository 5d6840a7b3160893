-- Bytes that stand in no name.
use Rattle.std.proofs.Common.{ℕ, Bool, true, false, List, [], ◌∷◌, ◌++◌, ◌≡◌, ◌==◌, ◌&&◌, ap, All, nat_le, length}
use Rattle.std.specs.List.{list_all}
use Rattle.std.proofs.lemmas.List.Elements.{All-nil, All-cons, All-append}
use Rattle.std.proofs.lemmas.Bool.{ne_eqb, and_parts}
use Rattle.names.specs.Name.{is_letter, is_name_byte, IsName}

-- the byte doesn't stand in the text
abbrev pub Avoids : ℕ → List ℕ → Type 0
Avoids byte text = All (λ b. (b == byte) ≡ false) text

pub Avoids-nil : (byte : ℕ) → Avoids byte []
Avoids-nil byte = All-nil (λ (b : ℕ). (b == byte) ≡ false)

pub Avoids-cons : (byte b : ℕ) (bs : List ℕ) → (b == byte) ≡ false → Avoids byte bs → Avoids byte (b ∷ bs)
Avoids-cons byte b bs first others = All-cons (λ (x : ℕ). (x == byte) ≡ false) b bs first others

pub Avoids-append : (byte : ℕ) (xs ys : List ℕ) → Avoids byte xs → Avoids byte ys → Avoids byte (xs ++ ys)
Avoids-append byte xs ys in_xs in_ys = All-append (λ (b : ℕ). (b == byte) ≡ false) xs ys in_xs in_ys

-- what passes a test is no byte that fails it
pub other_byte : (p : ℕ → Bool) (b byte : ℕ) → p byte ≡ false → p b ≡ true → (b == byte) ≡ false
other_byte p b byte fails passes = ne_eqb b byte (λ (same : b ≡ byte). let e : p b ≡ p byte = ap p same in cc)

-- a text that passes a test has no byte that fails it
pub list_avoids : (p : ℕ → Bool) (byte : ℕ) → p byte ≡ false → (text : List ℕ) → list_all p text ≡ true → Avoids byte text
list_avoids p byte fails [] passes = Avoids-nil byte
list_avoids p byte fails (b ∷ bs) passes =
    let both : (p b ≡ true) × (list_all p bs ≡ true) = and_parts (p b) (list_all p bs) passes in
    Avoids-cons byte b bs (other_byte p b byte fails both.0) (list_avoids p byte fails bs both.1)

-- the parts of what makes a text a name
pub record NameParts (b : ℕ) (bs : List ℕ) : Type 0 where
  pub starts : is_letter b ≡ true
  pub goes_on : list_all is_name_byte bs ≡ true
  pub short : nat_le (length (b ∷ bs)) 64 ≡ true

pub name_parts : (b : ℕ) (bs : List ℕ) → IsName (b ∷ bs) → NameParts b bs
name_parts b bs name =
    let outer : ((is_letter b && list_all is_name_byte bs) ≡ true) × (nat_le (length (b ∷ bs)) 64 ≡ true) = and_parts _ _ name in
    let inner : (is_letter b ≡ true) × (list_all is_name_byte bs ≡ true) = and_parts _ _ outer.0 in
    record { starts = inner.0; goes_on = inner.1; short = outer.1 }

-- a name has none of the bytes that stand in no name
pub name_avoids : (byte : ℕ) → is_name_byte byte ≡ false → (text : List ℕ) → IsName text → Avoids byte text
name_avoids byte fails [] name = Avoids-nil byte
name_avoids byte fails (b ∷ bs) name =
    let parts : NameParts b bs = name_parts b bs name in
    let letter : is_name_byte b ≡ true = simp parts.starts in
    Avoids-cons byte b bs (other_byte is_name_byte b byte fails letter) (list_avoids is_name_byte byte fails bs parts.goes_on)
