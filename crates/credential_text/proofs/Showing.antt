-- A text spells a credential exactly where it shows its head before the arrow and the parts of its body after it.
use Rattle.std.proofs.Common.{ℕ, List, ◌∷◌, ◌++◌, ◌≡◌, refl, ap, sym, ◌∙◌, append_assoc, codes}
use Rattle.std.proofs.lemmas.Option.{some_pair_parts, MatchOption-at_some}
use Rattle.names.specs.Role.{role_text}
use Rattle.names.proofs.Avoiding.{Avoids, Avoids-append}
use Rattle.credential_text.specs.declared.credentials.Credential.{Credential}
use Rattle.credential_text.specs.Expr.{expr_parts}
use Rattle.credential_text.proofs.Same.{same_credential}
use Rattle.credential_text.specs.Spelling.{Spells}
use Rattle.names.specs.Texts.{trim}
use Rattle.credential_text.specs.Refusal.{split_arrow, part_texts}
use Rattle.credential_text.specs.Reading.{Shows}
use Rattle.credential_text.specs.Laws.{NoTextSpellsTwo}
use Rattle.credential_text.proofs.Bytes.{mark_space, mark_arrow, spaces_avoid, role_avoids}
use Rattle.names.proofs.Spaces.{trim-round, Trimmed, trim_parts}
use Rattle.credential_text.proofs.Arrow.{split_arrow_at, split_arrow_parts, IsRound}
use Rattle.credential_text.proofs.Readings.{role_texts_tell}
use Rattle.credential_text.proofs.Joining.{joined_texts, Joined, joined_from}
use Rattle.credential_text.proofs.ExprLemmas.{some_part, parts_tell, part_lists_tell}

round_arrow : (front right body after : List ℕ) → front ++ codes "<-" ++ right ++ body ++ after ≡ front ++ 60 ∷ 45 ∷ (right ++ body ++ after)
round_arrow front right body after = simp append_assoc

-- what spells a credential shows it
pub shown : (text : List ℕ) (c : Credential) → Spells text c → Shows text c
shown text c s =
    let head : List ℕ = role_text c.head in
    let avoids : Avoids 60 (s.before ++ head ++ s.left) =
    Avoids-append 60 (s.before ++ head) s.left
    (Avoids-append 60 s.before head (spaces_avoid 60 refl s.before s.spaces_before) (role_avoids 60 mark_arrow c.head s.is_credential.owner s.is_credential.name))
    (spaces_avoid 60 refl s.left s.spaces_left) in
    record {
      is_credential = s.is_credential;
      before = s.before ++ head ++ s.left;
      after = s.right ++ s.body ++ s.after;
      arrow =
          ap split_arrow (s.spelled ∙ round_arrow (s.before ++ head ++ s.left) s.right s.body s.after)
          ∙ split_arrow_at (s.before ++ head ++ s.left) (s.right ++ s.body ++ s.after) avoids;
      head = trim-round s.before head s.left s.spaces_before (role_avoids 32 mark_space c.head s.is_credential.owner s.is_credential.name) s.spaces_left;
      body = joined_texts (expr_parts c.body) s.right s.body s.after s.is_credential.names s.spaces_right s.spaces_after s.joins;
    }

joined_parts : (before l head r after l' body r' : List ℕ) → before ≡ l ++ head ++ r → after ≡ l' ++ body ++ r' →
    before ++ 60 ∷ 45 ∷ after ≡ l ++ head ++ r ++ codes "<-" ++ l' ++ body ++ r'
joined_parts before l head r after l' body r' is_before is_after = rw (is_before, is_after) (simp append_assoc)

-- what shows a credential spells it
pub spelled_from : (text : List ℕ) (c : Credential) → Shows text c → Spells text c
spelled_from text c s =
    let b : Trimmed s.before = trim_parts s.before in
    let j : Joined (expr_parts c.body) s.after = joined_from (expr_parts c.body) s.after (some_part c.body s.is_credential.parts) s.body in
    let whole : text ≡ s.before ++ 60 ∷ 45 ∷ s.after = MatchOption-at_some _ (IsRound text) (s.before, s.after) s.arrow (split_arrow_parts text) in
    record {
      is_credential = s.is_credential;
      before = b.left;
      left = b.right;
      right = j.left;
      body = j.inner;
      after = j.right;
      spaces_before = b.spaces_left;
      spaces_left = b.spaces_right;
      spaces_right = j.spaces_left;
      spaces_after = j.spaces_right;
      joins = j.joins;
      spelled =
          whole
          ∙ joined_parts s.before b.left (role_text c.head) b.right s.after j.left j.inner j.right
          (b.whole ∙ ap (λ (t : List ℕ). b.left ++ t ++ b.right) s.head)
          j.whole;
    }

one_shown : (text : List ℕ) (c d : Credential) → Shows text c → Shows text d → c ≡ d
one_shown text c d s t =
    let round : (s.before ≡ t.before) × (s.after ≡ t.after) = some_pair_parts s.before t.before s.after t.after (sym s.arrow ∙ t.arrow) in
    let head : c.head ≡ d.head =
    role_texts_tell c.head d.head s.is_credential.owner s.is_credential.name t.is_credential.owner t.is_credential.name
    (sym s.head ∙ ap trim round.0 ∙ t.head) in
    let parts : expr_parts c.body ≡ expr_parts d.body =
    part_lists_tell (expr_parts c.body) (expr_parts d.body) s.is_credential.names t.is_credential.names (sym s.body ∙ ap part_texts round.1 ∙ t.body) in
    same_credential c d head (parts_tell c.body d.body s.is_credential.parts t.is_credential.parts parts)

pub no_text_spells_two : NoTextSpellsTwo
no_text_spells_two text c d s t = one_shown text c d (shown text c s) (shown text d t)
