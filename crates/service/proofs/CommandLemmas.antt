-- A command is read in one way, but for want of memory.
use Rattle.std.proofs.Common.{◌≡◌, ◌≢◌, ◌≤◌, ◌⊎◌, ℕ, true, false, List, ◌∷◌, length, codes, refl, sym, subst, ap, ◌∙◌, Option, Some, None, Result, Ok, Err, inl, inr}
use Rattle.std.specs.Str.{bytes_eq}
use Rattle.names.specs.declared.roles.Role.{Role}
use Rattle.names.specs.Role.{SpellsRole}
use Rattle.names.proofs.RoleLemmas.{name_faultless, role_faultless}
use Rattle.credential_text.specs.declared.credentials.Credential.{Credential}
use Rattle.credential_text.specs.declared.faults.CredFault.{CredFault}
use Rattle.credential_text.specs.Refusal as credential
use Rattle.credential_text.specs.Spelling.{Spells}
use Rattle.credential_text.proofs.Readings.{role_texts_tell}
use Rattle.credential_text.proofs.Refused.{refused_unless_spelled}
use Rattle.credential_text.proofs.Showing.{no_text_spells_two}
use Rattle.vaults.specs.declared.changes.Change.TheVariants.{Upload, Withdraw}
use Rattle.hall.specs.declared.calls.requests.Request.TheVariants.{Alter}
use Rattle.service.specs.declared.commands.Command.{Command}
use Rattle.service.specs.declared.commands.Command.TheVariants.{Request}
use Rattle.service.specs.declared.refusals.Refusal.{Refusal}
use Rattle.service.specs.declared.refusals.Refusal.TheVariants as refusal
use Rattle.service.specs.Command.{Form, of_credential, of_name, of_role, of_number, whole, unknown, form_of, Reads}
use Rattle.service.specs.Words.{words, after_word}

-- a text spells one role at most
one_role : (text : List ℕ) (r s : Role) → SpellsRole text r → SpellsRole text s → r ≡ s
one_role text r s is also = role_texts_tell r s is.owner is.name also.owner also.name (sym is.spelled ∙ also.spelled)

-- a text with a fault has one
apart : {A B : Type 0} (o : Option A) (f : A) → o ≡ None → o ≡ Some f → B
apart o f none some = cc

-- a form is read as one command, or refused for one reason
pub one_reading : (form : Form) (one two : Result Command Refusal) → one ≢ Err refusal.Memory → two ≢ Err refusal.Memory → Reads form one → Reads form two → one ≡ two
one_reading (whole c) one two memory more read also = read ∙ sym also
one_reading unknown one two memory more read also = read ∙ sym also
one_reading (of_name next name) one two memory more (inl read) (inl also) = one_reading (next name) one two memory more read.1 also.1
one_reading (of_name next name) one two memory more (inl read) (inr also) = apart _ also.0 (name_faultless name read.0) also.1
one_reading (of_name next name) one two memory more (inr read) (inl also) = apart _ read.0 (name_faultless name also.0) read.1
one_reading (of_name next name) one two memory more (inr read) (inr also) = cc
one_reading (of_role next role) one two memory more (inl read) (inl also) =
    one_reading (next also.0) one two memory more
    (subst (λ (r : Role). Reads (next r) one) (one_role role read.0 also.0 read.1 also.1) read.2) also.2
one_reading (of_role next role) one two memory more (inl read) (inr also) = apart _ also.0 (role_faultless role read.0 read.1) also.1
one_reading (of_role next role) one two memory more (inr read) (inl also) = apart _ read.0 (role_faultless role also.0 also.1) read.1
one_reading (of_role next role) one two memory more (inr read) (inr also) = cc
one_reading (of_number next number) one two memory more (inl read) (inl also) =
    let same : read.0 ≡ also.0 = cc in
    one_reading (next also.0) one two memory more (subst (λ (n : ℕ). Reads (next n) one) same read.2) also.2
one_reading (of_number next number) one two memory more (inl read) (inr also) = apart _ read.0 also.0 read.1
one_reading (of_number next number) one two memory more (inr read) (inl also) = apart _ also.0 read.0 also.1
one_reading (of_number next number) one two memory more (inr read) (inr also) = read.1 ∙ sym also.1
one_reading (of_credential next text) one two memory more (inr (inr read)) also = absurd (memory read.1)
one_reading (of_credential next text) one two memory more read (inr (inr also)) = absurd (more also.1)
one_reading (of_credential next text) one two memory more (inl read) (inl also) =
    one_reading (next also.0) one two memory more
    (subst (λ (c : Credential). Reads (next c) one) (no_text_spells_two text read.0 also.0 read.1 also.1) read.3) also.3
one_reading (of_credential next text) one two memory more (inl read) (inr (inl also)) =
    apart _ also.0 ((refused_unless_spelled text).1 (read.2, read.0, read.1)) also.1
one_reading (of_credential next text) one two memory more (inr (inl read)) (inl also) =
    apart _ read.0 ((refused_unless_spelled text).1 (also.2, also.0, also.1)) read.1
one_reading (of_credential next text) one two memory more (inr (inl read)) (inr (inl also)) = cc

-- `put` and `drop` take the rest of the line
module _ (text verb rest : List ℕ) (c : Credential) (are : words text ≡ verb ∷ words rest) (others : rest ≡ after_word text)
    (spelled : Spells rest c × (length rest ≤ 4096)) where
  pub Reads-put : true ≡ bytes_eq verb (codes "put") → Reads (form_of text) (Ok (Request (Alter (Upload c))))
  Reads-put put = rw (are, sym others, sym put) (inl (c, spelled.0, spelled.1, refl))

  pub Reads-drop : false ≡ bytes_eq verb (codes "put") → true ≡ bytes_eq verb (codes "drop") → Reads (form_of text) (Ok (Request (Alter (Withdraw c))))
  Reads-drop put drops = rw (are, sym others, sym put, sym drops) (inl (c, spelled.0, spelled.1, refl))

-- where it spells none, or memory lacks
module _ (text verb rest : List ℕ) (are : words text ≡ verb ∷ words rest) (others : rest ≡ after_word text) (why : Refusal)
    (refused : ((f : CredFault) × (credential.refusal rest ≡ Some f) × (why ≡ refusal.Credential f))
    ⊎ ((credential.refusal rest ≡ None) × (why ≡ refusal.Memory))) where
  pub Reads-put_refused : true ≡ bytes_eq verb (codes "put") → Reads (form_of text) (Err why)
  Reads-put_refused put =
      elim refused [
        | inl is ↦ rw (are, sym others, sym put) (inr (inl (is.0, is.1, ap Err is.2)))
        | inr is ↦ rw (are, sym others, sym put) (inr (inr (is.0, ap Err is.1)))
      ]

  pub Reads-drop_refused : false ≡ bytes_eq verb (codes "put") → true ≡ bytes_eq verb (codes "drop") →
      Reads (form_of text) (Err why)
  Reads-drop_refused put drops =
      elim refused [
        | inl is ↦ rw (are, sym others, sym put, sym drops) (inr (inl (is.0, is.1, ap Err is.2)))
        | inr is ↦ rw (are, sym others, sym put, sym drops) (inr (inr (is.0, ap Err is.1)))
      ]
