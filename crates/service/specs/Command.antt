-- The commands of a script, as their lines write them.
use Rattle.std.specs.Prelude.{◌≡◌, ◌⊎◌, ℕ, ◌≤◌, List, [], ◌∷◌, length, codes, if◌then◌else◌, Some, None, Result, Ok, Err}
use Rattle.std.specs.Str.{bytes_eq}
use Rattle.names.specs.declared.{faults.NameFault.NameFault, roles.Role.Role}
use Rattle.names.specs.Name.{IsName}
use Rattle.names.specs.Fault.{name_fault, role_fault}
use Rattle.names.specs.Role.{SpellsRole}
use Rattle.credential_text.specs.declared.{credentials.Credential.Credential, faults.CredFault.CredFault}
use Rattle.credential_text.specs.Spelling.{Spells}
use Rattle.credential_text.specs.Refusal as credential
use Rattle.vaults.specs.declared.changes.Change.{Change}
use Rattle.vaults.specs.declared.changes.Change.TheVariants.{Upload, Withdraw, Grant, Revoke, GrantAll, RevokeAll}
use Rattle.search.specs.declared.queries.Query.TheVariants.{Ask, Who}
use Rattle.hall.specs.declared.calls.requests.Request.TheVariants.{Alter, Seek, Poll, Close, Vault, Sees, Proof}
use Rattle.service.specs.declared.commands.Command.{Command, TheVariants.Request, TheVariants.Wait}
use Rattle.service.specs.declared.refusals.Refusal.{Refusal}
use Rattle.service.specs.declared.refusals.Refusal.TheVariants as refusal
use Rattle.service.specs.Words.{words, after_word, number_of}

-- what a line writes: a command, or none; or a text stands first, and what is left follows by what that writes
pub data Form : Type 0 where
  whole : Command → Form
  unknown : Form
  of_name : (List ℕ → Form) → List ℕ → Form
  of_role : (Role → Form) → List ℕ → Form
  of_number : (ℕ → Form) → List ℕ → Form
  of_credential : (Credential → Form) → List ℕ → Form

-- a star stands for every reader, and is read before names
abbrev pub form_of_reader : Change → (List ℕ → Change) → List ℕ → Form
form_of_reader to_all to word =
    if bytes_eq word (codes "*") then whole (Request (Alter to_all)) else of_name (λ name. whole (Request (Alter (to name)))) word

-- the verbs that take these words, and what each writes
abbrev pub forms_with : List (List ℕ) → List (List ℕ × Form)
forms_with [] = (codes "vault", whole (Request Vault)) ∷ (codes "sees", whole (Request Sees)) ∷ []
forms_with (word ∷ []) =
    (codes "grant", form_of_reader GrantAll Grant word) ∷ (codes "revoke", form_of_reader RevokeAll Revoke word)
    ∷ (codes "who", of_role (λ role. whole (Request (Seek (Who role)))) word)
    ∷ (codes "poll", of_number (λ number. whole (Request (Poll number))) word)
    ∷ (codes "wait", of_number (λ number. whole (Wait number)) word)
    ∷ (codes "end", of_number (λ number. whole (Request (Close number))) word) ∷ []
forms_with (first ∷ second ∷ []) =
    (codes "ask", of_role (λ role. of_name (λ name. whole (Request (Seek (Ask role name)))) second) first)
    ∷ (codes "proof", of_number (λ number. of_name (λ name. whole (Request (Proof number name))) second) first) ∷ []
forms_with (first ∷ second ∷ third ∷ more) = []

-- what the verb writes, if it is one of these
abbrev pub form_in : List (List ℕ × Form) → List ℕ → Form
form_in [] verb = unknown
form_in (row ∷ rows) verb = if bytes_eq verb row.0 then row.1 else form_in rows verb

-- `put` and `drop` take the rest of the line, the others so many words
abbrev pub form_by_words : List (List ℕ) → List ℕ → Form
form_by_words [] rest = unknown
form_by_words (verb ∷ args) rest =
    form_in ((codes "put", of_credential (λ c. whole (Request (Alter (Upload c)))) rest)
    ∷ (codes "drop", of_credential (λ c. whole (Request (Alter (Withdraw c)))) rest) ∷ forms_with args) verb

-- what the text behind a name writes: the first word is the verb
abbrev pub form_of : List ℕ → Form
form_of text = form_by_words (words text) (after_word text)

-- how it is read: as the command, or the first refusal from left to right; want of memory comes last
abbrev pub Reads : Form → Result Command Refusal → Type 0
Reads (whole command) read = read ≡ Ok command
Reads unknown read = read ≡ Err refusal.Command
Reads (of_name next name) read =
    (IsName name × Reads (next name) read)
    ⊎ ((f : NameFault) × (name_fault name ≡ Some f) × (read ≡ Err (refusal.Name f)))
Reads (of_role next role) read =
    ((r : Role) × SpellsRole role r × Reads (next r) read)
    ⊎ ((f : NameFault) × (role_fault role ≡ Some f) × (read ≡ Err (refusal.Name f)))
Reads (of_number next number) read =
    ((n : ℕ) × (number_of number ≡ Some n) × Reads (next n) read)
    ⊎ ((number_of number ≡ None) × (read ≡ Err refusal.Command))
Reads (of_credential next text) read =
    ((c : Credential) × Spells text c × (length text ≤ 4096) × Reads (next c) read)
    ⊎ ((f : CredFault) × (credential.refusal text ≡ Some f) × (read ≡ Err (refusal.Credential f)))
    ⊎ ((credential.refusal text ≡ None) × (read ≡ Err refusal.Memory))
