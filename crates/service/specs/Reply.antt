-- The lines of the replies.
use Rattle.std.specs.Prelude.{◌≡◌, ◌⊎◌, ℕ, List, [], ◌∷◌, ◌++◌, length, map, codes, filter, nat_lt, unwrap_or, if◌then◌else◌}
use Rattle.std.specs.{List.flat_map, Fmt.decimal}
use Rattle.names.specs.Texts.{pieces}
use Rattle.credential_text.specs.Spelling.{canonical}
use Rattle.vaults.specs.declared.marks.Seen.{Seen}
use Rattle.hall.specs.declared.{faults.Fault.TheVariants.Memory, calls.replies.Reply.Reply}
use Rattle.hall.specs.declared.calls.answers.Answer.TheVariants.{Working, Yes, No, Members, Spent, Broken}
use Rattle.hall.specs.declared.calls.replies.Reply.TheVariants as reply
use Rattle.hall.specs.Fault.{fault_number}
use Rattle.hall.specs.Answers.{proof_text}
use Rattle.service.specs.declared.speakers.Speaker.{Speaker, TheVariants.Nobody, TheVariants.Tenant, TheVariants.Peer}
use Rattle.service.specs.Refusal.{refusal_of}

-- what stands in front of each line of a reply: to nobody, or to a tenant; a session's peer gets no name
abbrev pub front_of : Speaker → List ℕ
front_of Nobody = codes "?: "
front_of (Tenant who) = who ++ codes ": "
front_of Peer = []

-- a line: what stands in front, the text, and a newline
abbrev pub line_after : List ℕ → List ℕ → List ℕ
line_after front text = front ++ text ++ 10 ∷ []

-- a refusal shows its number and the text of that
abbrev pub error_text : ℕ → List ℕ
error_text number = codes "error " ++ decimal number ++ codes " " ++ unwrap_or (refusal_of number) []

-- the line of a refusal
abbrev pub refusal_line : List ℕ → ℕ → List ℕ
refusal_line front number = line_after front (error_text number)

-- each name with a space before it
abbrev pub listed : List (List ℕ) → List ℕ
listed names = flat_map (λ name. 32 ∷ name) names

-- a name that is seen, with a star directly behind it where its vault is public
abbrev pub seen_text : Seen → List ℕ
seen_text seen = seen.name ++ (if seen.to_all then codes "*" else [])

-- the lines of a text, each of which has something in it
abbrev pub text_lines : List ℕ → List (List ℕ)
text_lines text = filter (λ line. nat_lt 0 (length line)) (pieces 10 text)

-- the texts of a reply, each of which is a line: a vault has one line for each credential, after their number, and a proof
-- one for each step. No command asks for a step of a search, and how it went has no text
abbrev pub reply_texts : Reply → List (List ℕ)
reply_texts (reply.Counted n) = (codes "ok " ++ decimal n) ∷ []
reply_texts (reply.Opened n) = (codes "search " ++ decimal n) ∷ []
reply_texts (reply.Answered Working) = codes "working" ∷ []
reply_texts (reply.Answered Yes) = codes "yes" ∷ []
reply_texts (reply.Answered No) = codes "no" ∷ []
reply_texts (reply.Answered (Members names)) = (codes "members" ++ listed names) ∷ []
reply_texts (reply.Answered Spent) = codes "spent" ∷ []
reply_texts (reply.Answered Broken) = codes "broken" ∷ []
reply_texts reply.Closed = codes "ended" ∷ []
reply_texts (reply.Vault rows) = (codes "vault " ++ decimal (length rows)) ∷ map canonical rows
reply_texts (reply.Sees names) = (codes "sees" ++ listed (map seen_text names)) ∷ []
reply_texts (reply.Proof steps) = (codes "proof " ++ decimal (length steps)) ∷ text_lines (proof_text steps)
reply_texts (reply.Refused fault) = error_text (fault_number fault) ∷ []
reply_texts (reply.Stepped answer) = []

-- the lines of a reply, one after another, with this in front of each
abbrev pub lines_after : List ℕ → Reply → List ℕ
lines_after front reply = flat_map (line_after front) (reply_texts reply)

-- a reply that may need more room than there is
abbrev pub IsLong : Reply → Type 0
IsLong (reply.Vault rows) = Unit {0}
IsLong (reply.Sees names) = Unit {0}
IsLong (reply.Proof steps) = Unit {0}
IsLong (reply.Answered (Members names)) = Unit {0}
IsLong _ = ⊥

-- the bytes are the lines of the reply that is due, or that memory lacked for a long one, each with this in front
abbrev pub IsFilled : List ℕ → Reply → List ℕ → Type 0
IsFilled front due bytes = (bytes ≡ lines_after front due) ⊎ (IsLong due × (bytes ≡ lines_after front (reply.Refused Memory)))
