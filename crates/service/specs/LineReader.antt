-- What a line reader has still to give, and what it gives.
use Rattle.std.specs.Prelude.{ℕ, List, Option, Some, None, [], ◌≡◌, ◌≤◌, ◌<◌, ◌⊎◌, ⊤, true, ◌∷◌, length, ◌≢◌, ◌++◌, All, take, IfSome}
use Rattle.std.specs.{List.list_all, Io.Buffered.reader_remaining, Io.KnownBytes.Consumes, declared.io.buffered.BufReader.BufReader}
use Rattle.service.specs.declared.lines.{limit.Limited.Limited, Stage.Stage, NextLine.NextLine}
use Rattle.service.specs.declared.lines.Stage.TheVariants.{Open, Ended, Failed}
use Rattle.service.specs.declared.lines.NextLine.TheVariants.{Text, Long, NotAscii, End, Fault}
use Rattle.std.specs.Str.Lines.{strip_carriage_return}
use Rattle.service.specs.Line.{Line, line_of, text, too_long, not_ascii, is_printable, lines_of, commands_of}

-- these bytes; bytes that the type of the reader does not say; or nothing, since a read has failed
pub data Source : Type 0 where
  known : List ℕ → Source
  unknown : Source
  failed : Source

-- the bytes that the reader has left, those read ahead among them, where they are known
abbrev pub unread_bytes : {R A : Type 0} → (R → Option (List ℕ)) → BufReader (Limited R) A → Option (List ℕ)
unread_bytes remaining ahead = reader_remaining (λ s. remaining s.inner) ahead

-- what a reader has to give with these bytes left, where it stands
abbrev pub left_at : Stage → Option (List ℕ) → Source
left_at Open (Some bytes) = known bytes
left_at Open None = unknown
left_at Ended bytes = known []
left_at Failed bytes = failed

-- the answer shows this line
abbrev pub Shows : NextLine → Line → Type 0
Shows (Text t) line = line ≡ text t.now
Shows Long line = line ≡ too_long
Shows NotAscii line = line ≡ not_ascii
Shows _ line = ⊥

-- the bytes of a line without its end, where the reader stands behind it
abbrev pub stripped_at : Stage → List ℕ → List ℕ
stripped_at Open bytes = strip_carriage_return bytes
stripped_at _ bytes = bytes

-- the answer shows the line of these bytes, where the reader stands behind it
abbrev pub ShowsAt : Stage → List ℕ → NextLine → Type 0
ShowsAt Open bytes answer = Shows answer (line_of bytes)
ShowsAt Ended bytes answer = ((bytes ≡ []) × (answer ≡ End)) ⊎ ((0 < length bytes) × Shows answer (line_of bytes))
ShowsAt Failed bytes answer = answer ≡ Fault

-- The answer shows the first line of the known bytes, and what is left gives the others. The end comes only where
-- there is no line, and then nothing is left. A fault may come at any time, and stays.
abbrev pub Gives : Source → NextLine → Source → Type 0
Gives failed answer new = (answer ≡ Fault) × (new ≡ failed)
Gives _ Fault new = new ≡ failed
Gives unknown End new = new ≡ known []
Gives unknown _ new = ⊤
Gives (known bytes) End new = (bytes ≡ []) × (new ≡ known [])
Gives (known bytes) answer new =
    (rest : List ℕ) × (new ≡ known rest) × (line : Line) × Shows answer line × (lines_of bytes ≡ line ∷ lines_of rest)

-- a text that is given has spaces and visible characters alone, and is no longer than a line may be
abbrev pub IsText : NextLine → Type 0
IsText (Text t) = (length t.now ≤ 4096) × (list_all is_printable t.now ≡ true)
IsText _ = ⊤

-- these bytes of a line are followed by others, by its newline, or by the end of the input
abbrev pub EndsBy : Option Stage → Option (List ℕ) → List ℕ → Option (List ℕ) → Type 0
EndsBy None old bytes new = Consumes old new bytes
EndsBy (Some Open) old bytes new = Consumes old new (bytes ++ 10 ∷ [])
EndsBy (Some Ended) old bytes new = IfSome old (λ left. left ≡ bytes)
EndsBy (Some Failed) old bytes new = ⊤

-- such bytes, with no newline among them, were taken and are kept behind those before, as far as there is room
abbrev pub TakesBytes : Option (List ℕ) → List ℕ → Option Stage → Option (List ℕ) → List ℕ → Type 0
TakesBytes old kept end new keeps = (part : List ℕ) × All (λ b. b ≢ 10) part × (keeps ≡ take 4098 (kept ++ part)) × EndsBy end old part new

-- a fact of the lines that are left and not blank, where the bytes are known
abbrev pub IfKnown : Source → (List Line → Type 0) → Type 0
IfKnown (known bytes) P = P (commands_of bytes)
IfKnown _ P = ⊤
