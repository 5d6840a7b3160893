-- Lemmas on what a line reader gives.
use Rattle.std.proofs.Common.{◌≡◌, ℕ, ◌<◌, List, [], ◌∷◌, ◌++◌, length, map, take, arith, refl, sym, subst, ap, ◌∙◌, append_assoc, Option, None, Some}
use Rattle.std.specs.Prelude.{IfSome}
use Rattle.std.proofs.Common.{inl, inr}
use Rattle.std.proofs.lemmas.List.{length-take}
use Rattle.std.specs.Str.Lines.{strip_carriage_return}
use Rattle.std.specs.Io.KnownBytes.{Consumes}
use Rattle.service.specs.declared.lines.NextLine.{NextLine}
use Rattle.service.specs.declared.lines.NextLine.TheVariants.{Text, Long, NotAscii, End, Fault}
use Rattle.service.specs.Line.{Line, line_of, lines_of, commands_of}
use Rattle.service.specs.declared.lines.Stage.{Stage}
use Rattle.service.specs.declared.lines.Stage.TheVariants.{Open, Ended, Failed}
use Rattle.service.specs.LineReader.{Shows, ShowsAt, stripped_at, Gives, Source, known, unknown, failed, left_at, TakesBytes, IfKnown}
use Rattle.service.proofs.LineLemmas.{HasNoNewline, lines-newline, lines-last, line_of-kept, line_of-stripped_kept}

-- an answer that shows the first line
Gives-shown : (answer : NextLine) (line : Line) (bytes rest : List ℕ) → Shows answer line → lines_of bytes ≡ line ∷ lines_of rest → Gives (known bytes) answer (known rest)
Gives-shown (Text t) line bytes rest shows first = (rest, refl, line, shows, first)
Gives-shown Long line bytes rest shows first = (rest, refl, line, shows, first)
Gives-shown NotAscii line bytes rest shows first = (rest, refl, line, shows, first)
Gives-shown End line bytes rest shows first = absurd shows
Gives-shown Fault line bytes rest shows first = absurd shows

-- a line that an answer shows was the first
pub Gives-first : (bytes : List ℕ) (new : Source) (answer : NextLine) (line : Line) → Gives (known bytes) answer new → Shows answer line →
    (rest : List ℕ) × (new ≡ known rest) × (lines_of bytes ≡ line ∷ lines_of rest)
Gives-first bytes new (Text t) line (rest, left, other, shown, first) shows = (rest, left, first ∙ ap (λ l. l ∷ lines_of rest) (shown ∙ sym shows))
Gives-first bytes new Long line (rest, left, other, shown, first) shows = (rest, left, first ∙ ap (λ l. l ∷ lines_of rest) (shown ∙ sym shows))
Gives-first bytes new NotAscii line (rest, left, other, shown, first) shows = (rest, left, first ∙ ap (λ l. l ∷ lines_of rest) (shown ∙ sym shows))
Gives-first bytes new End line gives shows = absurd shows
Gives-first bytes new Fault line gives shows = absurd shows

-- the same where the bytes are unknown
Gives-unknown : (answer : NextLine) (line : Line) (new : Source) → Shows answer line → Gives unknown answer new
Gives-unknown (Text t) line new shows = tt
Gives-unknown Long line new shows = tt
Gives-unknown NotAscii line new shows = tt
Gives-unknown End line new shows = absurd shows
Gives-unknown Fault line new shows = absurd shows

-- a line that a newline ends
pub Gives-newline : (old new : Option (List ℕ)) (raw : List ℕ) (answer : NextLine) → HasNoNewline raw → Consumes old new (raw ++ 10 ∷ []) → Shows answer (line_of (strip_carriage_return raw)) → Gives (left_at Open old) answer (left_at Open new)
Gives-newline None new raw answer none taken shows = Gives-unknown answer (line_of (strip_carriage_return raw)) (left_at Open new) shows
Gives-newline (Some bytes) None raw answer none taken shows = absurd taken
Gives-newline (Some bytes) (Some rest) raw answer none taken shows =
    Gives-shown answer (line_of (strip_carriage_return raw)) bytes rest shows
    (ap lines_of (taken ∙ append_assoc raw (10 ∷ []) rest) ∙ ap (map line_of) (lines-newline raw rest none))

-- the last line, which no newline ends
pub Gives-last : (old : Option (List ℕ)) (raw : List ℕ) (answer : NextLine) → HasNoNewline raw → 0 < length raw → IfSome old (λ bytes. bytes ≡ raw) → Shows answer (line_of raw) → Gives (left_at Open old) answer (known [])
Gives-last None raw answer none some all shows = Gives-unknown answer (line_of raw) (known []) shows
Gives-last (Some bytes) raw answer none some all shows =
    Gives-shown answer (line_of raw) bytes [] shows (ap lines_of all ∙ ap (map line_of) (lines-last raw none some))

-- what follows of the lines that are left
pub IfKnown-map : {P Q : List Line → Type 0} (source : Source) → IfKnown source P → ((lines : List Line) → P lines → Q lines) → IfKnown source Q
IfKnown-map (known bytes) holds then = then (commands_of bytes) holds
IfKnown-map unknown holds then = tt
IfKnown-map failed holds then = tt

-- the lines that are left of an input
pub IfKnown-input : (P : List Line → Type 0) (remaining : Option (List ℕ)) (source : Source) → source ≡ left_at Open remaining → IfKnown source P →
    IfSome remaining (λ input. P (commands_of input))
IfKnown-input P None source made holds = tt
IfKnown-input P (Some bytes) source made holds = subst (λ (s : Source). IfKnown s P) made holds

-- the first of no bytes are none
taken_nothing : (raw : List ℕ) → take 4098 raw ≡ [] → raw ≡ []
taken_nothing [] none = refl
taken_nothing (b ∷ bs) none = absurd (omega (arith, ap length none, length-take 4098 (b ∷ bs)))

-- no bytes are left
Gives-end : (old : Option (List ℕ)) (raw : List ℕ) → raw ≡ [] → IfSome old (λ bytes. bytes ≡ raw) → Gives (left_at Open old) End (known [])
Gives-end None raw none all = refl
Gives-end (Some bytes) raw none all = (all ∙ none, refl)

-- what is given behind the bytes that were taken, where the reader then stands
pub Gives-taken : (old new : Option (List ℕ)) (stage : Stage) (kept : List ℕ) (answer : NextLine) → TakesBytes old [] (Some stage) new kept → ShowsAt stage (stripped_at stage kept) answer →
    Gives (left_at Open old) answer (left_at stage new)
Gives-taken old new Open kept answer (raw, none, is, taken) shows =
    Gives-newline old new raw answer none taken (subst (λ (l : Line). Shows answer l) (ap (λ t. line_of (strip_carriage_return t)) is ∙ line_of-stripped_kept raw) shows)
Gives-taken old new Ended kept answer (raw, none, is, all) (inl (nothing, ends)) =
    subst (λ (a : NextLine). Gives (left_at Open old) a (known [])) (sym ends) (Gives-end old raw (taken_nothing raw (sym is ∙ nothing)) all)
Gives-taken old new Ended kept answer (raw, none, is, all) (inr (some, shows)) =
    Gives-last old raw answer none (omega (arith, ap length is, length-take 4098 raw, some)) all (subst (λ (l : Line). Shows answer l) (ap line_of is ∙ line_of-kept raw) shows)
Gives-taken None new Failed kept answer taken fault = subst (λ (a : NextLine). Gives unknown a failed) (sym fault) refl
Gives-taken (Some bytes) new Failed kept answer taken fault = subst (λ (a : NextLine). Gives (known bytes) a failed) (sym fault) refl
