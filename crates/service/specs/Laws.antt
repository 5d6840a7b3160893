-- What one tenant says in a script, what is printed for it, and what holds of rosters and scripts by their definitions alone.
use Rattle.std.specs.Prelude.{◌≡◌, ◌≢◌, ◌⊎◌, ℕ, Bool, false, ◌&&◌, if◌then◌else◌, List, [], ◌∷◌, filter, map, Some}
use Rattle.std.specs.List.{list_any, before_first, after_first, flat_map, AllZip, AllByRecursion}
use Rattle.names.specs.Name.{is_same}
use Rattle.hall.specs.declared.calls.replies.Reply.TheVariants.{Proof}
use Rattle.hall.specs.Answers.{Account, start_of}
use Rattle.hall.specs.Run.{Turn, request_of, told_to, any_time}
use Rattle.hall.specs.Run.{Agree, HasMemory, ProveTheSame}
use Rattle.service.specs.declared.refusals.Refusal.TheVariants.{Memory}
use Rattle.service.specs.Command.{form_of}
use Rattle.service.specs.Line.{Line, text}
use Rattle.service.specs.Words.{is_colon, trim_start}
use Rattle.service.specs.Roster.{RosterLine, tenant_of, HasRoster}
use Rattle.service.specs.Outcome.{Outcome, nobody, refused, served, outcome_text, IsSaid, told_in}
use Rattle.service.specs.Written.{ScriptRun}

-- what the tenant says in the line: what stands behind the first colon, where its name stands before it
abbrev pub said_in : List ℕ → Line → List (List ℕ)
said_in tenant (text t) = let line = trim_start t in
    if list_any is_colon line && is_same (before_first is_colon line) tenant then after_first is_colon line ∷ [] else []
said_in tenant _ = []

-- all that the tenant says, line after line
abbrev pub own_lines : List ℕ → List Line → List (List ℕ)
own_lines tenant lines = flat_map (said_in tenant) lines

-- it was told to the tenant
abbrev pub is_to : List ℕ → Outcome → Bool
is_to tenant (nobody why) = false
is_to tenant (refused who why) = is_same who tenant
is_to tenant (served who command reply) = is_same who tenant

-- what became of its lines
abbrev pub own_outcomes : List ℕ → List Outcome → List Outcome
own_outcomes tenant outcomes = filter (is_to tenant) outcomes

-- its commands that were carried out, each with what it had in sight
abbrev pub turns_of : List ℕ → List Outcome → List Turn
turns_of tenant outcomes = told_to tenant [] (told_in outcomes)

-- no memory lacked for the tenant: neither for what it asked, nor to read its lines
abbrev pub FoundMemory : List ℕ → List Outcome → Type 0
FoundMemory tenant outcomes = HasMemory (turns_of tenant outcomes)
    × AllByRecursion (λ outcome. outcome ≢ refused tenant Memory) (own_outcomes tenant outcomes)

-- the same command was answered by two proofs of the same
abbrev pub AreProofs : Outcome → Outcome → Type 0
AreProofs (served who q (Proof steps)) (served other also (Proof more)) = (who ≡ other) × (q ≡ also) × ProveTheSame steps more
AreProofs _ _ = ⊥

-- the bytes are the same, or both are proofs
abbrev pub ArePrintedAlike : Outcome → Outcome → Type 0
ArePrintedAlike first second = (outcome_text first ≡ outcome_text second) ⊎ AreProofs first second

-- in both the tenant has the same limits, says the same, has the same in sight at each command, and no memory lacked for it
pub record IsSameFor (tenant : List ℕ) {input other : List Line} (one : ScriptRun input) (two : ScriptRun other) : Type 0 where
  pub starts : start_of tenant (map tenant_of one.rows) ≡ start_of tenant (map tenant_of two.rows)
  pub says : own_lines tenant one.lines ≡ own_lines tenant two.lines
  pub sees : map (λ turn. turn.sees) (turns_of tenant one.outcomes) ≡ map (λ turn. turn.sees) (turns_of tenant two.outcomes)
  pub memory : FoundMemory tenant one.outcomes
  pub other_memory : FoundMemory tenant two.outcomes

-- lines that begin with a roster begin with one, and one list of lines follows it
abbrev pub OneReading : Type 0
OneReading =
    (lines : List Line) (rows others : List RosterLine) (rest more : List Line)
    → HasRoster lines rows rest → HasRoster lines others more → (rows ≡ others) × (rest ≡ more)

-- where a tenant of two scripts has the same limits, asks and sees the same, and no memory lacked, the replies to it agree; a wait
-- counts as a poll
abbrev pub TwoScripts : Type 0
TwoScripts =
    (tenant : List ℕ) (input other : List Line) (one : ScriptRun input) (two : ScriptRun other)
    → start_of tenant (map tenant_of one.rows) ≡ start_of tenant (map tenant_of two.rows)
    → AllZip (λ s t. (s.sees ≡ t.sees) × (request_of s.deed ≡ request_of t.deed))
    (turns_of tenant one.outcomes) (turns_of tenant two.outcomes)
    → HasMemory (turns_of tenant one.outcomes) → HasMemory (turns_of tenant two.outcomes)
    → AllZip (λ s t. Agree any_time s.reply t.reply) (turns_of tenant one.outcomes) (turns_of tenant two.outcomes)

-- to each line of a tenant of the roster stands one outcome, in order, and that is one that its text may have
abbrev pub OwnLinesAreAnswered : Type 0
OwnLinesAreAnswered =
    (tenant : List ℕ) (input : List Line) (run : ScriptRun input) (start : Account)
    → start_of tenant (map tenant_of run.rows) ≡ Some start
    → AllZip (λ t outcome. IsSaid tenant (form_of t) outcome) (own_lines tenant run.lines) (own_outcomes tenant run.outcomes)

-- In two scripts that are the same for a tenant, whatever other tenants say in them, each of its lines is answered by the same
-- bytes; but two proofs of the same may differ. So where it is told no proof, for which another may stand, the same is printed for it
abbrev pub ScriptsAreIsolated : Type 0
ScriptsAreIsolated =
    (tenant : List ℕ) (input other : List Line) (one : ScriptRun input) (two : ScriptRun other) → IsSameFor tenant one two
    → AllZip ArePrintedAlike (own_outcomes tenant one.outcomes) (own_outcomes tenant two.outcomes)
    × (AllByRecursion (λ outcome. (also : Outcome) → AreProofs outcome also → ⊥) (own_outcomes tenant one.outcomes)
    → flat_map outcome_text (own_outcomes tenant one.outcomes) ≡ flat_map outcome_text (own_outcomes tenant two.outcomes))
