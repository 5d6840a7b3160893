-- The command line.
use Rattle.std.specs.Prelude.{ℕ, ◌≤◌, ◌≡◌, ◌⊎◌, pos, Bool, true, false, List, [], ◌∷◌, Option, Some, None, codes, option_and_then}
use Rattle.std.specs.Option.{option_map_or}
use Rattle.std.specs.Str.{bytes_eq}
use Rattle.std.specs.Str.Parse.{IsNumeral, digits_value, without_leading_plus}
use Rattle.clap.specs.Words.{Accepts, App, HasKind, Row, Rule, Text, fault_of, new_app, new_rule}
use Rattle.clap.specs.Words.{one_of, read_as, reading_of, subcommand_of, with_rule, with_subcommand}
use Rattle.clap.specs.declared.builder.value_parser.ValueParser.{ValueParser}
use Rattle.clap.specs.declared.error.Error.{Error}
use Rattle.clap.specs.declared.builder.value_parser.ValueParser.TheVariants as vp
use Rattle.rtsearch.specs.declared.command_line.Errand.{Errand}
use Rattle.rtsearch.specs.declared.command_line.Errand.TheVariants.{Script, Serve}

-- the program's name, then the one word `script`
abbrev pub AsksForScript : List (List ℕ) → Type 0
AsksForScript words = (name : List ℕ) × (words ≡ name ∷ codes "script" ∷ [])

-- `rtsearch`, which has a version, and of which a subcommand is required
abbrev pub rtsearch : App
rtsearch = let bare : App = new_app (codes "rtsearch") in
    record { top = record bare.top { has_version = true; subcommand_required = true }; subs = bare.subs }

-- an option of this name, whose value is a number that passes this test
abbrev pub number_rule : Text → ValueParser → Rule
number_rule name test = record (new_rule name) { long = Some name; parser = Some test }

-- with a value where the words give none
abbrev pub usually : Text → Rule → Rule
usually value rule = record rule { defaults = value ∷ [] }

-- a port
abbrev pub port_test : ValueParser
port_test = vp.Signed (pos 0) (pos 65535)

-- a number of threads
abbrev pub threads_test : ValueParser
threads_test = vp.Unsigned 1 64

-- a number of connections
abbrev pub accept_test : ValueParser
accept_test = vp.Unsigned 1 1000000

-- a number of seconds, up to a day
abbrev pub idle_test : ValueParser
idle_test = vp.Unsigned 1 86400

-- `serve` with what has a usual value: a port, a number of workers and one of sessions
abbrev pub usual_command : App
usual_command =
    with_rule
    (with_rule
    (with_rule (new_app (codes "serve")) (usually (codes "0") (number_rule (codes "port") port_test)))
    (usually (codes "4") (number_rule (codes "workers") threads_test)))
    (usually (codes "8") (number_rule (codes "sessions") threads_test))

-- and a number of connections and one of seconds
abbrev pub serve_command : App
serve_command =
    with_rule (with_rule usual_command (number_rule (codes "accept") accept_test)) (number_rule (codes "idle") idle_test)

-- the program: its subcommands are `script` and `serve`
abbrev pub program : App
program = with_subcommand (with_subcommand rtsearch (new_app (codes "script")).top) serve_command.top

-- the words have no fault as a command line of the program
abbrev pub IsCommandLine : List (List ℕ) → Type 0
IsCommandLine words = fault_of program words ≡ []

-- the error is one of the faults that the words have, or says that memory lacked
abbrev pub IsFaultOf : List (List ℕ) → Error → Type 0
IsFaultOf words = HasKind (fault_of program words)

-- the subcommand that the words name, and what they say of its options, with the usual values of those that they don't give
abbrev pub entered : List (List ℕ) → Option (Text × List Row)
entered words = subcommand_of program words

-- that is `serve`
abbrev pub is_serve : Option (Text × List Row) → Bool
is_serve found = option_map_or (λ p. bytes_eq p.0 (codes "serve")) found false

-- the value of an option
abbrev pub value_of : Text → Option (Text × List Row) → Option Text
value_of option found = option_and_then (λ p. one_of option p.1) found

-- there is a value, which passes this test
abbrev pub HasValue : ValueParser → Option Text → Type 0
HasValue test text = (given : Text) × (text ≡ Some (read_as (reading_of test) given)) × Accepts false test given

-- or there is none
abbrev pub MayHaveValue : ValueParser → Option Text → Type 0
MayHaveValue test text = (text ≡ None) ⊎ HasValue test text

-- each option of `serve` has a value that passes its test; only the numbers of connections and of seconds may have none
abbrev pub HasOptions : Option (Text × List Row) → Type 0
HasOptions found = HasValue port_test (value_of (codes "port") found)
    × HasValue threads_test (value_of (codes "workers") found)
    × HasValue threads_test (value_of (codes "sessions") found)
    × MayHaveValue accept_test (value_of (codes "accept") found)
    × MayHaveValue idle_test (value_of (codes "idle") found)

-- the digits, after a plus or none, are those of this number
abbrev pub Spells : Text → ℕ → Type 0
Spells digits number = IsNumeral 10 (without_leading_plus digits) × (number ≡ digits_value 10 (without_leading_plus digits))

-- there is a value, and it spells the number
abbrev pub IsValue : Option Text → ℕ → Type 0
IsValue text number = (digits : Text) × (text ≡ Some digits) × Spells digits number

-- the number is that of the value, and there is none where there is no value
abbrev pub IsGiven : Option Text → Option ℕ → Type 0
IsGiven text (Some number) = IsValue text number
IsGiven text None = text ≡ None

-- so many threads are possible
abbrev pub AreThreads : ℕ → Type 0
AreThreads number = (1 ≤ number) × (number ≤ 64)

-- The words ask for this: of a service, each number is the one that the words give, or the usual one where they give none.
abbrev pub Asks : Option (Text × List Row) → Errand → Type 0
Asks found Script = is_serve found ≡ false
Asks found (Serve port options) = (is_serve found ≡ true)
    × IsValue (value_of (codes "port") found) port
    × (IsValue (value_of (codes "workers") found) options.workers × AreThreads options.workers)
    × (IsValue (value_of (codes "sessions") found) options.sessions × AreThreads options.sessions)
    × IsGiven (value_of (codes "accept") found) options.accept
    × IsGiven (value_of (codes "idle") found) options.idle_seconds
