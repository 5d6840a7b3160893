-- What goes out of the program, by what its words ask for.
use Rattle.std.specs.Prelude.{◌⊎◌, ℕ, List, [], Option, Some, Ok, Err, MatchBool, codes}
use Rattle.clap.specs.Words.{Row, Text}
use Rattle.service.specs.Line.{Line}
use Rattle.service.specs.Written.{ScriptWrote}
use Rattle.service.specs.declared.faults.ScriptFault.{ScriptFault}
use Rattle.rtsearch.specs.CommandLine.{is_serve, value_of, IsGiven}
use Rattle.rtsearch.specs.Serving.{Served, NotServed}

-- the number of connections after which a service is to end: the one that the words give, or none where they give none
abbrev pub IsAccept : Option (Text × List Row) → Option ℕ → Type 0
IsAccept found accept = IsGiven (value_of (codes "accept") found) accept

-- all that was asked for was done
abbrev pub Ran : Option (Text × List Row) → List Line → (List ℕ → Type 0) → Type 0
Ran found lines went_out = MatchBool (is_serve found)
    ((count : ℕ) × IsAccept found (Some count) × Served lines count went_out)
    (ScriptWrote lines (Ok tt) went_out)

-- a fault came between; of a service nothing went out, or what that says
abbrev pub Failed : Option (Text × List Row) → List Line → (List ℕ → Type 0) → Type 0
Failed found lines went_out = MatchBool (is_serve found)
    (went_out [] ⊎ ((accept : Option ℕ) × IsAccept found accept × NotServed lines accept went_out))
    ((fault : ScriptFault) × ScriptWrote lines (Err fault) went_out)
