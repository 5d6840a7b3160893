-- What goes out where the program serves.
use Rattle.std.specs.Prelude.{◌⊎◌, ℕ, List, Option, Some, Ok, Err}
use Rattle.service.specs.Line.{Line}
use Rattle.service.specs.Roster.{RosterLine, HasRoster, HasNoRoster}
use Rattle.service.specs.Served.{ServeWrote}
use Rattle.service.specs.Written.{WroteFront, roster_refusal}
use Rattle.service.specs.declared.faults.ServeFault.{ServeFault}

-- the input begins with a roster
abbrev pub BeginsWithRoster : List Line → Type 0
BeginsWithRoster lines = (rows : List RosterLine) × (rest : List Line) × HasRoster lines rows rest

-- so many connections were served
abbrev pub Served : List Line → ℕ → (List ℕ → Type 0) → Type 0
Served lines count went_out = BeginsWithRoster lines × ServeWrote (Some count) (Ok count) went_out

-- the line that refuses a faulty roster went out, or a front of it; or what a service writes that fails
abbrev pub NotServed : List Line → Option ℕ → (List ℕ → Type 0) → Type 0
NotServed lines accept went_out = (HasNoRoster lines × (went_out roster_refusal ⊎ WroteFront roster_refusal went_out))
    ⊎ (BeginsWithRoster lines × ((why : ServeFault) × ServeWrote accept (Err why) went_out))
