-- How a service ends, and what it writes.
use Rattle.std.specs.Prelude.{◌≡◌, ◌≢◌, ℕ, ◌<◌, ◌^◌, ◌⊎◌, List, [], ◌++◌, Option, Some, Result, Ok, Err, codes}
use Rattle.std.specs.Fmt.{decimal}
use Rattle.service.specs.declared.faults.ServeFault.{ServeFault, TheVariants.Write}
use Rattle.service.specs.Reply.{line_after}
use Rattle.service.specs.Written.{WroteFront}

-- the line that tells where it listens
abbrev pub listening_line : ℕ → List ℕ
listening_line port = line_after [] (codes "listening 127.0.0.1:" ++ decimal port)

-- the line that tells how many connections it answered
abbrev pub served_line : ℕ → List ℕ
served_line count = line_after [] (codes "served " ++ decimal count)

-- so many connections were answered, or there was a fault that isn't the writer's
abbrev pub Answered : Option ℕ → Result ℕ ServeFault → Type 0
Answered accept (Ok count) = accept ≡ Some count
Answered accept (Err why) = why ≢ Write

-- this went out, with some port in it
abbrev pub WithPort : (ℕ → Type 0) → Type 0
WithPort holds = (port : ℕ) × (port < 2 ^ 16) × holds port

-- What went out of a service that ends after so many connections, by how it ended: both lines; a front of one of them, and
-- before it the other; or at most the first
abbrev pub ServeWrote : Option ℕ → Result ℕ ServeFault → (List ℕ → Type 0) → Type 0
ServeWrote accept (Ok count) went_out = WithPort (λ port. went_out (listening_line port ++ served_line count))
ServeWrote accept (Err Write) went_out =
    WithPort (λ port. WroteFront (listening_line port) went_out
    ⊎ ((count : ℕ) × (accept ≡ Some count) × WroteFront (served_line count) (λ front. went_out (listening_line port ++ front))))
ServeWrote accept (Err other) went_out = went_out [] ⊎ WithPort (λ port. went_out (listening_line port))
