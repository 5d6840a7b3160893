-- Lemmas on what a service writes.
use Rattle.std.proofs.Common.{◌≡◌, ◌≢◌, ℕ, ◌<◌, ◌^◌, List, refl, inr, Option, Some, Result, Ok, Err}
use Rattle.std.specs.Prelude.{IfOk, IfErr, OnOk}
use Rattle.std.specs.Io.KnownBytes.{Appends}
use Rattle.service.specs.declared.faults.ServeFault.{ServeFault}
use Rattle.service.specs.declared.faults.ServeFault.TheVariants as fault
use Rattle.service.specs.Served.{Answered, WithPort, ServeWrote, listening_line, served_line}
use Rattle.service.proofs.WrittenLemmas.{WritesFront, Appends-more}

-- a fault of another kind than the writer's
early : (accept : Option ℕ) (why : ServeFault) (out : List ℕ → Type 0) → why ≢ fault.Write → ServeWrote accept (Err fault.Memory) out → ServeWrote accept (Err why) out
early accept fault.Socket out other wrote = wrote
early accept fault.NoThread out other wrote = wrote
early accept fault.Write out other wrote = absurd (other refl)
early accept fault.Memory out other wrote = wrote

-- the first line was
ServeWrote-listening : (accept : Option ℕ) (why : ServeFault) (port : ℕ) (c0 c1 : Option (List ℕ)) → port < 2 ^ 16 → why ≢ fault.Write → Appends c0 c1 (listening_line port) →
    ServeWrote accept (Err why) (Appends c0 c1)
ServeWrote-listening accept why port c0 c1 fits other written = early accept why _ other (inr (port, fits, written))

-- and then the connections were answered, or there was a fault
pub ServeWrote-answered : (accept : Option ℕ) (answered : Result ℕ ServeFault) (port : ℕ) (c0 c1 : Option (List ℕ)) → port < 2 ^ 16 → Answered accept answered →
    Appends c0 c1 (listening_line port) →
    IfOk answered (λ count. accept ≡ Some count) × OnOk answered (WithPort (λ port. Appends c0 c1 (listening_line port))) × IfErr answered (λ why. ServeWrote accept (Err why) (Appends c0 c1))
ServeWrote-answered accept (Ok count) port c0 c1 fits is written = (is, (port, fits, written), tt)
ServeWrote-answered accept (Err why) port c0 c1 fits other written = (tt, tt, ServeWrote-listening accept why port c0 c1 fits other written)

-- the writer failed at the second line
pub ServeWrote-part : (accept : Option ℕ) (port count : ℕ) (c0 c1 c2 : Option (List ℕ)) → port < 2 ^ 16 → accept ≡ Some count → Appends c0 c1 (listening_line port) →
    WritesFront c1 c2 (served_line count) → ServeWrote accept (Err fault.Write) (Appends c0 c2)
ServeWrote-part accept port count c0 c1 c2 fits is first written = (
  port,
  fits,
  inr (
    count,
    is,
    record {
      front = written.front;
      back = written.back;
      parts = written.parts;
      missing = written.missing;
      out = Appends-more c0 c1 c2 (listening_line port) written.front first written.out;
    },
  ),
)
