-- Entities, ports and reasons by number: an entity's number is that of its node.
use Rattle.std.specs.Prelude.{ℕ, List, [], Option, Some, ◌≡◌, ◌<◌, Contains, length, slice_get}
use Rattle.credential_text.specs.declared.exprs.Expr.{Expr}
use Rattle.credential_text.specs.declared.exprs.Expr.TheVariants.{Ent}
use Rattle.cred_graph.specs.declared.listeners.Port.{Port}
use Rattle.cred_graph.specs.declared.listeners.Port.TheVariants as port
use Rattle.cred_graph.specs.declared.solutions.Reason.{Reason}
use Rattle.cred_graph.specs.declared.solutions.Reason.TheVariants as reason

-- the number is that of an entity's node
abbrev pub IsEntity : List Expr → ℕ → Type 0
IsEntity nodes k = (who : List ℕ) × (slice_get nodes k ≡ Some (Ent who))

abbrev pub entity_of : Option Expr → List ℕ
entity_of (Some (Ent who)) = who
entity_of _ = []

-- the entity of this number, and an empty name where it is none's
abbrev pub entity_at : List Expr → ℕ → List ℕ
entity_at nodes k = entity_of (slice_get nodes k)

-- the port and the reason, with the entity that they have by number
abbrev pub port_at : List Expr → Port ℕ → Port (List ℕ)
port_at nodes port.Body = port.Body
port_at nodes port.Base = port.Base
port_at nodes (port.Via k) = port.Via (entity_at nodes k)
port_at nodes (port.Part i) = port.Part i

abbrev pub reason_at : List Expr → Reason ℕ ℕ → Reason ℕ (List ℕ)
reason_at nodes reason.Leaf = reason.Leaf
reason_at nodes (reason.Body m) = reason.Body m
reason_at nodes (reason.Via k) = reason.Via (entity_at nodes k)
reason_at nodes reason.Parts = reason.Parts

-- the number in it is an entity's
abbrev pub IsPort : List Expr → Port ℕ → Type 0
IsPort nodes (port.Via k) = IsEntity nodes k
IsPort nodes _ = Unit {0}

abbrev pub IsReason : List Expr → Reason ℕ ℕ → Type 0
IsReason nodes (reason.Via k) = IsEntity nodes k
IsReason nodes _ = Unit {0}

-- each name in it has a number
abbrev pub IsNamed : List Expr → Port (List ℕ) → Type 0
IsNamed nodes (port.Via b) = Contains nodes (Ent b)
IsNamed nodes _ = Unit {0}

abbrev pub HasNumbers : List Expr → Reason ℕ (List ℕ) → Type 0
HasNumbers nodes (reason.Body m) = m < length nodes
HasNumbers nodes (reason.Via b) = Contains nodes (Ent b)
HasNumbers nodes _ = Unit {0}
