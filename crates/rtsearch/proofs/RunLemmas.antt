-- Lemmas on what a run did, by what its words ask for.
use Rattle.std.proofs.Common.{◌≡◌, ◌⊎◌, ℕ, Bool, true, false, List, [], Option, Some, None, inl, inr, sym, subst, codes}
use Rattle.std.specs.Prelude.{IfSome, MatchBool}
use Rattle.std.specs.Io.KnownBytes.{Appends}
use Rattle.clap.specs.Words.{Row, Text}
use Rattle.service.specs.Line.{commands_of}
use Rattle.service.specs.declared.faults.ScriptFault.TheVariants.{Memory}
use Rattle.std.proofs.lemmas.List.{append-nil}
use Rattle.rtsearch.specs.CommandLine.{IsGiven, is_serve, value_of}
use Rattle.rtsearch.specs.Serving.{Served, NotServed}
use Rattle.rtsearch.specs.Running.{Ran, Failed}

either_way : {P Q : Type 0} (b : Bool) → P → Q → MatchBool b P Q
either_way true p q = p
either_way false p q = q

if_true : {P : Type 0} (Q : Type 0) (b : Bool) → b ≡ true → P → MatchBool b P Q
if_true Q true e p = p
if_true Q false e p = cc

-- nothing was written
nothing_out : (contents : Option (List ℕ)) → Appends contents contents []
nothing_out None = tt
nothing_out (Some bytes) = sym (append-nil bytes)

-- want of memory, where nothing was written
pub unwritten : (found : Option (Text × List Row)) (input out : Option (List ℕ)) → IfSome input (λ bytes. Failed found (commands_of bytes) (Appends out out))
unwritten found None out = tt
unwritten found (Some bytes) out = either_way (is_serve found) (inl (nothing_out out)) (Memory, inl (nothing_out out))

-- a service that ended after so many connections
pub served_all : (found : Option (Text × List Row)) (accept : Option ℕ) (input : Option (List ℕ)) (out : List ℕ → Type 0) → is_serve found ≡ true →
    IsGiven (value_of (codes "accept") found) accept → IfSome input (λ bytes. (count : ℕ) × (accept ≡ Some count) × Served (commands_of bytes) count out) →
    IfSome input (λ bytes. Ran found (commands_of bytes) out)
served_all found accept None out serve given served = tt
served_all found accept (Some bytes) out serve given served =
    if_true _ (is_serve found) serve (served.0, subst (IsGiven (value_of (codes "accept") found)) served.1 given, served.2)

-- or failed
pub served_not : (found : Option (Text × List Row)) (accept : Option ℕ) (input : Option (List ℕ)) (out : List ℕ → Type 0) → is_serve found ≡ true →
    IsGiven (value_of (codes "accept") found) accept → IfSome input (λ bytes. out [] ⊎ NotServed (commands_of bytes) accept out) →
    IfSome input (λ bytes. Failed found (commands_of bytes) out)
served_not found accept None out serve given failed = tt
served_not found accept (Some bytes) out serve given (inl nothing) = if_true _ (is_serve found) serve (inl nothing)
served_not found accept (Some bytes) out serve given (inr failed) = if_true _ (is_serve found) serve (inr (accept, given, failed))
