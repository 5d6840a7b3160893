-- A run goes on by one event after another.
use Rattle.std.proofs.Common.{◌≡◌, ◌∙◌, ◌+◌, ◌<◌, ◌≤◌, ℕ, List, [], ◌∷◌, ◌++◌, length, take, get_or, ap, sym, refl, subst, arith, length-append}
use Rattle.std.proofs.lemmas.List.{take_more, take_all}
use Rattle.hall.specs.declared.calls.replies.Reply.{Reply}
use Rattle.hall.specs.declared.calls.events.Event.{Event}
use Rattle.hall.specs.Hall.{HallState, IsSound, Happens, Run}

-- the first events have happened, and each has its reply
pub record RunsSoFar (start : HallState) (events : List Event) (count : ℕ) (replies : List Reply) (now : HallState) : Type 0 where
  pub sound : IsSound start
  pub run : Run start (take count events) replies now
  pub replied : length replies ≡ count

-- a run goes on by one event
run_more : (old middle new : HallState) (events : List Event) (replies : List Reply) (e : Event) (told : Reply) →
    Run old events replies middle → Happens middle e told new → Run old (events ++ e ∷ []) (replies ++ told ∷ []) new
run_more old middle new [] [] e told run happens = (new, subst (λ (h : HallState). Happens h e told new) run happens, refl)
run_more old middle new [] (r ∷ replies) e told run happens = absurd run
run_more old middle new (d ∷ events) [] e told run happens = absurd run
run_more old middle new (d ∷ events) (r ∷ replies) e told (next, first, run) happens = (next, first, run_more next middle new events replies e told run happens)

pub runs_more : (start now new : HallState) (events : List Event) (count : ℕ) (replies : List Reply) (e : Event) (told : Reply) →
    count < length events → e ≡ get_or events count e → RunsSoFar start events count replies now → Happens now e told new →
    RunsSoFar start events (count + 1) (replies ++ told ∷ []) new
runs_more start now new events count replies e told within is so_far happens =
    let front : take (count + 1) events ≡ take count events ++ e ∷ [] =
    take_more events count e within ∙ ap (λ (x : Event). take count events ++ x ∷ []) (sym is) in
    record {
      sound = so_far.sound;
      run = subst (λ (es : List Event). Run start es (replies ++ told ∷ []) new) (sym front) (run_more start now new (take count events) replies e told so_far.run happens);
      replied = omega (arith, so_far.replied, length-append replies (told ∷ []));
    }

-- where each event has happened the run is whole
pub all_ran : (start now : HallState) (events : List Event) (count : ℕ) (replies : List Reply) → length events ≤ count → RunsSoFar start events count replies now →
    Run start events replies now
all_ran start now events count replies whole so_far = subst (λ (es : List Event). Run start es replies now) (take_all count events whole) so_far.run
