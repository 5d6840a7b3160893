-- A wait taken as a poll: what a tenant is told in a script is a run whose searches may settle at any time.
use Rattle.std.proofs.Common.{◌≡◌, ℕ, List, [], ◌∷◌, map, refl, sym, ap, ◌∙◌, subst, Option, Some, None}
use Rattle.std.specs.List.{AllZip, AllByRecursion}
use Rattle.std.specs.FinMap.{get}
use Rattle.hall.specs.declared.faults.Fault.TheVariants.{NoTenant}
use Rattle.hall.specs.declared.calls.replies.Reply.{Reply}
use Rattle.hall.specs.declared.calls.replies.Reply.TheVariants.{Refused}
use Rattle.hall.specs.Answers.{Asked, Account, start_of}
use Rattle.hall.specs.Run.{Deed, asks, waits, request_of, Turn, any_time, at_waits, GoesOn, Between, Ends, IsTaken, IsRun, IsRunOf}
use Rattle.hall.specs.Run.{Agree, same, HasMemory, IsSameDeed}
use Rattle.hall.proofs.Maps.{numbers_exact, each_inserted}
use Rattle.hall.proofs.laws.HallTurns.{goes_itself}
use Rattle.hall.proofs.laws.Worlds.{two_worlds}
use Rattle.service.specs.Roster.{tenant_of}
use Rattle.service.specs.Laws.{turns_of, TwoScripts}

-- two turns that ask for the same, with the same in sight: a wait counts as a poll
abbrev AskSame : Turn → Turn → Type 0
AskSame s t = (s.sees ≡ t.sees) × (request_of s.deed ≡ request_of t.deed)

-- a turn with a poll where it has a wait
abbrev polled : Turn → Turn
polled t = record t { deed = asks (request_of t.deed) }

between_same : (a b : Account) → b ≡ a → Between any_time a b
between_same a b is = subst (Between any_time a) (sym is) (refl, λ k. goes_itself a.limits.work (get a.searches k))

-- a search that ended may have done so at any time
ends_between : (a b : Account) (k : ℕ) (o : Option Asked) → get a.searches k ≡ o → Ends a k o b → Between any_time a b
ends_between a b k None at is = between_same a b is
ends_between a b k (Some s) at (settled, ended, may, is) =
    rw is (
      refl,
      each_inserted numbers_exact (λ j o. GoesOn a.limits.work (get a.searches j) o) a.searches k (record s { settled = settled })
          (rw at (settled, may, refl)) (λ j apart. goes_itself a.limits.work (get a.searches j)),
    )

run_polled : (tenant : List ℕ) (a c : Account) (turns : List Turn) → IsRun at_waits tenant a turns c → IsRun any_time tenant a (map polled turns) c
run_polled tenant a c [] run = between_same a c run
run_polled tenant a c (turn ∷ turns) (before, after, kept, taken, rest) = by turn.deed taken (run_polled tenant after c turns rest)
  where
    by : (deed : Deed) → IsTaken tenant before turn.sees deed turn.reply after → IsRun any_time tenant after (map polled turns) c →
        (m : Account) × (n : Account) × Between any_time a m × IsTaken tenant m turn.sees (asks (request_of deed)) turn.reply n × IsRun any_time tenant n (map polled turns) c
    by (asks q) answers later = (before, after, between_same a before kept, answers, later)
    by (waits k) (m, ends, answers) later =
        (m, after, subst (λ (b : Account). Between any_time b m) kept (ends_between before m k (get before.searches k) refl ends), answers, later)

-- turns that ask for the same are the same but for the replies, each wait a poll
same_polled : (first second : List Turn) → AllZip AskSame first second → AllZip IsSameDeed (map polled first) (map polled second)
same_polled [] [] asks_same = tt
same_polled [] (two ∷ second) asks_same = absurd asks_same
same_polled (one ∷ first) [] asks_same = absurd asks_same
same_polled (one ∷ first) (two ∷ second) asks_same = ((asks_same.0.0, ap asks asks_same.0.1), same_polled first second asks_same.1)

memory_polled : (turns : List Turn) → HasMemory turns → HasMemory (map polled turns)
memory_polled [] memory = tt
memory_polled (turn ∷ turns) memory = (memory.0, memory_polled turns memory.1)

unpolled : (first second : List Turn) → AllZip (λ (s t : Turn). Agree any_time s.reply t.reply) (map polled first) (map polled second) → AllZip (λ (s t : Turn). Agree any_time s.reply t.reply) first second
unpolled [] [] agree = tt
unpolled [] (two ∷ second) agree = absurd agree
unpolled (one ∷ first) [] agree = absurd agree
unpolled (one ∷ first) (two ∷ second) agree = (agree.0, unpolled first second agree.1)

-- a name that is no tenant's is refused alike
none_agree : (first second : List Turn) → AllZip AskSame first second → AllByRecursion (λ (t : Turn). t.reply ≡ Refused NoTenant) first →
    AllByRecursion (λ (t : Turn). t.reply ≡ Refused NoTenant) second → AllZip (λ (s t : Turn). Agree any_time s.reply t.reply) first second
none_agree [] [] asks_same all more = tt
none_agree [] (two ∷ second) asks_same all more = absurd asks_same
none_agree (one ∷ first) [] asks_same all more = absurd asks_same
none_agree (one ∷ first) (two ∷ second) asks_same all more =
    (subst (λ (r : Reply). Agree any_time r two.reply) (more.0 ∙ sym all.0) same, none_agree first second asks_same.1 all.1 more.1)

-- two runs that ask for the same from one start
runs_agree : (tenant : List ℕ) (start : Option Account) (first second : List Turn) (end other_end : Option Account) → IsRunOf at_waits tenant start first end →
    IsRunOf at_waits tenant start second other_end → AllZip AskSame first second → HasMemory first → HasMemory second → AllZip (λ (s t : Turn). Agree any_time s.reply t.reply) first second
runs_agree tenant None first second end other_end run other asks_same memory more = none_agree first second asks_same run.0 other.0
runs_agree tenant (Some a) first second end other_end (b, is, run) (c, also, other) asks_same memory more =
    unpolled first second
    (two_worlds any_time tenant (Some a) (Some b) (Some c) (map polled first) (map polled second) (b, refl, run_polled tenant a b first run) (c, refl, run_polled tenant a c second other) (same_polled first second asks_same)
    (memory_polled first memory) (memory_polled second more))

pub scripts_agree : TwoScripts
scripts_agree tenant input other one two starts asks_same memory other_memory =
    let run = one.exact tenant in
    let other_run = two.exact tenant in
    runs_agree tenant (start_of tenant (map tenant_of one.rows)) (turns_of tenant one.outcomes) (turns_of tenant two.outcomes) run.0 other_run.0 run.1
    (subst (λ (o : Option Account). IsRunOf at_waits tenant o (turns_of tenant two.outcomes) other_run.0) (sym starts) other_run.1)
    asks_same memory other_memory
