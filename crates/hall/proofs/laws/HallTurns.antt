-- A tenant's run may begin with one turn more, or by waiting.
use Rattle.std.proofs.Common.{◌≡◌, ◌∙◌, ℕ, Bool, true, false, cond, List, [], ◌∷◌, ◌++◌, Option, Some, None, inl, ap, refl}
use Rattle.std.specs.FinMap.{get}
use Rattle.names.specs.Name.{is_same}
use Rattle.vaults.specs.declared.changes.Entry.{Entry}
use Rattle.vaults.specs.Journal.{credentials}
use Rattle.hall.specs.declared.faults.Fault.TheVariants.{NoTenant}
use Rattle.hall.specs.declared.calls.replies.Reply.{Reply}
use Rattle.hall.specs.declared.calls.replies.Reply.TheVariants.{Refused}
use Rattle.hall.specs.Answers.{Asked, Account, sight}
use Rattle.hall.specs.Run.{Deed, request_of, Told, Turn, When, any_time, at_waits}
use Rattle.hall.specs.Run.{GoesOn, Between, IsTaken, IsRun, IsRunOf}
use Rattle.hall.proofs.Truths.{settles_twice}

pub goes_itself : (limit : ℕ) (o : Option Asked) → GoesOn limit o o
goes_itself limit None = refl
goes_itself limit (Some s) = (s.settled, inl refl, refl)

goes_again : (limit : ℕ) (o p q : Option Asked) → GoesOn limit o p → GoesOn limit p q → GoesOn limit o q
goes_again limit None p q first second = rw first at second
goes_again limit (Some s) p q (settled, may, is) second =
    let (finally, more, also) = rw is at second in
    (finally, settles_twice limit (credentials s.view) s.query s.settled settled finally may more, also)

between_itself : (when : When) (a : Account) → Between when a a
between_itself at_waits a = refl
between_itself any_time a = (refl, λ k. goes_itself a.limits.work (get a.searches k))

between_twice : (when : When) (a b c : Account) → Between when a b → Between when b c → Between when a c
between_twice at_waits a b c first second = second ∙ first
between_twice any_time a b c (is, goes) (also, more) = (
  also ∙ ap (λ (x : Account). record x { searches = c.searches }) is,
  λ k. goes_again a.limits.work (get a.searches k) (get b.searches k) (get c.searches k) (goes k)
      (rw (ap (λ (x : Account). x.limits.work) is) at (more k)),
)

-- what happens between two turns, of a name that may be no tenant's
abbrev pub BetweenOf : When → Option Account → Option Account → Type 0
BetweenOf when None p = p ≡ None
BetweenOf when (Some a) p = (b : Account) × (p ≡ Some b) × Between when a b

pub nothing_between : (when : When) (o : Option Account) → BetweenOf when o o
nothing_between when None = refl
nothing_between when (Some a) = (a, refl, between_itself when a)

run_later : (when : When) (tenant : List ℕ) (a b c : Account) (turns : List Turn) → Between when a b →
    IsRun when tenant b turns c → IsRun when tenant a turns c
run_later when tenant a b c [] between run = between_twice when a b c between run
run_later when tenant a b c (turn ∷ more) between run = (run.0, run.1, between_twice when a b run.0 between run.2, run.3, run.4)

pub later_run : (when : When) (tenant : List ℕ) (o p end : Option Account) (turns : List Turn) → BetweenOf when o p →
    IsRunOf when tenant p turns end → IsRunOf when tenant o turns end
later_run when tenant None p end turns gone run = rw gone at run
later_run when tenant (Some a) p end turns (b, is, between) run =
    let (c, ends, rest) = rw is at run in (c, ends, run_later when tenant a b c turns between rest)

-- where nothing is done the account stays
pub empty_run : (when : When) (tenant : List ℕ) (o : Option Account) → IsRunOf when tenant o [] o
empty_run when tenant None = (tt, refl)
empty_run when tenant (Some a) = (a, refl, between_itself when a)

-- what a turn does to the account of its tenant, of a name that may be no tenant's
abbrev pub TurnsTo : List ℕ → Option Account → Turn → Option Account → Type 0
TurnsTo tenant None turn after = (turn.reply ≡ Refused NoTenant) × (after ≡ None)
TurnsTo tenant (Some a) turn after = (b : Account) × (after ≡ Some b) × IsTaken tenant a turn.sees turn.deed turn.reply b

turn_first : (when : When) (tenant : List ℕ) (o after end : Option Account) (turn : Turn) (more : List Turn) →
    TurnsTo tenant o turn after → IsRunOf when tenant after more end →
    IsRunOf when tenant o (turn ∷ more) end
turn_first when tenant None after end turn more turns run = let rest = rw turns.1 at run in ((turns.0, rest.0), rest.1)
turn_first when tenant (Some a) after end turn more (b, is, taken) run =
    let rest = rw is at run in (rest.0, rest.1, (a, b, between_itself when a, taken, rest.2))

-- what was done, as it is told
abbrev pub done_told : List ℕ → Deed → Reply → Told
done_told name deed told = record { tenant = name; deed = deed; reply = told }

-- a tenant's turn, of what was told
abbrev pub turn_at : List ℕ → List Entry → Told → Turn
turn_at tenant journal t =
    record { sees = sight journal tenant (request_of t.deed); deed = t.deed; reply = t.reply }

-- the turn of that tenant, if it is one of its own
abbrev pub turn_of : List ℕ → List Entry → Told → List Turn
turn_of tenant journal t = cond (is_same t.tenant tenant) (turn_at tenant journal t ∷ []) []

-- one thing more was done at the start of a run: a turn of the tenant, or nothing to it
pub done_first : (when : When) (tenant : List ℕ) (journal : List Entry) (t : Told)
    (o after end : Option Account) (more : List Turn) →
    (is_same t.tenant tenant ≡ true → TurnsTo tenant o (turn_at tenant journal t) after) →
    (is_same t.tenant tenant ≡ false → after ≡ o) →
    IsRunOf when tenant after more end → IsRunOf when tenant o (turn_of tenant journal t ++ more) end
done_first when tenant journal t o after end more own other run = by (is_same t.tenant tenant) refl
  where
    by : (b : Bool) → is_same t.tenant tenant ≡ b → IsRunOf when tenant o (cond b (turn_at tenant journal t ∷ []) [] ++ more) end
    by true same = turn_first when tenant o after end (turn_at tenant journal t) more (own same) run
    by false apart = rw (other apart) at run
