-- A history goes on by what happens to the hall in which it ends.
use Rattle.std.proofs.Common.{◌≡◌, ◌∙◌, ℕ, List, [], ◌∷◌, ◌++◌, Option, Some, None, sym, ap, refl, subst, append_assoc}
use Rattle.std.proofs.lemmas.List.{append-nil}
use Rattle.std.proofs.lemmas.List.Sums.{fold-append}
use Rattle.std.specs.List.{AllByRecursion, fold}
use Rattle.quotas.specs.Quota.{Quota}
use Rattle.vaults.specs.declared.changes.Entry.{Entry}
use Rattle.hall.specs.declared.calls.events.Event.{Event}
use Rattle.hall.specs.declared.calls.events.Event.TheVariants as event
use Rattle.hall.specs.declared.calls.replies.Reply.{Reply}
use Rattle.hall.specs.declared.calls.replies.Reply.TheVariants as reply
use Rattle.hall.specs.declared.calls.requests.Request.{Request}
use Rattle.hall.specs.declared.calls.steps.Step.{Step}
use Rattle.hall.specs.declared.calls.steps.Stepped.{Stepped}
use Rattle.hall.specs.declared.faults.Fault.TheVariants.{NoTenant}
use Rattle.hall.specs.Answers.{Account, start_of}
use Rattle.hall.specs.Run.{Told, told_in, entered, told_to, Turn, any_time, IsRun, IsRunOf}
use Rattle.hall.specs.Hall.{HallState, account_of, IsSound, Run, IsServed, IsStepped}
use Rattle.hall.proofs.laws.HallRuns.{runs_allowed, served_journal, stepped_journal}
use Rattle.hall.proofs.laws.HallTurns.{turn_of, later_run}
use Rattle.pool.specs.Histories.{turn, EndsIn, HistoriesGoOn}

-- what was told to a tenant, and then what was told later
pub told_append : (tenant : List ℕ) (journal : List Entry) (xs ys : List Told) →
    told_to tenant journal (xs ++ ys) ≡ told_to tenant journal xs ++ told_to tenant (fold entered journal xs) ys
told_append tenant journal [] ys = refl
told_append tenant journal (t ∷ xs) ys =
    ap (λ (w : List Turn). turn_of tenant journal t ++ w) (told_append tenant (entered journal t) xs ys)
    ∙ sym (append_assoc (turn_of tenant journal t) (told_to tenant (entered journal t) xs) (told_to tenant (fold entered (entered journal t) xs) ys))

-- one run after another
run_then : (tenant : List ℕ) (a b c : Account) (xs ys : List Turn) → IsRun any_time tenant a xs b → IsRun any_time tenant b ys c →
    IsRun any_time tenant a (xs ++ ys) c
run_then tenant a b c [] ys between run =
    let all : IsRunOf any_time tenant (Some a) ys (Some c) =
    later_run any_time tenant (Some a) (Some b) (Some c) ys (b, refl, between) (c, refl, run) in
    subst (λ (x : Account). IsRun any_time tenant a ys x) (sym (same_some c all.0 all.1)) all.2
  where
    same_some : (x y : Account) → Some x ≡ Some y → x ≡ y
    same_some x y is = cc
run_then tenant a b c (t ∷ xs) ys (before, after, between, taken, more) run =
    (before, after, between, taken, run_then tenant after b c xs ys more run)

all_refused : (xs ys : List Turn) → AllByRecursion (λ (t : Turn). t.reply ≡ reply.Refused NoTenant) xs →
    AllByRecursion (λ (t : Turn). t.reply ≡ reply.Refused NoTenant) ys → AllByRecursion (λ (t : Turn). t.reply ≡ reply.Refused NoTenant) (xs ++ ys)
all_refused [] ys one other = other
all_refused (x ∷ xs) ys (here, more) other = (here, all_refused xs ys more other)

pub runs_then : (tenant : List ℕ) (o p q : Option Account) (xs ys : List Turn) → IsRunOf any_time tenant o xs p → IsRunOf any_time tenant p ys q →
    IsRunOf any_time tenant o (xs ++ ys) q
runs_then tenant None p q xs ys (refused, none) run =
    let more : IsRunOf any_time tenant None ys q = subst (λ (x : Option Account). IsRunOf any_time tenant x ys q) none run in
    (all_refused xs ys refused more.0, more.1)
runs_then tenant (Some a) p q xs ys (b, is, first) run =
    let more : IsRunOf any_time tenant (Some b) ys q = subst (λ (x : Option Account). IsRunOf any_time tenant x ys q) is run in
    (more.0, more.1, run_then tenant a b more.0 xs ys first more.2)

-- the journal after a run of a hall
pub run_journal : (old new : HallState) (events : List Event) (replies : List Reply) → Run old events replies new →
    new.journal ≡ fold entered old.journal (told_in events replies)
run_journal old new [] [] run = ap (λ (h : HallState). h.journal) run
run_journal old new [] (told ∷ replies) run = absurd run
run_journal old new (e ∷ events) [] run = absurd run
run_journal old new (event.Request name q ∷ events) (told ∷ replies) (after, served, run) =
    run_journal after new events replies run
    ∙ ap (λ (j : List Entry). fold entered j (told_in events replies)) (served_journal old after name q told served)
run_journal old new (event.Step made ∷ events) (told ∷ replies) (after, (answer, is, stepped), run) =
    run_journal after new events replies run
    ∙ ap (λ (j : List Entry). fold entered j (told_in events replies)) (stepped_journal old after made answer stepped)

pub go_on : HistoriesGoOn
go_on roster history old new events replies sound ends run = record {
  journal = run_journal old new events replies run
      ∙ ap (λ (j : List Entry). fold entered j (told_in events replies)) ends.journal
      ∙ sym (fold-append entered [] history (told_in events replies));
  runs = λ tenant. subst (λ (turns : List Turn). IsRunOf any_time tenant (start_of tenant roster) turns (account_of new tenant))
      (sym (told_append tenant [] history (told_in events replies)))
      (runs_then tenant (start_of tenant roster) (account_of old tenant) (account_of new tenant) (told_to tenant [] history)
      (told_to tenant (fold entered [] history) (told_in events replies)) (ends.runs tenant)
      (subst (λ (j : List Entry). IsRunOf any_time tenant (account_of old tenant) (told_to tenant j (told_in events replies)) (account_of new tenant))
      ends.journal (runs_allowed old new events replies sound run tenant)));
}

-- a request that is served
pub serve_on : (roster : List (List ℕ × Quota)) (history : List Told) (old new : HallState) (name : List ℕ) (q : Request) (told : Reply) →
    IsSound old → EndsIn roster history old → IsServed old name q told new → EndsIn roster (history ++ turn name q told ∷ []) new
serve_on roster history old new name q told sound ends served =
    go_on roster history old new (event.Request name q ∷ []) (told ∷ []) sound ends (new, served, refl)

-- a step that is made
pub step_on : (roster : List (List ℕ × Quota)) (history : List Told) (old new : HallState) (made : Step) (answer : Stepped) →
    IsSound old → EndsIn roster history old → IsStepped old made answer new → EndsIn roster history new
step_on roster history old new made answer sound ends stepped =
    subst (λ (l : List Told). EndsIn roster l new) (append-nil history)
    (go_on roster history old new (event.Step made ∷ []) (reply.Stepped answer ∷ []) sound ends (new, (answer, refl, stepped), refl))
