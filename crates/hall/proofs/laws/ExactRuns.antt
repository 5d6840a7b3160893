-- From a new hall on, what a tenant is told is a run of its own turns, in which searches settle at its waits alone.
use Rattle.std.proofs.Common.{◌≡◌, ◌∙◌, ℕ, Bool, true, false, cond, List, [], ◌∷◌, map, find, Some, option_map, ap}
use Rattle.std.proofs.Common.{refl}
use Rattle.std.specs.FinMap.{FinMap, get-from_entries, find as find_entry}
use Rattle.std.specs.Ordering.{nat_cmp}
use Rattle.names.specs.Name.{is_same, name_order}
use Rattle.names.proofs.SameNames.{same_from_is_same, is_same_tied}
use Rattle.quotas.specs.Quota.{Quota}
use Rattle.vaults.proofs.Elements.{tied_both_ways}
use Rattle.vaults.proofs.Orders.{names_exact}
use Rattle.hall.specs.declared.calls.requests.Request.TheVariants.{Poll}
use Rattle.hall.specs.declared.calls.replies.Reply.{Reply}
use Rattle.hall.specs.Answers.{Asked, new_account, start_of}
use Rattle.hall.specs.Run.{Deed, asks, waits, Told, entered, told_to, at_waits, IsRunOf, AreRuns}
use Rattle.hall.specs.Hall.{HallState, seen, account, account_of, CarriesOut, AreDone, IsSound, new_tenant, new_hall}
use Rattle.hall.proofs.Maps.{numbers_exact, mapped_empty}
use Rattle.hall.proofs.laws.HallSound.{carried_sound, new_sound}
use Rattle.hall.proofs.laws.HallTurns.{empty_run, TurnsTo, done_told, turn_at, done_first}
use Rattle.hall.proofs.laws.HallRuns.{served_journal, served_own, served_other}
use Rattle.hall.proofs.laws.ExactHeld.{IsFree, carried_free, new_free}
use Rattle.hall.proofs.laws.ExactWaits.{driven_journal, driven_other, waited_own}

-- the journal after a deed
carried_journal : (old new : HallState) (name : List ℕ) (deed : Deed) (told : Reply) → CarriesOut old name deed told new →
    new.journal ≡ entered old.journal (done_told name deed told)
carried_journal old new name (asks q) told served = served_journal old new name q told served
carried_journal old new name (waits k) told (middle, drives, served) =
    served_journal middle new name (Poll k) told served ∙ driven_journal old middle name k drives

-- a deed is a turn of its tenant
carried_own : (old new : HallState) (name : List ℕ) (deed : Deed) (told : Reply) → IsSound old → IsFree old →
    CarriesOut old name deed told new →
    TurnsTo name (account_of old name) (turn_at name old.journal (done_told name deed told)) (account_of new name)
carried_own old new name (asks q) told sound free served = served_own old new name q told served
carried_own old new name (waits k) told sound free (middle, drives, served) =
    waited_own old middle name k drives new told sound free served

-- and nothing to the others
carried_other : (old new : HallState) (name : List ℕ) (deed : Deed) (told : Reply) (other : List ℕ) →
    CarriesOut old name deed told new → is_same name other ≡ false →
    account_of new other ≡ account_of old other
carried_other old new name (asks q) told other served apart = served_other old new name q told other served apart
carried_other old new name (waits k) told other (middle, drives, served) apart =
    served_other middle new name (Poll k) told other served apart ∙ driven_other old middle name k drives other apart

done_exact : (tenant : List ℕ) (old new : HallState) (told : List Told) → IsSound old → IsFree old → AreDone old told new →
    IsRunOf at_waits tenant (account_of old tenant) (told_to tenant old.journal told) (account_of new tenant)
done_exact tenant old new [] sound free done =
    rw done (empty_run at_waits tenant (account_of old tenant))
done_exact tenant old new (t ∷ more) sound free (middle, carried, done) =
    done_first at_waits tenant old.journal t (account_of old tenant) (account_of middle tenant) (account_of new tenant)
    (told_to tenant (entered old.journal t) more)
    (λ same. rw (← same_from_is_same t.tenant tenant same) (carried_own old middle t.tenant t.deed t.reply sound free carried))
    (carried_other old middle t.tenant t.deed t.reply tenant carried)
    (rw (← carried_journal old middle t.tenant t.deed t.reply carried)
    (done_exact tenant middle new more (carried_sound old middle t.tenant t.deed t.reply sound carried)
    (carried_free old middle t.tenant t.deed t.reply free carried) done))

-- what a name of a roster begins with is its account in the new hall
pub started : (name : List ℕ) (roster : List (List ℕ × Quota)) → account_of (new_hall roster) name ≡ start_of name roster
started name roster =
    ap (option_map (account [] name)) (get-from_entries names_exact.total (map (λ row. (row.0, new_tenant row.1)) roster) name)
    ∙ rows roster
  where
    new : (limits : Quota) → account [] name (new_tenant limits) ≡ new_account limits
    new limits = ap (λ (m : FinMap nat_cmp Asked). record (new_account limits) { searches = m }) (mapped_empty numbers_exact seen)

    rows : (rest : List (List ℕ × Quota)) →
        option_map (account [] name)
        (find_entry name_order name (map (λ row. (row.0, new_tenant row.1)) rest)) ≡ start_of name rest
    rows [] = refl
    rows (row ∷ rest) =
        ap (λ (b : Bool). option_map (account [] name)
        (cond b (Some (new_tenant row.1)) (find_entry name_order name (map (λ row. (row.0, new_tenant row.1)) rest))))
        (tied_both_ways names_exact name row.0 ∙ is_same_tied row.0 name)
        ∙ by (is_same row.0 name) (rows rest)
      where
        by : (b : Bool) →
            option_map (account [] name)
            (find_entry name_order name (map (λ row. (row.0, new_tenant row.1)) rest)) ≡ start_of name rest →
            option_map (account [] name)
            (cond b (Some (new_tenant row.1)) (find_entry name_order name (map (λ row. (row.0, new_tenant row.1)) rest)))
            ≡ option_map (λ row. new_account row.1) (cond b (Some row) (find (λ row. is_same row.0 name) rest))
        by true is = ap Some (new row.1)
        by false is = is

pub scripts_exact : (roster : List (List ℕ × Quota)) (new : HallState) (told : List Told) → AreDone (new_hall roster) told new → AreRuns at_waits roster told
scripts_exact roster new told done tenant = (
  account_of new tenant,
  rw (← started tenant roster) (done_exact tenant (new_hall roster) new told (new_sound roster) (new_free roster) done),
)
