-- What a tenant's account is after its turns: its entries are those that were entered for it, and its openings are counted.
use Rattle.std.proofs.Common.{◌≡◌, ◌∙◌, ◌+◌, ◌&&◌, ℕ, Bool, true, false, cond, List, [], ◌∷◌, ◌++◌, length, Option, Some, None, option_map, ap, sym, refl, subst, arith}
use Rattle.std.proofs.lemmas.List.{append-nil}
use Rattle.std.specs.{FinMap.get, List.filter, List.fold}
use Rattle.names.specs.Name.{is_same}
use Rattle.names.proofs.SameNames.{same_from_is_same}
use Rattle.quotas.specs.Quota.{Quota}
use Rattle.vaults.specs.declared.changes.Entry.{Entry}
use Rattle.vaults.specs.Journal.{entries_of, one_if}
use Rattle.vaults.proofs.LastEntries.{entries_push}
use Rattle.vaults.proofs.PageLemmas.{own_entries_push}
use Rattle.hall.specs.declared.faults.Fault.{Fault}
use Rattle.hall.specs.declared.calls.requests.Request.{Request}
use Rattle.hall.specs.declared.calls.requests.Request.TheVariants as request
use Rattle.hall.specs.declared.calls.replies.Reply.{Reply}
use Rattle.hall.specs.declared.calls.replies.Reply.TheVariants as reply
use Rattle.hall.specs.Answers.{Asked, Account, Sight, new_account, start_of, Grants, Answers, refuses, grants, lacks}
use Rattle.hall.specs.Run.{Deed, asks, waits, Told, entered, Turn, told_to, any_time, Ends, IsTaken, IsRun}
use Rattle.hall.proofs.laws.HallTurns.{turn_at}
use Rattle.pool.specs.Laws.{is_opening}

-- how many searches the tenant had opened
abbrev pub openings_of : List ℕ → List Told → ℕ
openings_of who [] = 0
openings_of who (t ∷ more) = one_if (is_same t.tenant who && is_opening t.deed t.reply) + openings_of who more

counted_first : (b : Bool) (t : Told) (opened : List Told) (n : ℕ) → n ≡ length opened → one_if b + n ≡ length (cond b (t ∷ opened) opened)
counted_first true t opened n is = omega (arith, is)
counted_first false t opened n is = omega (arith, is)

-- is how many openings there are
pub openings_counted : (who : List ℕ) (told : List Told) → openings_of who told ≡ length (filter (λ t. is_same t.tenant who && is_opening t.deed t.reply) told)
openings_counted who [] = refl
openings_counted who (t ∷ more) =
    counted_first (is_same t.tenant who && is_opening t.deed t.reply) t (filter (λ u. is_same u.tenant who && is_opening u.deed u.reply) more) (openings_of who more)
    (openings_counted who more)

-- the account has just these entries of the tenant's, and so many openings
pub record Holds (who : List ℕ) (journal : List Entry) (count : ℕ) (a : Account) : Type 0 where
  pub entries : a.entries ≡ entries_of who journal
  pub opens : a.opens ≡ count

module _ (who : List ℕ) (journal : List Entry) (sees : Sight) where
  -- what was told of a deed
  abbrev said : Deed → Reply → Told
  said d r = record { tenant = who; deed = d; reply = r }

  unentered : (q : Request) (f : Fault) → entered journal (said (asks q) (reply.Refused f)) ≡ journal
  unentered (request.Alter change) f = refl
  unentered _ f = refl

  unopened : (q : Request) (f : Fault) → is_opening (asks q) (reply.Refused f) ≡ false
  unopened (request.Seek query) f = refl
  unopened _ f = refl

  -- what holds before one deed holds after it
  abbrev After : ℕ → Deed → Reply → Account → Type 0
  After n d r b = Holds who (entered journal (said d r)) (n + one_if (is_opening d r)) b

  module _ (n : ℕ) (a : Account) (holds : Holds who journal n a) where
    refused : (q : Request) (f : Fault) → After n (asks q) (reply.Refused f) a
    refused q f = record {
      entries = holds.entries ∙ ap (entries_of who) (sym (unentered q f));
      opens = rw (unopened q f) (let same = holds.opens in omega (arith, same));
    }

    -- a deed that enters nothing and opens nothing
    still : (b : Account) → b.entries ≡ a.entries → b.opens ≡ a.opens → Holds who journal (n + 0) b
    still b entries opens = record { entries = entries ∙ holds.entries; opens = (let same = holds.opens in omega (arith, opens, same)) }

    granted : (q : Request) (r : Reply) (b : Account) → Grants who sees a q r b → After n (asks q) r b
    granted (request.Alter change) r b (is, after) = rw is (record {
      entries =
          ap (λ (x : Account). x.entries) after
          ∙ ap (λ (es : List Entry). es ++ record { tenant = who; change = change } ∷ []) holds.entries
          ∙ sym (own_entries_push journal who change);
      opens = (let same = holds.opens in let kept = ap (λ (x : Account). x.opens) after in omega (arith, same, kept));
    })
    granted (request.Seek query) r b (is, after) = rw is (record {
      entries = ap (λ (x : Account). x.entries) after ∙ holds.entries;
      opens = (let same = holds.opens in let next = ap (λ (x : Account). x.opens) after in omega (arith, same, next));
    })
    granted (request.Poll k) r b (s, at, is, after) = still b (ap (λ (x : Account). x.entries) after) (ap (λ (x : Account). x.opens) after)
    granted (request.Close k) r b (is, after) = still b (ap (λ (x : Account). x.entries) after) (ap (λ (x : Account). x.opens) after)
    granted request.Vault r b (is, after) = still b (ap (λ (x : Account). x.entries) after) (ap (λ (x : Account). x.opens) after)
    granted request.Sees r b (is, after) = still b (ap (λ (x : Account). x.entries) after) (ap (λ (x : Account). x.opens) after)
    granted (request.Proof k member) r b (s, steps, at, proves, is, after) = still b (ap (λ (x : Account). x.entries) after) (ap (λ (x : Account). x.opens) after)

    answered : (q : Request) (r : Reply) (b : Account) → Answers who sees a q r b → After n (asks q) r b
    answered q _ _ (refuses f due) = refused q f
    answered q r b (grants clear gets) = granted q r b gets
    answered q _ _ (lacks clear may) = refused q _

  ended : (a m : Account) (k : ℕ) (o : Option Asked) → Ends a k o m → (m.entries ≡ a.entries) × (m.opens ≡ a.opens)
  ended a m k None is = (ap (λ (x : Account). x.entries) is, ap (λ (x : Account). x.opens) is)
  ended a m k (Some s) (settled, some, may, is) = (ap (λ (x : Account). x.entries) is, ap (λ (x : Account). x.opens) is)

  pub taken : (n : ℕ) (a b : Account) (d : Deed) (r : Reply) → Holds who journal n a → IsTaken who a sees d r b → After n d r b
  taken n a b (asks q) r holds answers = answered n a holds q r b answers
  taken n a b (waits k) r holds (m, ends, answers) =
      let kept = ended a m k (get a.searches k) ends in
      let middle : Holds who journal n m = record { entries = kept.0 ∙ holds.entries; opens = kept.1 ∙ holds.opens } in
      answered n m middle (request.Poll k) r b answers

-- another tenant's deed enters nothing for this one, and opens nothing
apart : (who : List ℕ) (journal : List Entry) (t : Told) → is_same t.tenant who ≡ false → entries_of who (entered journal t) ≡ entries_of who journal
apart who journal t not = by t.deed t.reply
  where
    by : (d : Deed) (r : Reply) → entries_of who (entered journal (record { tenant = t.tenant; deed = d; reply = r })) ≡ entries_of who journal
    by (asks (request.Alter change)) (reply.Counted n) =
        entries_push journal (record { tenant = t.tenant; change = change }) who
        ∙ ap (λ (b : Bool). entries_of who journal ++ cond b (record { tenant = t.tenant; change = change } ∷ []) []) not
        ∙ append-nil (entries_of who journal)
    by _ _ = refl

-- what the turns behind come to, from any account that has this
abbrev pub Behind : List ℕ → List Entry → List Told → List Turn → Account → Type 0
Behind who journal before more c =
    (n : ℕ) (a : Account) → Holds who journal n a → IsRun any_time who a (told_to who journal before ++ more) c
    → (b : Account) × Holds who (fold entered journal before) (n + openings_of who before) b × IsRun any_time who b more c

module _ (who : List ℕ) (journal : List Entry) (t : Told) (before : List Told) (more : List Turn) (c : Account)
    (behind : Behind who (entered journal t) before more c) (n : ℕ) (a : Account) (holds : Holds who journal n a) where
  goes_on : (m : ℕ) (b : Account) → m ≡ n + one_if (is_same t.tenant who && is_opening t.deed t.reply) → Holds who (entered journal t) m b →
      IsRun any_time who b (told_to who (entered journal t) before ++ more) c →
      (d : Account) × Holds who (fold entered journal (t ∷ before)) (n + openings_of who (t ∷ before)) d × IsRun any_time who d more c
  goes_on m b is has run =
      let (d, then, left) = behind m b has run in
      (d, record { entries = then.entries; opens = (let same = then.opens in omega (arith, same, is)) }, left)

  first_turn : (own : Bool) → is_same t.tenant who ≡ own →
      IsRun any_time who a ((cond own (turn_at who journal t ∷ []) [] ++ told_to who (entered journal t) before) ++ more) c →
      (d : Account) × Holds who (fold entered journal (t ∷ before)) (n + openings_of who (t ∷ before)) d × IsRun any_time who d more c
  first_turn true own (middle, after, between, took, run) =
      let same : t.tenant ≡ who = same_from_is_same t.tenant who own in
      let there : Holds who journal n middle = record {
        entries = ap (λ (x : Account). x.entries) between.0 ∙ holds.entries;
        opens = ap (λ (x : Account). x.opens) between.0 ∙ holds.opens;
      } in
      let here = taken who journal _ n middle after t.deed t.reply there took in
      goes_on (n + one_if (is_opening t.deed t.reply)) after (rw own refl)
      (subst (λ (w : List ℕ). Holds who (entered journal (record { tenant = w; deed = t.deed; reply = t.reply })) (n + one_if (is_opening t.deed t.reply)) after) (sym same) here) run
  first_turn false own run =
      goes_on n a (rw own (omega arith)) (record { entries = holds.entries ∙ sym (apart who journal t own); opens = holds.opens }) run

-- a run comes to such an account behind what the tenant was told first
pub account_behind : (who : List ℕ) (journal : List Entry) (before : List Told) (more : List Turn) (c : Account) → Behind who journal before more c
account_behind who journal [] more c n a holds run =
    (a, record { entries = holds.entries; opens = (let same = holds.opens in omega (arith, same)) }, run)
account_behind who journal (t ∷ before) more c n a holds run =
    first_turn who journal t before more c (account_behind who (entered journal t) before more c) n a holds (is_same t.tenant who) refl run

-- a tenant begins with nothing
pub begins_empty : (who : List ℕ) (roster : List (List ℕ × Quota)) (a : Account) → start_of who roster ≡ Some a → Holds who [] 0 a
begins_empty who roster a is = by _ is
  where
    by : (o : Option (List ℕ × Quota)) → option_map (λ (row : List ℕ × Quota). new_account row.1) o ≡ Some a → Holds who [] 0 a
    by None is = cc
    by (Some row) is =
        let same : new_account row.1 ≡ a = cc in
        record { entries = ap (λ (x : Account). x.entries) (sym same); opens = ap (λ (x : Account). x.opens) (sym same) }
