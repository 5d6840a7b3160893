-- What a tenant is told of changes, openings, vaults and names is what the turns before give it.
use Rattle.std.proofs.Common.{◌≡◌, ◌≢◌, ◌∙◌, ◌+◌, ℕ, List, [], ◌∷◌, ◌++◌, length, Option, Some, None, ap, sym, subst, refl, arith}
use Rattle.std.specs.List.{AllByRecursion, fold}
use Rattle.quotas.specs.Quota.{Quota}
use Rattle.vaults.specs.declared.changes.Entry.{Entry}
use Rattle.vaults.specs.Journal.{entries_of, vault}
use Rattle.vaults.proofs.Exactness.{vaults_own}
use Rattle.hall.specs.declared.faults.Fault.{Fault}
use Rattle.hall.specs.declared.faults.Fault.TheVariants.{NoTenant, Memory}
use Rattle.hall.specs.declared.calls.requests.Request.{Request}
use Rattle.hall.specs.declared.calls.requests.Request.TheVariants as request
use Rattle.hall.specs.declared.calls.replies.Reply.{Reply}
use Rattle.hall.specs.declared.calls.replies.Reply.TheVariants as reply
use Rattle.hall.specs.Answers.{Account, Sight, start_of, sight, Grants, Answers, refuses, grants, lacks}
use Rattle.hall.specs.Run.{Told, Turn, entered, told_to, any_time, IsRun, IsRunOf}
use Rattle.hall.proofs.laws.HallTurns.{turn_at}
use Rattle.pool.specs.declared.turns.Item.{Item}
use Rattle.pool.specs.Histories.{turn, AreTold, IsLegal}
use Rattle.pool.specs.Laws.{RepliesAreExact}
use Rattle.pool.proofs.Accounts.{openings_of, openings_counted, Holds, account_behind, begins_empty}
use Rattle.pool.proofs.Truths.{own_turn}

refused_at : (xs ys : List Turn) (t : Turn) → AllByRecursion (λ (u : Turn). u.reply ≡ reply.Refused NoTenant) (xs ++ t ∷ ys) → t.reply ≡ reply.Refused NoTenant
refused_at [] ys t all = all.0
refused_at (x ∷ xs) ys t all = refused_at xs ys t all.1

answers_grant : (tenant : List ℕ) (sees : Sight) (a b : Account) (q : Request) (r told : Reply) → r ≡ told → ((f : Fault) → told ≢ reply.Refused f) →
    Answers tenant sees a q r b → Grants tenant sees a q told b
answers_grant tenant sees a b q r told is other (refuses f due) = absurd (other f (sym is))
answers_grant tenant sees a b q r told is other (grants clear has) = subst (λ (s : Reply). Grants tenant sees a q s b) is has
answers_grant tenant sees a b q r told is other (lacks clear may) = absurd (other Memory (sym is))

-- what was told and is no refusal was granted to an account that has what was entered and opened before
pub record WasGranted (before : List Told) (who : List ℕ) (q : Request) (told : Reply) : Type 0 where
  pub account : Account
  pub after : Account
  pub entries : account.entries ≡ entries_of who (fold entered [] before)
  pub opens : account.opens ≡ openings_of who before
  pub gets : Grants who (sight (fold entered [] before) who q) account q told after

module _ (before : List Told) (who : List ℕ) (q : Request) (told : Reply) (other : (f : Fault) → told ≢ reply.Refused f) where
  granted_in : (more : List Turn) (a c : Account) → Holds who [] 0 a → IsRun any_time who a (told_to who [] before ++ turn_at who (fold entered [] before) (turn who q told) ∷ more) c →
      WasGranted before who q told
  granted_in more a c begins run =
      let (b, holds, (m, d, between, took, left)) = account_behind who [] before (turn_at who (fold entered [] before) (turn who q told) ∷ more) c 0 a begins run in record {
        account = m;
        after = d;
        entries = ap (λ (x : Account). x.entries) between.0 ∙ holds.entries;
        opens = (let kept = ap (λ (x : Account). x.opens) between.0 in let same = holds.opens in omega (arith, kept, same));
        gets = answers_grant who (sight (fold entered [] before) who q) m d q told told refl other took;
      }

  was_granted : (roster : List (List ℕ × Quota)) (items : List Item) (behind : List Told) → IsLegal roster items → AreTold items (before ++ turn who q told ∷ behind) →
      WasGranted before who q told
  was_granted roster items behind legal are =
      let (end, run) = legal.runs (before ++ turn who q told ∷ behind) are who in
      by end (start_of who roster) refl (subst (λ (turns : List Turn). IsRunOf any_time who (start_of who roster) turns end) (own_turn before behind (turn who q told)) run)
    where
      by : (end o : Option Account) → start_of who roster ≡ o →
          IsRunOf any_time who o (told_to who [] before ++ turn_at who (fold entered [] before) (turn who q told) ∷ told_to who (entered (fold entered [] before) (turn who q told)) behind) end →
          WasGranted before who q told
      by end None none run = absurd (other NoTenant (refused_at (told_to who [] before) _ (turn_at who (fold entered [] before) (turn who q told)) run.0))
      by end (Some a) start run = granted_in _ a run.0 (begins_empty who roster a start) run.2

pub replies_exact : RepliesAreExact
replies_exact roster items before behind who (request.Alter change) (reply.Counted n) legal are =
    let has = was_granted before who (request.Alter change) (reply.Counted n) (λ f is. cc) roster items behind legal are in
    let is : n ≡ length has.account.entries + 1 = (let told = has.gets.0 in cc) in
    is ∙ ap (λ (es : List Entry). length es + 1) has.entries
replies_exact roster items before behind who (request.Seek query) (reply.Opened n) legal are =
    let has = was_granted before who (request.Seek query) (reply.Opened n) (λ f is. cc) roster items behind legal are in
    let is : n ≡ has.account.opens + 1 = (let told = has.gets.0 in cc) in
    is ∙ ap (λ (k : ℕ). k + 1) (has.opens ∙ openings_counted who before)
replies_exact roster items before behind who request.Vault (reply.Vault rows) legal are =
    let has = was_granted before who request.Vault (reply.Vault rows) (λ f is. cc) roster items behind legal are in
    let is : rows ≡ vault has.account.entries who = (let told = has.gets.0 in cc) in
    is ∙ ap (λ (es : List Entry). vault es who) has.entries ∙ vaults_own (fold entered [] before) who
replies_exact roster items before behind who request.Sees (reply.Sees seen) legal are =
    let has = was_granted before who request.Sees (reply.Sees seen) (λ f is. cc) roster items behind legal are in
    let told = has.gets.0 in cc
replies_exact roster items before behind who q answer legal are = tt
