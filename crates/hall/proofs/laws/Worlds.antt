-- The law of two worlds, and that scripts are isolated by it.
use Rattle.std.proofs.Common.{ℕ, List, [], ◌∷◌, ◌≡◌, ◌≢◌, ◌∙◌, inl, inr, sym, subst, ap, refl, Option, Some, None}
use Rattle.std.specs.List.{AllZip, AllByRecursion}
use Rattle.std.specs.FinMap.{get}
use Rattle.credential_text.specs.declared.credentials.Credential.{Credential}
use Rattle.vaults.specs.Journal.{credentials}
use Rattle.search.specs.declared.queries.Query.{Query}
use Rattle.search.specs.Ending.{Settled, Nothing, Broken, MaySettle}
use Rattle.hall.specs.declared.faults.Fault.TheVariants.{NoTenant}
use Rattle.hall.specs.declared.calls.requests.Request.TheVariants.{Poll}
use Rattle.hall.specs.declared.calls.replies.Reply.{Reply}
use Rattle.hall.specs.declared.calls.replies.Reply.TheVariants.{Answered, Refused}
use Rattle.hall.specs.Answers.{Asked, Account, start_of, Sight, answer_of, Answers, refuses, grants, lacks}
use Rattle.hall.specs.Run.{Deed, asks, waits, Turn, told_to, When, at_waits, Ends, IsTaken, IsRun, IsRunOf}
use Rattle.quotas.specs.Quota.{Quota}
use Rattle.hall.specs.Run.{Told, AreRuns, Agree, same, HasMemory, IsSameDeed}
use Rattle.hall.proofs.Maps.{numbers_exact, get_inserted}
use Rattle.hall.proofs.Truths.{AreLike, settles_twice, came_to_end, ending_unique}
use Rattle.hall.proofs.laws.AccountsAlike.{like_from_same, weakly_like, BothHave, neither, both, both_inserted, AreAlike, alike_itself, other_work, between_alike}
use Rattle.hall.proofs.laws.AccountReplies.{IsWhole, replies_agree}

-- two searches that are alike come to one end, but for want of memory
ends_same : (limit : ℕ) (C : List Credential) (q : Query) (x y u v : Settled) → AreLike limit C q x y → MaySettle limit C q x u →
    MaySettle limit C q y v →
    u ≢ Nothing → v ≢ Nothing → u ≢ Broken → v ≢ Broken → u ≡ v
ends_same limit C q x y u v (inl e) (inl f) (inl g) some also whole intact = f ∙ e ∙ sym g
ends_same limit C q x y u v (inl e) (inl f) (inr g) some also whole intact = absurd (some (f ∙ e ∙ g.0))
ends_same limit C q x y u v (inl e) (inr f) (inl g) some also whole intact = absurd (also (g ∙ sym e ∙ f.0))
ends_same limit C q x y u v (inl e) (inr f) (inr g) some also whole intact = ending_unique limit C q u v f.1 g.1 whole intact
ends_same limit C q x y u v (inr h) f g some also whole intact =
    ending_unique limit C q u v (came_to_end limit C q u (settles_twice limit C q Nothing x u h.0 f) some)
    (came_to_end limit C q v (settles_twice limit C q Nothing y v h.1 g) also) whole intact

-- a poll tells of a broken search that it is broken
not_broken : (tenant : List ℕ) (sees : Sight) (m c : Account) (k : ℕ) (s : Asked) (told : Reply) → get m.searches k ≡ Some s →
    Answers tenant sees m (Poll k) told c →
    IsWhole told → s.settled ≢ Broken
not_broken tenant sees m _ k s _ at (refuses f due) whole broken = let none = due.0 in cc
not_broken tenant sees m _ k s _ at (lacks clear may) whole broken = whole.0 refl
not_broken tenant sees m c k s told at (grants clear (t, there, is, after)) whole broken =
    let same_search : t ≡ s = (cc) in
    whole.1 (is ∙ ap (λ (x : Settled). Answered (answer_of x)) (ap (λ (x : Asked). x.settled) same_search ∙ broken))

-- a wait ends a search in both with one end
waits_alike : (when : When) (limit k : ℕ) (tenant : List ℕ) (sees : Sight) (a b m n c d : Account) (told other : Reply) →
    AreAlike when limit a b →
    Ends a k (get a.searches k) m → Ends b k (get b.searches k) n → Answers tenant sees m (Poll k) told c →
    Answers tenant sees n (Poll k) other d →
    IsWhole told → IsWhole other → AreAlike when limit m n
waits_alike when limit k tenant sees a b m n c d told other alike first second answered also whole intact =
    by (get a.searches k) (get b.searches k) (alike.searches k) first second
  where
    by : (o p : Option Asked) → BothHave when limit o p → Ends a k o m → Ends b k p n → AreAlike when limit m n
    by _ _ neither e f = rw (e, f) alike
    by _ _ (both query view x y like) (u, some, may, e) (v, more, might, f) =
        let left : Asked = record { query = query; view = view; settled = u } in
        let right : Asked = record { query = query; view = view; settled = v } in
        let one : u ≡ v =
        ends_same limit (credentials view) query x y u v (weakly_like when limit (credentials view) query x y like)
        (rw (← alike.work) may) (rw (← other_work alike) might) some more
        (not_broken tenant sees m c k left told (rw e (get_inserted numbers_exact a.searches k left)) answered whole)
        (not_broken tenant sees n d k right other (rw f (get_inserted numbers_exact b.searches k right)) also intact) in
        rw (e, f) record {
          work = alike.work;
          limits = alike.limits;
          entries = alike.entries;
          opens = alike.opens;
          searches = both_inserted when limit a.searches b.searches alike.searches k left right
              (both query view u v (like_from_same when limit (credentials view) query u v one));
        }

-- one turn in both
turns_agree : (when : When) (limit : ℕ) (tenant : List ℕ) (sees : Sight) (deed : Deed) (a b c d : Account) (told other : Reply) →
    AreAlike when limit a b →
    IsTaken tenant a sees deed told c → IsTaken tenant b sees deed other d → IsWhole told → IsWhole other →
    Agree when told other × AreAlike when limit c d
turns_agree when limit tenant sees (asks q) a b c d told other alike first second whole intact =
    replies_agree when limit tenant sees a b c d q told other alike first second whole intact
turns_agree when limit tenant sees (waits k) a b c d told other alike (m, ends, answered) (n, also, answers) whole intact =
    replies_agree when limit tenant sees m n c d (Poll k) told other
    (waits_alike when limit k tenant sees a b m n c d told other alike ends also answered answers whole intact)
    answered answers whole intact

-- and so over whole runs
runs_agree : (when : When) (limit : ℕ) (tenant : List ℕ) (a b c d : Account) (first second : List Turn) →
    AreAlike when limit a b →
    IsRun when tenant a first c → IsRun when tenant b second d → AllZip IsSameDeed first second → HasMemory first →
    HasMemory second →
    AllZip (λ s t. Agree when s.reply t.reply) first second
runs_agree when limit tenant a b c d [] [] alike one two deeds memory more = tt
runs_agree when limit tenant a b c d [] (t ∷ second) alike one two deeds memory more = absurd deeds
runs_agree when limit tenant a b c d (s ∷ first) [] alike one two deeds memory more = absurd deeds
runs_agree when limit tenant a b c d (s ∷ first) (t ∷ second) alike (x, u, early, taken, run)
    (y, v, also, took, rest) deeds memory more =
    let now : Agree when s.reply t.reply × AreAlike when limit u v =
    turns_agree when limit tenant s.sees s.deed x y u v s.reply t.reply (between_alike when limit a b x y alike early also) taken
    (rw (deeds.0.0, deeds.0.1) took) memory.0 more.0 in
    (now.0, runs_agree when limit tenant u v c d first second now.1 run rest deeds.1 memory.1 more.1)

-- a name that is no tenant's is told the same
refused_same : (when : When) (first second : List Turn) → AllZip IsSameDeed first second →
    AllByRecursion (λ (t : Turn). t.reply ≡ Refused NoTenant) first →
    AllByRecursion (λ (t : Turn). t.reply ≡ Refused NoTenant) second → AllZip (λ s t. Agree when s.reply t.reply) first second
refused_same when [] [] deeds one two = tt
refused_same when [] (t ∷ second) deeds one two = absurd deeds
refused_same when (s ∷ first) [] deeds one two = absurd deeds
refused_same when (s ∷ first) (t ∷ second) deeds one two =
    (rw (one.0, two.0) same, refused_same when first second deeds.1 one.1 two.1)

pub two_worlds : (when : When) (tenant : List ℕ) (start end other_end : Option Account) (first second : List Turn) →
    IsRunOf when tenant start first end → IsRunOf when tenant start second other_end → AllZip IsSameDeed first second → HasMemory first → HasMemory second →
    AllZip (λ s t. Agree when s.reply t.reply) first second
two_worlds when tenant None end other_end first second one two deeds memory more = refused_same when first second deeds one.0 two.0
two_worlds when tenant (Some a) end other_end first second (b, is, one) (c, also, two) deeds memory more =
    runs_agree when a.limits.work tenant a a b c first second (alike_itself when a) one two deeds memory more

pub scripts_isolated : (tenant : List ℕ) (roster others : List (List ℕ × Quota)) (told more : List Told) → AreRuns at_waits roster told → AreRuns at_waits others more →
    start_of tenant roster ≡ start_of tenant others → AllZip IsSameDeed (told_to tenant [] told) (told_to tenant [] more) →
    HasMemory (told_to tenant [] told) → HasMemory (told_to tenant [] more) →
    AllZip (λ s t. Agree at_waits s.reply t.reply) (told_to tenant [] told) (told_to tenant [] more)
scripts_isolated tenant roster others told more exact also same_start deeds memory has =
    let (end, run) = exact tenant in
    let (other_end, other_run) = also tenant in
    two_worlds at_waits tenant (start_of tenant roster) end other_end (told_to tenant [] told) (told_to tenant [] more) run
    (subst (λ (o : Option Account). IsRunOf at_waits tenant o (told_to tenant [] more) other_end) (sym same_start) other_run) deeds memory has
