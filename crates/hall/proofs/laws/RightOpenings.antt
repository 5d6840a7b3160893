-- Of each search of an account it is known which turn opened it, and that no other did.
use Rattle.std.proofs.Common.{ℕ, ◌+◌, ◌≤◌, List, [], ◌∷◌, ◌++◌, ◌≡◌, ◌≢◌, ◌⊎◌, inl, inr, sym, ap, refl, subst, arith, Option, Some, None}
use Rattle.std.specs.List.{Contains}
use Rattle.std.specs.Ordering.{nat_cmp}
use Rattle.std.specs.FinMap.{get, get-empty}
use Rattle.std.proofs.lemmas.List.Elements.{Contains-push, Contains-push_cases, Contains-append_left}
use Rattle.rt0_rules.proofs.Elements.{Contains-none}
use Rattle.quotas.specs.Quota.{Quota}
use Rattle.vaults.specs.Journal.{credentials}
use Rattle.search.specs.declared.queries.Query.{Query}
use Rattle.search.specs.Ending.{Settled, Nothing, MaySettle}
use Rattle.hall.specs.declared.faults.Fault.TheVariants.{Memory}
use Rattle.hall.specs.declared.calls.requests.Request.{Request}
use Rattle.hall.specs.declared.calls.requests.Request.TheVariants as request
use Rattle.hall.specs.declared.calls.replies.Reply.{Reply}
use Rattle.hall.specs.declared.calls.replies.Reply.TheVariants.{Opened, Refused}
use Rattle.hall.specs.Answers.{Asked, Account, new_account, Sight, Grants, Answers, refuses, grants, lacks}
use Rattle.hall.specs.Run.{Deed, asks, waits, Turn, When, any_time, at_waits, GoesOn, Between, Ends, IsTaken}
use Rattle.hall.specs.Run.{opens}
use Rattle.std.proofs.lemmas.Option.{same_Some}
use Rattle.hall.proofs.Maps.{numbers_exact, each_inserted, each_removed}
use Rattle.hall.proofs.Truths.{settles_twice}
use Rattle.hall.proofs.laws.HallRequests.{with_opened}

-- among these turns the search got its number once, for its query and over its view; and it has come to nothing yet or to an end
pub record WasOpened (limit : ℕ) (before : List Turn) (k : ℕ) (s : Asked) : Type 0 where
  pub sees : Sight
  pub view : sees.vaults ≡ s.view
  pub opened : Contains before (opens k s.query sees)
  pub alone : (query : Query) (other : Sight) → Contains before (opens k query other) →
      (query ≡ s.query) × (other.vaults ≡ s.view)
  pub settled : MaySettle limit (credentials s.view) s.query Nothing s.settled

-- what is known of an account after these turns
pub record Knows (limit : ℕ) (before : List Turn) (a : Account) : Type 0 where
  pub work : a.limits.work ≡ limit
  pub given : (k : ℕ) (query : Query) (sees : Sight) → Contains before (opens k query sees) → k ≤ a.opens
  pub opened : (k : ℕ) (s : Asked) → get a.searches k ≡ Some s → WasOpened limit before k s

-- nothing is known of a new account
pub knows_nothing : (limits : Quota) → Knows limits.work [] (new_account limits)
knows_nothing limits = record {
  work = refl;
  given = λ k query sees among. absurd (Contains-none (opens k query sees) among);
  opened = λ k s at. let none = get-empty {X = Asked} nat_cmp k in cc;
}

-- a turn that opens no search of this number
abbrev OpensAnother : ℕ → Turn → Type 0
OpensAnother k t = (query : Query) (sees : Sight) → t ≢ opens k query sees

-- a turn that isn't an opening's request, or isn't told a number, opens nothing
other_deed : (sees : Sight) (deed : Deed) (told : Reply) → ((query : Query) → deed ≢ asks (request.Seek query)) → (k : ℕ) →
    OpensAnother k (record { sees = sees; deed = deed; reply = told })
other_deed sees deed told another k query sight is = another query (ap (λ (x : Turn). x.deed) is)

other_reply : (sees : Sight) (deed : Deed) (told : Reply) → ((n : ℕ) → told ≢ Opened n) → (k : ℕ) →
    OpensAnother k (record { sees = sees; deed = deed; reply = told })
other_reply sees deed told another k query sight is = another k (ap (λ (x : Turn). x.reply) is)

-- a poll leaves the account
poll_leaves : (tenant : List ℕ) (sees : Sight) (a c : Account) (k : ℕ) (told : Reply) →
    Answers tenant sees a (request.Poll k) told c → c ≡ a
poll_leaves tenant sees a _ k _ (refuses f due) = refl
poll_leaves tenant sees a c k told (grants clear (s, at, is, after)) = after
poll_leaves tenant sees a _ k _ (lacks clear may) = refl

-- after these turns
module _ (limit : ℕ) (before : List Turn) where
  -- an opening of this number that stands behind another turn stood there before
  among_before : (t : Turn) (k : ℕ) (query : Query) (sees : Sight) → OpensAnother k t →
      Contains (before ++ t ∷ []) (opens k query sees) → Contains before (opens k query sees)
  among_before t k query sees another among = by (Contains-push_cases before t (opens k query sees) among)
    where
      by : Contains before (opens k query sees) ⊎ (t ≡ opens k query sees) → Contains before (opens k query sees)
      by (inl there) = there
      by (inr is) = absurd (another query sees is)

  opened_stays : (t : Turn) (k : ℕ) (s : Asked) → OpensAnother k t → WasOpened limit before k s →
      WasOpened limit (before ++ t ∷ []) k s
  opened_stays t k s another was = record {
    sees = was.sees;
    view = was.view;
    opened = Contains-append_left before (t ∷ []) (opens k s.query was.sees) was.opened;
    alone = λ query other among. was.alone query other (among_before t k query other another among);
    settled = was.settled;
  }

  -- a turn that opens no search
  knows_quiet : (t : Turn) (a : Account) → ((k : ℕ) → OpensAnother k t) → Knows limit before a →
      Knows limit (before ++ t ∷ []) a
  knows_quiet t a another knows = record {
    work = knows.work;
    given = λ k query sees among. knows.given k query sees (among_before t k query sees (another k) among);
    opened = λ k s at. opened_stays t k s (another k) (knows.opened k s at);
  }

  -- an opening
  knows_opened : (a : Account) (query : Query) (sees : Sight) → Knows limit before a →
      Knows limit (before ++ opens (a.opens + 1) query sees ∷ [])
      (with_opened a (record { query = query; view = sees.vaults; settled = Nothing }))
  knows_opened a query sees knows = record {
    work = knows.work;
    given = λ k other sight among. counted k other sight (Contains-push_cases before t (opens k other sight) among);
    opened = each_inserted numbers_exact (λ k p. (s : Asked) → p ≡ Some s → WasOpened limit (before ++ t ∷ []) k s) a.searches n begun
        (λ s is. subst (WasOpened limit (before ++ t ∷ []) n) (same_Some begun s is) fresh)
        (λ k apart s at. opened_stays t k s (λ other sight is. apart (sym (same_number k other sight is))) (knows.opened k s at));
  }
    where
      n : ℕ
      n = a.opens + 1

      t : Turn
      t = opens n query sees

      begun : Asked
      begun = record { query = query; view = sees.vaults; settled = Nothing }

      same_number : (k : ℕ) (other : Query) (sight : Sight) → t ≡ opens k other sight → n ≡ k
      same_number k other sight is = let told : Opened n ≡ Opened k = ap (λ (x : Turn). x.reply) is in cc

      same_query : (k : ℕ) (other : Query) (sight : Sight) → t ≡ opens k other sight → other ≡ query
      same_query k other sight is =
          let deed : asks (request.Seek query) ≡ asks (request.Seek other) = ap (λ (x : Turn). x.deed) is in cc

      counted : (k : ℕ) (other : Query) (sight : Sight) → Contains before (opens k other sight) ⊎ (t ≡ opens k other sight) →
          k ≤ n
      counted k other sight (inl there) = let given = knows.given k other sight there in omega (arith, given)
      counted k other sight (inr is) = omega (arith, same_number k other sight is)

      alone : (other : Query) (sight : Sight) → Contains before (opens n other sight) ⊎ (t ≡ opens n other sight) →
          (other ≡ query) × (sight.vaults ≡ sees.vaults)
      alone other sight (inl there) = let given = knows.given n other sight there in absurd (omega (arith, given))
      alone other sight (inr is) = (same_query n other sight is, ap (λ (x : Turn). x.sees.vaults) (sym is))

      fresh : WasOpened limit (before ++ t ∷ []) n begun
      fresh = record {
        sees = sees;
        view = refl;
        opened = Contains-push before t;
        alone = λ other sight among. alone other sight (Contains-push_cases before t (opens n other sight) among);
        settled = inl refl;
      }

  -- what is known of a search stays known when it settles
  was_settled : (k : ℕ) (s : Asked) (u : Settled) → WasOpened limit before k s →
      MaySettle limit (credentials s.view) s.query s.settled u →
      WasOpened limit before k (record s { settled = u })
  was_settled k s u was may = record {
    sees = was.sees;
    view = was.view;
    opened = was.opened;
    alone = was.alone;
    settled = settles_twice limit (credentials s.view) s.query Nothing s.settled u was.settled may;
  }

  pub between_knows : (when : When) (a b : Account) → Knows limit before a → Between when a b →
      Knows limit before b
  between_knows at_waits a b knows e = subst (Knows limit before) (sym e) knows
  between_knows any_time a b knows (e, goes) = rw e record {
    work = knows.work;
    given = knows.given;
    opened = λ k s. by k s (get a.searches k) refl (rw (← knows.work) (goes k));
  }
    where
      by : (k : ℕ) (s : Asked) (o : Option Asked) → get a.searches k ≡ o → GoesOn limit o (get b.searches k) →
          get b.searches k ≡ Some s → WasOpened limit before k s
      by k s None none gone at = cc
      by k s (Some was) there (u, may, is) at =
          let now : record was { settled = u } ≡ s = (cc) in
          subst (WasOpened limit before k) now (was_settled k was u (knows.opened k was there) may)

  pub ends_knows : (k : ℕ) (a m : Account) → Knows limit before a → Ends a k (get a.searches k) m →
      Knows limit before m
  ends_knows k a m knows ends = by (get a.searches k) refl ends
    where
      by : (o : Option Asked) → get a.searches k ≡ o → Ends a k o m → Knows limit before m
      by None none is = subst (Knows limit before) (sym is) knows
      by (Some s) there (u, some, may, is) = rw is record {
        work = knows.work;
        given = knows.given;
        opened = λ j t. each_inserted numbers_exact (λ i p. p ≡ Some t → WasOpened limit before i t) a.searches k (record s { settled = u })
            (λ now. subst (WasOpened limit before k) (same_Some _ t now)
            (was_settled k s u (knows.opened k s there) (rw (← knows.work) may)))
            (λ i apart. knows.opened i t) j;
      }

  -- what is granted but an opening leaves what is known
  grant_leaves : (tenant : List ℕ) (sees : Sight) (a c : Account) (q : Request) (told : Reply) → ((query : Query) → q ≢ request.Seek query) →
      Knows limit before a → Grants tenant sees a q told c → Knows limit before c
  grant_leaves tenant sees a c (request.Alter change) told other knows (is, after) =
      rw after record { work = knows.work; given = knows.given; opened = knows.opened }
  grant_leaves tenant sees a c (request.Seek query) told other knows granted = absurd (other query refl)
  grant_leaves tenant sees a c (request.Poll k) told other knows (s, at, is, after) = rw after knows
  grant_leaves tenant sees a c (request.Close k) told other knows (is, after) = rw after record {
    work = knows.work;
    given = knows.given;
    opened = λ j s. each_removed numbers_exact (λ i p. p ≡ Some s → WasOpened limit before i s) a.searches k (λ gone. cc)
        (λ i apart. knows.opened i s) j;
  }
  grant_leaves tenant sees a c request.Vault told other knows (is, after) = rw after knows
  grant_leaves tenant sees a c request.Sees told other knows (is, after) = rw after knows
  grant_leaves tenant sees a c (request.Proof k who) told other knows (s, steps, at, proves, is, after) = rw after knows

  -- what was asked for was granted
  granted_knows : (tenant : List ℕ) (sees : Sight) (a c : Account) (q : Request) (told : Reply) →
      Knows limit before a → Grants tenant sees a q told c →
      Knows limit (before ++ record { sees = sees; deed = asks q; reply = told } ∷ []) c
  granted_knows tenant sees a c (request.Seek query) told knows (is, after) = rw (is, after) (knows_opened a query sees knows)
  granted_knows tenant sees a c q told knows given =
      knows_quiet _ c (other_deed sees (asks q) told (λ query e. cc)) (grant_leaves tenant sees a c q told (λ query e. cc) knows given)

  -- a request was answered
  answered_knows : (tenant : List ℕ) (sees : Sight) (a c : Account) (q : Request) (told : Reply) →
      Knows limit before a → Answers tenant sees a q told c →
      Knows limit (before ++ record { sees = sees; deed = asks q; reply = told } ∷ []) c
  answered_knows tenant sees a _ q _ knows (refuses f due) =
      knows_quiet _ a (other_reply sees (asks q) (Refused f) (λ n e. cc)) knows
  answered_knows tenant sees a c q told knows (grants clear given) =
      granted_knows tenant sees a c q told knows given
  answered_knows tenant sees a _ q _ knows (lacks clear may) =
      knows_quiet _ a (other_reply sees (asks q) (Refused Memory) (λ n e. cc)) knows

  -- a turn was taken
  pub taken_knows : (tenant : List ℕ) (a c : Account) (t : Turn) → Knows limit before a →
      IsTaken tenant a t.sees t.deed t.reply c →
      Knows limit (before ++ t ∷ []) c
  taken_knows tenant a c t knows taken = by t.deed taken
    where
      by : (deed : Deed) → IsTaken tenant a t.sees deed t.reply c →
          Knows limit (before ++ record { sees = t.sees; deed = deed; reply = t.reply } ∷ []) c
      by (asks q) answered = answered_knows tenant t.sees a c q t.reply knows answered
      by (waits k) (m, ends, answered) =
          knows_quiet _ c (other_deed t.sees (waits k) t.reply (λ query e. cc))
          (rw (poll_leaves tenant t.sees m c k t.reply answered) (ends_knows k a m knows ends))
