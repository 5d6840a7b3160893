use Rattle.std.proofs.Common.{rules, ◌≡◌, ◌∙◌, ◌==◌, ◌+◌, ◌<◌, None, ap, length, refl, subst₂}
use Rattle.std.proofs.lemmas.Result.{err_from_is_err_and}
use Rattle.std.specs.Cmp.{unsigned_tied}
use Rattle.std.specs.FinMap.{insert, from_entries}
use Rattle.search.specs.Search.{new_search}
use Rattle.hall.specs.Answers.{seek_refusal}
use Rattle.hall.specs.Hall.{Tenant, account, beginning}
use Rattle.hall.proofs.Maps.{numbers_exact}
use Rattle.hall.proofs.Indexed.{inserted}
use Rattle.hall.proofs.Opening.{within_limits}
use Rattle.hall.proofs.seats.Seat.open.Goals as goal
use Rattle.hall.proofs.seats.Seat.open.Goals.{After-branch-enter, After-branch-insert}

-- no refusal is due
allowed : (c : After-branch-enter) → seek_refusal (account c.args.book.now c.args.who c.args.self.now) ≡ None
allowed c =
    within_limits (account c.args.book.now c.args.who c.args.self.now)
    (subst₂ ◌<◌ c.used-used.ensures.searches (ap (λ (t : Tenant). t.limits.searches) c.self.view_is) (c.in_ok-may_search.ensures.ok.0 (search rules)))
    (subst₂ ◌<◌ c.used-used.ensures.opens (ap (λ (t : Tenant). t.limits.opens) c.self.view_is) (c.in_ok-may_open.ensures.ok.0 (search rules)))

-- where memory lacked nothing changed but the index
pub returns-in_err-enter : goal.returns-in_err-enter
returns-in_err-enter c =
    let p = err_from_is_err_and c.from_residual-in_err-enter.result c.from_residual-in_err-enter.ensures.1 in
    rw (p.1, p.2, allowed (goal.at.returns-in_err-enter c).After-branch-enter)
    record { allowed = tt; number = tt; opened = tt; refused = refl; unchanged = refl; same = refl; entered = tt; kept = c.in_err-enter.ensures.kept }

pub returns-in_err-snapshot : goal.returns-in_err-snapshot
returns-in_err-snapshot c =
    let p = err_from_is_err_and c.from_residual-in_err-snapshot.result c.from_residual-in_err-snapshot.ensures.1 in
    rw (p.1, p.2, c.in_err-snapshot.ensures.only_memory, allowed (goal.at.returns-in_err-snapshot c).After-branch-enter)
    record {
      allowed = tt;
      number = tt;
      opened = tt;
      refused = refl;
      unchanged = refl;
      same = c.in_err-snapshot.ensures.same;
      entered = tt;
      kept = c.in_ok-enter.ensures.kept;
    }

pub returns-in_err-begin : goal.returns-in_err-begin
returns-in_err-begin c =
    let p = err_from_is_err_and c.from_residual-in_err-begin.result c.from_residual-in_err-begin.ensures.1 in
    rw (p.1, p.2, c.in_err-begin.ensures.only_memory, allowed (goal.at.returns-in_err-begin c).After-branch-enter)
    record {
      allowed = tt;
      number = tt;
      opened = tt;
      refused = refl;
      unchanged = (λ i. record { limits = c.self.inside.limits; opens = c.self.inside.opens; searches = from_entries (c.give_back.ensures i) }) ∙ c.self.view_is;
      same = c.in_ok-snapshot.ensures.same;
      entered = tt;
      kept = c.in_ok-enter.ensures.kept;
    }

pub returns-in_err-insert : goal.returns-in_err-insert
returns-in_err-insert c =
    let p = err_from_is_err_and c.from_residual-in_err-insert.result c.from_residual-in_err-insert.ensures.1 in
    rw (p.1, p.2, allowed (goal.at.returns-in_err-insert c).After-branch-enter) record {
      allowed = tt;
      number = tt;
      opened = tt;
      refused = refl;
      unchanged = (λ i. record { limits = c.self.inside.limits; opens = c.self.inside.opens; searches = from_entries ((c.in_err-insert.ensures.err ∙ c.give_back.ensures) i) }) ∙ c.self.view_is;
      same = c.in_ok-snapshot.ensures.same;
      entered = tt;
      kept = c.in_ok-enter.ensures.kept;
    }

-- it may send as many letters as the limit allows
begun : (c : After-branch-insert) →
    c.in_ok-begin.field-0 ≡ beginning c.args.book.now c.args.who c.args.query c.self.inside.limits.work
begun c =
    let at = c.journal_len-opened_at.ensures ∙ ap length c.in_ok-snapshot.ensures.same in
    c.in_ok-begin.ensures.begun
    ∙ (λ i. record { opened_at = at i; search = new_search c.args.query (c.work-work.ensures.limit i) (c.in_ok-snapshot.ensures.view i) })

pub returns : goal.returns
returns c =
    let s = c.self.inside in
    let searches = inserted numbers_exact (◌==◌) unsigned_tied c.give_back.new.searches c.insert.new.self (s.opens + 1) c.in_ok-begin.field-0 c.in_ok-insert.ensures.updates
    ∙ (λ i. insert (from_entries (c.give_back.ensures i)) (s.opens + 1) (begun (goal.at.returns c).After-branch-insert i)) in
    record {
      allowed = allowed (goal.at.returns c).After-branch-enter;
      number = ap (λ (t : Tenant). t.opens + 1) c.self.view_is;
      opened = rw (← c.self.view_is) (λ i. record { limits = s.limits; opens = s.opens + 1; searches = searches i });
      refused = tt;
      unchanged = tt;
      same = c.in_ok-snapshot.ensures.same;
      entered = c.in_ok-enter.ensures.entered;
      kept = c.in_ok-enter.ensures.kept;
    }
