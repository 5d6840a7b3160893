use Rattle.std.proofs.Common.{◌≡◌, ◌≢◌, ◌∙◌, ap, refl, subst}
use Rattle.search.specs.Search.{SearchState, settled_of}
use Rattle.search.specs.Ending.{Nothing}
use Rattle.hall.specs.Hall.{Running}
use Rattle.hall.specs.Kept.{Continues, KeepsBut, IsOver}
use Rattle.hall.proofs.Reached.{hall_of, given, lent_indexed}
use Rattle.hall.proofs.halls.Hall.lend.Goals as goal
use Rattle.hall.proofs.halls.Hall.lend.Goals.{After-settle-over}
use Rattle.hall.proofs.halls.Hall.lend.Given as given

pub does-told-requires : goal.does-told-requires
does-told-requires g c = c.requires.callable _ _ refl

goes_on : (g : given.Over) (c : After-settle-over g) → Continues c.in_ok-opened.opened.now c.does-told.new.arg2
goes_on g c = c.requires.continues _ _ _ _ _ c.does-told.ensures

settled : (g : given.Over) (c : After-settle-over g) → c.search.result.now ≡ c.does-told.new.arg2.search
settled g c = c.search.ensures ∙ ap (λ (r : Running). r.search) c.opened.view_is

pub invariant_of-self-2 : goal.invariant_of-self-2
invariant_of-self-2 g c =
    let d = c.before in
    let left = c.does-told.new.arg2 in
    lent_indexed (hall_of c.self.inside.book c.self.inside.tenants) c.args.who.now c.args.number c.in_ok-opened.opened.now left c.in_ok-opened.ensures.here
    (goes_on g d) _ (c.opened_mut.follows.holds left (given c.in_ok-opened.was) c.self.inside.book) c.self.invariant.sound
    c.self.inside.busy c.settle-over.new.busy
    (subst (λ (s : SearchState). KeepsBut (λ name k. (name ≡ c.args.who.now) × (k ≡ c.args.number) × (settled_of s ≢ Nothing)) c.self.inside.busy c.settle-over.new.busy) (settled g d) c.settle-over.ensures.kept)
    c.self.invariant.listed

pub returns-clause-lent : goal.returns-clause-lent
returns-clause-lent g c =
    let d = c.before in
    let left = c.does-told.new.arg2 in
    rw (← c.self.view_is) record {
      lent = _;
      beside = _;
      left = _;
      kept = _;
      there = c.in_ok-opened.ensures.here;
      did = c.does-told.ensures;
      shows = (refl, refl);
      after = c.opened_mut.follows.holds left (given c.in_ok-opened.was) c.self.inside.book;
      opened = (goes_on g d).opened;
      ended = subst (λ (s : SearchState). IsOver s c.settle-over.result) (settled g d) c.settle-over.ensures.over;
    }
