use Rattle.std.proofs.Common.{◌<◌, ◌≤◌, refl, subst, List, length}
use Rattle.std.proofs.lemmas.Bool.{iff_false}
use Rattle.std.proofs.lemmas.Result.{IfOk-from_err}
use Rattle.cred_graph.specs.declared.listeners.KeptListening.{KeptListening}
use Rattle.cred_graph.proofs.ListenerLemmas.{far_near, far_same, far_added}
use Rattle.cred_graph.proofs.NodeListLemmas.{on_err, listeners_in, members_in}
use Rattle.cred_graph.proofs.SolutionLemmas.{members_same}
use Rattle.cred_graph.proofs.tables.Tables.add_listener.Goals as goal

pub returns-then-has : goal.returns-then-has
returns-then-has c = record { ok = (c.has.ensures.0 c.if-has.true, λ m. refl); growth = tt; unchanged = tt; solutions = refl }

pub invariant_of-self : goal.invariant_of-self
invariant_of-self c = (
  far_same (listeners_in c.self.inside.lists.items) _ c.self.inside.far.keys _ c.self.invariant.0 refl c.in_err-add_listener.ensures.unchanged,
  members_same c.self.inside.reasons.entries _ (members_in c.self.inside.lists.items) _ c.self.invariant.1 refl c.in_err-add_listener.ensures.members,
)

pub invariant_of-self-then-listeners-lt-NEAR : goal.invariant_of-self-then-listeners-lt-NEAR
invariant_of-self-then-listeners-lt-NEAR c =
    let room = subst (λ (l : List KeptListening). length l < 8) (rw (← c.self.view_is) at c.listeners.ensures) c.if-listeners-lt-NEAR.true in (
      far_near (listeners_in c.self.inside.lists.items) _ c.self.inside.far.keys c.args.n c.args.listening c.self.invariant.0 room c.in_ok-add_listener.ensures.added,
      members_same c.self.inside.reasons.entries _ (members_in c.self.inside.lists.items) _ c.self.invariant.1 refl c.in_ok-add_listener.ensures.members,
    )

pub invariant_of-self-in_err-reserve : goal.invariant_of-self-in_err-reserve
invariant_of-self-in_err-reserve c =
    (far_same (listeners_in c.self.inside.lists.items) _ c.self.inside.far.keys _ c.self.invariant.0 c.in_err-reserve.ensures.keys (λ m. refl), c.self.invariant.1)

pub invariant_of-self-in_err-add_listener-2 : goal.invariant_of-self-in_err-add_listener-2
invariant_of-self-in_err-add_listener-2 c = (
  far_same (listeners_in c.self.inside.lists.items) _ c.self.inside.far.keys _ c.self.invariant.0 c.in_ok-reserve.ensures.keys c.in_err-add_listener-2.ensures.unchanged,
  members_same c.self.inside.reasons.entries _ (members_in c.self.inside.lists.items) _ c.self.invariant.1 refl c.in_err-add_listener-2.ensures.members,
)

pub invariant_of-self-2 : goal.invariant_of-self-2
invariant_of-self-2 c =
    let full = subst (λ (l : List KeptListening). 8 ≤ length l) (rw (← c.self.view_is) at c.listeners.ensures) c.if-listeners-lt-NEAR.false in
    let absent = rw (← c.self.view_is) at (iff_false c.has.ensures c.if-has.false) in (
      far_added (listeners_in c.self.inside.lists.items) _ c.self.inside.far.keys _ _ c.args.n c.args.listening c.self.invariant.0 absent full c.in_ok-add_listener-2.ensures.added c.in_ok-reserve.ensures.keys (rw c.unwrap-is_new.ensures at c.insert.ensures.keys),
      members_same c.self.inside.reasons.entries _ (members_in c.self.inside.lists.items) _ c.self.invariant.1 refl c.in_ok-add_listener-2.ensures.members,
    )

pub returns-in_err-add_listener : goal.returns-in_err-add_listener
returns-in_err-add_listener c = record {
  ok = IfOk-from_err c.from_residual.result _ c.from_residual.ensures.0;
  growth = on_err c.from_residual.result (iff_false c.has.ensures c.if-has.false);
  unchanged = rw (← c.self.view_is) (on_err c.from_residual.result c.in_err-add_listener.ensures.unchanged);
  solutions = rw (← c.self.view_is) refl;
}

pub returns-then-listeners-lt-NEAR : goal.returns-then-listeners-lt-NEAR
returns-then-listeners-lt-NEAR c = record {
  ok = (iff_false c.has.ensures c.if-has.false, rw (← c.self.view_is) c.in_ok-add_listener.ensures.added);
  growth = tt;
  unchanged = tt;
  solutions = rw (← c.self.view_is) refl;
}

pub returns-in_err-reserve : goal.returns-in_err-reserve
returns-in_err-reserve c = record {
  ok = IfOk-from_err c.from_residual-in_err-reserve.result _ c.from_residual-in_err-reserve.ensures.0;
  growth = on_err c.from_residual-in_err-reserve.result (iff_false c.has.ensures c.if-has.false);
  unchanged = rw (← c.self.view_is) (on_err c.from_residual-in_err-reserve.result (λ m. refl));
  solutions = rw (← c.self.view_is) refl;
}

pub returns-in_err-add_listener-2 : goal.returns-in_err-add_listener-2
returns-in_err-add_listener-2 c = record {
  ok = IfOk-from_err c.from_residual-in_err-add_listener-2.result _ c.from_residual-in_err-add_listener-2.ensures.0;
  growth = on_err c.from_residual-in_err-add_listener-2.result (iff_false c.has.ensures c.if-has.false);
  unchanged = rw (← c.self.view_is) (on_err c.from_residual-in_err-add_listener-2.result c.in_err-add_listener-2.ensures.unchanged);
  solutions = rw (← c.self.view_is) refl;
}

pub returns : goal.returns
returns c = record {
  ok = (iff_false c.has.ensures c.if-has.false, rw (← c.self.view_is) c.in_ok-add_listener-2.ensures.added);
  growth = tt;
  unchanged = tt;
  solutions = rw (← c.self.view_is) refl;
}
