use Rattle.std.proofs.Common.{◌≡◌, ◌++◌, [], false, sym, ap, ◌∙◌, arith}
use Rattle.std.specs.List.{list_any}
use Rattle.std.proofs.lemmas.Result.{err_from_is_err_and}
use Rattle.monitors.proofs.KeyLemmas.{is_new, near_has, near_lacks, near_adds, far_adds}
use Rattle.monitors.proofs.key_sets.KeySet.insert.Given.{Over}
use Rattle.monitors.proofs.key_sets.KeySet.insert.Goals as goal
use Rattle.monitors.proofs.key_sets.KeySet.insert.Goals.{After-len}

-- none of the first ones is the key
lacks : (g : Over) (c : After-len g) → list_any (λ other. g.K.PartialEq.eq other c.args.key) c.self.inside.near.items ≡ false
lacks g c = sym (c.if-contains.ensures.value ∙ ap (list_any (λ other. g.K.PartialEq.eq other c.args.key)) c.deref.ensures.value)

pub invariant_of-self : goal.invariant_of-self
invariant_of-self g c few = c.self.invariant (omega (arith, few, c.in_err-push.ensures.len))

pub returns-in_err-push : goal.returns-in_err-push
returns-in_err-push g c =
    let near = c.self.inside.near.items in
    let none : c.self.inside.far.keys ≡ [] = c.self.invariant (omega (arith, c.if-len-lt-NEAR.true, c.len.ensures)) in
    let p = err_from_is_err_and c.from_residual.result c.from_residual.ensures.1 in
    rw (p.1, ← c.self.view_is) (record {
      ok = tt;
      growth = near_lacks g.K.PartialEq.eq g.met.K.Eq.laws g.met.K.Key.exact near c.self.inside.far.keys c.args.key (lacks g (goal.at.returns-in_err-push g c).After-len) (rw none (λ there. omega (arith, there.1)));
      unchanged = ap (λ keys. keys ++ c.self.inside.far.keys) {x = c.push.new.self.items} {y = near} c.in_err-push.ensures.items;
    })

pub invariant_of-self-then-len-lt-NEAR : goal.invariant_of-self-then-len-lt-NEAR
invariant_of-self-then-len-lt-NEAR g c few = c.self.invariant (omega (arith, c.if-len-lt-NEAR.true, c.len.ensures))

pub returns-then-len-lt-NEAR : goal.returns-then-len-lt-NEAR
returns-then-len-lt-NEAR g c =
    let none : c.self.inside.far.keys ≡ [] = c.self.invariant (omega (arith, c.if-len-lt-NEAR.true, c.len.ensures)) in
    rw (← c.self.view_is) (record {
      ok = near_adds g.K.PartialEq.eq g.met.K.Eq.laws g.met.K.Key.exact c.self.inside.near.items c.push.new.self.items c.self.inside.far.keys c.args.key (lacks g (goal.at.returns-then-len-lt-NEAR g c).After-len) c.in_ok-push.ensures.items none;
      growth = tt;
      unchanged = tt;
    })

pub invariant_of-self-in_err-insert : goal.invariant_of-self-in_err-insert
invariant_of-self-in_err-insert g c few = absurd (omega (arith, few, c.if-len-lt-NEAR.false, c.len.ensures))

pub returns-in_err-insert : goal.returns-in_err-insert
returns-in_err-insert g c =
    let near = c.self.inside.near.items in
    let far = c.self.inside.far.keys in
    let absent = is_new g.K.PartialEq.eq g.met.K.Eq.laws g.met.K.Key.exact far c.args.key c.in_err-insert.ensures.absent in
    let p = err_from_is_err_and c.from_residual-in_err-insert.result c.from_residual-in_err-insert.ensures.1 in
    rw (p.1, ← c.self.view_is) (record {
      ok = tt;
      growth = near_lacks g.K.PartialEq.eq g.met.K.Eq.laws g.met.K.Key.exact near far c.args.key (lacks g (goal.at.returns-in_err-insert g c).After-len) absent;
      unchanged = ap (λ keys. near ++ keys) {x = c.insert.new.self.keys} {y = far} c.in_err-insert.ensures.err;
    })

pub invariant_of-self-2 : goal.invariant_of-self-2
invariant_of-self-2 g c few = absurd (omega (arith, few, c.if-len-lt-NEAR.false, c.len.ensures))

pub returns : goal.returns
returns g c =
    let near = c.self.inside.near.items in
    let far = c.self.inside.far.keys in
    rw (← c.self.view_is) (record {
      ok = far_adds g.K.PartialEq.eq g.met.K.Eq.laws g.met.K.Key.exact near far c.insert.new.self.keys c.args.key c.in_ok-insert.field-0 (lacks g (goal.at.returns g c).After-len) c.in_ok-insert.ensures.added c.in_ok-insert.ensures.keys;
      growth = tt;
      unchanged = tt;
    })

pub returns-then-contains : goal.returns-then-contains
returns-then-contains g c =
    let has = sym (c.if-contains.ensures.value ∙ ap (list_any (λ other. g.K.PartialEq.eq other c.args.key)) c.deref.ensures.value) in
    rw (← c.self.view_is) (record { ok = near_has g.K.PartialEq.eq g.met.K.Eq.laws g.met.K.Key.exact c.self.inside.near.items c.self.inside.far.keys c.args.key has; growth = tt; unchanged = tt })
