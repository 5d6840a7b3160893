use Rattle.std.proofs.Common.{◌≡◌, ◌∙◌, ◌+◌, ◌-◌, ◌++◌, ◌∷◌, [], ap, sym, arith}
use Rattle.pool.specs.declared.turns.Item.{Item}
use Rattle.pool.specs.Histories.{FrontState, own_of, item_of}
use Rattle.pool.specs.Passes.{PassState, accepted_in}
use Rattle.pool.proofs.Sharing.{more_accepted, share_grown}
use Rattle.pool.proofs.passes.Pass.hear.Goals as goal

pub overflow_sub-after : goal.overflow_sub-after
overflow_sub-after g c =
    omega (arith, more_accepted c.args.before c.args.after c.args.keeper.now (item_of c.args.self.now.name c.args.noted.now) c.requires.before c.requires.after)

pub overflow_sub-self : goal.overflow_sub-self
overflow_sub-self g c =
    omega (arith, more_accepted c.args.before c.args.after c.args.keeper.now (item_of c.args.self.now.name c.args.noted.now) c.requires.before c.requires.after)

pub invariant_of-self : goal.invariant_of-self
invariant_of-self g c =
    let i : Item = item_of c.self.inside.seen.name c.args.noted.now in
    let j : Item = item_of c.args.self.now.name c.args.noted.now in
    let same : i ≡ j = ap (λ (p : PassState). item_of p.name c.args.noted.now) c.self.view_is in
    let more = more_accepted c.args.before c.args.after c.args.keeper.now j c.requires.before c.requires.after in (
      c.audit.ensures.parts ∙ c.add.ensures.parts ∙ c.self.invariant.0,
      ap (λ k. k + (c.args.after - c.args.before)) c.self.invariant.1 ∙ sym (c.audit.ensures.amount ∙ c.add.ensures.amount),
      c.audit.ensures.amount ∙ c.add.ensures.amount
          ∙ share_grown c.self.inside.share.amount c.args.before c.args.after (own_of c.self.inside.seen.name c.self.inside.seen.seen)
          (own_of c.tell.new.front.name c.tell.new.front.seen) i j c.self.invariant.2
          (ap (λ (f : FrontState). own_of f.name f.seen) c.tell.ensures.front ∙ c.tell.ensures.own) same more,
      c.requires.after ∙ ap accepted_in (ap (λ (x : Item). c.args.keeper.now ++ x ∷ []) (sym same) ∙ sym c.tell.ensures.history ∙ sym (ap (λ (f : FrontState). f.seen) c.tell.ensures.front)),
    )

pub returns-clause-total : goal.returns-clause-total
returns-clause-total g c =
    omega (arith, c.audit.ensures.total, c.add.ensures.total, c.requires.total, more_accepted c.args.before c.args.after c.args.keeper.now (item_of c.args.self.now.name c.args.noted.now) c.requires.before c.requires.after)
