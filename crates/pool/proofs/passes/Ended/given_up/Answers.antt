use Rattle.std.proofs.Common.{◌∙◌, ap}
use Rattle.pool.specs.Histories.{FrontState}
use Rattle.pool.specs.Passes.{PassState, share_of}
use Rattle.pool.proofs.passes.Ended.given_up.Goals as goal

pub returns : goal.returns
returns g c =
    let i = c.pass.invariant in
    let is = c.pass.view_is ∙ c.self.view_is in record {
      part = i.0;
      amount = i.2 ∙ ap share_of is;
      told = i.1 ∙ i.2 ∙ ap share_of is;
      seen = ap (λ (f : FrontState). f.seen) c.end.ensures ∙ ap (λ (p : PassState). p.seen) is;
    }
