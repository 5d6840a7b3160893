use Rattle.std.proofs.Common.{ℕ, List, [], ◌∷◌, ◌++◌, ◌∙◌, ap, map}
use Rattle.std.proofs.lemmas.Result.{err_from_is_err_and}
use Rattle.std.proofs.lemmas.List.{take_all}
use Rattle.vaults.specs.declared.marks.Seen.{Seen}
use Rattle.vaults.specs.Merge.{to_everybody}
use Rattle.vaults.proofs.Merging.{pushed_more}
use Rattle.vaults.proofs.merges.push_all.Goals as goal

pub returns-in_err-push : goal.returns-in_err-push
returns-in_err-push c =
    let p = err_from_is_err_and c.from_residual.result c.from_residual.ensures.1 in
    rw p.1 tt

pub loop-name-preserved : goal.loop-name-preserved
loop-name-preserved c =
    pushed_more c.args.seen.now.items c.loop-name.seen.items c.push.new.self.items c.args.public.now c.loop-name.name-index c.name-item.result
    c.loop-name.invariant c.loop-name-test.true c.name-item.is (c.in_ok-push.ensures.items ∙ ap (λ (s : Seen). c.loop-name.seen.items ++ s ∷ []) c.to_everybody.ensures)

pub returns : goal.returns
returns c =
    c.loop-name.invariant
    ∙ ap (λ (l : List (List ℕ)). c.args.seen.now.items ++ map to_everybody l) (take_all c.loop-name.name-index c.args.public.now c.loop-name-test.false)
