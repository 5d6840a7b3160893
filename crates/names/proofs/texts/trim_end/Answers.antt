use Rattle.std.proofs.Common.{ℕ, sym, ap, ◌∙◌, ◌≡◌, take, arith}
use Rattle.names.specs.Texts.{trim_end}
use Rattle.names.proofs.Spaces.{space_last, other_last}
use Rattle.names.proofs.texts.trim_end.Goals as goal
use Rattle.names.proofs.texts.trim_end.Goals.{then-loop-end-test+else-text-end-eq32, else-loop-end-test}

pub loop-end-preserved : goal.loop-end-preserved
loop-end-preserved c = (
  omega arith,
  c.loop-end.invariant.1
      ∙ space_last c.args.text.now c.loop-end.end (omega arith) c.loop-end.invariant.0 c.if-text-end-eq32.true,
)

pub returns : goal.returns
returns c =
    elim c.loop-end-test.branch [
      | then-loop-end-test+else-text-end-eq32 w ↦
          sym (c.loop-end.invariant.1
          ∙ other_last c.args.text.now c.loop-end.end (omega arith) c.loop-end.invariant.0 w.if-text-end-eq32.false)
      | else-loop-end-test w ↦
          let nothing : c.loop-end.end ≡ 0 = omega arith in
          ap (λ (n : ℕ). take n c.args.text.now) nothing
          ∙ sym (c.loop-end.invariant.1 ∙ ap (λ (n : ℕ). trim_end (take n c.args.text.now)) nothing)
    ]
