-- The last digit comes after those of a tenth of the number.
use Rattle.std.proofs.Common.{◌≡◌, ◌/◌, ◌%◌, ◌+◌, ◌++◌, ◌∷◌, [], length, arith, ap, sym, ◌∙◌, append_assoc}
use Rattle.std.specs.Fmt.{decimal}
use Rattle.std.proofs.lemmas.Fmt.{decimal_step, decimal_digit}
use Rattle.std.proofs.lemmas.List.{length_push, length-append}
use Rattle.service.proofs.reply_buffers.+append_digits.Goals as goal
use Rattle.service.proofs.reply_buffers.+append_digits.Goals.{then-number-ge10, else-number-ge10}

pub append_digits-requires : goal.append_digits-requires
append_digits-requires t c =
    let n = c.args.number in
    let step = decimal_step n (omega arith) (omega arith) in
    let longer = length_push (decimal (n / 10)) (48 + n % 10) in
    (omega arith, omega (arith, ap length step, longer))

pub unwrap-requires : goal.unwrap-requires
unwrap-requires t c =
    let n = c.args.number in
    let old = c.args.out.now in
    elim c.if-number-ge10.branch [
      | then-number-ge10 w ↦
          let out = w.append_digits.new.out in
          let step = ap length (decimal_step n (omega arith) (omega arith)) in
          let longer = length_push (decimal (n / 10)) (48 + n % 10) in
          let front = ap length w.append_digits.ensures.items in
          let fronts = length-append old.items (decimal (n / 10)) in
          c.push.ensures.succeeds (rw w.out-is (omega (arith, step, longer, front, fronts, out.ok.0, old.ok.0, w.append_digits.ensures.capacity)))
      | else-number-ge10 w ↦ c.push.ensures.succeeds (rw w.out-is (omega (arith, ap length (decimal_digit n (omega arith)))))
    ]

pub returns-clause-items : goal.returns-clause-items
returns-clause-items t c =
    let n = c.args.number in
    let old = c.args.out.now.items in
    elim c.if-number-ge10.branch [
      | then-number-ge10 w ↦
          let last = rw (c.unwrap.ensures, w.out-is, w.append_digits.ensures.items) at c.push.ensures.items in
          last ∙ append_assoc old (decimal (n / 10)) ((48 + n % 10) ∷ []) ∙ ap (λ ds. old ++ ds) (sym (decimal_step n (omega arith) (omega arith)))
      | else-number-ge10 w ↦
          let only = rw (c.unwrap.ensures, w.out-is) at c.push.ensures.items in
          let same : n % 10 ≡ n = omega arith in
          only ∙ ap (λ d. old ++ (48 + d) ∷ []) same ∙ ap (λ ds. old ++ ds) (sym (decimal_digit n (omega arith)))
    ]
