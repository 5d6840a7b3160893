use Rattle.std.proofs.Common.{◌+◌, ◌≤◌, ◌∙◌, sym, ap, arith, false, length-set}
use Rattle.std.proofs.lemmas.List.{get_or_past}
use Rattle.monitors.proofs.TableLemmas.{how_many, how_many-le, how_many-set}
use Rattle.monitors.proofs.tellers.Tellers.hear.Goals as goal

pub overflow_add-self : goal.overflow_add-self
overflow_add-self c =
    let told = c.args.self.now.told in
    let few : how_many told ≤ 8 = how_many-le told 8 (λ part above. get_or_past told part false (omega (arith, c.args.self.now.eight))) in
    omega (arith, c.args.self.now.counted)

pub invariant_of-self : goal.invariant_of-self
invariant_of-self c = record {
  eight = length-set _ _ _ ∙ c.args.self.now.eight;
  counted = ap (λ n. n + 1) c.args.self.now.counted ∙ sym (how_many-set c.args.self.now.told c.args.part (omega (arith, c.args.self.now.eight, c.requires)) c.if-self-part.false);
}
