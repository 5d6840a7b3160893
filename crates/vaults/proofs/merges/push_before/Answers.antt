use Rattle.std.proofs.Common.{ℕ, true, false, subst, All, List, [], ◌∷◌, ◌++◌, ◌≡◌, ◌∙◌, ◌<◌, sym, ap, refl, arith, length, map, take, is_lt}
use Rattle.std.specs.declared.cmp.Ordering.{Ordering}
use Rattle.std.specs.declared.cmp.Ordering.TheVariants.{Less, Equal, Greater}
use Rattle.std.proofs.lemmas.List.{take_all}
use Rattle.std.proofs.lemmas.List.Elements.{All-more}
use Rattle.std.proofs.lemmas.Result.{err_from_is_err_and}
use Rattle.std.proofs.lemmas.Option.{get_or_from_slice_get, slice_get_within}
use Rattle.names.specs.Name.{name_order}
use Rattle.vaults.specs.declared.marks.Seen.{Seen}
use Rattle.vaults.specs.Merge.{to_everybody}
use Rattle.vaults.proofs.Merging.{pushed_more}
use Rattle.vaults.proofs.merges.push_before.Goals as goal

is_less : (r : Ordering) → is_lt r ≡ true → r ≡ Less
is_less Less lower = refl
is_less Equal lower = cc
is_less Greater lower = cc

pub loop-count-preserved : goal.loop-count-preserved
loop-count-preserved c = record {
  pushed = pushed_more c.args.seen.now.items c.loop-count.seen.items c.push.new.self.items c.args.public.now c.loop-count.count c.index-public-count.result
      c.loop-count.invariant.pushed c.loop-count-test.true c.index-public-count.is
      (c.in_ok-push.ensures.items ∙ ap (λ (s : Seen). c.loop-count.seen.items ++ s ∷ []) c.to_everybody.ensures);
  below = All-more (λ other. name_order other c.args.name.now ≡ Less) c.args.public.now c.loop-count.count c.index-public-count.result c.loop-count-test.true c.loop-count.invariant.below
      (ap (λ (n : List ℕ). name_order n c.args.name.now) (sym c.index-public-count.is) ∙ sym c.compare.ensures ∙ is_less c.compare.result (sym c.is_lt.ensures ∙ c.if-not-is_lt.false));
}

pub returns-then-not-is_lt : goal.returns-then-not-is_lt
returns-then-not-is_lt c = record {
  pushed = c.loop-count.invariant.pushed;
  before = c.loop-count.invariant.below;
  stop = λ other at less.
      let is : c.index-public-count.result ≡ other = c.index-public-count.is ∙ get_or_from_slice_get c.args.public.now c.loop-count.count other c.index-public-count.result at in
      let never : false ≡ true = sym c.if-not-is_lt.true ∙ c.is_lt.ensures ∙ ap is_lt (c.compare.ensures ∙ ap (λ (n : List ℕ). name_order n c.args.name.now) is ∙ less) in
      cc;
  within = omega (arith, c.loop-count-test.true);
}

pub returns-in_err-push : goal.returns-in_err-push
returns-in_err-push c =
    let p = err_from_is_err_and c.from_residual.result c.from_residual.ensures.1 in
    rw p.1 (record { pushed = tt; before = tt; stop = tt; within = tt })

pub returns : goal.returns
returns c =
    let whole : take c.loop-count.count c.args.public.now ≡ take (length c.args.public.now) c.args.public.now =
    take_all c.loop-count.count c.args.public.now c.loop-count-test.false ∙ sym (take_all (length c.args.public.now) c.args.public.now (omega arith)) in
    record {
      pushed = c.loop-count.invariant.pushed ∙ ap (λ (l : List (List ℕ)). c.args.seen.now.items ++ map to_everybody l) whole;
      before = subst (All (λ other. name_order other c.args.name.now ≡ Less)) whole c.loop-count.invariant.below;
      stop = λ other at less.
          let within : length c.args.public.now < length c.args.public.now = slice_get_within c.args.public.now (length c.args.public.now) other at in
          absurd (omega arith);
      within = omega arith;
    }
