use Rattle.std.proofs.Common.{Bool, true, Bor, ◌≡◌, ◌-◌, ◌≤◌, take, ◌∙◌, ◌+◌, ◌<◌, List, ◌∷◌, ℕ, suc, sym, ap, get_or, length, drop, drop-cons, add-one, arith, ◌++◌}
use Rattle.std.proofs.lemmas.List.{drop_all, take_all, length-drop}
use Rattle.std.proofs.lemmas.Result.{IfOk-from_err}
use Rattle.vaults.specs.declared.marks.Seen.{Seen}
use Rattle.vaults.specs.Journal.{one_if}
use Rattle.vaults.proofs.Merging.{merged, one_more, are_merged}
use Rattle.vaults.proofs.merges.merged.Goals as goal
use Rattle.vaults.proofs.merges.merged.Goals.{then-to_all, else-to_all}

next_dropped : (names : List (List ℕ)) (k : ℕ) (x : List ℕ) → x ≡ get_or names k x → k < length names → drop k names ≡ x ∷ drop (k + 1) names
next_dropped names k x is within = rw add-one (drop-cons names k x within ∙ ap (λ (y : List ℕ). y ∷ drop (suc k) names) (sym is))

without_first : (names behind : List (List ℕ)) (first : Bool) → first ≡ true → behind ≡ take (length names - 1) (drop 1 names) → behind ≡ drop (one_if first) names
without_first names behind first is taken =
    let whole : length (drop 1 names) ≤ length names - 1 = rw (length-drop 1 names) (omega arith) in
    taken ∙ take_all (length names - 1) (drop 1 names) whole ∙ ap (λ (b : Bool). drop (one_if b) names) (sym is)

pub loop-name-preserved : goal.loop-name-preserved
loop-name-preserved c =
    one_more (drop (c.loop-name.name-index + 1) c.args.names.now) (drop c.loop-name.name-index c.args.names.now) c.loop-name.rest.now c.split_at.result.1.now c.if-to_all.rest.now
    (merged c.args.names.now c.args.public.now) c.loop-name.seen.items c.push_before.new.seen.items c.push.new.self.items c.loop-name.name-index c.in_ok-before.before c.name-item.result c.starts_with-to_all.result
    c.loop-name.invariant (next_dropped c.args.names.now c.loop-name.name-index c.name-item.result c.name-item.is c.loop-name-test.true)
    c.in_ok-before.ensures.pushed c.in_ok-before.ensures.before c.in_ok-before.ensures.stop c.split_at.ensures.back c.starts_with-to_all.ensures
    (elim c.if-to_all.branch [
      | then-to_all w ↦ without_first c.split_at.result.1.now c.if-to_all.rest.now c.starts_with-to_all.result w.if-to_all.true (ap (λ (r : Bor (List (List ℕ))). r.now) w.rest-is)
      | else-to_all w ↦ ap (λ (r : Bor (List (List ℕ))). r.now) w.rest-is ∙ ap (λ (b : Bool). drop (one_if b) c.split_at.result.1.now) (sym w.if-to_all.false)
    ])
    c.in_ok-push.ensures.items

pub returns : goal.returns
returns c = are_merged c.args.names.now c.args.public.now c.push_all.new.seen.items c.requires.names c.requires.public
    (c.in_ok-push_all.ensures ∙ ap (λ (l : List (List ℕ)). c.loop-name.seen.items ++ merged l c.loop-name.rest.now) (sym (drop_all c.loop-name.name-index c.args.names.now c.loop-name-test.false)) ∙ c.loop-name.invariant)

pub loop-name-init : goal.loop-name-init
loop-name-init c = ap (λ (l : List Seen). l ++ merged c.args.names.now c.args.public.now) c.new-seen.ensures.items

pub split_at-requires : goal.split_at-requires
split_at-requires c = c.in_ok-before.ensures.within

pub returns-in_err-before : goal.returns-in_err-before
returns-in_err-before c = IfOk-from_err c.from_residual.result _ c.from_residual.ensures.0

pub returns-in_err-push : goal.returns-in_err-push
returns-in_err-push c = IfOk-from_err c.from_residual-in_err-push.result _ c.from_residual-in_err-push.ensures.0

pub returns-in_err-push_all : goal.returns-in_err-push_all
returns-in_err-push_all c = IfOk-from_err c.from_residual-in_err-push_all.result _ c.from_residual-in_err-push_all.ensures.0
