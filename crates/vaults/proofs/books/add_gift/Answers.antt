use Rattle.std.proofs.Common.{ℕ, List, [], Option, Some, unwrap_or, is_some, ◌∙◌, sym, ap, refl, cond}
use Rattle.std.specs.Ordering.{eq_by_cmp}
use Rattle.std.specs.BTreeMap.{BTreeMap, get}
use Rattle.std.specs.BTreeSet.{insert_key}
use Rattle.std.proofs.lemmas.Result.{on_ok_weaker, on_err_weaker}
use Rattle.names.specs.Name.{name_order}
use Rattle.vaults.proofs.PageWrites.{written_back}
use Rattle.vaults.proofs.Granting.{granting_added, public_added, reader_given, all_given, same_granting}
use Rattle.vaults.proofs.books.add_gift.Goals as goal

pub returns-in-Some-clause-kept : goal.returns-in-Some-clause-kept
returns-in-Some-clause-kept c =
    let after = c.get_mut.follows.lender c.add.new.self in
    on_ok_weaker c.add.result (λ added given.
    reader_given c.args.owner c.args.change.now c.in-Grant.reader c.args.granting.now after _ c.in-Grant.is
    (granting_added c.args.owner c.in-Grant.reader c.in-Some.owners.now c.add.new.self c.args.granting.now after
    (ap (λ (l : Option (List (List ℕ))). unwrap_or l []) c.in-Some.ensures.value) added
    ((c.get_mut.follows.holds c.add.new.self).3 (ap is_some (sym c.in-Some.ensures.value))).0)) c.add.ensures.added

pub returns-in-Some-clause-unchanged : goal.returns-in-Some-clause-unchanged
returns-in-Some-clause-unchanged c =
    let after = c.get_mut.follows.lender c.add.new.self in
    on_err_weaker c.add.result (λ same. (
      same_granting c.args.granting.now after
          (written_back c.in-Grant.reader c.args.granting.now after c.add.new.self (ap Some same ∙ c.in-Some.ensures.value)
          ((c.get_mut.follows.holds c.add.new.self).3 (ap is_some (sym c.in-Some.ensures.value))).0),
      λ owner. refl,
    )) c.add.ensures.unchanged

pub returns-in_ok-insert-in-None-clause-kept : goal.returns-in_ok-insert-in-None-clause-kept
returns-in_ok-insert-in-None-clause-kept c = λ given.
    reader_given c.args.owner c.args.change.now c.in-Grant.reader c.args.granting.now c.insert.new.self _ c.in-Grant.is
    (granting_added c.args.owner c.in-Grant.reader [] c.add-in-None.new.self c.args.granting.now c.insert.new.self
    (ap (λ (l : Option (List (List ℕ))). unwrap_or l []) c.in-None.ensures.value)
    (c.in_ok-add-in-None.ensures.added ∙ ap (λ (l : List (List ℕ)). insert_key name_order l c.args.owner) c.new-owners.ensures)
    (λ tenant.
    c.in_ok-insert-in-None.ensures.updates.0 tenant
    ∙ ap (λ (m : BTreeMap (List ℕ) (List (List ℕ))). cond (eq_by_cmp name_order c.in-Grant.reader tenant) (Some c.add-in-None.new.self) (get name_order m tenant)) c.get_mut.follows.holds-at-none))

pub returns-in-GrantAll-clause-kept : goal.returns-in-GrantAll-clause-kept
returns-in-GrantAll-clause-kept c =
    on_ok_weaker c.add-in-GrantAll.result (λ added given. all_given c.args.owner c.args.change.now c.args.granting.now _ _ c.in-GrantAll.is (public_added _ _ _ added)) c.add-in-GrantAll.ensures.added
