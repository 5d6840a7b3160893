use Rattle.vaults.proofs.Granting.{gift_ended, gift_undone}
use Rattle.vaults.proofs.Outcomes.{where_same, where_apart}
use Rattle.vaults.proofs.books.keep.Goals as goal

pub returns-then-is_err-gives : goal.returns-then-is_err-gives
returns-then-is_err-gives c =
    let settled = where_same c.keep_on_page-kept.result _ _ _ c.is_err.ensures.value c.gives.ensures c.if-is_err-gives.true
    (λ takes. gift_ended c.args.who c.args.change.now c.args.granting.now c.add_gift.new.granting c.end_gift.new.granting c.args.public.now c.add_gift.new.public c.end_gift.new.public
    takes (c.in_ok-add_gift.ensures.nothing takes) c.end_gift.ensures)
    (λ gives. gift_undone c.args.who c.args.change.now c.args.granting.now c.add_gift.new.granting c.end_gift.new.granting c.args.public.now c.add_gift.new.public c.end_gift.new.public
    gives c.requires.first c.requires.first_for_all (c.in_ok-add_gift.ensures.kept gives) c.end_gift.ensures) in
    record {
      kept = c.keep_on_page-kept.ensures.kept;
      gift = settled.0;
      due = c.keep_on_page-kept.ensures.due;
      refused = c.keep_on_page-kept.ensures.refused;
      count = c.keep_on_page-kept.ensures.count;
      unchanged = c.keep_on_page-kept.ensures.unchanged;
      same_gifts = settled.1;
      revocable = c.keep_on_page-kept.ensures.revocable;
    }

pub returns-else-is_err-gives : goal.returns-else-is_err-gives
returns-else-is_err-gives c =
    let settled = where_apart c.keep_on_page-kept.result _ _ _ c.is_err.ensures.value c.gives.ensures c.if-is_err-gives.false
    c.in_ok-add_gift.ensures.kept c.in_ok-add_gift.ensures.nothing in
    record {
      kept = c.keep_on_page-kept.ensures.kept;
      gift = settled.0;
      due = c.keep_on_page-kept.ensures.due;
      refused = c.keep_on_page-kept.ensures.refused;
      count = c.keep_on_page-kept.ensures.count;
      unchanged = c.keep_on_page-kept.ensures.unchanged;
      same_gifts = settled.1;
      revocable = c.keep_on_page-kept.ensures.revocable;
    }
