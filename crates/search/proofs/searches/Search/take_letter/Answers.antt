-- A letter that waits goes to a node, and says the same where it is held.
use Rattle.std.proofs.Common.{◌≡◌, ◌∙◌, ap, option_copied, sym}
use Rattle.search.specs.Finish.{need_for}
use Rattle.search.proofs.Finishing.{takes_needing, taken_there}
use Rattle.search.proofs.searches.Search.take_letter.Goals as goal
use Rattle.search.proofs.searches.Search.take_letter.Goals.{in-Some-rows_for, in-None}

pub rows_for-requires : goal.rows_for-requires
rows_for-requires c = taken_there c.args.self.now c.take_held.new.self c.args.place c.in-Some.number c.in-Some.held c.in-Some.ensures.taken

pub returns-clause-taken : goal.returns-clause-taken
returns-clause-taken c =
    let is : c.match-rows_for.need ≡ need_for (option_copied c.rows_for.result) = elim c.match-rows_for.branch [
      | in-Some-rows_for w ↦ w.need-is ∙ ap (λ r. need_for (option_copied r)) (sym w.in-Some-rows_for.is)
      | in-None w ↦ w.need-is ∙ ap (λ r. need_for (option_copied r)) (sym w.in-None.is)
    ] in
    rw is (takes_needing c.args.self.now c.take_held.new.self c.args.place c.in-Some.number c.in-Some.held (need_for (option_copied c.rows_for.result)) c.in-Some.ensures.taken c.rows_for.ensures)
