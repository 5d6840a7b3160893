use Rattle.std.proofs.Common.{◌∙◌, ◌==◌, sym}
use Rattle.std.specs.FinMap.{from_entries}
use Rattle.std.specs.Ordering.{nat_cmp}
use Rattle.std.specs.Cmp.{unsigned_tied}
use Rattle.hall.specs.Hall.{seen}
use Rattle.hall.proofs.Maps.{numbers_exact, len_mapped}
use Rattle.hall.proofs.Indexed.{counted}
use Rattle.hall.proofs.seats.Seat.used.Goals as goal

pub returns-clause-searches : goal.returns-clause-searches
returns-clause-searches c =
    let es = c.self.inside.searches.entries in
    rw (← c.self.view_is)
    (c.len.ensures.len ∙ sym (counted numbers_exact (◌==◌) unsigned_tied es c.len.ensures.unique)
    ∙ sym (len_mapped numbers_exact seen (from_entries {R = nat_cmp} es)))
