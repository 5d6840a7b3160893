use Rattle.service.proofs.RosterLemmas.{HasRoster-unique}
use Rattle.service.proofs.laws.rosters_have_one_reading.Goals as goal

pub returns : goal.returns
returns c lines rows others rest more first second = HasRoster-unique lines rows others rest more first second
