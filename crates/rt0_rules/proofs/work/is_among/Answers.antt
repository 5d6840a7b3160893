use Rattle.rt0_rules.proofs.SameAsks.{found_where_among}
use Rattle.rt0_rules.proofs.work.is_among.Goals as goal

pub returns : goal.returns
returns c = found_where_among c.args.asks.now c.args.ask.now c.contains.result c.contains.ensures.value
