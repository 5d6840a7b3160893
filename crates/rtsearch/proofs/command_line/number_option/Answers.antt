-- The argument keeps what it was told.
use Rattle.std.proofs.Common.{rules}
use Rattle.rtsearch.proofs.command_line.number_option.Goals as goal

pub returns : goal.returns
returns c =
    let given = c.value_parser.ensures.given in
    record {
      rule = search rules;
      local = search rules;
    }
