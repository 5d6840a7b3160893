-- The option with its usual value.
use Rattle.std.proofs.Common.{ap, Bool, ◌∙◌}
use Rattle.clap.specs.Words.{rule_of}
use Rattle.clap.specs.declared.builder.arg.Arg.{Arg}
use Rattle.rtsearch.specs.CommandLine.{usually}
use Rattle.rtsearch.proofs.command_line.usual_option.Goals as goal

abbrev global : Arg → Bool
global a = a.global

pub returns : goal.returns
returns c = record {
  rule = ap rule_of c.default_value.ensures ∙ ap (usually _) c.number_option.ensures.rule;
  local = ap global c.default_value.ensures ∙ c.number_option.ensures.local;
}
