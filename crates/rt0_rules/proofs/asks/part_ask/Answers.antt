use Rattle.credential_text.specs.declared.exprs.Expr.TheVariants.{Meet}
use Rattle.rt0_rules.specs.declared.asks.Why.TheVariants.{Part}
use Rattle.rt0_rules.proofs.asks.part_ask.Goals as goal

pub returns : goal.returns
returns c i = record { asker = Meet (c.in_ok-try_clone.ensures i); why = Part c.args.place; asked = c.expr.ensures i }
