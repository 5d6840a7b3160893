use Rattle.std.proofs.Common.{sym}
use Rattle.rt0_rules.proofs.Searched.{owed_at, closed_past, closed_next}
use Rattle.rt0_rules.proofs.facts.next_fact.Goals as goal

pub loop-credential-preserved : goal.loop-credential-preserved
loop-credential-preserved c =
    closed_next c.args.credentials.now c.args.entities.now c.args.facts.now c.loop-credential.credential-index c.credential-item.result
    c.loop-credential-test.true c.credential-item.is (sym c.in_default.ensures) c.loop-credential.invariant

pub returns-in-Some : goal.returns-in-Some
returns-in-Some c = record {
  found =
      owed_at c.args.credentials.now c.args.entities.now c.args.facts.now c.loop-credential.credential-index c.credential-item.result c.in-Some.who
      c.loop-credential-test.true c.credential-item.is (sym c.in-Some.ensures);
  closed = tt;
}

pub returns : goal.returns
returns c = record {
  found = tt;
  closed =
      closed_past c.args.credentials.now c.args.entities.now c.args.facts.now c.loop-credential.credential-index c.loop-credential-test.false c.loop-credential.invariant;
}
