use Rattle.std.proofs.Common.{[]}
use Rattle.rt0_rules.specs.Facts.{entities_in}
use Rattle.rt0_rules.proofs.Elements.{appends_next, appends_all}
use Rattle.rt0_rules.proofs.members.all_entities.Goals as goal

pub loop-credential-preserved : goal.loop-credential-preserved
loop-credential-preserved c =
    appends_next (λ t. entities_in t.body) c.args.credentials.now c.loop-credential.credential-index c.credential-item.result []
    c.loop-credential.entities.items c.push_entities.new.entities.items c.loop-credential-test.true c.credential-item.is c.loop-credential.invariant c.in_ok-push_entities.ensures

pub returns : goal.returns
returns c =
    appends_all (λ t. entities_in t.body) c.args.credentials.now c.loop-credential.credential-index []
    c.loop-credential.entities.items c.loop-credential-test.false c.loop-credential.invariant
