use Rattle.names.proofs.entities.Entity.read.Goals as goal

pub returns : goal.returns
returns c = record { accepted = c.in_ok-name.ensures.accepted; entity = c.in_ok-name.ensures.name; refused = tt }
