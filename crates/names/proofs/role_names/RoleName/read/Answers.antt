use Rattle.names.proofs.role_names.RoleName.read.Goals as goal

pub returns : goal.returns
returns c = record { accepted = c.in_ok-name.ensures.accepted; role_name = c.in_ok-name.ensures.name; refused = tt }
