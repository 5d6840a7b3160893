use Rattle.credential_text.proofs.faults.CredFault.number.Goals as goal

pub returns-in-Name : goal.returns-in-Name
returns-in-Name c = rw c.in-Name.is (cc)
