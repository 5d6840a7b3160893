use Rattle.credential_text.proofs.intersections.PartsPartialEq.eq.Goals as goal

pub returns : goal.returns
returns c = cc
