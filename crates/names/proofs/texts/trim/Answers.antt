use Rattle.names.proofs.texts.trim.Goals as goal

pub returns : goal.returns
returns c = cc
