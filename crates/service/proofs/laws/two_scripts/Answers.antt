use Rattle.service.proofs.PolledLemmas.{scripts_agree}
use Rattle.service.proofs.laws.two_scripts.Goals as goal

pub returns : goal.returns
returns c = scripts_agree
