use Rattle.credential_text.proofs.intersections.PartsHash.hash.Goals as goal

pub returns : goal.returns
returns g c = rw c.as_slice.ensures.parts at c.hash.ensures
