use Rattle.credential_text.proofs.Canonical.{canonical_spells, canonical_is_short}
use Rattle.credential_text.proofs.Showing.{no_text_spells_two}
use Rattle.credential_text.proofs.Refused.{refused_unless_spelled}
use Rattle.credential_text.proofs.laws.spelling_is_exact.Goals as goal

pub returns-clause-canonical_spells : goal.returns-clause-canonical_spells
returns-clause-canonical_spells c = canonical_spells

pub returns-clause-canonical_is_short : goal.returns-clause-canonical_is_short
returns-clause-canonical_is_short c = canonical_is_short

pub returns-clause-one_meaning : goal.returns-clause-one_meaning
returns-clause-one_meaning c = no_text_spells_two

pub returns-clause-refused_unless_spelled : goal.returns-clause-refused_unless_spelled
returns-clause-refused_unless_spelled c = refused_unless_spelled
