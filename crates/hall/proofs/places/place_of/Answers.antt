use Rattle.hall.proofs.AtHand.{place_told}
use Rattle.hall.proofs.places.place_of.Goals as goal

pub returns-in_default : goal.returns-in_default
returns-in_default g c =
    rw (c.unwrap_or.ensures, c.len.ensures.len)
    (place_told (g.K.PartialEq.eq c.args.key.now) c.args.map.now.entries c.get_index_of.result c.get_index_of.ensures.index c.get_index_of.ensures.found)
