use Rattle.std.proofs.Common.{◌≡◌, List, Some, refl, subst, vec_capacity}
use Rattle.std.proofs.lemmas.Option.{slice_get_read}
use Rattle.hall.specs.declared.batches.HeldLetter.{HeldLetter}
use Rattle.std.specs.Prelude.{slice_get}
use Rattle.hall.specs.Batches.{BatchState}
use Rattle.search.specs.declared.queries.Need.{Need}
use Rattle.hall.proofs.Batched.{next_letter}
use Rattle.hall.proofs.batches.Batch.next.Goals as goal

pub returns : goal.returns
returns c =
    let at : slice_get c.self.inside.held_letters.items c.self.inside.looked ≡ Some c.in_ok-held_letter.held_letter.now =
    let found = c.in_ok-held_letter.ensures.lookup in
    subst (λ (es : List HeldLetter). slice_get es c.self.inside.looked ≡ Some c.in_ok-held_letter.held_letter.now) c.deref.ensures.value
    (slice_get_read c.deref.result.now _ c.self.inside.looked c.in_ok-held_letter.held_letter.now refl found.3.0 found.1) in
    subst (λ (b : BatchState). (need : Need) × (slice_get b.letters b.looked ≡ Some (c.in_ok-held_letter.held_letter.now.letter, need))) c.self.view_is
    (next_letter c.self.inside.of c.self.inside.held_letters.items c.self.inside.looked (vec_capacity c.self.inside.held_letters) c.in_ok-held_letter.held_letter.now at)
