use Rattle.std.proofs.Common.{arith, ◌∙◌, ap, length}
use Rattle.std.proofs.lemmas.List.{length-map}
use Rattle.hall.specs.Batches.{BatchState, letter_of}
use Rattle.hall.proofs.batches.Batch.destroy_empty.Goals as goal

pub destroy_empty-requires : goal.destroy_empty-requires
destroy_empty-requires c =
    let none = ap length (ap (λ (b : BatchState). b.letters) c.self.view_is ∙ c.requires) in
    let long = length-map c.self.inside.held_letters.items letter_of in
    omega (arith, none, long)
