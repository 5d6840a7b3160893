use Rattle.std.proofs.Common.{ℕ, List, ◌≡◌, ◌∷◌, ◌∙◌, ap, subst}
use Rattle.names.specs.Texts.{trim}
use Rattle.credential_text.specs.Refusal.{part_texts}
use Rattle.credential_text.specs.Reading.{ReadsAs}
use Rattle.credential_text.proofs.Left.{PartsSoFar, texts_left, cut_texts, parts_more}
use Rattle.credential_text.proofs.bodies.read_parts.Goals as goal

pub loop-left-preserved : goal.loop-left-preserved
loop-left-preserved c =
    let owner : List ℕ = c.args.owner.now in
    let texts : List (List ℕ) = part_texts c.args.body.now in
    let part : List ℕ = c.cut.result.0.now in
    let left : texts_left c.loop-left.left ≡ trim part ∷ texts_left c.cut.result.1 =
    ap texts_left c.in-Some.is ∙ cut_texts c.in-Some.text.now part c.cut.result.1 c.cut.ensures.pieces in
    let so_far : PartsSoFar owner texts (trim part ∷ texts_left c.cut.result.1) c.loop-left.parts c.loop-left.count =
    subst (λ (ts : List (List ℕ)). PartsSoFar owner texts ts c.loop-left.parts c.loop-left.count) left c.loop-left.invariant in
    let reads : ReadsAs owner (trim part) c.in_ok-parts.field-0 = rw c.trim.ensures at c.in_ok-parts.ensures.part in
    parts_more owner texts (texts_left c.cut.result.1) c.loop-left.parts c.loop-left.count (trim part) c.in_ok-parts.field-0 so_far reads
