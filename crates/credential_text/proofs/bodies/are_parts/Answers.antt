use Rattle.std.proofs.Common.{ℕ, List, false, ◌∷◌, ◌≡◌, ◌==◌, ◌∙◌, ap, sym, subst, length, arith}
use Rattle.names.specs.Texts.{trim}
use Rattle.credential_text.specs.Refusal.{is_empty, part_texts}
use Rattle.credential_text.proofs.Left.{PartsSeen, texts_left, cut_texts, none_seen, seen_more, ninth_seen, empty_seen, all_seen, empty_by_length}
use Rattle.credential_text.proofs.bodies.are_parts.Goals as goal
use Rattle.credential_text.proofs.bodies.are_parts.Goals.{After-cut}
use Rattle.credential_text.proofs.bodies.are_parts.Goals.{then-count-eq-MOST_PARTS-via-then-count-eq-MOST_PARTS}
use Rattle.credential_text.proofs.bodies.are_parts.Goals.{then-count-eq-MOST_PARTS-via-else-count-eq-MOST_PARTS+then-is_empty}

pub loop-left-init : goal.loop-left-init
loop-left-init c = none_seen (part_texts c.args.body.now)

-- the texts that are left are the part's and those behind it
seen : (c : After-cut) → PartsSeen (part_texts c.args.body.now) (trim c.cut.result.0.now ∷ texts_left c.cut.result.1) c.loop-left.count
seen c =
    subst (λ (ts : List (List ℕ)). PartsSeen (part_texts c.args.body.now) ts c.loop-left.count)
    (ap texts_left c.in-Some.is ∙ cut_texts c.in-Some.text.now c.cut.result.0.now c.cut.result.1 c.cut.ensures.pieces) c.loop-left.invariant

pub loop-left-preserved : goal.loop-left-preserved
loop-left-preserved c =
    let part : List ℕ = c.cut.result.0.now in
    let some : is_empty (trim part) ≡ false =
    empty_by_length (trim part) ∙ ap (λ (t : List ℕ). length t == 0) (sym c.trim.ensures) ∙ sym c.is_empty.ensures ∙ c.if-is_empty.false in
    seen_more (part_texts c.args.body.now) (texts_left c.cut.result.1) (trim part) c.loop-left.count
    (seen (goal.at.loop-left-preserved c).After-cut)
    (omega (arith, c.loop-left.invariant.fits, c.if-count-eq-MOST_PARTS.false)) some

pub returns-then-count-eq-MOST_PARTS : goal.returns-then-count-eq-MOST_PARTS
returns-then-count-eq-MOST_PARTS c =
    let so_far = seen (goal.at.returns-then-count-eq-MOST_PARTS c).After-cut in
    let texts : List (List ℕ) = part_texts c.args.body.now in
    let part : List ℕ = c.cut.result.0.now in
    elim c.then-count-eq-MOST_PARTS.branch [
      | then-count-eq-MOST_PARTS-via-then-count-eq-MOST_PARTS w ↦
          ninth_seen texts (texts_left c.cut.result.1) (trim part) c.loop-left.count so_far w.if-count-eq-MOST_PARTS.true
      | then-count-eq-MOST_PARTS-via-else-count-eq-MOST_PARTS+then-is_empty w ↦
          empty_seen texts (texts_left c.cut.result.1) (trim part) c.loop-left.count so_far
          (empty_by_length (trim part) ∙ ap (λ (t : List ℕ). length t == 0) (sym w.trim.ensures) ∙ sym w.is_empty.ensures
          ∙ w.if-is_empty.true)
    ]

pub returns : goal.returns
returns c =
    all_seen (part_texts c.args.body.now) c.loop-left.count
    (subst (λ (ts : List (List ℕ)). PartsSeen (part_texts c.args.body.now) ts c.loop-left.count) (ap texts_left c.in_default.is)
    c.loop-left.invariant)
