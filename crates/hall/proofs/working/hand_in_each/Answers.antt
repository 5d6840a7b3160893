use Rattle.std.proofs.Common.{arith, add-zero, ◌≡◌, ◌∙◌, ◌+◌, ◌++◌, ◌∷◌, ℕ, List, [], Bool, true, false, map, take, ap, sym, subst, if◌then◌else◌}
use Rattle.std.proofs.lemmas.List.{map_more}
use Rattle.search.specs.declared.queries.Need.{Need}
use Rattle.hall.specs.declared.batches.HeldLetter.{HeldLetter}
use Rattle.hall.specs.Hall.{StepsEach}
use Rattle.hall.specs.Batches.{letter_of, named}
use Rattle.hall.specs.Work.{HandsIn}
use Rattle.hall.proofs.Batched.{none_handed_in, more_handed_in}
use Rattle.hall.proofs.working.hand_in_each.Goals as goal
use Rattle.hall.proofs.working.hand_in_each.Goals.{After-hand_in_letter, then-hand_in_letter, else-hand_in_letter}

pub loop-held_letter-init : goal.loop-held_letter-init
loop-held_letter-init c = record { handed_in = none_handed_in c.args.search.now c.args.back (named c.args.of.now); most = omega arith }

-- one letter more is handed in
handed : (c : After-hand_in_letter) (done : Bool) →
    HandsIn (StepsEach c.loop-held_letter.search c.hand_in_letter.new.search) c.args.back (named c.args.of.now) (letter_of c.held_letter-item.result ∷ []) (if done then 1 else 0) →
    HandsIn (StepsEach c.args.search.now c.hand_in_letter.new.search) c.args.back (named c.args.of.now) (map letter_of (take (c.loop-held_letter.held_letter-index + 1) c.args.held_letters.now))
    (c.loop-held_letter.finished + (if done then 1 else 0))
handed c done hands =
    let es = c.args.held_letters.now in
    let i = c.loop-held_letter.held_letter-index in
    let more : map letter_of (take (i + 1) es) ≡ map letter_of (take i es) ++ letter_of c.held_letter-item.result ∷ [] =
    map_more letter_of es i c.held_letter-item.result c.loop-held_letter-test.true
    ∙ ap (λ (x : HeldLetter). map letter_of (take i es) ++ letter_of x ∷ []) (sym c.held_letter-item.is) in
    subst (λ (ls : List (ℕ × Need)). HandsIn (StepsEach c.args.search.now c.hand_in_letter.new.search) c.args.back (named c.args.of.now) ls (c.loop-held_letter.finished + (if done then 1 else 0))) (sym more)
    (more_handed_in c.args.search.now c.loop-held_letter.search c.hand_in_letter.new.search c.args.back (named c.args.of.now) (map letter_of (take i es)) (letter_of c.held_letter-item.result ∷ [])
    c.loop-held_letter.finished (if done then 1 else 0) c.loop-held_letter.invariant.handed_in hands)

pub loop-held_letter-preserved : goal.loop-held_letter-preserved
loop-held_letter-preserved c = record {
  handed_in = elim c.if-hand_in_letter.branch [ then-hand_in_letter w ↦ rw w.finished-is (handed c.before true w.if-hand_in_letter.ensures) | else-hand_in_letter w ↦ rw (w.finished-is, ← add-zero c.loop-held_letter.finished) (handed c.before false w.if-hand_in_letter.ensures) ];
  most = elim c.if-hand_in_letter.branch [ then-hand_in_letter w ↦ omega (arith, c.loop-held_letter.invariant.most, w.finished-is) | else-hand_in_letter w ↦ omega (arith, c.loop-held_letter.invariant.most, w.finished-is) ];
}
