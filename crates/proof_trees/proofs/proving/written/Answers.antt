use Rattle.std.proofs.Common.{◌≡◌, ◌∙◌, ◌++◌, ◌∷◌, [], List, sym, ap, subst}
use Rattle.std.proofs.lemmas.List.{nil_from_length}
use Rattle.proof_trees.specs.declared.placed_solutions.PlacedSolution.{PlacedSolution}
use Rattle.proof_trees.proofs.PlacedSolutionLemmas.{placed_fits}
use Rattle.proof_trees.proofs.Walk.{IsWalk}
use Rattle.proof_trees.proofs.WalkLemmas.{popped, found_stands, found_absent, walk_waits, walk_stepped, walk_concludes, walk_lean, nearer_by_premise, nearer_by_step}
use Rattle.proof_trees.proofs.proving.written.Goals as goal

pub rule_for-requires-clause-fits : goal.rule_for-requires-clause-fits
rule_for-requires-clause-fits c =
    let g = c.args.graph.now in
    let walk = popped c.loop-found.needed.items c.pop.new.self.items c.in-Some.found c.in-Some.ensures.items c.loop-found.invariant in
    placed_fits g c.requires.graph c.in-Some.found (found_stands g c.args.asked c.requires.stands c.loop-found.draft _ c.in-Some.found walk)

pub add-requires-clause-stands : goal.add-requires-clause-stands
add-requires-clause-stands c =
    let g = c.args.graph.now in
    let walk = popped c.loop-found.needed.items c.pop.new.self.items c.in-Some.found c.in-Some.ensures.items c.loop-found.invariant in
    found_stands g c.args.asked c.requires.stands c.loop-found.draft _ c.in-Some.found walk

pub add-requires-clause-absent : goal.add-requires-clause-absent
add-requires-clause-absent c =
    let g = c.args.graph.now in
    let walk = popped c.loop-found.needed.items c.pop.new.self.items c.in-Some.found c.in-Some.ensures.items c.loop-found.invariant in
    found_absent g c.args.asked c.requires.stands c.loop-found.draft _ c.in-Some.found walk

pub loop-found-preserved-in-Continue-branch-2 : goal.loop-found-preserved-in-Continue-branch-2
loop-found-preserved-in-Continue-branch-2 c =
    let g = c.args.graph.now in
    let walk = popped c.loop-found.needed.items c.pop.new.self.items c.in-Some.found c.in-Some.ensures.items c.loop-found.invariant in
    walk_stepped g c.args.asked c.requires.stands c.loop-found.draft _ c.in-Some.found walk c.add.new.self c.in-Ok.rule c.in-Ok.ensures.by_reason c.in_ok-add-in-Ok.ensures

pub loop-found-smaller-in-Continue-branch-2 : goal.loop-found-smaller-in-Continue-branch-2
loop-found-smaller-in-Continue-branch-2 c =
    let g = c.args.graph.now in
    let walk = popped c.loop-found.needed.items c.pop.new.self.items c.in-Some.found c.in-Some.ensures.items c.loop-found.invariant in
    rw c.in-Some.ensures.items (nearer_by_step g c.args.asked c.requires.stands c.loop-found.draft _ c.in-Some.found walk c.add.new.self c.in-Ok.rule c.in-Ok.ensures.by_reason c.in_ok-add-in-Ok.ensures)

pub loop-found-preserved : goal.loop-found-preserved
loop-found-preserved c =
    let g = c.args.graph.now in
    let walk = popped c.loop-found.needed.items c.pop.new.self.items c.in-Some.found c.in-Some.ensures.items c.loop-found.invariant in
    let items : c.push-in-Err-2.new.self.items ≡ (c.pop.new.self.items ++ c.in-Some.found ∷ []) ++ c.in-Err.premise ∷ [] =
    c.in_ok-push-in-Err-2.ensures.items ∙ ap (λ (l : List PlacedSolution). l ++ c.in-Err.premise ∷ []) c.in_ok-push-in-Err.ensures.items in
    rw items (walk_waits g c.args.asked c.requires.stands c.loop-found.draft _ c.in-Some.found walk c.in-Err.premise c.in-Err.ensures.missing)

pub loop-found-smaller : goal.loop-found-smaller
loop-found-smaller c =
    let g = c.args.graph.now in
    let walk = popped c.loop-found.needed.items c.pop.new.self.items c.in-Some.found c.in-Some.ensures.items c.loop-found.invariant in
    let items : c.push-in-Err-2.new.self.items ≡ (c.pop.new.self.items ++ c.in-Some.found ∷ []) ++ c.in-Err.premise ∷ [] =
    c.in_ok-push-in-Err-2.ensures.items ∙ ap (λ (l : List PlacedSolution). l ++ c.in-Err.premise ∷ []) c.in_ok-push-in-Err.ensures.items in
    rw (items, c.in-Some.ensures.items) (nearer_by_premise g c.args.asked c.requires.stands c.loop-found.draft _ c.in-Some.found walk c.in-Err.premise c.in-Err.ensures.missing)

pub returns-clause-by_rules : goal.returns-clause-by_rules
returns-clause-by_rules c =
    rw c.into_proof.ensures c.loop-found.invariant.draft.by_rules

pub returns-clause-concludes : goal.returns-clause-concludes
returns-clause-concludes c =
    let g = c.args.graph.now in
    let items = nil_from_length c.loop-found.needed.items (sym c.loop-found.needed.ok.0 ∙ c.in_default.ensures.cases.0) in
    let walk = subst (λ (l : List PlacedSolution). IsWalk g c.args.asked c.loop-found.draft l) items c.loop-found.invariant in
    rw c.into_proof.ensures (walk_concludes g c.args.asked c.requires.stands c.loop-found.draft walk)

pub returns-clause-lean : goal.returns-clause-lean
returns-clause-lean c =
    let g = c.args.graph.now in
    let items = nil_from_length c.loop-found.needed.items (sym c.loop-found.needed.ok.0 ∙ c.in_default.ensures.cases.0) in
    let walk = subst (λ (l : List PlacedSolution). IsWalk g c.args.asked c.loop-found.draft l) items c.loop-found.invariant in
    rw c.into_proof.ensures (walk_lean g c.args.asked c.requires.stands c.loop-found.draft walk)
