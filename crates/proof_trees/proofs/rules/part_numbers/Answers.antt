use Rattle.std.proofs.Common.{ℕ, ◌≡◌, ◌<◌, ◌∙◌, sym, ap, subst, arith, length, set, take, get_or, get_or-set_same, length-set, List}
use Rattle.std.specs.List.{AllZip}
use Rattle.std.proofs.lemmas.List.{take-set}
use Rattle.credential_text.specs.declared.intersections.Part.{Part}
use Rattle.credential_text.specs.Expr.{part_expr}
use Rattle.cred_graph.specs.Graph.{Known}
use Rattle.proof_trees.specs.declared.steps.Step.{Step}
use Rattle.proof_trees.specs.Proof.{Claims}
use Rattle.proof_trees.proofs.Zipped.{zip_more}
use Rattle.proof_trees.proofs.rules.part_numbers.Goals as goal

abbrev claimed_in : List Step → List ℕ → ℕ → Part → Type 0
claimed_in steps who place part = Claims steps place who (part_expr part)

pub number_in-requires-clause-known : goal.number_in-requires-clause-known
number_in-requires-clause-known c =
    let known = c.requires.known c.loop-i.i c.index-parts-i.result c.loop-i-test.true in
    subst (Known c.args.graph.now c.args.who.now) (ap part_expr (sym c.index-parts-i.is) ∙ sym c.expr.ensures) known

pub loop-i-preserved : goal.loop-i-preserved
loop-i-preserved c =
    let numbers = c.loop-i.numbers in
    let i = c.loop-i.i in
    let number = c.in_ok-number.number in
    let within : i < length numbers = omega (arith, c.loop-i-test.true, c.requires.few, c.loop-i.invariant.eight) in
    let longer : length (set numbers i number) ≡ length numbers = length-set numbers i number in
    let front : AllZip (claimed_in c.args.draft.now.steps c.args.who.now) (take i (set numbers i number)) (take i c.args.parts.now) =
    subst (λ l. AllZip (claimed_in c.args.draft.now.steps c.args.who.now) l (take i c.args.parts.now)) (sym (take-set numbers i number)) c.loop-i.invariant.claims in
    let at : get_or (set numbers i number) i 0 ≡ number = get_or-set_same numbers i number 0 within in
    let part : c.expr.result ≡ part_expr (get_or c.args.parts.now i c.index-parts-i.result) = c.expr.ensures ∙ ap part_expr c.index-parts-i.is in
    let here : claimed_in c.args.draft.now.steps c.args.who.now (get_or (set numbers i number) i 0) (get_or c.args.parts.now i c.index-parts-i.result) =
    subst (λ n. claimed_in c.args.draft.now.steps c.args.who.now n (get_or c.args.parts.now i c.index-parts-i.result)) (sym at)
    (subst (Claims c.args.draft.now.steps number c.args.who.now) part c.in_ok-number.ensures.claims) in
    record {
      eight = longer ∙ c.loop-i.invariant.eight;
      claims = zip_more (claimed_in c.args.draft.now.steps c.args.who.now) (set numbers i number) c.args.parts.now i 0 c.index-parts-i.result front
          (omega arith) c.loop-i-test.true here;
    }
