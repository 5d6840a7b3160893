use Rattle.std.proofs.Common.{ℕ, List, ◌≡◌, ◌≢◌, ◌++◌, take, drop, length, ◌-◌, sym, ◌∙◌, codes, Bor, ◌∷◌}
use Rattle.std.proofs.lemmas.Bool.Decides.{Decides-eqb}
use Rattle.std.proofs.lemmas.List.{take_rest}
use Rattle.std.proofs.lemmas.Slice.Eq.{strip_prefix_is}
use Rattle.std.proofs.lemmas.Option.{MatchOption-at_none, MatchOption-at_some}
use Rattle.credential_text.proofs.Arrow.{arrow_here, arrow_later, arrow_nowhere}
use Rattle.credential_text.proofs.reading.round_arrow.Goals as goal

pub returns-in-Some : goal.returns-in-Some
returns-in-Some c =
    let text : List ℕ = c.args.text.now in
    let rest : List ℕ = take (length text - c.loop-i.i) (drop c.loop-i.i text) in
    let found : rest ≡ codes "<-" ++ c.in-Some.after.now =
    MatchOption-at_some _ (λ (x : Bor (List ℕ)). rest ≡ codes "<-" ++ x.now) c.in-Some.after c.in-Some.is
    (strip_prefix_is Decides-eqb rest (codes "<-") c.strip_prefix.result c.strip_prefix.ensures.cases) in
    arrow_here text c.loop-i.i c.in-Some.after.now c.loop-i.invariant (sym (take_rest text c.loop-i.i) ∙ found)

pub loop-i-preserved : goal.loop-i-preserved
loop-i-preserved c =
    let text : List ℕ = c.args.text.now in
    let rest : List ℕ = take (length text - c.loop-i.i) (drop c.loop-i.i text) in
    let none : (after : List ℕ) → rest ≢ codes "<-" ++ after =
    MatchOption-at_none ((after : List ℕ) → rest ≢ codes "<-" ++ after) (λ (x : Bor (List ℕ)). rest ≡ codes "<-" ++ x.now) c.in_default.is
    (strip_prefix_is Decides-eqb rest (codes "<-") c.strip_prefix.result c.strip_prefix.ensures.cases) in
    arrow_later text c.loop-i.i c.loop-i-test.true c.loop-i.invariant
    (λ (after : List ℕ) (e : drop c.loop-i.i text ≡ 60 ∷ 45 ∷ after). none after (take_rest text c.loop-i.i ∙ e))

pub returns : goal.returns
returns c = arrow_nowhere c.args.text.now c.loop-i.i c.loop-i-test.false c.loop-i.invariant
