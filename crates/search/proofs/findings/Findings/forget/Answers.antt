-- Nothing is left, so no number is.
use Rattle.std.proofs.Common.{ℕ, ◌≡◌, ◌∙◌, [], List, ap, arith, length}
use Rattle.std.proofs.lemmas.List.{length-map, nil_from_length}
use Rattle.std.proofs.lemmas.List.Elements.{All-nil}
use Rattle.std.proofs.lemmas.Option.{none-some}
use Rattle.cred_graph.specs.Graph.{GraphState}
use Rattle.search.specs.declared.findings.NumberedMonitor.{NumberedMonitor}
use Rattle.search.specs.Answers.{Progress}
use Rattle.search.specs.Net.{Said, IsLoad, load_at, outs_at}
use Rattle.search.specs.Numbered.{IsMonitor, progress_at}
use Rattle.search.proofs.findings.Findings.forget.Goals as goal

no_letter : (g : GraphState) (ms : List NumberedMonitor) (outs : List (ℕ × Said)) (s : Progress) → progress_at g ms outs ≡ s → s.outs ≡ [] → outs ≡ []
no_letter g ms outs s is none =
    let same : length (outs_at g.nodes outs) ≡ length outs = length-map outs (λ (o : ℕ × Said). (o.0, load_at g.nodes o.1)) in
    nil_from_length outs (omega (arith, ap (λ (t : Progress). length t.outs) is, ap length none))

pub invariant_of-self : goal.invariant_of-self
invariant_of-self c =
    let old = c.self.inside in
    rw (c.clear-2.ensures.empty, c.shrink_to.ensures.items ∙ c.clear-3.ensures.items, no_letter old.graph old.monitors.items old.outs.items _ c.self.view_is (ap (λ (s : Progress). s.outs) c.clear.ensures)) (record {
      once = λ i j x at. absurd (none-some x at);
      loads = All-nil (λ (o : ℕ × Said). IsLoad [] o.1);
      monitors = All-nil (IsMonitor []);
      ports = λ n l there. absurd (omega (arith, there.1));
    })

pub returns : goal.returns
returns c =
    let old = c.self.inside in
    rw (c.clear-2.ensures.empty, c.shrink_to.ensures.items ∙ c.clear-3.ensures.items, no_letter old.graph old.monitors.items old.outs.items _ c.self.view_is (ap (λ (s : Progress). s.outs) c.clear.ensures))
