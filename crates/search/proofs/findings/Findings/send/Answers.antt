use Rattle.std.proofs.Common.{◌∙◌, ◌∷◌, [], ℕ, List, All, ap, map, subst, sym}
use Rattle.std.proofs.lemmas.List.Elements.{All-push}
use Rattle.search.specs.declared.letters.Load.{Load}
use Rattle.std.proofs.lemmas.List.{map-append}
use Rattle.search.specs.Answers.{Progress, progress}
use Rattle.search.specs.Net.{IsLoad, Said, load_at}
use Rattle.search.specs.Numbered.{monitor_at, progress_at}
use Rattle.search.proofs.findings.Findings.send.Goals as goal

pub invariant_of-self-2 : goal.invariant_of-self-2
invariant_of-self-2 c =
    let old = c.self.inside in
    let is = subst (λ (s : Progress). IsLoad s.graph.nodes c.args.load) (sym c.self.view_is) c.requires in
    record {
      once = c.self.invariant.once;
      loads = subst (All (λ (o : ℕ × Load ℕ). IsLoad old.graph.nodes o.1)) (sym {A = List (ℕ × Load ℕ)} c.in-Ok.ensures.items) (All-push (λ (o : ℕ × Load ℕ). IsLoad old.graph.nodes o.1) old.outs.items (c.args.to, c.args.load) c.self.invariant.loads is);
      monitors = c.self.invariant.monitors;
      ports = c.self.invariant.ports;
    }

pub returns-clause-sent : goal.returns-clause-sent
returns-clause-sent c =
    rw (← c.self.view_is) (ap (λ (os : List (ℕ × Said)). progress_at c.self.inside.graph c.self.inside.monitors.items os) c.in-Ok.ensures.items
    ∙ ap (progress c.self.inside.graph (map (monitor_at c.self.inside.graph.nodes) c.self.inside.monitors.items)) (map-append (λ (o : ℕ × Said). (o.0, load_at c.self.inside.graph.nodes o.1)) c.self.inside.outs.items ((c.args.to, c.args.load) ∷ [])))
