-- Where no letter is left and no signal is under way, nothing is outstanding.
use Rattle.std.proofs.Common.{◌≡◌, ◌∙◌, ◌↔◌, ◌==◌, Bool, IsTrue, ap, length, subst, sym, arith, eq-eqb}
use Rattle.std.proofs.lemmas.List.{nil_from_length}
use Rattle.std.proofs.lemmas.Map.Views.{exact_unsigned_eq}
use Rattle.scholten_core.specs.Computation.{waiting}
use Rattle.search.specs.declared.stages.Stage.{Stage}
use Rattle.search.specs.Stage.{IsQuiet, NoneHeld}
use Rattle.search.specs.Search.{SearchState, IsOutstanding}
use Rattle.search.proofs.Searching.{settles}
use Rattle.search.proofs.searches.Search.is_quiet.Goals.{After-is_complete}
use Rattle.search.proofs.searches.Search.is_quiet.Goals as goal

-- no letter and no signal is there where nothing is outstanding
settled : (c : After-is_complete) → IsQuiet c.args.self.now.stage → NoneHeld c.args.self.now.stage → IsOutstanding c.args.self.now.stage → ⊥
settled c =
    subst (λ (s : SearchState). IsQuiet s.stage → NoneHeld s.stage → IsOutstanding s.stage → ⊥) c.self.view_is
    (settles c.self.inside.stage c.in-Running.running c.in-Running.is (λ letters signals. c.is_complete.ensures.complete.0 (c.is_complete.ensures.never_stuck letters signals)))

-- it is quiet where no letter waits and no signal is under way
quiet_here : (c : After-is_complete) (b : Bool) → (IsTrue b → (length (waiting c.in-Running.running.letters) ≡ 0) × (length c.in-Running.running.signals ≡ 0)) →
    (length (waiting c.in-Running.running.letters) ≡ 0 → length c.in-Running.running.signals ≡ 0 → IsTrue b) → IsTrue b ↔ IsQuiet c.args.self.now.stage
quiet_here c b still back =
    subst (λ (s : SearchState). IsTrue b ↔ IsQuiet s.stage) c.self.view_is (subst (λ (st : Stage). IsTrue b ↔ IsQuiet st) (sym c.in-Running.is) (
      λ yes. let none = still yes in (nil_from_length (waiting c.in-Running.running.letters) none.0, nil_from_length c.in-Running.running.signals none.1),
      λ none. back (ap length none.0) (ap length none.1),
    ))

pub returns-then-waiting-eq0 : goal.returns-then-waiting-eq0
returns-then-waiting-eq0 c =
    let after = (goal.at.returns-then-waiting-eq0 c).After-is_complete in record {
      quiet = quiet_here after (c.signals.result == 0)
          (λ none. (omega (arith, c.if-waiting-eq0.true, c.waiting.ensures), omega (arith, c.signals.ensures, exact_unsigned_eq c.signals.result 0 none)))
          (λ no_letter none. eq-eqb c.signals.result 0 (c.signals.ensures ∙ none));
      settled = settled after;
    }
