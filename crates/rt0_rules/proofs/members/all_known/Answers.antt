use Rattle.std.proofs.Common.{◌≡◌, ◌∙◌, None}
use Rattle.rt0_rules.specs.Facts.{all_entities}
use Rattle.rt0_rules.proofs.Searched.{closed_alike}
use Rattle.rt0_rules.proofs.Unknown.{unknown_falls}
use Rattle.rt0_rules.proofs.Sound.{sound_kept}
use Rattle.rt0_rules.proofs.members.all_known.Goals as goal

pub loop-fact-smaller : goal.loop-fact-smaller
loop-fact-smaller c =
    unknown_falls c.args.credentials.now c.in_ok-entities.entities.items c.deref.result.now c.loop-fact.facts.items c.deref-in-loop-fact.result.now
    c.push.new.self.items c.in-Some.fact c.deref.ensures.value c.deref-in-loop-fact.ensures.value c.in_ok-push.ensures.items c.in-Some.ensures.found

pub loop-fact-preserved : goal.loop-fact-preserved
loop-fact-preserved c = (
  sound_kept c.args.credentials.now c.deref.result.now c.loop-fact.facts.items c.deref-in-loop-fact.result.now
      c.push.new.self.items c.in-Some.fact c.deref-in-loop-fact.ensures.value c.in_ok-push.ensures.items c.loop-fact.invariant.0 c.in-Some.ensures.found,
  c.loop-fact.invariant.1,
)

pub returns-clause-sound : goal.returns-clause-sound
returns-clause-sound c = c.loop-fact.invariant.0

pub returns-clause-closed : goal.returns-clause-closed
returns-clause-closed c =
    let none : c.next_fact.result ≡ None = cc in
    closed_alike c.args.credentials.now c.deref.result.now (all_entities c.args.credentials.now)
    c.deref-in-loop-fact.result.now c.loop-fact.facts.items (c.deref.ensures.value ∙ c.loop-fact.invariant.1)
    c.deref-in-loop-fact.ensures.value
    (rw none at c.next_fact.ensures.closed)
