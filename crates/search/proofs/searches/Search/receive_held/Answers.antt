-- A held letter is awaited by its receiver, whose receipt keeps what a search keeps.
use Rattle.std.proofs.Common.{◌≡◌, ap, option_copied, refl, sym, subst, [], ℕ, List}
use Rattle.credential_text.specs.declared.exprs.Expr.{Expr}
use Rattle.cred_graph.specs.Graph.{IsNode}
use Rattle.vaults.specs.Journal.{credentials}
use Rattle.snapshots.specs.Snapshot.{SnapshotState, IsOrdered}
use Rattle.search.specs.declared.stages.Stage.TheVariants as stage
use Rattle.search.specs.Net.{IsLoad, Said, Words, load_at, outs_at, sent_of}
use Rattle.search.specs.Answers.{Progress, progress, Answers, Awaits}
use Rattle.search.specs.Stage.{HoldsLetter, letter_in}
use Rattle.search.specs.Search.{SearchState, IsKept, asked_role}
use Rattle.search.specs.Finish.{IsSpanFor, Receives}
use Rattle.search.specs.contracts.searches.Search.{the_view}
use Rattle.search.proofs.Searching.{held_awaits, held_loads, broken_kept}
use Rattle.search.proofs.Answered.{held_outstanding, same_question, settles}
use Rattle.search.proofs.Finishing.{held_letter_is, sent_receives, sent_kept}
use Rattle.search.proofs.searches.Search.receive_held.Goals as goal
use Rattle.search.proofs.searches.Search.receive_held.Goals.{After-clear, After-send}

in_hand : (c : After-clear) → HoldsLetter (the_view c.self.inside).stage c.args.letter c.args.held.now
in_hand c = subst (λ (x : SearchState). HoldsLetter x.stage c.args.letter c.args.held.now) (sym c.self.view_is) c.requires.held

pub receive-requires-clause-load : goal.receive-requires-clause-load
receive-requires-clause-load c =
    subst (λ (x : Progress). IsLoad x.graph.nodes c.args.held.now.load) (sym c.clear.ensures)
    (held_loads (the_view c.self.inside) c.self.invariant c.args.letter c.args.held.now (in_hand (goal.at.receive-requires-clause-load c).After-clear))

pub receive-requires-clause-none : goal.receive-requires-clause-none
receive-requires-clause-none c = ap (λ (x : Progress). x.outs) c.clear.ensures

pub receive-requires-clause-awaits : goal.receive-requires-clause-awaits
receive-requires-clause-awaits c =
    let h = c.args.held.now in
    let held = in_hand (goal.at.receive-requires-clause-awaits c).After-clear in
    let sent = sent_of c.self.inside.found.graph.nodes held.running.letters in (
      asked_role c.self.inside.query,
      sent,
      subst (λ (v : SnapshotState). Awaits (credentials v.vaults) (asked_role c.self.inside.query) c.clear.new.self.graph c.clear.new.self.monitors sent h.from h.to (load_at c.clear.new.self.graph.nodes h.load)) (sym c.deref-snapshot.ensures)
          (subst (λ (x : Progress). Awaits (credentials (the_view c.self.inside).snapshot.vaults) (asked_role c.self.inside.query) x.graph x.monitors sent h.from h.to (load_at x.graph.nodes h.load)) (sym c.clear.ensures)
          (held_awaits (the_view c.self.inside) c.self.invariant.rules c.args.letter h held)),
    )

pub send-requires : goal.send-requires
send-requires c =
    let held = in_hand (goal.at.send-requires c).After-clear in
    (held.running, held.runs, held.held, (c.self.invariant.rules held.running held.runs).within)

-- the answers that are sent, with numbers
abbrev outs : After-send → List (ℕ × Said)
outs c = c.send.ensures.sends.0

-- the receipt's row, by what the search reads and what is sent
row : (c : After-send) → Answers (the_view c.self.inside).snapshot.vaults (progress c.self.inside.found.graph c.self.inside.found.monitors []) (progress c.receive.new.found.graph c.receive.new.found.monitors (outs_at c.receive.new.found.graph.nodes (outs c))) c.args.held.now.from c.args.held.now.to (load_at c.self.inside.found.graph.nodes c.args.held.now.load)
row c =
    let t = c.receive.new.found in
    let k = c.args.held.now in
    subst (λ (words : List (ℕ × Words)). Answers (the_view c.self.inside).snapshot.vaults (progress c.self.inside.found.graph c.self.inside.found.monitors []) (progress t.graph t.monitors words) k.from k.to (load_at c.self.inside.found.graph.nodes k.load)) (sym c.send.ensures.sends.1)
    (subst (λ (v : SnapshotState). Answers v.vaults (progress c.self.inside.found.graph c.self.inside.found.monitors []) t k.from k.to (load_at c.self.inside.found.graph.nodes k.load)) c.deref-snapshot.ensures
    (subst (λ (x : Progress). Answers c.deref-snapshot.result.now.vaults (progress x.graph x.monitors []) t k.from k.to (load_at x.graph.nodes k.load)) c.clear.ensures c.in-Ok.ensures))

-- what a search is seen as once the answers are sent
abbrev sent_as : After-send → SearchState
sent_as c = record (the_view c.self.inside) { graph = c.receive.new.found.graph; monitors = c.receive.new.found.monitors; stage = c.send.new.stage }

sent_is : (c : After-send) → record (the_view c.self.inside) { graph = c.send.new.found.graph; monitors = c.send.new.found.monitors; stage = c.send.new.stage } ≡ sent_as c
sent_is c = λ i. record (the_view c.self.inside) { graph = c.send.ensures.findings.0 i; monitors = c.send.ensures.findings.1 i; stage = c.send.new.stage }

held_of : (c : After-send) → HoldsLetter (the_view c.self.inside).stage c.args.letter c.args.held.now
held_of c = subst (λ (x : SearchState). HoldsLetter x.stage c.args.letter c.args.held.now) (sym c.self.view_is) c.requires.held

kept : (c : After-send) → IsKept (sent_as c)
kept c =
    let s = the_view c.self.inside in
    let t = c.receive.new.found in
    let ordered = subst (λ (v : SnapshotState). IsOrdered v.vaults) c.deref-snapshot.ensures c.asker-asker.ensures.ordered in
    sent_kept s c.args.letter c.args.held.now (held_of c) t.graph t.monitors (outs c) (row c) c.self.invariant ordered c.send.ensures.sends.2 c.send.new.stage c.send.result c.send.ensures.sends.3

pub invariant_of-self : goal.invariant_of-self
invariant_of-self c =
    let after = (goal.at.invariant_of-self c).After-send in
    subst IsKept (sym (sent_is after)) (kept after)

pub returns-in-Ok-clause-receives : goal.returns-in-Ok-clause-receives
returns-in-Ok-clause-receives c =
    let after = (goal.at.returns-in-Ok-clause-receives c).After-send in
    let s = the_view c.self.inside in
    let t = c.receive.new.found in
    let received = sent_receives s c.args.letter c.args.held.now (held_of after) t.graph t.monitors (outs after) (row after) c.send.new.stage c.send.result c.send.ensures.sends.3 in
    subst (λ (x : SearchState). Receives x (record s { graph = c.send.new.found.graph; monitors = c.send.new.found.monitors; stage = c.send.new.stage }) c.args.letter (letter_in c.args.held.now) c.send.result) c.self.view_is
    (subst (λ (x : SearchState). Receives s x c.args.letter (letter_in c.args.held.now) c.send.result) (sym (sent_is after)) received)

pub returns-in-Ok-clause-settles : goal.returns-in-Ok-clause-settles
returns-in-Ok-clause-settles c =
    let after = (goal.at.returns-in-Ok-clause-settles c).After-send in
    let s = the_view c.self.inside in
    let h = c.args.held.now in
    let t : SearchState = record s { graph = c.send.new.found.graph; monitors = c.send.new.found.monitors; stage = c.send.new.stage } in
    settles c.self.view_is (same_question s t.graph t.monitors t.stage) (subst IsKept (sym (sent_is after)) (kept after))
    (held_outstanding s.stage c.args.letter (letter_in h) (held_letter_is s.stage c.args.letter h (held_of after)))

pub returns-in-Err-clause-settles : goal.returns-in-Err-clause-settles
returns-in-Err-clause-settles c =
    let s = the_view c.self.inside in
    let h = c.args.held.now in
    let t : SearchState = record s { graph = c.receive.new.found.graph; monitors = c.receive.new.found.monitors; stage = stage.Broken } in
    rw c.break_off.ensures (settles c.self.view_is (same_question s t.graph t.monitors stage.Broken) (broken_kept t refl)
    (held_outstanding s.stage c.args.letter (letter_in h) (held_letter_is s.stage c.args.letter h (in_hand (goal.at.returns-in-Err-clause-settles c).After-clear))))

pub receive-requires-clause-span : goal.receive-requires-clause-span
receive-requires-clause-span c = λ e at.
    let to = c.args.held.now.to in
    let span = subst (λ (x : SearchState). (e' : Expr) → IsNode x.graph to e' → IsSpanFor x.snapshot.vaults e' (option_copied c.args.looked_up)) (sym c.self.view_is) c.requires.span in
    rw c.deref-snapshot.ensures (span e (rw c.clear.ensures at at))
