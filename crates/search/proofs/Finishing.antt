-- The finish of a letter does to a search what its result says, and keeps what a search keeps.
use Rattle.std.proofs.Common.{ℕ, ◌+◌, ◌<◌, ◌≤◌, ◌≡◌, ◌∙◌, refl, sym, subst, ap, false, List, [], Some, length, get_or, arith, inl, true, Option, None, slice_get}
use Rattle.names.specs.declared.roles.Role.{Role}
use Rattle.rt0_rules.specs.Work.{WorkExceeds}
use Rattle.vaults.specs.Journal.{Vault}
use Rattle.snapshots.specs.Snapshot.{SnapshotState, IsOrdered}
use Rattle.cred_graph.specs.Graph.{GraphState, IsNode}
use Rattle.credential_text.specs.declared.exprs.Expr.{Expr}
use Rattle.credential_text.specs.declared.exprs.Expr.TheVariants.{Ent, Rol, Link, Meet}
use Rattle.std.proofs.lemmas.List.{length-map}
use Rattle.std.proofs.lemmas.Option.{slice_get-get_or, same_Some, slice_get_within}
use Rattle.scholten_core.specs.declared.letters.Letter.{Letter}
use Rattle.scholten_core.specs.Computation.{Computation}
use Rattle.scholten_core.specs.Step.{FinishesLetter}
use Rattle.search.specs.declared.letters.Load.{Load}
use Rattle.search.specs.declared.letters.Held.{Held}
use Rattle.search.specs.declared.findings.Monitor.{Monitor}
use Rattle.search.specs.declared.queries.Hint.{Hint}
use Rattle.search.specs.declared.outcomes.Finished.{Finished}
use Rattle.search.specs.declared.stages.Stage.{Stage}
use Rattle.search.specs.Net.{load_at, outs_at, sent_of, IsLoad}
use Rattle.search.specs.Answers.{Progress, progress, Answers}
use Rattle.search.specs.Finish.{IsSpanFor, need_of, right_hint, rows_for, span_in, IsRightly, Receives, Finishes, Takes, TakesHeld}
use Rattle.search.specs.Stage.{HoldsLetter, letter_in, held_in, if_held, stage_marked, Sends, waiting_in, Holds}
use Rattle.search.specs.Search.{SearchState, KeptBy, IsKept, asked_role, rows_of, Settles, settled_of}
use Rattle.search.proofs.Kept.{one_expr}
use Rattle.search.proofs.Numbered.{AreLoads, HasMore, prefix_more}
use Rattle.search.proofs.Receive.{Receipt, receipt, done_kept, done_tallied, work_exceeds}
use Rattle.search.proofs.Searching.{held_awaits, held_loads, taken_to, marked_stage_kept, same_running}
use Rattle.search.proofs.Answered.{same_question, waits_outstanding, settles}
use Rattle.std.specs.Option.{IfSome, MatchOption}
use Rattle.search.specs.declared.queries.Need.{Need}
use Rattle.search.specs.declared.letters.Load.TheVariants as load
use Rattle.search.specs.declared.outcomes.Finished.TheVariants as finished
use Rattle.search.specs.declared.stages.Stage.TheVariants as stage

-- the letter in hand is the held letter of its number
pub held_letter_is : (st : Stage) (number : ℕ) (h : Held (Load ℕ)) → HoldsLetter st number h → held_in st number ≡ Some (letter_in h)
held_letter_is st number h held = subst (λ (s : Stage). held_in s number ≡ Some (letter_in h)) (sym held.runs) (ap if_held held.letter)

-- the hint is right for the need of the letter, whatever is known of its receiver
pub rightly : (s : SearchState) (number : ℕ) (hint : Hint) (h : Held (Load ℕ)) (view : SnapshotState) → view ≡ s.snapshot → HoldsLetter s.stage number h →
    ((e : Expr) → IsNode s.graph h.to e → hint ≡ right_hint view.vaults (need_of e h.load)) → IsRightly s number hint (letter_in h)
rightly s number hint h view same held right = record {
  held = held_letter_is s.stage number h held;
  hint_is = λ need needs.
      right needs.0 needs.1 ∙ ap (λ (v : SnapshotState). right_hint v.vaults (need_of needs.0 h.load)) same ∙ ap (right_hint s.snapshot.vaults) (sym needs.2);
}

-- what the snapshot says of the need of the letter in hand is right for it
pub rightly_needed : (s : SearchState) (number : ℕ) (h : Held (Load ℕ)) (e : Expr) → IsNode s.graph h.to e → HoldsLetter s.stage number h → IsRightly s number (right_hint s.snapshot.vaults (need_of e h.load)) (letter_in h)
rightly_needed s number h e at held = record {
  held = held_letter_is s.stage number h held;
  hint_is = λ need needs.
      ap (λ (x : Expr). right_hint s.snapshot.vaults (need_of x h.load)) (one_expr s.graph h.to e needs.0 at needs.1) ∙ ap (right_hint s.snapshot.vaults) (sym needs.2);
}

-- a letter that was received is finished with a hint that is right for it
pub finishes_rightly : (s t : SearchState) (number : ℕ) (hint : Hint) (l : Letter (Load ℕ)) → IsRightly s number hint l → (result : Finished) → Receives s t number l result → Finishes s t number hint result
finishes_rightly s t number hint l right finished.NotHeld receives = absurd receives
finishes_rightly s t number hint l right finished.BadHint receives = absurd receives
finishes_rightly s t number hint l right _ receives = (l, right, receives)

-- a hint that is right says where the rows stand of the role that it is for
pub span_for : (view : List Vault) (e : Expr) (l : Load ℕ) (hint : Hint) → hint ≡ right_hint view (need_of e l) → IsSpanFor view e (span_in hint)
span_for view e l hint is = subst (λ (x : Hint). IsSpanFor view e (span_in x)) (sym is) (needed e l)
  where
    opened : (f : Expr) → IsSpanFor view f (span_in (right_hint view (rows_for f)))
    opened (Ent d) = tt
    opened (Rol r) = refl
    opened (Link r name) = tt
    opened (Meet parts) = tt

    needed : (f : Expr) (k : Load ℕ) → IsSpanFor view f (span_in (right_hint view (need_of f k)))
    needed f load.Start = opened f
    needed f (load.Ask p) = opened f
    needed f (load.Tell p who) = tt

-- a search that is settled for want of work or memory doesn't run
abbrev runs : Stage → Type 0
runs (stage.Running c) = Unit {0}
runs stage.Spent = ⊥
runs stage.Broken = ⊥

abbrev is_spent : Stage → Type 0
is_spent stage.Spent = Unit {0}
is_spent (stage.Running c) = ⊥
is_spent stage.Broken = ⊥

-- where a search runs after a letter was finished, it ran before
pub record RanBefore (old : Stage) (work number : ℕ) (outs : List (ℕ × Load ℕ)) (after : Computation (Load ℕ)) : Type 0 where
  pub before : Computation (Load ℕ)
  pub ran : old ≡ stage.Running before
  pub within : before.sent + length outs ≤ work
  pub finishes : FinishesLetter before number outs after

sent_from : (old new : Stage) (work number : ℕ) (outs : List (ℕ × Load ℕ)) (result : Finished) → Sends old new work number outs result → (e : Computation (Load ℕ)) → new ≡ stage.Running e → RanBefore old work number outs e
sent_from old new work number outs finished.Done (c, d, ran, running, within, finishes) e now =
    record { before = c; ran = ran; within = within; finishes = subst (FinishesLetter c number outs) (same_running d e (sym running ∙ now)) finishes }
sent_from old new work number outs finished.Spent (c, ran, over, is) e now = absurd (subst runs (sym now ∙ is) tt)
sent_from old new work number outs finished.Broken (c, ran, within, is) e now = absurd (subst runs (sym now ∙ is) tt)
sent_from old new work number outs _ sent e now = absurd sent

-- where a search is spent after a letter was finished, what was sent with the answers is above the limit
spent_from : (old new : Stage) (work number : ℕ) (outs : List (ℕ × Load ℕ)) (result : Finished) → Sends old new work number outs result → new ≡ stage.Spent → (c : Computation (Load ℕ)) × (old ≡ stage.Running c) × (work < c.sent + length outs)
spent_from old new work number outs finished.Done (c, d, ran, running, within, finishes) now = absurd (subst is_spent (sym now ∙ running) tt)
spent_from old new work number outs finished.Spent (c, ran, over, is) now = (c, ran, over)
spent_from old new work number outs finished.Broken (c, ran, within, is) now = absurd (subst is_spent (sym now ∙ is) tt)
spent_from old new work number outs _ sent now = absurd sent

module _ (s : SearchState) (number : ℕ) (h : Held (Load ℕ)) (held : HoldsLetter s.stage number h)
    (g : GraphState) (ms : List Monitor) (outs : List (ℕ × Load ℕ)) (row : Answers s.snapshot.vaults (progress s.graph s.monitors []) (progress g ms (outs_at g.nodes outs)) h.from h.to (load_at s.graph.nodes h.load)) where
  abbrev reached : Progress
  reached = progress g ms (outs_at g.nodes outs)

  -- as many answers are sent, in whatever words
  same_count : length reached.outs ≡ length outs
  same_count = length-map {B = ℕ × Load (List ℕ)} outs (λ (o : ℕ × Load ℕ). (o.0, load_at g.nodes o.1))

  abbrev after : Stage → SearchState
  after st = record s { graph = g; monitors = ms; stage = st }

  pub sent_receives : (st : Stage) (result : Finished) → Sends s.stage st s.work number outs result → Receives s (after st) number (letter_in h) result
  sent_receives st finished.Done (c, d, ran, running, within, finishes) =
      (record { before = c; after = d; outs = outs; ran = ran; runs = running; finishes = finishes; within = within; row = row }, same_question s g ms st)
  sent_receives st finished.Spent (c, ran, over, is) =
      (record { before = c; reached = reached; ran = ran; row = row; over = omega (arith, over, same_count) }, is, same_question s g ms st)
  sent_receives st finished.Broken (c, ran, within, is) = (is, same_question s g ms st)
  sent_receives st _ sent = absurd sent

  module _ (kept : IsKept s) (ordered : IsOrdered s.snapshot.vaults) (are : AreLoads g.nodes outs) where
    abbrev asked : Role
    asked = asked_role s.query

    abbrev kept_now : KeptBy (rows_of s) asked s.work s.graph s.monitors held.running
    kept_now = kept.rules held.running held.runs

    abbrev paid : Receipt s.snapshot.vaults asked (sent_of s.graph.nodes held.running.letters) ordered (progress s.graph s.monitors []) reached h.from h.to (load_at s.graph.nodes h.load)
    paid = receipt s.snapshot.vaults asked (sent_of s.graph.nodes held.running.letters) ordered s.graph s.monitors reached h.from h.to (load_at s.graph.nodes h.load) (held_awaits s kept.rules number h held) row

    -- nodes were added alone
    more : HasMore s.graph.nodes g.nodes
    more = prefix_more s.graph.nodes g.nodes paid.grows.nodes

    as_held : (c : Computation (Load ℕ)) → s.stage ≡ stage.Running c → c ≡ held.running
    as_held c ran = sym (same_running held.running c (sym held.runs ∙ ran))

    done_rules : (c d : Computation (Load ℕ)) → s.stage ≡ stage.Running c → c.sent + length outs ≤ s.work → FinishesLetter c number outs d → KeptBy (rows_of s) asked s.work g ms d
    done_rules c d ran within finishes =
        let finishes' : FinishesLetter held.running number outs d = subst (λ (x : Computation (Load ℕ)). FinishesLetter x number outs d) (as_held c ran) finishes in
        let within' : held.running.sent + length outs ≤ s.work = subst (λ (x : Computation (Load ℕ)). x.sent + length outs ≤ s.work) (as_held c ran) within in
        done_kept s.snapshot.vaults asked s.work s.graph s.monitors held.running number (letter_in h) reached ordered kept_now held.by_number held.letter paid d outs finishes' refl more are within'
        (done_tallied s.snapshot.vaults asked s.work s.graph s.monitors held.running number (letter_in h) reached ordered kept_now held.by_number held.letter held.numbers kept_now.tallied row d outs finishes' refl more)

    spent_limit : (c : Computation (Load ℕ)) → s.stage ≡ stage.Running c → s.work < c.sent + length outs → WorkExceeds (rows_of s) asked s.work
    spent_limit c ran over =
        let over' : s.work < held.running.sent + length outs = subst (λ (x : Computation (Load ℕ)). s.work < x.sent + length outs) (as_held c ran) over in
        work_exceeds s.snapshot.vaults asked s.work s.graph s.monitors held.running number (letter_in h) reached ordered kept_now held.by_number held.letter held.numbers kept_now.tallied row (omega (arith, over', same_count))

    pub sent_kept : (st : Stage) (result : Finished) → Sends s.stage st s.work number outs result → IsKept (after st)
    sent_kept st result sends = record {
      rules = λ e now. let ran = sent_from s.stage st s.work number outs result sends e now in done_rules ran.before e ran.ran ran.within ran.finishes;
      limit = λ now. let ran = spent_from s.stage st s.work number outs result sends now in spent_limit ran.0 ran.1 ran.2;
    }

-- a hint that isn't right for the need of the letter
pub wrongly : (s : SearchState) (number : ℕ) (hint : Hint) (h : Held (Load ℕ)) (view : SnapshotState) → view ≡ s.snapshot → HoldsLetter s.stage number h → h.to < length s.graph.nodes →
    (((e : Expr) → IsNode s.graph h.to e → hint ≡ right_hint view.vaults (need_of e h.load)) → ⊥) → Finishes s (record s { stage = stage_marked number false s.stage }) number hint finished.BadHint
wrongly s number hint h view same held node_in wrong =
    let e : Expr = get_or s.graph.nodes h.to (Ent []) in
    let at : IsNode s.graph h.to e = slice_get-get_or s.graph.nodes h.to (Ent []) node_in in (
      letter_in h,
      need_of e h.load,
      held_letter_is s.stage number h held,
      (e, at, refl),
      λ right. wrong (λ f there. subst (λ (x : Expr). hint ≡ right_hint view.vaults (need_of x h.load)) (one_expr s.graph h.to e f at there) (subst (λ (v : SnapshotState). hint ≡ right_hint v.vaults (need_of e h.load)) (sym same) right)),
      refl,
    )

-- the waiting letter at a place is taken, if there is one

-- the waiting letter at a place is taken, and is in hand
abbrev pub HoldsInHand : Stage → Stage → ℕ → ℕ → Held (Load ℕ) → Type 0
HoldsInHand old new place number h = (l : Letter (Load ℕ)) × Holds old new place number l × HoldsLetter new number h

-- the letter in hand is the one that was taken
same_letter : (old new : Stage) (place number : ℕ) (l : Letter (Load ℕ)) (h : Held (Load ℕ)) → Holds old new place number l → HoldsLetter new number h → record l { held = true } ≡ letter_in h
same_letter old new place number l h holds in_hand = same_Some (record l { held = true }) (letter_in h) (sym holds.held ∙ held_letter_is new number h in_hand)

-- so it needs what its receiver's expression says
pub hand_needs : (s t : SearchState) (place number : ℕ) (h : Held (Load ℕ)) (took : TakesHeld s t place number h) → (e : Expr) × IsNode s.graph h.to e × (took.0 ≡ need_of e h.load)
hand_needs s t place number h (need, takes, in_hand) =
    let same = same_letter s.stage t.stage place number takes.letter h takes.holds in_hand in (
      takes.needs.0,
      subst (λ (n : ℕ). IsNode s.graph n takes.needs.0) (ap (λ (l : Letter (Load ℕ)). l.to) same) takes.needs.1,
      takes.needs.2 ∙ ap (need_of takes.needs.0) (ap (λ (l : Letter (Load ℕ)). l.load) same),
    )

-- there is no letter at the place, or it is taken
abbrev pub MayTake : SearchState → SearchState → ℕ → Option (ℕ × Held (Load ℕ)) → Type 0
MayTake s t place r = MatchOption r ((slice_get (waiting_in s.stage) place ≡ None) × (t ≡ s)) (λ x. TakesHeld s t place x.0 x.1)

-- what a search is then
pub record TakenOrNot (s : SearchState) (st : Stage) (place : ℕ) (r : Option (ℕ × Held (Load ℕ))) : Type 0 where
  pub taken : MayTake s (record s { stage = st }) place r
  pub kept : IsKept (record s { stage = st })
  pub settles : Settles s (record s { stage = st })

module _ (s : SearchState) (st : Stage) (place : ℕ) (kept : IsKept s) where
  some_taken : (number : ℕ) (h : Held (Load ℕ)) → HoldsInHand s.stage st place number h → TakenOrNot s st place (Some (number, h))
  some_taken number h (l, holds, in_hand) =
      let e : Expr = get_or s.graph.nodes l.to (Ent []) in
      let at : IsNode s.graph l.to e = slice_get-get_or s.graph.nodes l.to (Ent []) (taken_to s st place number l kept.rules holds) in
      let after = marked_stage_kept s st number true kept holds.marked in
      record {
        taken = (need_of e l.load, record { letter = l; holds = holds; needs = (e, at, refl); after = refl }, in_hand);
        kept = after;
        settles = settles refl (same_question s s.graph s.monitors st) after (waits_outstanding s.stage place (number, l) holds.waited);
      }

  none_taken : slice_get (waiting_in s.stage) place ≡ None → st ≡ s.stage → TakenOrNot s st place None
  none_taken none same =
      let is : record s { stage = st } ≡ s = ap (λ (x : Stage). record s { stage = x }) same in
      record { taken = (none, is); kept = subst IsKept (sym is) kept; settles = inl (ap settled_of is) }

pub taken_or_not : (s : SearchState) (st : Stage) (place : ℕ) (r : Option (ℕ × Held (Load ℕ))) → IsKept s → MatchOption r ((slice_get (waiting_in s.stage) place ≡ None) × (st ≡ s.stage)) (λ x. HoldsInHand s.stage st place x.0 x.1) → TakenOrNot s st place r
taken_or_not s st place None kept (none, same) = none_taken s st place kept none same
taken_or_not s st place (Some (number, h)) kept holds = some_taken s st place kept number h holds

-- what the letter in hand needs is what its receiver's expression says
pub takes_needing : (s t : SearchState) (place number : ℕ) (k : Held (Load ℕ)) (need : Need) → TakesHeld s t place number k →
    (e : Expr) × IsNode t.graph k.to e × (need ≡ need_of e k.load) → Takes s t place number need
takes_needing s t place number k need took (e, at, needs) =
    let (f, node, is_need) = hand_needs s t place number k took in
    let same : t.graph ≡ s.graph = ap (λ (x : SearchState). x.graph) took.1.after in
    let at' : IsNode s.graph k.to e = subst (λ (g : GraphState). IsNode g k.to e) same at in
    let one : e ≡ f = same_Some e f (sym at' ∙ node) in
    let is : need ≡ took.0 = needs ∙ ap (λ (x : Expr). need_of x k.load) one ∙ sym is_need in
    subst (λ (n : Need). Takes s t place number n) (sym is) took.1

-- its receiver is a node still
pub taken_there : (s t : SearchState) (place number : ℕ) (k : Held (Load ℕ)) → TakesHeld s t place number k → k.to < length t.graph.nodes
taken_there s t place number k took =
    let (e, node, is_need) = hand_needs s t place number k took in
    subst (λ (x : SearchState). k.to < length x.graph.nodes) (sym took.1.after) (slice_get_within s.graph.nodes k.to e node)

-- the numbers in the letter that is taken are entities'
pub taken_loads : (s : SearchState) (st : Stage) (place : ℕ) (r : Option (ℕ × Held (Load ℕ))) → TakenOrNot s st place r → IfSome r (λ x. IsLoad s.graph.nodes x.1.load)
taken_loads s st place None taken = tt
taken_loads s st place (Some (number, h)) taken = held_loads (record s { stage = st }) taken.kept number h taken.taken.2
