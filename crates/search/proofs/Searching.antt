-- What a search keeps gives its status, and is kept by its calls.
use Rattle.std.proofs.Common.{ℕ, ◌≡◌, refl, sym, subst, ap, ◌∙◌, Bool, true, Some, Option, IsTrue, ◌+◌, ◌==◌, false, not, cond, List, [], ◌∷◌, ◌++◌, None, filter, slice_get, ◌*◌, ◌-◌, ◌<◌, ◌≤◌, length, length-append, arith, zero, suc, ◌↔◌, inl, inr, Contains}
use Rattle.std.specs.Option.{IsSomeAnd, IfSome}
use Rattle.scholten_core.specs.declared.letters.Letter.{Letter}
use Rattle.scholten_core.specs.Computation.{Computation, StandByNumber, letter_of, outstanding, waiting}
use Rattle.scholten_core.specs.Sound.{IsNumbered}
use Rattle.search.specs.declared.letters.Load.{Load}
use Rattle.search.specs.declared.stages.Stage.{Stage}
use Rattle.search.specs.Stage.{HoldsLetter, waiting_in, held_in, if_held, stage_marked, Holds, IsQuiet, NoneHeld, letter_in, Delivers}
use Rattle.std.specs.Map.{lookup}
use Rattle.std.proofs.lemmas.Bool.{eq-eqb, false≢true}
use Rattle.scholten_core.specs.declared.parents.Parent.{Parent}
use Rattle.scholten_core.specs.declared.parents.Parent.TheVariants.{Node, Environment}
use Rattle.scholten_core.specs.Step.{numbered, TakesLetter, FinishesLetter, DeliversSignal, mark, started, marked}
use Rattle.scholten_core.proofs.Lists.{lookup_from_filter, filter_passes}
use Rattle.search.specs.Search.{IsOutstanding, SearchState, KeptBy, IsKept, IsCompleted, asked_role, rows_of, net_of}
use Rattle.search.proofs.Numbered.{lookup-rest, lookup-rest_other, lookup-changed_other, numbered_before, rest_shorter, start_says}
use Rattle.std.proofs.lemmas.List.{length-map, nil_from_length}
use Rattle.std.proofs.lemmas.Map.Entries.{All-lookup}
use Rattle.std.proofs.lemmas.Option.{none-some, same_Some, slice_get_within}
use Rattle.names.specs.declared.roles.Role.{Role}
use Rattle.credential_text.specs.declared.credentials.Credential.{Credential}
use Rattle.credential_text.specs.declared.exprs.Expr.{Expr}
use Rattle.credential_text.specs.declared.exprs.Expr.TheVariants.{Rol, Meet}
use Rattle.rt0_rules.specs.Membership.{IsMember}
use Rattle.rt0_rules.specs.Asks.{Demanded, asked_role as asked_itself}
use Rattle.rt0_rules.specs.FixedPoint.{IsExact}
use Rattle.rt0_rules.proofs.FixedPoint.{exact}
use Rattle.rt0_rules.proofs.Elements.{Contains-none, Contains-first, Contains-cons_cases}
use Rattle.rt0_rules.proofs.Distinct.{filtered}
use Rattle.rt0_rules.proofs.Unknown.{Contains-map}
use Rattle.cred_graph.proofs.NodeListLemmas.{Contains-at_place}
use Rattle.cred_graph.specs.declared.listeners.Port.{Port}
use Rattle.cred_graph.specs.Graph.{GraphState, IsNode, IsSolution, Known, Listens, members_of, IsGraph}
use Rattle.rt0_rules.specs.Work.{WorkExceeds}
use Rattle.search.specs.declared.letters.Held.{Held}
use Rattle.search.specs.declared.findings.Monitor.{Monitor}
use Rattle.search.specs.Net.{IsLoad, Net, Sent, in_words, load_at, sent_of, IsPendingBetween, IsOpen, LetterFits, IsRight, IsPaid, IsJustified, OwesRules}
use Rattle.search.specs.Answers.{Awaits}
use Rattle.search.proofs.Told.{owes_rules}
use Rattle.search.proofs.Kept.{solution_of_member, member_of_solution}
use Rattle.search.proofs.Receive.{awaits_letter, marked_kept, signalled_kept, receiver_in, MayAsk}
use Rattle.search.proofs.WorkOf.{opened_counted}
use Rattle.search.specs.declared.stages.Stage.TheVariants as stage
use Rattle.search.specs.declared.letters.Load.TheVariants as load
use Rattle.search.specs.declared.findings.Monitor.TheVariants as monitor

-- a letter in the hands of who finishes it

pub holds_letter : (old : Stage) (c : Computation (Load ℕ)) (number : ℕ) (l : Letter (Load ℕ)) → old ≡ stage.Running c → Some l ≡ letter_of c number → l.held ≡ true → StandByNumber c → IsNumbered 0 c.letters c.sent →
    HoldsLetter old number (record { from = l.from; to = l.to; load = l.load })
holds_letter old c number l runs is held by numbers =
    let as_held : l ≡ record l { held = true } = subst (λ (b : Bool). l ≡ record l { held = b }) held refl in
    record {
      running = c;
      runs = runs;
      letter = sym is ∙ ap Some as_held;
      held = subst (λ (o : Option (Letter (Load ℕ))). IsSomeAnd o (λ k. IsTrue k.held)) is held;
      by_number = by;
      numbers = numbers;
    }

pub same_running : (c d : Computation (Load ℕ)) → stage.Running c ≡ stage.Running d → c ≡ d
same_running c d e = cc

-- which letters are held after a step of the computation

-- a letter that waits isn't held
not_held : (l : Letter (Load ℕ)) → not l.held ≡ true → if_held (Some l) ≡ None
not_held l waits =
    elim l.held as (λ b. not b ≡ true → cond b (Some l) None ≡ None) [ true ↦ λ no. absurd (false≢true no) | false ↦ λ _. refl ] waits

-- a waiting letter is taken: it stands in the hands of who took it
pub holds_taken : (old : Stage) (c d : Computation (Load ℕ)) (place number : ℕ) (l : Letter (Load ℕ)) → old ≡ stage.Running c → TakesLetter c place number d → Some l ≡ letter_of d number → StandByNumber d →
    (x : Letter (Load ℕ)) × Holds old (stage.Running d) place number x × HoldsLetter (stage.Running d) number (record { from = l.from; to = l.to; load = l.load })
holds_taken old c d place number l ran takes is by =
    let same : Some (record takes.letter { held = true }) ≡ Some l = sym takes.taken ∙ sym is in
    let l_is : record takes.letter { held = true } ≡ l = cc in
    let low = numbered_before number (λ (x : Letter (Load ℕ)). record x { held = true }) 0 c.letters d.sent (subst (λ (x : Computation (Load ℕ)). IsNumbered 0 x.letters d.sent) takes.marked takes.sound.numbers) in
    let before : letter_of c number ≡ Some takes.letter = lookup_from_filter (λ (x : ℕ × Letter (Load ℕ)). not x.1.held) 0 c.letters d.sent place number takes.letter low takes.waited in (
      takes.letter,
      record {
        waited = subst (λ (s : Stage). slice_get (waiting_in s) place ≡ Some (number, takes.letter)) (sym ran) takes.waited;
        marked = ap stage.Running takes.marked ∙ ap (stage_marked number true) (sym ran);
        free = ap (λ (s : Stage). held_in s number) ran ∙ ap if_held before ∙ not_held takes.letter (filter_passes (λ (x : ℕ × Letter (Load ℕ)). not x.1.held) c.letters place (number, takes.letter) takes.waited);
        held = ap if_held takes.taken;
      },
      holds_letter (stage.Running d) d number l refl is (sym (ap (λ (x : Letter (Load ℕ)). x.held) l_is)) by takes.sound.numbers,
    )

-- letters that are sent wait
numbered_wait : (n k : ℕ) (from : Parent) (outs : List (ℕ × Load ℕ)) → if_held (lookup (λ m. m == n) (numbered from k outs)) ≡ None
numbered_wait n k from [] = refl
numbered_wait n k from (o ∷ outs) =
    elim (k == n) as (λ b. if_held (cond b (Some (record { from = from; to = o.0; held = false; load = o.1 })) (lookup (λ m. m == n) (numbered from (k + 1) outs))) ≡ None) [
      | true ↦ refl
      | false ↦ numbered_wait n (k + 1) from outs
    ]

-- where more letters wait, the held ones are the same
held-append : (n : ℕ) (ls more : List (ℕ × Letter (Load ℕ))) → if_held (lookup (λ m. m == n) more) ≡ None → if_held (lookup (λ m. m == n) (ls ++ more)) ≡ if_held (lookup (λ m. m == n) ls)
held-append n [] more none = none
held-append n (l ∷ ls) more none =
    elim (l.0 == n) as (λ b. if_held (cond b (Some l.1) (lookup (λ m. m == n) (ls ++ more))) ≡ if_held (cond b (Some l.1) (lookup (λ m. m == n) ls))) [
      | true ↦ refl
      | false ↦ held-append n ls more none
    ]

module _ (c d : Computation (Load ℕ)) (number : ℕ) (outs : List (ℕ × Load ℕ)) (finishes : FinishesLetter c number outs d) where
  after_finish : (n : ℕ) → if_held (letter_of d n) ≡ if_held (lookup (λ m. m == n) (filter (λ l. not (l.0 == number)) c.letters))
  after_finish n =
      ap (λ (ls : List (ℕ × Letter (Load ℕ))). if_held (lookup (λ m. m == n) ls)) finishes.letters
      ∙ held-append n (filter (λ l. not (l.0 == number)) c.letters) (numbered (Node finishes.letter.to) (c.sent + 1) outs) (numbered_wait n (c.sent + 1) (Node finishes.letter.to) outs)

  -- the finished letter is no longer held
  pub finished_gone : held_in (stage.Running d) number ≡ None
  finished_gone = after_finish number ∙ ap if_held (lookup-rest number c.letters)

  -- each other letter stays in the hands that it is in
  pub finished_other : (n : ℕ) → (number == n) ≡ false → held_in (stage.Running d) n ≡ held_in (stage.Running c) n
  finished_other n other = after_finish n ∙ ap if_held (lookup-rest_other number n other c.letters)

pub marked_other : (number n : ℕ) (held : Bool) (st : Stage) → (number == n) ≡ false → held_in (stage_marked number held st) n ≡ held_in st n
marked_other number n held (stage.Running c) other = ap if_held (lookup-changed_other number n other (λ (l : Letter (Load ℕ)). record l { held = held }) c.letters)
marked_other number n held _ other = refl

pub signalled_holds : (old new : Stage) (c d : Computation (Load ℕ)) (place n : ℕ) → old ≡ stage.Running c → new ≡ stage.Running d → DeliversSignal c place d → held_in new n ≡ held_in old n
signalled_holds old new c d place n ran runs delivers =
    ap (λ (s : Stage). held_in s n) runs ∙ ap (λ (ls : List (ℕ × Letter (Load ℕ))). if_held (lookup (λ m. m == n) ls)) delivers.letters ∙ ap (λ (s : Stage). held_in s n) (sym ran)

-- where no letter waits and none is held there is none
none_left : (letters : List (ℕ × Letter (Load ℕ))) → filter (λ l. not l.1.held) letters ≡ [] → ((n : ℕ) → if_held (lookup (λ m. m == n) letters) ≡ None) → letters ≡ []
none_left [] quiet none = refl
none_left (l ∷ letters) quiet none =
    let first : if_held (Some l.1) ≡ None = ap (λ b. if_held (cond b (Some l.1) (lookup (λ m. m == l.0) letters))) (sym (eq-eqb l.0 l.0 refl)) ∙ none l.0 in
    elim l.1.held as (λ b. cond (not b) (l ∷ filter (λ e. not e.1.held) letters) (filter (λ e. not e.1.held) letters) ≡ [] → cond b (Some l.1) None ≡ None → l ∷ letters ≡ []) [
      | true ↦ λ _ there. cc
      | false ↦ λ some _. cc
    ] quiet first

-- so where nothing moves a search has ended
pub settles : (st : Stage) (c : Computation (Load ℕ)) → st ≡ stage.Running c → (c.letters ≡ [] → c.signals ≡ [] → outstanding c ≡ 0) → IsQuiet st → NoneHeld st → IsOutstanding st → ⊥
settles st c runs ends =
    subst (λ (s : Stage). IsQuiet s → NoneHeld s → IsOutstanding s → ⊥) (sym runs)
    (λ quiet none outstanding. outstanding (ends (none_left c.letters quiet.0 none) quiet.1))

-- how many steps a search may make at the most, letter by letter and signal by signal

-- each letter that may still be sent is a letter and, once finished, an engagement or a signal
abbrev pub steps_left : ℕ → Stage → ℕ
steps_left work (stage.Running c) = 2 * (work - c.sent) + outstanding c + length c.letters
steps_left work stage.Spent = 0
steps_left work stage.Broken = 0

pub marked_left : (work number : ℕ) (held : Bool) (st : Stage) → steps_left work (stage_marked number held st) ≡ steps_left work st
marked_left work number held (stage.Running c) = omega (arith, length-map c.letters (mark number held))
marked_left work number held _ = refl

-- who holds a letter may finish it
found : (o : Option (Letter (Load ℕ))) (l : Letter (Load ℕ)) → if_held o ≡ Some l → (x : Letter (Load ℕ)) × (o ≡ Some x)
found None l is = cc
found (Some x) l is = (x, refl)

pub held_left : (work number : ℕ) (l : Letter (Load ℕ)) (st : Stage) → held_in st number ≡ Some l → 0 < steps_left work st
held_left work number l (stage.Running c) is =
    let there = found (letter_of c number) l is in
    omega (arith, rest_shorter number c.letters there.0 there.1)
held_left work number l _ is = cc

length-numbered : (from : Parent) (k : ℕ) (outs : List (ℕ × Load ℕ)) → length (numbered from k outs) ≡ length outs
length-numbered from k [] = refl
length-numbered from k (o ∷ outs) = omega (arith, length-numbered from (k + 1) outs)

-- a finished letter is a step
pub finished_left : (work : ℕ) (c d : Computation (Load ℕ)) (number : ℕ) (outs : List (ℕ × Load ℕ)) (l : Letter (Load ℕ)) → FinishesLetter c number outs d →
    held_in (stage.Running c) number ≡ Some l → c.sent + length outs ≤ work → steps_left work (stage.Running d) < steps_left work (stage.Running c)
finished_left work c d number outs l finishes is within =
    let there = found (letter_of c number) l is in
    let rest = filter (λ (x : ℕ × Letter (Load ℕ)). not (x.0 == number)) c.letters in
    let more = numbered (Node finishes.letter.to) (c.sent + 1) outs in
    let less : length rest + 1 ≤ length c.letters = rest_shorter number c.letters there.0 there.1 in
    let few : length more ≡ length outs = length-numbered (Node finishes.letter.to) (c.sent + 1) outs in
    let all : length d.letters ≡ length rest + length more = ap length finishes.letters ∙ length-append rest more in
    omega (arith, finishes.sent, finishes.more)

-- a delivered signal is a step
pub signalled_left : (work : ℕ) (c d : Computation (Load ℕ)) (place : ℕ) → DeliversSignal c place d → steps_left work (stage.Running d) < steps_left work (stage.Running c)
signalled_left work c d place delivers = omega (arith, delivers.sent, delivers.less, ap length delivers.letters)

abbrev pub KeepsRules : SearchState → Type 0
KeepsRules s = (c : Computation (Load ℕ)) → s.stage ≡ stage.Running c → KeptBy (rows_of s) (asked_role s.query) s.work s.graph s.monitors c

abbrev KeepsLimit : SearchState → Type 0
KeepsLimit s = s.stage ≡ stage.Spent → WorkExceeds (rows_of s) (asked_role s.query) s.work

-- the graph of a search just opened
abbrev pub first_graph : Role → GraphState
first_graph role = record { nodes = Rol role ∷ []; listeners = [] ∷ []; solutions = [] }

abbrev is_plain : Monitor → Type 0
is_plain monitor.Plain = Unit {0}
is_plain _ = ⊥

abbrev is_role : Expr → Type 0
is_role (Rol r) = Unit {0}
is_role _ = ⊥

module _ (rows : List Credential) (role : Role) where
  abbrev start : Sent
  start = record { from = Environment; to = 0; load = load.Start }

  abbrev first_net : Net
  first_net = record { graph = first_graph role; monitors = monitor.Plain ∷ []; pending = start ∷ [] }

  only_node : (n : ℕ) (e : Expr) → IsNode (first_graph role) n e → (n ≡ 0) × (Rol role ≡ e)
  only_node zero e at = (refl, same_Some (Rol role) e at)
  only_node (suc n) e at = absurd (none-some e at)

  no_listener : (n : ℕ) (m : ℕ) (p : Port (List ℕ)) → Listens (first_graph role) n (record { asker = m; port = p }) → ⊥
  no_listener zero m p among = Contains-none (record { asker = m; port = p }) among
  no_listener (suc n) m p among = Contains-none (record { asker = m; port = p }) among

  no_monitor : (m : ℕ) (x : Monitor) → slice_get (monitor.Plain ∷ []) m ≡ Some x → monitor.Plain ≡ x
  no_monitor zero x at = same_Some monitor.Plain x at
  no_monitor (suc m) x at = absurd (none-some x at)

  first_right : IsGraph (first_graph role) → IsRight rows role first_net
  first_right graph = record {
    found = record { graph = graph; root_node = refl; solutions_fit = λ s among. absurd (Contains-none s among) };
    fit = (tt, tt);
    demanded = λ n e at. subst (Demanded rows role) (only_node n e at).1 asked_itself;
    listeners_fit = λ n m p among. absurd (no_listener n m p among);
    letters_fit = λ x among. elim (Contains-cons_cases start [] x among) [
      | inl same ↦ subst (λ (y : Sent). LetterFits rows first_net y.from y.to y.load) same refl
      | inr none ↦ absurd (Contains-none x none)
    ];
    parts_fit = λ m i who told. absurd (subst is_plain (no_monitor m (monitor.Meet told.0) told.1) tt);
  }

  never_open : (m : ℕ) → IsOpen first_net m → ⊥
  never_open m (inl (k, p, among)) = no_listener m k p among
  never_open m (inr (root, gone)) = gone (0, Contains-first start [])

  first_paid : IsGraph (first_graph role) → IsPaid rows first_net
  first_paid graph = record {
    root = inr (0, Contains-first start []);
    opened = λ m e at opens. absurd (never_open m opens);
    via = λ m r t b at told. absurd (subst is_plain (no_monitor m (monitor.Link told.0) told.1) tt);
    told = λ n m p who among solution. absurd (no_listener n m p among);
    met = λ m parts who at all. absurd (subst is_role (only_node m (Meet parts) at).1 tt);
  }

  pub first_kept : (work : ℕ) → 0 < work → IsGraph (first_graph role) → KeptBy rows role work (first_graph role) (monitor.Plain ∷ []) (started 0 load.Start)
  first_kept work some graph = record {
    steady = record { right = first_right graph; paid = first_paid graph };
    starts = λ start. refl;
    within = omega arith;
    loads = start_says (Rol role ∷ []) 0;
    tallied = record {
      first = λ start. refl;
      counted = opened_counted (MayAsk (net_of (first_graph role) (monitor.Plain ∷ []) (started 0 load.Start))) (first_graph role) start refl refl;
    };
  }

opened_rules : (s : SearchState) → s.graph ≡ first_graph (asked_role s.query) → s.monitors ≡ monitor.Plain ∷ [] → s.stage ≡ stage.Running (started 0 load.Start) → 0 < s.work → IsGraph s.graph → KeepsRules s
opened_rules s g_is ms_is stage_is some graph c runs =
    let c_is : started 0 load.Start ≡ c = same_running (started 0 load.Start) c (sym stage_is ∙ runs) in
    let kept = first_kept (rows_of s) (asked_role s.query) s.work some (subst IsGraph g_is graph) in
    subst (KeptBy (rows_of s) (asked_role s.query) s.work s.graph s.monitors) c_is
    (subst (λ (ms : List Monitor). KeptBy (rows_of s) (asked_role s.query) s.work s.graph ms (started 0 load.Start)) (sym ms_is)
    (subst (λ (g : GraphState). KeptBy (rows_of s) (asked_role s.query) s.work g (monitor.Plain ∷ []) (started 0 load.Start)) (sym g_is) kept))

-- a search that runs or is broken isn't spent
runs_unspent : (st : Stage) (c : Computation (Load ℕ)) → st ≡ stage.Running c → st ≡ stage.Spent → ⊥
runs_unspent st c runs spent = let clash : stage.Running c ≡ stage.Spent = sym runs ∙ spent in cc

pub opened_kept : (s : SearchState) → s.graph ≡ first_graph (asked_role s.query) → s.monitors ≡ monitor.Plain ∷ [] → s.stage ≡ stage.Running (started 0 load.Start) → 0 < s.work → IsGraph s.graph → IsKept s
opened_kept s g_is ms_is stage_is some graph = record {
  rules = opened_rules s g_is ms_is stage_is some graph;
  limit = λ spent. absurd (runs_unspent s.stage (started 0 load.Start) stage_is spent);
}

pub broken_kept : (s : SearchState) → s.stage ≡ stage.Broken → IsKept s
broken_kept s broken = record { rules = λ c runs. absurd (apart c (sym broken ∙ runs)); limit = λ spent. absurd (other (sym broken ∙ spent)) }
  where
    apart : (c : Computation (Load ℕ)) → stage.Broken ≡ stage.Running c → ⊥
    apart c e = cc

    other : stage.Broken ≡ stage.Spent → ⊥
    other e = cc

-- a held letter is awaited
pub held_awaits : (s : SearchState) → KeepsRules s → (number : ℕ) (h : Held (Load ℕ)) → (held : HoldsLetter s.stage number h) → Awaits (rows_of s) (asked_role s.query) s.graph s.monitors (sent_of s.graph.nodes held.running.letters) h.from h.to (load_at s.graph.nodes h.load)
held_awaits s kept number h held = awaits_letter (kept held.running held.runs) held.by_number number (letter_in h) held.letter

-- and its numbers are entities'
pub held_loads : (s : SearchState) → IsKept s → (number : ℕ) (h : Held (Load ℕ)) → HoldsLetter s.stage number h → IsLoad s.graph.nodes h.load
held_loads s kept number h held =
    subst (λ (o : Option (Letter (Load ℕ))). IfSome o (λ l. IsLoad s.graph.nodes l.load)) held.letter
    (All-lookup (λ (l : Letter (Load ℕ)). IsLoad s.graph.nodes l.load) (λ n. n == number) held.running.letters (kept.rules held.running held.runs).loads)

module _ (rows : List Credential) (role : Role) (work : ℕ) (g : GraphState) (ms : List Monitor) (c : Computation (Load ℕ)) (kept : KeptBy rows role work g ms c) where
  pub rules_owed : OwesRules rows role (net_of g ms c)
  rules_owed = owes_rules rows role (net_of g ms c) kept.steady.right kept.steady.paid

  pub justified : IsJustified rows role g
  justified = kept.steady.right.found

  pub no_letters : outstanding c ≡ 0 → sent_of g.nodes c.letters ≡ []
  no_letters none = ap (sent_of g.nodes) (nil_from_length c.letters (omega (arith, none)))

  no_letter : outstanding c ≡ 0 → (x : Sent) → Contains (sent_of g.nodes c.letters) x → ⊥
  no_letter none x among = Contains-none x (subst (λ (xs : List Sent). Contains xs x) (no_letters none) among)

  pub completed_exact : outstanding c ≡ 0 → IsExact rows role (Known g)
  completed_exact none = exact rules_owed (λ first. no_letter none _ first.1) (λ e f between. nothing_between e f between)
    where
      nothing_between : (e f : Expr) → IsPendingBetween (net_of g ms c) e f → ⊥
      nothing_between e f (m, n, node_e, node_f, (l, inl there)) = no_letter none _ there
      nothing_between e f (m, n, node_e, node_f, (l, inr back)) = no_letter none _ back

  pub member_found : (who : List ℕ) → outstanding c ≡ 0 → IsMember rows who role → IsSolution g 0 who
  member_found who none member =
      let known = (completed_exact none who (Rol role) asked_itself).1 member in
      subst (λ (n : ℕ). IsSolution g n who) (kept.steady.right.found.graph.one_node known.0 0 (Rol role) known.1 kept.steady.right.found.root_node) known.2

  pub found_member : (who : List ℕ) → outstanding c ≡ 0 → IsSolution g 0 who → IsMember rows who role
  found_member who none found = (completed_exact none who (Rol role) asked_itself).0 (0, kept.steady.right.found.root_node, found)

pub status_exact : (s : SearchState) (st : Stage) → s.stage ≡ st → KeepsRules s → IsCompleted st → IsExact (rows_of s) (asked_role s.query) (Known s.graph)
status_exact s (stage.Running c) runs kept completed = completed_exact (rows_of s) (asked_role s.query) s.work s.graph s.monitors c (kept c runs) completed
status_exact s _ runs kept completed = absurd completed

-- a letter that is held or waits again
marked_from : (number : ℕ) (held : Bool) (st : Stage) (d : Computation (Load ℕ)) → stage_marked number held st ≡ stage.Running d → (c : Computation (Load ℕ)) × (st ≡ stage.Running c) × (marked c number held ≡ d)
marked_from number held (stage.Running c) d e = (c, refl, same_running (marked c number held) d e)
marked_from number held _ d e = cc

marked_rules : (s : SearchState) (st : Stage) (number : ℕ) (held : Bool) → KeepsRules s → st ≡ stage_marked number held s.stage → KeepsRules (record s { stage = st })
marked_rules s st number held kept is d now =
    let from = marked_from number held s.stage d (sym is ∙ now) in
    subst (KeptBy (rows_of s) (asked_role s.query) s.work s.graph s.monitors) from.2 (marked_kept (kept from.0 from.1) number held)

spent_before : (number : ℕ) (held : Bool) (st : Stage) → stage_marked number held st ≡ stage.Spent → st ≡ stage.Spent
spent_before number held stage.Spent e = refl
spent_before number held _ e = cc

pub marked_stage_kept : (s : SearchState) (st : Stage) (number : ℕ) (held : Bool) → IsKept s → st ≡ stage_marked number held s.stage → IsKept (record s { stage = st })
marked_stage_kept s st number held kept is = record {
  rules = marked_rules s st number held kept.rules is;
  limit = λ spent. kept.limit (spent_before number held s.stage (sym is ∙ spent));
}

pub marked_view : (s t : SearchState) (st : Stage) (number : ℕ) (held : Bool) → s ≡ t → st ≡ stage_marked number held s.stage → record s { stage = st } ≡ record t { stage = stage_marked number held t.stage }
marked_view s t st number held same is =
    subst (λ (x : SearchState). record s { stage = st } ≡ record x { stage = stage_marked number held x.stage }) same (ap (λ (y : Stage). record s { stage = y }) is)

delivered_rules : (s : SearchState) (st : Stage) (place : ℕ) (b : Bool) → KeepsRules s → Delivers s.stage st place b → KeepsRules (record s { stage = st })
delivered_rules s st place true kept (c, d, ran, runs, below, delivers) e now =
    subst (KeptBy (rows_of s) (asked_role s.query) s.work s.graph s.monitors) (same_running d e (sym runs ∙ now)) (signalled_kept (kept c ran) place delivers)
delivered_rules s st place false kept (past, same) e now = kept e (sym same ∙ now)

delivered_limit : (s : SearchState) (st : Stage) (place : ℕ) (b : Bool) → KeepsLimit s → Delivers s.stage st place b → KeepsLimit (record s { stage = st })
delivered_limit s st place true limit (c, d, ran, runs, below, delivers) spent = absurd (runs_unspent st d runs spent)
delivered_limit s st place false limit (past, same) spent = limit (sym same ∙ spent)

pub delivered_kept : (s : SearchState) (st : Stage) (place : ℕ) (b : Bool) → IsKept s → Delivers s.stage st place b → IsKept (record s { stage = st })
delivered_kept s st place b kept delivers = record {
  rules = delivered_rules s st place b kept.rules delivers;
  limit = delivered_limit s st place b kept.limit delivers;
}

-- a letter that waits goes to a node
waiting_to : (s : SearchState) (st : Stage) (place number : ℕ) (l : Letter (Load ℕ)) → KeepsRules s → s.stage ≡ st → slice_get (waiting_in st) place ≡ Some (number, l) → l.to < length s.graph.nodes
waiting_to s (stage.Running c) place number l kept runs at =
    let kept_now = kept c runs in
    let among = (filtered (λ (x : ℕ × Letter (Load ℕ)). not x.1.held) c.letters (number, l) (Contains-at_place (waiting c.letters) place (number, l) at)).0 in
    let sent = Contains-map (λ (x : ℕ × Letter (Load ℕ)). in_words s.graph.nodes x.1) c.letters (number, l) among in
    receiver_in (rows_of s) (asked_role s.query) (net_of s.graph s.monitors c) kept_now.steady.right l.from l.to (load_at s.graph.nodes l.load) (kept_now.steady.right.letters_fit (in_words s.graph.nodes l) sent)
waiting_to s _ place number l kept runs at = absurd (none-some (number, l) at)

pub taken_to : (s : SearchState) (st : Stage) (place number : ℕ) (l : Letter (Load ℕ)) → KeepsRules s → Holds s.stage st place number l → l.to < length s.graph.nodes
taken_to s st place number l kept holds = waiting_to s s.stage place number l kept refl holds.waited

-- a completed search has a node for its role, whose solutions are its members
pub completed_root : (s : SearchState) (st : Stage) → s.stage ≡ st → KeepsRules s → IsCompleted st → 0 < length s.graph.nodes
completed_root s (stage.Running c) runs kept completed = slice_get_within s.graph.nodes 0 (Rol (asked_role s.query)) (kept c runs).steady.right.found.root_node
completed_root s _ runs kept completed = absurd completed

pub completed_members : (s : SearchState) (st : Stage) → s.stage ≡ st → KeepsRules s → IsCompleted st → (d : List ℕ) → Contains (members_of s.graph 0) d ↔ IsMember (rows_of s) d (asked_role s.query)
completed_members s (stage.Running c) runs kept completed d = (
  λ among. found_member (rows_of s) (asked_role s.query) s.work s.graph s.monitors c (kept c runs) d completed (solution_of_member s.graph 0 d among),
  λ member. member_of_solution s.graph 0 d (member_found (rows_of s) (asked_role s.query) s.work s.graph s.monitors c (kept c runs) d completed member),
)
completed_members s stage.Spent runs kept completed d = absurd completed
completed_members s stage.Broken runs kept completed d = absurd completed
