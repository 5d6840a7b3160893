-- Whether the entity that is asked about was found, and whether a search has come to anything.
use Rattle.std.proofs.Common.{ℕ, ◌<◌, ◌↔◌, ◌≡◌, ◌∙◌, inl, inr, sym, subst, ap, Bool, true, cond, IsTrue, not, List, [], ◌∷◌, Some, length, filter, slice_get, ◌==◌, eq-eqb, ne_eqb, arith, refl, false, ◌+◌, add-one, ◌++◌, take}
use Rattle.std.specs.List.{list_any, Contains, AllByRecursion, IsDistinct, dedup, dedup_from}
use Rattle.std.specs.Map.{lookup}
use Rattle.std.proofs.lemmas.Bool.{cases_Bool, cases_eq, false≢true}
use Rattle.names.specs.declared.roles.Role.{Role}
use Rattle.names.specs.Name.{is_same, name_order}
use Rattle.names.proofs.SameNames.{is_same_tied, same_from_is_same}
use Rattle.vaults.proofs.Elements.{has, has_iff, has-in_order, sorted-in_order}
use Rattle.vaults.proofs.Orders.{names_exact}
use Rattle.cred_graph.specs.Graph.{GraphState, IsSolution, members_of}
use Rattle.scholten_core.specs.declared.letters.Letter.{Letter}
use Rattle.scholten_core.specs.Computation.{outstanding, Computation}
use Rattle.search.specs.declared.letters.Load.{Load}
use Rattle.search.specs.declared.queries.Query.{Query}
use Rattle.search.specs.declared.outcomes.Status.{Status}
use Rattle.search.specs.declared.stages.Stage.{Stage}
use Rattle.search.specs.Ending.{Nothing, Yes, No, Settled, IsTruth, IsEnding, MaySettle, Members, answers, spends, breaks}
use Rattle.search.specs.Search.{IsAnswered, status_of, found, come_to, SearchState, IsOutstanding, IsCompleted, settled_of, SameQuestion, Settles, KeptBy, IsKept, rows_of, asked_role}
use Rattle.search.specs.Stage.{waiting_in, held_in, if_held, Delivers}
use Rattle.search.proofs.Kept.{solution_of_member, member_of_solution}
use Rattle.std.specs.List.Sorted.{IsStrictlySortedBy, IsPermutation, IsSorted}
use Rattle.credential_text.specs.declared.credentials.Credential.{Credential}
use Rattle.rt0_rules.specs.Membership.{IsMember, AreMembers}
use Rattle.rt0_rules.specs.Work.{WorkIs, AreDistinct}
use Rattle.rt0_rules.proofs.LawLemmas.{members_are_one}
use Rattle.vaults.specs.InOrder.{in_order}
use Rattle.vaults.specs.Journal.{credentials}
use Rattle.snapshots.specs.Snapshot.{SnapshotState}
use Rattle.search.specs.declared.findings.Monitor.{Monitor}
use Rattle.search.proofs.Searching.{delivered_kept, no_letters, member_found, found_member, completed_members}
use Rattle.search.proofs.WorkOf.{sent_is_work}
use Rattle.std.specs.Cmp.Lexicographic.{texts_ties}
use Rattle.std.proofs.Math.Seq.{take-suc}
use Rattle.std.proofs.lemmas.Cmp.{nat_list_eq_equiv, nat_list_cmp_total}
use Rattle.std.proofs.lemmas.List.Elements.{Contains-append_right}
use Rattle.std.proofs.lemmas.List.Kept.{IsStrictlySortedBy-dedup}
use Rattle.std.proofs.lemmas.List.Sorted.{Contains-permutation, IsPermutation-sym}
use Rattle.std.proofs.lemmas.Map.Keys.{IsDistinct-head, IsDistinct-tail, IsDistinct-IsPermutation}
use Rattle.std.proofs.lemmas.Option.{slice_get_within, get_or_from_slice_get}
use Rattle.rt0_rules.proofs.Elements.{Contains-first}
use Rattle.search.specs.declared.queries.Query.TheVariants as query
use Rattle.search.specs.declared.outcomes.Status.TheVariants as status
use Rattle.search.specs.declared.stages.Stage.TheVariants as stage

-- a name is among the members where the test finds it
pub among_members : (g : GraphState) (who : List ℕ) → (list_any (is_same who) (members_of g 0) ≡ true) ↔ IsSolution g 0 who
among_members g who =
    let tests : list_any (is_same who) (members_of g 0) ≡ has name_order (members_of g 0) who =
    sym (ap (λ (test : List ℕ → Bool). list_any test (members_of g 0)) (λ i. λ d. is_same_tied who d i)) in (
      λ is. solution_of_member g 0 who ((has_iff names_exact (members_of g 0) who).0 (sym tests ∙ is)),
      λ solution. tests ∙ (has_iff names_exact (members_of g 0) who).1 (member_of_solution g 0 who solution),
    )

pub found_yes : (g : GraphState) (role : Role) (who : List ℕ) → IsSolution g 0 who → found g (query.Ask role who) ≡ Yes
found_yes g role who solution = ap (λ (b : Bool). cond b Yes No) ((among_members g who).1 solution)

pub found_no : (g : GraphState) (role : Role) (who : List ℕ) → (IsSolution g 0 who → ⊥) → found g (query.Ask role who) ≡ No
found_no g role who absent =
    elim (cases_Bool (list_any (is_same who) (members_of g 0))) [
      | inl is ↦ absurd (absent ((among_members g who).0 is))
      | inr isn't ↦ ap (λ (b : Bool). cond b Yes No) isn't
    ]

-- what was found is an answer
found_over : (g : GraphState) (q : Query) → status_of (found g q) ≡ status.Working → ⊥
found_over g (query.Ask role who) is =
    elim (cases_Bool (list_any (is_same who) (members_of g 0))) [
      | inl there ↦ let clash : status.Yes ≡ status.Working = sym (ap (λ (b : Bool). status_of (cond b Yes No)) there) ∙ is in cc
      | inr absent ↦ let clash : status.No ≡ status.Working = sym (ap (λ (b : Bool). status_of (cond b Yes No)) absent) ∙ is in cc
    ]
found_over g (query.Who role) is = cc

-- while anything is outstanding a search has come to nothing
unsettled_at : (st : Stage) (g : GraphState) (q : Query) → IsOutstanding st → come_to st g q ≡ Nothing
unsettled_at (stage.Running c) g q busy = ap (λ (b : Bool). cond b (found g q) Nothing) (ne_eqb (outstanding c) 0 busy)
unsettled_at _ g q busy = absurd busy

pub unsettled : (s : SearchState) → IsOutstanding s.stage → settled_of s ≡ Nothing
unfolding settled_of
unsettled s busy = unsettled_at s.stage s.graph s.query busy

-- a search works exactly while anything is outstanding
works : (st : Stage) (g : GraphState) (q : Query) → (status_of (come_to st g q) ≡ status.Working) ↔ IsOutstanding st
works (stage.Running c) g q = (
  λ is none. found_over g q (sym (ap (λ (b : Bool). status_of (cond b (found g q) Nothing)) (eq-eqb (outstanding c) 0 none)) ∙ is),
  λ busy. ap status_of (unsettled_at (stage.Running c) g q busy),
)
works stage.Spent g q = (λ is. clash is, λ busy. absurd busy)
  where
    clash : status.Spent ≡ status.Working → ⊥
    clash is = cc
works stage.Broken g q = (λ is. clash is, λ busy. absurd busy)
  where
    clash : status.Broken ≡ status.Working → ⊥
    clash is = cc

-- so exactly while anything is outstanding it has come to nothing
unsettled_iff : (st : Stage) (g : GraphState) (q : Query) → IsOutstanding st ↔ (come_to st g q ≡ Nothing)
unsettled_iff st g q = (unsettled_at st g q, λ nothing. (works st g q).0 (ap status_of nothing))

pub is_outstanding : {s t : SearchState} {busy : Bool} → s ≡ t → (IsTrue busy ↔ IsOutstanding s.stage) → (IsTrue busy ↔ IsOutstanding t.stage) × (IsTrue busy ↔ (settled_of t ≡ Nothing))
unfolding settled_of
is_outstanding {s} {t} {busy} same is =
    let tells = subst (λ (x : SearchState). IsTrue busy ↔ IsOutstanding x.stage) same is in
    let nothing = unsettled_iff t.stage t.graph t.query in
    (tells, (λ yes. nothing.0 (tells.0 yes), λ none. tells.1 (nothing.1 none)))

-- what was found answers the query
found_answers : (g : GraphState) (q : Query) → IsAnswered (status_of (found g q))
found_answers g (query.Ask role who) =
    elim (cases_Bool (list_any (is_same who) (members_of g 0))) [
      | inl there ↦ rw there tt
      | inr absent ↦ rw absent tt
    ]
found_answers g (query.Who role) = tt

-- a search answers exactly where it is completed
answers_at : (st : Stage) (g : GraphState) (q : Query) → IsAnswered (status_of (come_to st g q)) ↔ IsCompleted st
answers_at (stage.Running c) g q =
    elim (cases_eq (outstanding c) 0) [
      | inl none ↦ rw (eq-eqb (outstanding c) 0 none) ((λ _. none), (λ _. found_answers g q))
      | inr busy ↦ rw (ne_eqb (outstanding c) 0 busy) ((λ answered. absurd answered), (λ none. absurd (busy none)))
    ]
answers_at _ g q = (λ answered. absurd answered, λ completed. absurd completed)

pub answers_as : {s t : SearchState} {result : Status} → s ≡ t → result ≡ status_of (come_to s.stage s.graph s.query) → IsAnswered result ↔ IsCompleted t.stage
answers_as {s} {t} {result} same is =
    subst (λ (x : SearchState). IsAnswered result ↔ IsCompleted x.stage) same
    (subst (λ (r : Status). IsAnswered r ↔ IsCompleted s.stage) (sym is) (answers_at s.stage s.graph s.query))

-- the same of a search, by its parts
pub status_is : {s t : SearchState} {result : Status} → s ≡ t → result ≡ status_of (come_to s.stage s.graph s.query) → result ≡ status_of (settled_of t)
unfolding settled_of
status_is {result = result} same is = subst (λ (x : SearchState). result ≡ status_of (come_to x.stage x.graph x.query)) same is

-- a letter that is held or waits is outstanding, and so is a signal under way
held_some : (letters : List (ℕ × Letter (Load ℕ))) (number : ℕ) (l : Letter (Load ℕ)) → if_held (lookup (λ n. n == number) letters) ≡ Some l → 0 < length letters
held_some [] number l is = cc
held_some (x ∷ letters) number l is = omega arith

pub held_outstanding : (st : Stage) (number : ℕ) (l : Letter (Load ℕ)) → held_in st number ≡ Some l → IsOutstanding st
held_outstanding (stage.Running c) number l is = λ none. absurd (omega (arith, none, held_some c.letters number l is))
held_outstanding _ number l is = cc

waits_some : (letters : List (ℕ × Letter (Load ℕ))) (place : ℕ) (x : ℕ × Letter (Load ℕ)) → slice_get (filter (λ l. not l.1.held) letters) place ≡ Some x → 0 < length letters
waits_some [] place x at = cc
waits_some (y ∷ letters) place x at = omega arith

pub waits_outstanding : (st : Stage) (place : ℕ) (x : ℕ × Letter (Load ℕ)) → slice_get (waiting_in st) place ≡ Some x → IsOutstanding st
waits_outstanding (stage.Running c) place x at = λ none. absurd (omega (arith, none, waits_some c.letters place x at))
waits_outstanding _ place x at = cc

pub delivers_outstanding : (old new : Stage) (place : ℕ) → Delivers old new place true → IsOutstanding old
delivers_outstanding old new place (c, d, ran, runs, below, delivers) = subst IsOutstanding (sym ran) (λ none. absurd (omega (arith, none, below)))

-- a search that is at its end has come to the truth, or to more work than its limit

-- the members, put in order
in_order_members : (s : SearchState) (c : Computation (Load ℕ)) → s.stage ≡ stage.Running c → IsKept s → outstanding c ≡ 0 → AreMembers (rows_of s) (asked_role s.query) (in_order name_order (members_of s.graph 0))
in_order_members s c runs kept none =
    let found : List (List ℕ) = members_of s.graph 0 in
    let are = completed_members s (stage.Running c) runs kept.rules none in
    record {
      in_order = sorted-in_order names_exact found;
      exact = λ d. (
        λ among. (are d).0 ((has_iff names_exact found d).0 (sym (has-in_order names_exact found d) ∙ (has_iff names_exact (in_order name_order found) d).1 among)),
        λ member. (has_iff names_exact (in_order name_order found) d).0 (has-in_order names_exact found d ∙ (has_iff names_exact found d).1 ((are d).1 member)),
      );
    }

module _ (s : SearchState) (c : Computation (Load ℕ)) (runs : s.stage ≡ stage.Running c) (kept : IsKept s) (none : outstanding c ≡ 0) where
  true_answer : (q : Query) → s.query ≡ q → IsTruth (rows_of s) q (found s.graph q)
  true_answer (query.Ask role who) same =
      elim (cases_Bool (list_any (is_same who) (members_of s.graph 0))) [
        | inl is ↦ rw is (subst (IsMember (rows_of s) who) (ap asked_role same)
            (found_member (rows_of s) (asked_role s.query) s.work s.graph s.monitors c (kept.rules c runs) who none ((among_members s.graph who).0 is)))
        | inr isn't ↦ rw isn't (λ member.
            let there = member_found (rows_of s) (asked_role s.query) s.work s.graph s.monitors c (kept.rules c runs) who none (subst (IsMember (rows_of s) who) (sym (ap asked_role same)) member) in
            false≢true (sym isn't ∙ (among_members s.graph who).1 there))
      ]
  true_answer (query.Who role) same =
      subst (λ (r : Role). AreMembers (rows_of s) r (in_order name_order (members_of s.graph 0))) (ap asked_role same) (in_order_members s c runs kept none)

  -- a completed search has sent its work
  completed_work : WorkIs (rows_of s) (asked_role s.query) c.sent
  completed_work =
      let kept_now : KeptBy (rows_of s) (asked_role s.query) s.work s.graph s.monitors c = kept.rules c runs in
      sent_is_work kept_now.steady (no_letters (rows_of s) (asked_role s.query) s.work s.graph s.monitors c kept_now none) c.sent kept_now.tallied.counted

  completed_ends : IsEnding s.work (rows_of s) s.query (found s.graph s.query)
  completed_ends = answers c.sent completed_work (kept.rules c runs).within (true_answer s.query refl)

ends_at : (s : SearchState) (st : Stage) → s.stage ≡ st → IsKept s → MaySettle s.work (rows_of s) s.query Nothing (come_to st s.graph s.query)
ends_at s (stage.Running c) runs kept =
    elim (cases_eq (outstanding c) 0) [
      | inl none ↦ rw (eq-eqb (outstanding c) 0 none) (inr (refl, completed_ends s c runs kept none))
      | inr busy ↦ rw (ne_eqb (outstanding c) 0 busy) (inl refl)
    ]
ends_at s stage.Spent spent kept = inr (refl, spends refl (kept.limit spent))
ends_at s stage.Broken broken kept = inr (refl, breaks refl)

-- what a search has come to, it may come to
pub ends : (s : SearchState) → IsKept s → MaySettle s.work (rows_of s) s.query Nothing (settled_of s)
unfolding settled_of
ends s kept = ends_at s s.stage refl kept

-- the same question, whatever else there is
pub same_question : (s : SearchState) (g : GraphState) (ms : List Monitor) (st : Stage) → SameQuestion s (record s { graph = g; monitors = ms; stage = st })
same_question s g ms st = record { query = refl; work = refl; snapshot = refl }

-- what settles one settles the other of the same question
same_asked : {s t : SearchState} → SameQuestion s t → {old new : Settled} → MaySettle t.work (rows_of t) t.query old new → MaySettle s.work (rows_of s) s.query old new
same_asked {s} {t} same {old} {new} may =
    subst (λ (n : ℕ). MaySettle n (rows_of s) s.query old new) same.work
    (subst (λ (v : SnapshotState). MaySettle t.work (credentials v.vaults) s.query old new) same.snapshot
    (subst (λ (q : Query). MaySettle t.work (rows_of t) q old new) same.query may))

-- one step after another
settles_twice : (limit : ℕ) (C : List Credential) (q : Query) (x y z : Settled) → MaySettle limit C q x y → MaySettle limit C q y z → MaySettle limit C q x z
settles_twice limit C q x y z (inl same) (inl again) = inl (again ∙ same)
settles_twice limit C q x y z (inl same) (inr later) = inr (sym same ∙ later.0, later.1)
settles_twice limit C q x y z (inr ended) (inl again) = inr (ended.0, subst (IsEnding limit C q) (sym again) ended.1)
settles_twice limit C q x y z (inr ended) (inr later) = inr (ended.0, later.1)

pub settles_on : (s t u : SearchState) → SameQuestion s t → Settles s t → Settles t u → Settles s u
settles_on s t u same first later = settles_twice s.work (rows_of s) s.query (settled_of s) (settled_of t) (settled_of u) first (same_asked same later)

-- a step of a search of which something is outstanding
pub settles : {s old t : SearchState} → s ≡ old → SameQuestion s t → IsKept t → IsOutstanding s.stage → Settles old t
settles {s} {old} {t} view same kept busy =
    subst (λ (x : SearchState). Settles x t) view
    (subst (λ (was : Settled). MaySettle s.work (rows_of s) s.query was (settled_of t)) (sym (unsettled s busy)) (same_asked same (ends t kept)))

-- a signal
pub signal_settles : {s old : SearchState} (st : Stage) (place : ℕ) (b : Bool) → s ≡ old → IsKept s → Delivers s.stage st place b → Settles old (record s { stage = st })
signal_settles {s} st place true view kept delivers =
    settles view (same_question s s.graph s.monitors st) (delivered_kept s st place true kept delivers) (delivers_outstanding s.stage st place delivers)
signal_settles {s} st place false view kept delivers = inl (ap settled_of (ap (λ (x : Stage). record s { stage = x }) delivers.1 ∙ view))

-- the list of what was found of the asked role's node
pub listed_members : (s : SearchState) (names : List (List ℕ)) → IsKept s → IsCompleted s.stage → IsStrictlySortedBy name_order names → ((d : List ℕ) → Contains names d ↔ Contains (members_of s.graph 0) d) →
    AreMembers (rows_of s) (asked_role s.query) names
listed_members s names kept done sorted same =
    let are = completed_members s s.stage refl kept.rules done in
    record { in_order = sorted; exact = λ d. ((λ among. (are d).0 ((same d).0 among)), (λ member. (same d).1 ((are d).1 member))) }

-- the listed members are what a completed search has come to
listed_at : (s : SearchState) (st : Stage) (names : List (List ℕ)) → s.stage ≡ st → IsKept s → IsCompleted st → AreMembers (rows_of s) (asked_role s.query) names →
    (role : Role) → s.query ≡ query.Who role → come_to st s.graph s.query ≡ Members names
listed_at s (stage.Running c) names runs kept done are role asks =
    let same : in_order name_order (members_of s.graph 0) ≡ names = members_are_one (rows_of s) (asked_role s.query) (in_order name_order (members_of s.graph 0)) names (in_order_members s c runs kept done) are in
    ap (λ (b : Bool). cond b (found s.graph s.query) Nothing) (eq-eqb (outstanding c) 0 done) ∙ ap (found s.graph) asks ∙ ap Members same
listed_at s _ names _ kept done are role asks = absurd done

pub listed_settled : (s : SearchState) (names : List (List ℕ)) → IsKept s → IsCompleted s.stage → AreMembers (rows_of s) (asked_role s.query) names →
    (role : Role) → s.query ≡ query.Who role → settled_of s ≡ Members names
unfolding settled_of
listed_settled s names kept done are role asks = listed_at s s.stage names refl kept done are role asks

-- the solutions of a node, each once, in order of their names

-- the first elements, and one more
pub one_more : (ms : List (List ℕ)) (i : ℕ) (who : List ℕ) → slice_get ms i ≡ Some who → take (i + 1) ms ≡ take i ms ++ who ∷ []
one_more ms i who at =
    let within : i < length ms = slice_get_within ms i who at in
    rw add-one (take-suc ms i who within ∙ ap (λ (x : List ℕ). take i ms ++ x ∷ []) (get_or_from_slice_get ms i who who at))

not_among : (name : List ℕ) (names : List (List ℕ)) → (Contains names name → ⊥) → AllByRecursion (λ other. is_same name other ≡ false) names
not_among name [] none = tt
not_among name (other ∷ names) none =
    (by (is_same name other) refl, not_among name names (λ has. none (Contains-append_right (other ∷ []) names name has)))
  where
    by : (b : Bool) → is_same name other ≡ b → is_same name other ≡ false
    by true same = absurd (none (subst (Contains (other ∷ names)) (sym (same_from_is_same name other same)) (Contains-first other names)))
    by false else = else

differ : (names : List (List ℕ)) → AreDistinct names → IsDistinct is_same names
unfolding IsDistinct
differ [] distinct = tt
differ (name ∷ names) distinct = (not_among name names distinct.0, differ names distinct.1)

-- of names that differ none is dropped
none_dropped : (name : List ℕ) (names : List (List ℕ)) → IsDistinct is_same (name ∷ names) → dedup_from is_same name names ≡ name ∷ names
none_dropped name [] distinct = refl
none_dropped name (other ∷ names) distinct =
    let else : is_same other name ≡ false = nat_list_eq_equiv.symm other name ∙ (IsDistinct-head is_same name (other ∷ names) distinct).0 in
    ap (λ (b : Bool). cond b (dedup_from is_same name names) (name ∷ dedup_from is_same other names)) else
    ∙ ap (λ (rest : List (List ℕ)). name ∷ rest) (none_dropped other names (IsDistinct-tail is_same name (other ∷ names) distinct))

all_kept : (names : List (List ℕ)) → IsDistinct is_same names → dedup is_same names ≡ names
all_kept [] distinct = refl
all_kept (name ∷ names) distinct = none_dropped name names distinct

-- names that differ rise once they are sorted
pub sorted_once : (names sorted : List (List ℕ)) → AreDistinct names → IsPermutation names sorted → IsSorted name_order sorted → IsStrictlySortedBy name_order sorted
sorted_once names sorted distinct moved up =
    let once : IsDistinct is_same sorted = IsDistinct-IsPermutation is_same nat_list_eq_equiv.symm names sorted moved (differ names distinct) in
    subst (IsStrictlySortedBy name_order) (all_kept sorted once) (IsStrictlySortedBy-dedup nat_list_cmp_total texts_ties sorted up)

pub same_names : (names sorted : List (List ℕ)) → IsPermutation names sorted → (d : List ℕ) → Contains sorted d ↔ Contains names d
same_names names sorted moved d = (Contains-permutation sorted names d (IsPermutation-sym names sorted moved), Contains-permutation names sorted d moved)
