-- A history reaches the hall that its last request left.
use Rattle.std.proofs.Common.{◌≡◌, ◌∙◌, ℕ, Bool, true, cond, List, [], ◌∷◌, ◌++◌, Option, Some, None, Result, sym, ap, refl, subst, subst₂, append_assoc}
use Rattle.std.proofs.lemmas.List.{append-nil}
use Rattle.std.proofs.lemmas.List.Elements.{filter-append}
use Rattle.std.proofs.lemmas.List.Sums.{fold-append}
use Rattle.std.specs.List.{AllZip, filter, fold}
use Rattle.std.specs.declared.snapshot.Snapshot.{Snapshot}
use Rattle.quotas.specs.Quota.{Quota}
use Rattle.vaults.specs.declared.changes.Entry.{Entry}
use Rattle.vaults.specs.Journal.{view}
use Rattle.snapshots.specs.Snapshot.{SnapshotState}
use Rattle.search.specs.declared.queries.Query.{Query}
use Rattle.search.specs.Search.{SearchState, new_search}
use Rattle.hall.specs.declared.faults.Fault.{Fault}
use Rattle.hall.specs.declared.calls.replies.Reply.{Reply}
use Rattle.hall.specs.declared.calls.requests.Request.{Request}
use Rattle.hall.specs.declared.calls.steps.Step.{Step}
use Rattle.hall.specs.declared.calls.steps.Stepped.{Stepped}
use Rattle.hall.specs.Answers.{Account, start_of}
use Rattle.hall.specs.Run.{Told, any_time, IsRunOf, AreRuns}
use Rattle.hall.specs.declared.calls.steps.Stepped.TheVariants.{Gone}
use Rattle.hall.specs.Hall.{StepsSearch}
use Rattle.hall.specs.Hall.{HallState, EachSearch, Tenant, Running, known, account_of, search_at, beginning, IsSound, IsServed, GoesOnAt, IsStepped, search_of_step, told_as, new_hall}
use Rattle.hall.proofs.laws.HallChanges.{inserted_each, replaced_each, new_each}
use Rattle.hall.proofs.laws.HallRequests.{opening, requested_each}
use Rattle.hall.proofs.laws.HallRuns.{served_journal, stepped_journal}
use Rattle.hall.proofs.laws.HallTurns.{empty_run}
use Rattle.hall.proofs.SearchSteps.{step_goes_on}
use Rattle.pool.specs.declared.turns.Item.{Item}
use Rattle.pool.specs.declared.turns.Item.TheVariants as item
use Rattle.pool.specs.declared.turns.Noted.TheVariants as noted
use Rattle.pool.specs.Histories.{entered_by, turn, EndsIn, ReadsIn, Admits, is_turn, AreTold, IsOpening, IsLegal, Reaches, item_of}
use Rattle.pool.proofs.GoOn.{serve_on, step_on}
use Rattle.pool.proofs.Admitting.{read_served}
use Rattle.pool.proofs.Deciding.{reads_admit}
use Rattle.hall.proofs.laws.ExactRuns.{started}

-- what was told by some items and one more
each_last : (items : List Item) (i : Item) (told : List Told) → AllZip Admits (items ++ i ∷ []) told →
    (before : List Told) × (t : Told) × (told ≡ before ++ t ∷ []) × AllZip Admits items before × Admits i t
each_last [] i [] are = absurd are
each_last [] i (t ∷ []) are = ([], t, refl, tt, are.0)
each_last [] i (t ∷ u ∷ more) are = absurd are.1
each_last (j ∷ items) i [] are = absurd are
each_last (j ∷ items) i (u ∷ told) are =
    let (before, t, is, all, last) = each_last items i told are.1 in
    (u ∷ before, t, ap (λ (w : List Told). u ∷ w) is, (are.0, all), last)

-- one more was told
each_push : (items : List Item) (i : Item) (told : List Told) (t : Told) → AllZip Admits items told → Admits i t →
    AllZip Admits (items ++ i ∷ []) (told ++ t ∷ [])
each_push [] i [] t are last = (last, tt)
each_push [] i (u ∷ told) t are last = absurd are
each_push (j ∷ items) i [] t are last = absurd are
each_push (j ∷ items) i (u ∷ told) t are last = (are.0, each_push items i told t are.1 last)

module _ (items : List Item) (i : Item) (turns : is_turn i ≡ true) where
  turn_push : filter is_turn (items ++ i ∷ []) ≡ filter is_turn items ++ i ∷ []
  turn_push = filter-append is_turn items (i ∷ []) ∙ ap (λ (b : Bool). filter is_turn items ++ cond b (i ∷ []) []) turns

  told_last : (told : List Told) → AreTold (items ++ i ∷ []) told →
      (before : List Told) × (t : Told) × (told ≡ before ++ t ∷ []) × AreTold items before × Admits i t
  told_last told are = each_last (filter is_turn items) i told (subst (λ (l : List Item). AllZip Admits l told) turn_push are)

  some_more : (t : Told) → (told : List Told) × AreTold items told → Admits i t → (told : List Told) × AreTold (items ++ i ∷ []) told
  some_more t some last = (
    some.0 ++ t ∷ [],
    subst (λ (l : List Item). AllZip Admits l (some.0 ++ t ∷ [])) (sym turn_push) (each_push (filter is_turn items) i some.0 t some.1 last),
  )

-- each search of the hall has its opening
abbrev Opens : List Item → List ℕ → Tenant → ℕ → Running → Type 0
Opens items name t k r = IsOpening items name k r.search.query r.search.snapshot

pub opening_stays : (items : List Item) (i : Item) (who : List ℕ) (k : ℕ) (query : Query) (shown : SnapshotState) → IsOpening items who k query shown →
    IsOpening (items ++ i ∷ []) who k query shown
opening_stays items i who k query shown is = record {
  name = is.name;
  before = is.before;
  after = is.after ++ i ∷ [];
  split = ap (λ (l : List Item). l ++ i ∷ []) is.split ∙ append_assoc is.before _ (i ∷ []);
  sees = is.sees;
}

all_stay : (items : List Item) (i : Item) (h : HallState) → EachSearch (Opens items) h → EachSearch (Opens (items ++ i ∷ [])) h
all_stay items i h opened who t k r found at = opening_stays items i who k r.search.query r.search.snapshot (opened who t k r found at)

opened_on : (items : List Item) (old new : HallState) (name : ℕ) (who : List ℕ) (q : Request) (told : Reply) → old.journal ≡ fold entered_by [] items →
    EachSearch (Opens items) old → IsServed old who q told new → EachSearch (Opens (items ++ item.Told name who q told ∷ [])) new
unfolding new_search
opened_on items old new name who q told journal opened served =
    let more : List Item = items ++ item.Told name who q told ∷ [] in
    let still : EachSearch (Opens more) old = all_stay items (item.Told name who q told) old opened in
    subst (EachSearch (Opens more)) (sym served.after)
    (requested_each old who (Opens more) q told still
    (λ query n t is said found. inserted_each (Opens more who (opening old.journal who query n t)) t.searches n (beginning old.journal who query t.limits.work)
    (λ k r at. still who t k r found at)
    (record {
      name = name;
      before = items;
      after = [];
      split = subst₂ (λ (x : Request) (y : Reply). more ≡ items ++ item.Told name who x y ∷ []) is said refl;
      sees = ap (λ (j : List Entry). record { asker = who; vaults = view j who }) journal;
    }))
    (λ k t found j r at. still who t j r found at))

opened_over : (items : List Item) (old new : HallState) (made : Step) (answer : Stepped) → EachSearch (Opens items) old → IsStepped old made answer new →
    EachSearch (Opens items) new
opened_over items old new made answer opened = by (search_at old (search_of_step made).0 (search_of_step made).1) refl
  where
    by : (o : Option Running) → search_at old (search_of_step made).0 (search_of_step made).1 ≡ o → GoesOnAt old (search_of_step made).0 (search_of_step made).1 o (answer ≡ Gone) (λ s t. StepsSearch s made answer t) new → EachSearch (Opens items) new
    by None none steps = subst (EachSearch (Opens items)) (sym steps.1) opened
    by (Some r) at (s, steps, after) =
        let same = (step_goes_on r.search s made answer steps).question in
        subst (EachSearch (Opens items)) (sym after)
        (replaced_each (Opens items) old (search_of_step made).0 (search_of_step made).1 r (record r { search = s }) (λ t m j u here. here) at
        (λ t here. subst₂ (IsOpening items (search_of_step made).0 (search_of_step made).1) (sym same.query) (sym same.snapshot) here) opened)

module _ (roster : List (List ℕ × Quota)) (items : List Item) (old : HallState) (sound : IsSound old) (reaches : Reaches roster items old) where
  -- a request that is served
  pub told_on : (name : ℕ) (new : HallState) (who : List ℕ) (q : Request) (told : Reply) → IsServed old who q told new →
      Reaches roster (items ++ item.Told name who q told ∷ []) new
  told_on name new who q told served = record {
    journal = served_journal old new who q told served
        ∙ ap (λ (j : List Entry). entered_by j (item.Told name who q told)) reaches.journal
        ∙ sym (fold-append entered_by [] items (item.Told name who q told ∷ []));
    ends = λ all are.
        let (before, t, is, were, last) = told_last items (item.Told name who q told) refl all are in
        subst (λ (w : List Told). EndsIn roster w new) (sym (is ∙ ap (λ (x : Told). before ++ x ∷ []) last))
        (serve_on roster before old new who q told sound (reaches.ends before were) served);
    some = some_more items (item.Told name who q told) refl (turn who q told) reaches.some refl;
    opened = opened_on items old new name who q told reaches.journal reaches.opened served;
  }

  -- a request that reads a search
  pub read_on : (name : ℕ) (who : List ℕ) (q : Request) (s : SearchState) → ReadsIn old who q s → Reaches roster (items ++ item.Read name who q (known s) ∷ []) old
  read_on name who q s reads = record {
    journal = reaches.journal ∙ sym (fold-append entered_by [] items (item.Read name who q (known s) ∷ []));
    ends = λ all are.
        let (before, t, is, were, (told, off, last)) = told_last items (item.Read name who q (known s)) refl all are in
        subst (λ (w : List Told). EndsIn roster w old) (sym (is ∙ ap (λ (x : Told). before ++ x ∷ []) last))
        (serve_on roster before old old who q told sound (reaches.ends before were) (read_served old who q s told reads off));
    some =
        let (told, off) = reads_admit old who q s sound reads in
        some_more items (item.Read name who q (known s)) refl (turn who q told) reaches.some (told, off, refl);
    opened = all_stay items (item.Read name who q (known s)) old reaches.opened;
  }

  -- a stop
  pub stop_on : (name : ℕ) → Reaches roster (items ++ item.Stopped name ∷ []) old
  stop_on name =
      let same : filter is_turn (items ++ item.Stopped name ∷ []) ≡ filter is_turn items =
      filter-append is_turn items (item.Stopped name ∷ []) ∙ append-nil (filter is_turn items) in record {
        journal = reaches.journal ∙ sym (fold-append entered_by [] items (item.Stopped name ∷ []));
        ends = λ all are. reaches.ends all (subst (λ (l : List Item). AllZip Admits l all) same are);
        some = (reaches.some.0, subst (λ (l : List Item). AllZip Admits l reaches.some.0) (sym same) reaches.some.1);
        opened = all_stay items (item.Stopped name) old reaches.opened;
      }

  -- a step that is made
  pub step_over : (new : HallState) (made : Step) (answer : Stepped) → IsStepped old made answer new → Reaches roster items new
  step_over new made answer stepped = record {
    journal = stepped_journal old new made answer stepped ∙ reaches.journal;
    ends = λ all are. step_on roster all old new made answer sound (reaches.ends all are) stepped;
    some = reaches.some;
    opened = opened_over items old new made answer reaches.opened stepped;
  }

  -- the same, as it was noted
  pub told_noted : (name : ℕ) (new : HallState) (who : List ℕ) (q : Request) (r : Result Reply Fault) (asked : Snapshot Request) (told : Snapshot (Result Reply Fault)) →
      IsServed old who q (told_as (λ (x : Reply). x) r) new → asked.value ≡ q → told.value ≡ r →
      Reaches roster (items ++ item_of name (noted.Told who asked told) ∷ []) new
  told_noted name new who q r asked told served is so =
      told_on name new who asked.value (told_as (λ (x : Reply). x) told.value)
      (subst₂ (λ (x : Request) (y : Result Reply Fault). IsServed old who x (told_as (λ (z : Reply). z) y) new) (sym is) (sym so) served)

  pub read_noted : (name : ℕ) (who : List ℕ) (q : Request) (s : SearchState) (asked : Snapshot Request) (read : Snapshot SearchState) → ReadsIn old who q s →
      asked.value ≡ q → read.value ≡ s → Reaches roster (items ++ item_of name (noted.Read who asked read) ∷ []) old
  read_noted name who q s asked read reads is so =
      read_on name who asked.value read.value (subst₂ (λ (x : Request) (y : SearchState). ReadsIn old who x y) (sym is) (sym so) reads)

pub legal_at : (roster : List (List ℕ × Quota)) (items : List Item) (h : HallState) → Reaches roster items h → IsLegal roster items
legal_at roster items h reaches = record { runs = λ told are tenant. (account_of h tenant, (reaches.ends told are).runs tenant); some = reaches.some }

-- a new hall is reached by nothing
pub new_reaches : (roster : List (List ℕ × Quota)) → Reaches roster [] (new_hall roster)
new_reaches roster = record { journal = refl; ends = ends; some = ([], tt); opened = new_each (Opens []) roster }
  where
    ends : (told : List Told) → AreTold [] told → EndsIn roster told (new_hall roster)
    ends [] are = record {
      journal = refl;
      runs = λ tenant. subst (λ (o : Option Account). IsRunOf any_time tenant o [] (account_of (new_hall roster) tenant)) (started tenant roster)
          (empty_run any_time tenant (account_of (new_hall roster) tenant));
    }
    ends (t ∷ told) are = absurd are

pub nothing_legal : (roster : List (List ℕ × Quota)) → IsLegal roster []
nothing_legal roster = record { runs = none; some = ([], tt) }
  where
    none : (told : List Told) → AreTold [] told → AreRuns any_time roster told
    none [] are tenant = (start_of tenant roster, empty_run any_time tenant (start_of tenant roster))
    none (t ∷ told) are tenant = absurd are
