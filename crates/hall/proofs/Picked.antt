-- The step that is picked goes on with a search, and there is one where anything of a search can go on.
use Rattle.std.proofs.Common.{◌≡◌, ◌≢◌, ◌∙◌, ◌↔◌, ◌≤◌, ◌==◌, ◌⊎◌, inl, inr, [], ◌∷◌, ℕ, List, length, ap, refl, subst, Option, Some, None, option_map, slice_get, true, false, Bool, cond, arith}
use Rattle.std.specs.Prelude.{MatchOption}
use Rattle.std.specs.{List.AllByRecursion, List.list_any, Option.option_map_or}
use Rattle.std.proofs.lemmas.Bool.Decides.{Decides-eqb}
use Rattle.std.proofs.lemmas.List.Elements.{All-contains, All-from_recursion}
use Rattle.std.proofs.lemmas.Map.Views.{Contains-from_any, exact_unsigned_eq}
use Rattle.indexmap.specs.IndexMap.{get as numbers_of}
use Rattle.indexmap.specs.IndexSet.{IndexSet}
use Rattle.names.specs.Name.{is_same}
use Rattle.names.proofs.SameNames.{is_same_tied}
use Rattle.vaults.proofs.Orders.{names_exact}
use Rattle.cred_graph.specs.Graph.{GraphState}
use Rattle.scholten_core.specs.Computation.{outstanding}
use Rattle.search.specs.declared.queries.Need.{Need}
use Rattle.search.specs.declared.queries.Query.{Query}
use Rattle.search.specs.declared.stages.Stage.{Stage}
use Rattle.search.specs.declared.stages.Stage.TheVariants as stage
use Rattle.search.specs.Ending.{Nothing}
use Rattle.search.specs.Search.{found, come_to, SearchState, settled_of}
use Rattle.search.specs.Stage.{waiting_in, signals_in, IsQuiet, Delivers}
use Rattle.hall.specs.declared.calls.steps.Step.{Step}
use Rattle.hall.specs.declared.calls.steps.Step.TheVariants.{Take, Signal}
use Rattle.hall.specs.declared.calls.steps.Stepped.{Stepped}
use Rattle.hall.specs.declared.calls.steps.Stepped.TheVariants as stepped
use Rattle.search.specs.Finish.{Takes}
use Rattle.hall.specs.Hall.{Running, HallState, search_at, search_of_step}
use Rattle.hall.specs.Work.{SearchIsQuiet, NothingToDo, CanBeMade}
use Rattle.hall.specs.Kept.{Index, IsIndexed}
use Rattle.hall.proofs.Unsettled.{IsIn}
use Rattle.hall.proofs.Indexed.{looked_up, all_found}
use Rattle.hall.proofs.Stays.{quiet}
use Rattle.hall.proofs.laws.HallChanges.{tenant_of}

first_none : {X : Type 0} (xs : List X) → slice_get xs 0 ≡ None → xs ≡ []
first_none [] none = refl
first_none (x ∷ xs) none = cc

-- the step goes on with the search: it takes the first letter, where one waits, or delivers the oldest signal, if any
abbrev IsNext : List ℕ → ℕ → SearchState → Step → Type 0
IsNext who k s made = ((made ≡ Take who k 0) × (waiting_in s.stage ≢ [])) ⊎ ((made ≡ Signal who k 0) × (signals_in s.stage ≢ []))

-- a list that isn't longer than nothing is empty
none_long : {X : Type 0} (xs : List X) → length xs ≤ 0 → xs ≡ []
none_long [] short = refl
none_long (x ∷ xs) short = absurd (omega (arith, short))

-- a letter was taken, or a signal delivered
abbrev MadeProgress : Stepped → Type 0
MadeProgress answer = ((letter : ℕ) × (need : Need) × (answer ≡ stepped.Took letter need)) ⊎ (answer ≡ stepped.Signalled)

module _ (old new : SearchState) where
  -- where a letter waits, the first one is taken
  took_one : (got : Option (ℕ × Need)) → waiting_in old.stage ≢ [] → MatchOption got ((slice_get (waiting_in old.stage) 0 ≡ None) × (new ≡ old)) (λ l. Takes old new 0 l.0 l.1) →
      MadeProgress (option_map_or (λ l. stepped.Took l.0 l.1) got stepped.Nothing)
  took_one None waits (none, same) = absurd (waits (first_none (waiting_in old.stage) none))
  took_one (Some got) waits takes = inl (got.0, got.1, refl)

  -- where a signal is under way, the oldest is delivered
  delivered_one : (delivered : Bool) → signals_in old.stage ≢ [] → Delivers old.stage new.stage 0 delivered →
      MadeProgress (cond delivered stepped.Signalled stepped.Nothing)
  delivered_one false waits delivers = absurd (waits (none_long (signals_in old.stage) delivers.0))
  delivered_one true waits delivers = inr refl

module _ (h : HallState) (who : List ℕ) (k : ℕ) (r : Running) (at : search_at h who k ≡ Some r) where
  -- the step that goes on with a search takes a letter or delivers a signal
  goes_on : (made : Step) → IsNext who k r.search made → CanBeMade h made
  goes_on made (inl (is, waits)) answer new =
      rw (is, at) (λ made_so. let (got, takes, told) = made_so.1.is_made in rw told (took_one r.search made_so.0 got waits takes))
  goes_on made (inr (is, waits)) answer new =
      rw (is, at) (λ made_so. let (delivered, delivers, same, told) = made_so.1.is_made in rw told (delivered_one r.search made_so.0 delivered waits delivers))

  -- and something of its search is left to do
  is_left : (made : Step) → IsNext who k r.search made → SearchIsQuiet h (search_of_step made).0 (search_of_step made).1 → ⊥
  is_left made (inl (is, waits)) = rw is (λ quiet. waits (quiet r at).0)
  is_left made (inr (is, waits)) = rw is (λ quiet. waits (quiet r at).1)

-- a search that has come to something has nothing left to do
rests_at : (st : Stage) (g : GraphState) (q : Query) → (come_to st g q ≡ Nothing) ⊎ IsQuiet st
rests_at (stage.Running c) g q = by (outstanding c == 0) refl
  where
    by : (b : Bool) → (outstanding c == 0) ≡ b → (cond b (found g q) Nothing ≡ Nothing) ⊎ IsQuiet (stage.Running c)
    by true none = inr (quiet (stage.Running c) ((Decides-eqb (outstanding c) 0).0 none))
    by false some = inl refl
rests_at stage.Spent g q = inr (refl, refl)
rests_at stage.Broken g q = inr (refl, refl)

pub rests : (s : SearchState) → (settled_of s ≡ Nothing) ⊎ IsQuiet s.stage
unfolding settled_of
rests s = rests_at s.stage s.graph s.query

-- what holds of all numbers holds of one that is found among them
each : (P : ℕ → Type 0) (k : ℕ) (ks : List ℕ) → AllByRecursion P ks → list_any (λ q. k == q) ks ≡ true → P k
each P k ks all there = All-contains P ks k (All-from_recursion P ks all) (Contains-from_any exact_unsigned_eq k ks there)

-- where nothing of any search of the index is left to do, nothing is
pub nothing_left : {S Z : Type 0} (index : Index S Z) (h : HallState) → IsIndexed index h →
    AllByRecursion (λ (e : List ℕ × IndexSet ℕ Z). AllByRecursion (SearchIsQuiet h e.0) e.1.keys) index.entries → NothingToDo h
nothing_left {S} {Z} index h indexed still name k r at = by (rests r.search)
  where
    among : (o : Option (IndexSet ℕ Z)) → numbers_of is_same index name ≡ o → IsIn k o → IsQuiet r.search.stage
    among None none listed = absurd listed
    among (Some numbers) here listed =
        each (SearchIsQuiet h name) k numbers.keys
        (all_found names_exact is_same is_same_tied (λ e. AllByRecursion (SearchIsQuiet h e.0) e.1.keys) index.entries still name numbers
        (looked_up names_exact is_same is_same_tied index.entries name ∙ here)) listed r at

    by : (settled_of r.search ≡ Nothing) ⊎ IsQuiet r.search.stage → IsQuiet r.search.stage
    by (inr quiet) = quiet
    by (inl unsettled) =
        let (t, found, there) = tenant_of h name k r at in
        among (numbers_of is_same index name) refl (indexed.listed name t k r found there unsettled)

-- a search that isn't there, or is still
module _ (h : HallState) (who : List ℕ) (k : ℕ) where
  pub none_still : None ≡ option_map (λ (r : Running). r.search) (search_at h who k) → SearchIsQuiet h who k
  none_still none r at = let clash : None ≡ Some r.search = none ∙ ap (option_map (λ (q : Running). q.search)) at in cc

  pub one_still : (s : SearchState) → Some s ≡ option_map (λ (r : Running). r.search) (search_at h who k) → IsQuiet s.stage → SearchIsQuiet h who k
  one_still s found still r at =
      let both : Some s ≡ Some r.search = found ∙ ap (option_map (λ (q : Running). q.search)) at in
      let same : s ≡ r.search = cc in
      subst (λ (x : SearchState). IsQuiet x.stage) same still

-- a step that goes on with a search that is found makes progress, and something of that search is left
pub picked : (h : HallState) (who : List ℕ) (k : ℕ) (s : SearchState) (made : Step) →
    Some s ≡ option_map (λ (r : Running). r.search) (search_at h who k) → IsNext who k s made →
    CanBeMade h made × (SearchIsQuiet h (search_of_step made).0 (search_of_step made).1 → ⊥)
picked h who k s made found next = by (search_at h who k) refl found
  where
    by : (o : Option Running) → search_at h who k ≡ o → Some s ≡ option_map (λ (r : Running). r.search) o →
        CanBeMade h made × (SearchIsQuiet h (search_of_step made).0 (search_of_step made).1 → ⊥)
    by None at found = cc
    by (Some r) at found =
        let same : s ≡ r.search = cc found in
        let is = subst (λ (x : SearchState). IsNext who k x made) same next in
        (goes_on h who k r at made is, is_left h who k r at made is)

pub picked_some : (h : HallState) (made : Step) → (SearchIsQuiet h (search_of_step made).0 (search_of_step made).1 → ⊥) → (Some made ≡ None) ↔ NothingToDo h
picked_some h made left = (λ none. clash none, λ nothing. absurd (left (nothing (search_of_step made).0 (search_of_step made).1)))
  where
    clash : Some made ≡ None → NothingToDo h
    clash e = cc
