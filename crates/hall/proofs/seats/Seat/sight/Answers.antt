use Rattle.std.proofs.Common.{◌≡◌, ◌∙◌, ℕ, List, Some, ap, sym, subst, length, take, le_refl, arith}
use Rattle.std.proofs.lemmas.List.{take_all}
use Rattle.std.specs.FinMap.{get, from_entries}
use Rattle.std.specs.Ordering.{nat_cmp}
use Rattle.vaults.specs.declared.changes.Entry.{Entry}
use Rattle.vaults.specs.Journal.{view}
use Rattle.search.specs.Search.{SearchState}
use Rattle.hall.specs.Hall.{Running, Tenant, IsSoundSearch}
use Rattle.hall.proofs.Seated.{search_found}
use Rattle.hall.proofs.seats.Seat.sight.Goals as goal

-- the last search was opened over what the tenant saw of the same journal
pub returns-in_ok-clone-in-Some-clause-view : goal.returns-in_ok-clone-in-Some-clause-view
returns-in_ok-clone-in-Some-clause-view c =
    let m = c.self.inside.searches in
    let book : List Entry = c.args.book.now in
    let last : Running = c.in-Some.last.now in
    let there : get (from_entries {R = nat_cmp} m.entries) c.self.inside.opens ≡ Some last = search_found m c.self.inside.opens ∙ sym c.in-Some.ensures.value in
    let kept = subst (λ (t : Tenant). (k : ℕ) (r : Running) → get t.searches k ≡ Some r → IsSoundSearch book c.args.who t.limits r) (sym c.self.view_is) c.requires in
    let sound = kept c.self.inside.opens last there in
    let reads : last.search.snapshot ≡ record { asker = c.args.who; vaults = view (take last.opened_at book) c.args.who } =
    λ i. record { asker = sound.asker i; vaults = sound.view i } in
    let at : c.last.inside.opened_at ≡ length book = omega (arith, c.if-last-journal_len.true, c.journal_len.ensures) in
    let whole : take last.opened_at book ≡ book =
    ap (λ (n : ℕ). take n book) (ap (λ (r : Running). r.opened_at) (sym c.last.view_is) ∙ at) ∙ take_all (length book) book (le_refl (length book)) in
    let seen : last.search.snapshot ≡ record { asker = c.args.who; vaults = view book c.args.who } =
    reads ∙ ap (λ (j : List Entry). record { asker = c.args.who; vaults = view j c.args.who }) whole in
    c.in_ok-clone-in-Some.ensures.cases ∙ c.snapshot.ensures ∙ ap (λ (s : SearchState). s.snapshot) c.search.ensures
    ∙ ap (λ (r : Running). r.search.snapshot) c.last.view_is ∙ seen
