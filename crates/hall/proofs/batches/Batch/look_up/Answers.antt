use Rattle.std.proofs.Common.{◌≡◌, ◌<◌, ◌+◌, ap, arith, ℕ, List, Option, length, sym, subst, vec_capacity}
use Rattle.std.proofs.lemmas.List.{length-map}
use Rattle.hall.specs.declared.batches.{HeldLetter.HeldLetter, NamedSearch.NamedSearch}
use Rattle.search.specs.declared.queries.Hint.{Hint}
use Rattle.hall.specs.Batches.{BatchState, IsBatch, letter_of}
use Rattle.search.specs.Finish.{right_hint}
use Rattle.snapshots.specs.Snapshot.{SnapshotState}
use Rattle.hall.proofs.Batched.{batch, with_hint, looked_up_batch, looked_up_more, names_one}
use Rattle.hall.proofs.batches.Batch.look_up.Goals as goal

-- a letter is left to look up
left_in : (of : Option NamedSearch) (es : List HeldLetter) (looked room : ℕ) (s : BatchState) → batch of es looked room ≡ s → s.looked < length s.letters → looked < length es
left_in of es looked room s is within =
    let left = subst (λ (x : BatchState). x.looked < length x.letters) (sym is) within in
    let long = length-map es letter_of in
    omega (arith, left, long)

pub unreachable-requires : goal.unreachable-requires
unreachable-requires c =
    let b = c.self.inside in names_one b.of b.held_letters.items b.looked c.self.invariant (left_in b.of b.held_letters.items b.looked (vec_capacity b.held_letters) c.args.self.now c.self.view_is c.requires) c.in_default.is

pub index_mut-requires : goal.index_mut-requires
index_mut-requires c =
    let b = c.self.inside in
    let within = left_in b.of b.held_letters.items b.looked (vec_capacity b.held_letters) c.args.self.now c.self.view_is c.requires in
    omega (arith, within, b.held_letters.ok.0)

pub returns : goal.returns
returns c =
    let es = c.self.inside.held_letters.items in
    let n = c.self.inside.looked in
    let room = vec_capacity c.self.inside.held_letters in
    let e = c.index_mut.result.now in
    let hint : Hint = right_hint c.deref.result.now.vaults e.need in
    let within : n < length es = left_in c.self.inside.of es n room c.args.self.now c.self.view_is c.requires in
    let changed = with_hint c.in-Some.of es n room e hint c.index_mut.ensures.value within in
    rw (c.look_up.ensures)
    (subst (λ (b : BatchState). batch c.self.inside.of changed (n + 1) room ≡ record b { looked = b.looked + 1 }) c.self.view_is
    (subst (λ (o : Option NamedSearch). batch o changed (n + 1) room ≡ record (batch o es n room) { looked = n + 1 }) (sym c.in-Some.is)
    (looked_up_batch c.in-Some.of es n room e hint c.index_mut.ensures.value within)))

pub invariant_of-self : goal.invariant_of-self
invariant_of-self c =
    let es = c.self.inside.held_letters.items in
    let n = c.self.inside.looked in
    let room = vec_capacity c.self.inside.held_letters in
    let e = c.index_mut.result.now in
    let hint : Hint = right_hint c.deref.result.now.vaults e.need in
    let within : n < length es = left_in c.self.inside.of es n room c.args.self.now c.self.view_is c.requires in
    let right = ap (λ (s : SnapshotState). right_hint s.vaults e.need) c.deref.ensures in
    rw (c.look_up.ensures)
    (subst (λ (o : Option NamedSearch). IsBatch o (with_hint c.in-Some.of es n room e hint c.index_mut.ensures.value within) (n + 1)) (sym c.in-Some.is)
    (looked_up_more c.in-Some.of es n room e hint c.index_mut.ensures.value within right (subst (λ (o : Option NamedSearch). IsBatch o es n) c.in-Some.is c.self.invariant)))
