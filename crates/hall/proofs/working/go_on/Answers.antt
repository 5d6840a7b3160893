use Rattle.std.proofs.Common.{arith, true, Some, ◌==◌, ◌≡◌, ◌∙◌, ℕ, [], map, refl, sym, ap, vec_len, vec_capacity, length}
use Rattle.std.proofs.lemmas.Bool.{false≢true, eqb-true}
use Rattle.std.proofs.lemmas.List.{nil_from_length}
use Rattle.std.specs.Arc.{arc_value}
use Rattle.hall.specs.Batches.{Named, BatchState, letter_of}
use Rattle.search.specs.Stage.{IsQuiet}
use Rattle.hall.proofs.Batched.{filled, filled_none, left_or_not}
use Rattle.hall.proofs.working.go_on.Goals as goal
use Rattle.hall.proofs.working.go_on.Goals.{After-is_empty, then-is_empty+in-Some-1, then-is_empty+in-None-1, else-is_empty}

moves : (c : After-is_empty) → IsQuiet c.args.search.now.stage → ⊥
moves c quiet = false≢true (sym c.if-is_quiet.false ∙ c.is_quiet.ensures.quiet.1 quiet)

abbrev reads : (c : After-is_empty) → arc_value c.in-Ok.snapshot ≡ c.args.search.now.snapshot
reads c = c.in-Ok.ensures.cases ∙ c.snapshot.ensures

abbrev named_so : (c : After-is_empty) → Named
named_so c = record { who = c.args.who.now; number = c.args.number; snapshot = c.args.search.now.snapshot }

none_taken : (c : After-is_empty) → (vec_len c.take_each.new.held_letters == 0) ≡ true → c.take_each.new.held_letters.items ≡ []
none_taken c is =
    let held = c.take_each.new.held_letters in nil_from_length held.items (omega (arith, eqb-true (vec_len held) 0 is, held.ok.0))

room : (c : After-is_empty) → vec_capacity c.take_each.new.held_letters ≡ c.args.batch.now.room
room c = c.take_each.ensures.capacity ∙ c.clear.ensures.capacity ∙ ap (λ (b : BatchState). b.room) c.batch.view_is

pub returns : goal.returns
returns c =
    let d = (goal.at.returns c).After-is_empty in
    let held = c.take_each.new.held_letters in (
      refl,
      moves d,
      record {
        letters = map letter_of held.items;
        goes_on = c.take_each.ensures.goes_on (c.args.who.now, c.args.number);
        batch = elim c.if-is_empty.branch [
          | then-is_empty+in-Some-1 w ↦ w.batch-is ∙ filled_none (named_so d) held.items (vec_capacity held) c.args.batch.now.room (none_taken d (sym w.if-is_empty.ensures)) (room d)
          | then-is_empty+in-None-1 w ↦ w.batch-is ∙ filled_none (named_so d) held.items (vec_capacity held) c.args.batch.now.room (none_taken d (sym w.if-is_empty.ensures)) (room d)
          | else-is_empty w ↦
              let some : held.items ≡ [] → ⊥ = λ none. false≢true (sym w.if-is_empty.false ∙ c.is_empty.ensures ∙ ap (λ (n : ℕ). n == 0) (held.ok.0 ∙ ap length none)) in
              w.batch-is
              ∙ filled c.name.new.of (named_so d) held.items (vec_capacity held) c.args.batch.now.room (c.name.ensures ∙ ap (λ s. Some (record (named_so d) { snapshot = s })) (reads d)) some (room d)
        ];
        more = left_or_not c.is_quiet-2.result _ c.is_quiet-2.ensures.quiet;
      },
    )
