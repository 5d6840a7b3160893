use Rattle.std.proofs.Common.{◌≡◌, ◌+◌, ◌<◌, ◌⊎◌, inl, inr, Some, true, option_map, refl, sym, ap, ◌∙◌, arith}
use Rattle.std.specs.List.{slice_get}
use Rattle.std.specs.Map.{keys_of}
use Rattle.scholten_core.specs.declared.letters.Letter.{Letter}
use Rattle.scholten_core.specs.Computation.{waiting}
use Rattle.scholten_core.specs.LetterTable.{set_value_at, standing}
use Rattle.scholten_core.proofs.Standing.{WaitingLetter, length-waiting, letter_waiting, waiting-at, waits_within, key_get, keys-set_value, length-numbered_le, standing-change}
use Rattle.scholten_core.proofs.Tables.{taken}
use Rattle.scholten_core.proofs.letter_tables.LetterTable.take.Given.{Over}
use Rattle.scholten_core.proofs.letter_tables.LetterTable.take.Goals as goal
use Rattle.scholten_core.proofs.letter_tables.LetterTable.take.Goals.{Start, After-self, After-hold, then-place-eq0, else-place-eq0, then-follow-eq0, else-follow-eq0}

inside : (g : Over) (c : After-self g) → c.args.place < c.self.inside.waits
inside g c =
    let place = rw (← c.self.view_is) at c.requires in
    omega (arith, place, length-waiting c.self.inside.letters.items, c.self.invariant.waiting)

pub overflow_sub-follow : goal.overflow_sub-follow
overflow_sub-follow g c = omega (arith, inside g (goal.at.overflow_sub-follow g c).After-self)

pub overflow_sub-follow-2 : goal.overflow_sub-follow-2
overflow_sub-follow-2 g c = omega (arith, inside g (goal.at.overflow_sub-follow-2 g c).After-self)

pub seek-at-requires : goal.seek-at-requires
seek-at-requires g c = record {
  none = c.self.invariant.before;
  all = c.self.invariant.all ∙ c.self.invariant.waiting;
  within = c.self.invariant.within_last;
  there = omega (arith, inside g (goal.at.seek-at-requires g c).After-self, c.self.invariant.waiting);
}

pub overflow_sub-self : goal.overflow_sub-self
overflow_sub-self g c = omega (arith, inside g (goal.at.overflow_sub-self g c).After-self)

pub overflow_add-self : goal.overflow_add-self
overflow_add-self g c =
    omega (arith, waits_within c.self.inside.letters.items c.args.place c.seek-at.result c.seek-at.ensures, length-numbered_le 0 c.self.inside.letters.items c.self.inside.sent c.self.invariant.numbers, c.self.ranges)

pub hold-requires : goal.hold-requires
hold-requires g c = waits_within c.self.inside.letters.items c.args.place c.seek-at.result c.seek-at.ensures

-- the waiting letter
slot : (g : Over) (c : After-hold g) → WaitingLetter c.self.inside.letters.items c.seek-at.result c.hold.result c.hold.ensures.0
slot g c = letter_waiting c.self.inside.letters.items c.args.place c.seek-at.result c.hold.result c.hold.ensures.0 c.seek-at.ensures c.hold.ensures.1

-- what is written there
written : (g : Over) (c : After-hold g) → c.hold.new.letters.items ≡ set_value_at c.self.inside.letters.items c.seek-at.result (Some (record (slot g c).letter { held = true }))
written g c =
    c.hold.ensures.2 ∙ ap (λ o. set_value_at c.self.inside.letters.items c.seek-at.result (option_map (λ (l : Letter _). record l { held = true }) o)) (slot g c).value

low : (g : Over) (c : After-hold g) → (c.if-place-eq0.self ≡ c.self.inside.first) ⊎ ((c.if-place-eq0.self ≡ c.seek-at.result + 1) × (c.args.place ≡ 0))
low g c =
    elim c.if-place-eq0.branch [ then-place-eq0 w ↦ inr (w.self-is, w.if-place-eq0.true) | else-place-eq0 w ↦ inl w.self-is ]

high : (g : Over) (c : After-hold g) → c.args.place < c.self.inside.waits → (c.if-follow-eq0.self ≡ c.self.inside.last) ⊎ ((c.if-follow-eq0.self ≡ c.seek-at.result) × (c.args.place + 1 ≡ c.self.inside.waits))
high g c within =
    elim c.if-follow-eq0.branch [ then-follow-eq0 w ↦ inr (w.self-is, omega (arith, w.if-follow-eq0.true, within)) | else-follow-eq0 w ↦ inl w.self-is ]

pub invariant_of-self : goal.invariant_of-self
invariant_of-self g c =
    let after = (goal.at.invariant_of-self g c).After-hold in
    let one = slot g after in
    let within = inside g (goal.at.invariant_of-self g c).After-self in
    rw (written g after) (taken _ _ _ _ _ _ c.self.invariant c.seek-at.result c.hold.result one.letter one.there c.args.place c.seek-at.ensures.place_is one.waits _ _ (low g after) (high g after within))

pub returns : goal.returns
returns g c =
    let after = (goal.at.returns g c).After-hold in
    let one = slot g after in
    let entries = c.self.inside.letters.items in
    let at = c.seek-at.result in
    let k = c.hold.result in
    rw (← c.self.view_is) (record {
      waited = (one.letter, ap (slice_get (waiting (standing entries))) (sym c.seek-at.ensures.place_is) ∙ waiting-at at entries k one.letter one.there one.waits);
      letters = ap standing (written g after) ∙ standing-change (λ x. record x { held = true }) 0 entries c.self.inside.sent at k one.letter c.self.invariant.numbers one.there;
      stands = ap (λ es. slice_get (keys_of es) at) (written g after) ∙ ap (λ ks. slice_get ks at) (keys-set_value entries at _) ∙ key_get entries at k (Some one.letter) one.there;
      sent = refl;
    })
