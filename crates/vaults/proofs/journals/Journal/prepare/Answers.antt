use Rattle.std.proofs.Common.{ap, refl, arith, length, ◌∙◌}
use Rattle.vaults.specs.KeptOnce.{same_entries}
use Rattle.vaults.proofs.Keeping.{name_fits, subject_fits}
use Rattle.vaults.proofs.journals.Journal.prepare.Goals as goal

pub invariant_of-self : goal.invariant_of-self
invariant_of-self c = record {
  kept = c.args.self.now.kept;
  counted = c.args.self.now.counted;
  owes = c.args.self.now.owes;
  has_room = c.args.self.now.has_room;
}

pub returns-in_err-subject-clause-same : goal.returns-in_err-subject-clause-same
returns-in_err-subject-clause-same c = same_entries _ _ _ _ c.in_err-subject.self-1-own.given.0.1 c.args.self.now.kept.1 refl

pub overflow_add-row-2 : goal.overflow_add-row-2
overflow_add-row-2 c = omega (arith, name_fits c.args.who.now c.bytes.ensures.name, ap length c.bytes.ensures.value, subject_fits c.args.change.now c.in_ok-subject.ensures.names, c.in_ok-subject.ensures.size)

pub overflow_mul-row : goal.overflow_mul-row
overflow_mul-row c = omega (arith, name_fits c.args.who.now c.bytes.ensures.name, ap length c.bytes.ensures.value, subject_fits c.args.change.now c.in_ok-subject.ensures.names, c.in_ok-subject.ensures.size)

pub overflow_add-self : goal.overflow_add-self
overflow_add-self c =
    omega (
      arith,
      name_fits c.args.who.now c.bytes.ensures.name,
      ap length c.bytes.ensures.value,
      subject_fits c.args.change.now c.in_ok-subject.ensures.names,
      c.in_ok-subject.ensures.size,
      c.args.self.now.has_room,
      c.args.self.now.bytes.small,
    )

pub invariant_of-self-then-gives : goal.invariant_of-self-then-gives
invariant_of-self-then-gives c = record {
  kept = (c.args.self.now.kept.0, (c.args.self.now.kept.1.0, c.try_reserve.ensures.items ∙ c.args.self.now.kept.1.1));
  counted = c.args.self.now.counted;
  owes = c.args.self.now.owes;
  has_room = omega (arith, c.args.self.now.has_room, c.try_reserve.ensures.len, c.try_reserve.ensures.capacity);
}

pub returns-in_err-try_reserve-clause-same : goal.returns-in_err-try_reserve-clause-same
returns-in_err-try_reserve-clause-same c = same_entries _ _ _ _ c.self-then-gives-1.given.0.1 c.args.self.now.kept.1 c.try_reserve.ensures.items

pub returns-in_ok-try_reserve-clause-same : goal.returns-in_ok-try_reserve-clause-same
returns-in_ok-try_reserve-clause-same c = same_entries _ _ _ _ c.self-then-gives-1.given.0.1 c.args.self.now.kept.1 c.try_reserve.ensures.items

pub invariant_of-self-else-gives : goal.invariant_of-self-else-gives
invariant_of-self-else-gives c = record {
  kept = c.args.self.now.kept;
  counted = c.args.self.now.counted;
  owes = c.args.self.now.owes;
  has_room = c.args.self.now.has_room;
}

pub returns-else-gives-clause-same : goal.returns-else-gives-clause-same
returns-else-gives-clause-same c = same_entries _ _ _ _ c.self-else-gives-1.given.0.1 c.args.self.now.kept.1 refl
