use Rattle.std.proofs.Common.{Bool, cond, ◌+◌, ◌-◌, ◌≡◌, [], ◌∷◌, ◌++◌, ◌∙◌, sym, ap, refl, arith, length, vec_len, vec_capacity}
use Rattle.std.proofs.lemmas.List.{length_push}
use Rattle.vaults.specs.Kept.{drafted, subject_of}
use Rattle.vaults.specs.KeptOnce.{same_entries}
use Rattle.vaults.specs.Owed.{gives}
use Rattle.vaults.proofs.Keeping.{name_fits, subject_fits, kept_fit, kept_push}
use Rattle.vaults.proofs.OwedLemmas.{IsRoom, is_room}
use Rattle.vaults.proofs.journals.Journal.enter.Goals as goal

pub overflow_add-row-2 : goal.overflow_add-row-2
overflow_add-row-2 c =
    omega (
      arith,
      name_fits c.args.who.now c.requires.prepared.tenant_named,
      ap length c.bytes-tenant.ensures.value,
      subject_fits c.args.change.now c.requires.prepared.change_named,
      ap length (c.subject-subject.ensures ∙ ap (drafted c.args.change.now) c.deref.ensures.value ∙ c.requires.prepared.subject),
    )

pub append_row-requires-clause-subject : goal.append_row-requires-clause-subject
append_row-requires-clause-subject c =
    omega (arith, subject_fits c.args.change.now c.requires.prepared.change_named, ap length (c.subject-subject.ensures ∙ ap (drafted c.args.change.now) c.deref.ensures.value ∙ c.requires.prepared.subject))

pub append_row-requires-clause-room : goal.append_row-requires-clause-room
append_row-requires-clause-room c =
    let long : length c.bytes-tenant.result.now + length c.subject-subject.result.now + 5 ≡ length c.args.who.now + length (subject_of c.args.change.now) + 5 =
    omega (arith, ap length c.bytes-tenant.ensures.value, ap length (c.subject-subject.ensures ∙ ap (drafted c.args.change.now) c.deref.ensures.value ∙ c.requires.prepared.subject)) in
    let room : IsRoom c.args.self.now.kept.0 c.args.who.now c.args.change.now (length c.bytes-tenant.result.now + length c.subject-subject.result.now + 5) c.args.self.now.room (vec_len c.args.self.now.bytes) (vec_capacity c.args.self.now.bytes) =
    is_room c.args.self.now.kept.0 c.args.who.now c.args.change.now (length c.bytes-tenant.result.now + length c.subject-subject.result.now + 5) c.args.self.now.room (vec_len c.args.self.now.bytes) (vec_capacity c.args.self.now.bytes)
    c.requires.accepted long c.args.self.now.owes c.args.self.now.has_room c.requires.prepared.makes in
    omega (arith, room.row_fits)

pub overflow_add-self : goal.overflow_add-self
overflow_add-self c =
    omega (
      arith,
      kept_fit c.args.self.now.bytes.items c.args.self.now.kept.0 c.args.self.now.kept.1,
      c.args.self.now.counted,
      c.args.self.now.bytes.ok.0,
      c.args.self.now.bytes.ok.1,
      c.args.self.now.bytes.small,
    )

pub room_after-self-requires-clause-more : goal.room_after-self-requires-clause-more
room_after-self-requires-clause-more c = λ given.
    let long : length c.bytes-tenant.result.now + length c.subject-subject.result.now + 5 ≡ length c.args.who.now + length (subject_of c.args.change.now) + 5 =
    omega (arith, ap length c.bytes-tenant.ensures.value, ap length (c.subject-subject.ensures ∙ ap (drafted c.args.change.now) c.deref.ensures.value ∙ c.requires.prepared.subject)) in
    omega (arith, c.requires.prepared.makes (sym c.gives.ensures ∙ given), long, c.args.self.now.bytes.small)

pub room_after-self-requires-clause-less : goal.room_after-self-requires-clause-less
room_after-self-requires-clause-less c = λ takes.
    let long : length c.bytes-tenant.result.now + length c.subject-subject.result.now + 5 ≡ length c.args.who.now + length (subject_of c.args.change.now) + 5 =
    omega (arith, ap length c.bytes-tenant.ensures.value, ap length (c.subject-subject.ensures ∙ ap (drafted c.args.change.now) c.deref.ensures.value ∙ c.requires.prepared.subject)) in
    let room : IsRoom c.args.self.now.kept.0 c.args.who.now c.args.change.now (length c.bytes-tenant.result.now + length c.subject-subject.result.now + 5) c.args.self.now.room (vec_len c.args.self.now.bytes) (vec_capacity c.args.self.now.bytes) =
    is_room c.args.self.now.kept.0 c.args.who.now c.args.change.now (length c.bytes-tenant.result.now + length c.subject-subject.result.now + 5) c.args.self.now.room (vec_len c.args.self.now.bytes) (vec_capacity c.args.self.now.bytes)
    c.requires.accepted long c.args.self.now.owes c.args.self.now.has_room c.requires.prepared.makes in
    omega (arith, room.room_fits (sym c.gives.ensures ∙ takes))

pub invariant_of-self : goal.invariant_of-self
invariant_of-self c =
    let long : length c.bytes-tenant.result.now + length c.subject-subject.result.now + 5 ≡ length c.args.who.now + length (subject_of c.args.change.now) + 5 =
    omega (arith, ap length c.bytes-tenant.ensures.value, ap length (c.subject-subject.ensures ∙ ap (drafted c.args.change.now) c.deref.ensures.value ∙ c.requires.prepared.subject)) in
    let room : IsRoom c.args.self.now.kept.0 c.args.who.now c.args.change.now (length c.bytes-tenant.result.now + length c.subject-subject.result.now + 5) c.args.self.now.room (vec_len c.args.self.now.bytes) (vec_capacity c.args.self.now.bytes) =
    is_room c.args.self.now.kept.0 c.args.who.now c.args.change.now (length c.bytes-tenant.result.now + length c.subject-subject.result.now + 5) c.args.self.now.room (vec_len c.args.self.now.bytes) (vec_capacity c.args.self.now.bytes)
    c.requires.accepted long c.args.self.now.owes c.args.self.now.has_room c.requires.prepared.makes in
    let after : c.room_after-self.result ≡ cond (gives c.args.change.now) (c.args.self.now.room + (length c.bytes-tenant.result.now + length c.subject-subject.result.now + 5)) (c.args.self.now.room - (length c.bytes-tenant.result.now + length c.subject-subject.result.now + 5)) =
    c.room_after-self.ensures ∙ ap (λ (b : Bool). cond b (c.args.self.now.room + (length c.bytes-tenant.result.now + length c.subject-subject.result.now + 5)) (c.args.self.now.room - (length c.bytes-tenant.result.now + length c.subject-subject.result.now + 5))) c.gives.ensures in
    record {
      kept = (
        c.args.self.now.kept.0 ++ record { tenant = c.args.who.now; change = c.args.change.now } ∷ [],
        kept_push c.args.self.now.bytes.items c.append_row.new.bytes.items c.bytes-tenant.result.now c.subject-subject.result.now c.kind.result c.args.self.now.kept.0
            c.args.who.now c.args.change.now c.args.self.now.kept.1 c.requires.prepared.tenant_named c.requires.prepared.change_named c.kind.ensures c.bytes-tenant.ensures.value
            (c.subject-subject.ensures ∙ ap (drafted c.args.change.now) c.deref.ensures.value ∙ c.requires.prepared.subject) c.append_row.ensures.appended,
      );
      counted = omega (arith, c.args.self.now.counted, length_push c.args.self.now.kept.0 (record { tenant = c.args.who.now; change = c.args.change.now }));
      owes = omega (arith, room.owed_fits, after);
      has_room = omega (arith, room.all_fits, after, c.append_row.ensures.len, c.append_row.ensures.capacity);
    }

pub returns : goal.returns
returns c =
    same_entries _ _ _ _ c.self-1.given.0.1
    (kept_push c.args.self.now.bytes.items c.append_row.new.bytes.items c.bytes-tenant.result.now c.subject-subject.result.now c.kind.result c.args.self.now.kept.0
    c.args.who.now c.args.change.now c.args.self.now.kept.1 c.requires.prepared.tenant_named c.requires.prepared.change_named c.kind.ensures c.bytes-tenant.ensures.value
    (c.subject-subject.ensures ∙ ap (drafted c.args.change.now) c.deref.ensures.value ∙ c.requires.prepared.subject) c.append_row.ensures.appended)
    refl
