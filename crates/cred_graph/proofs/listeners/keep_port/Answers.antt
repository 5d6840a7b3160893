use Rattle.std.proofs.Common.{◌≡◌, ◌∙◌, ap, refl, sym, inl, inr, Some, slice_get}
use Rattle.std.proofs.lemmas.Result.{IfOk-from_err}
use Rattle.credential_text.specs.declared.exprs.Expr.TheVariants.{Ent}
use Rattle.cred_graph.specs.declared.listeners.Port.TheVariants as port
use Rattle.cred_graph.proofs.KeptLemmas.{not_kept}
use Rattle.cred_graph.proofs.NodeListLemmas.{on_err, slice_get_pushed}
use Rattle.cred_graph.proofs.NumberLemmas.{entity_is}
use Rattle.cred_graph.proofs.listeners.keep_port.Goals as goal

pub returns-in-Some : goal.returns-in-Some
returns-in-Some c = record {
  kept = (
    (c.in-Via.who, c.in-Some.ensures),
    ap port.Via (entity_is c.args.strangers.now c.in-Some.j c.in-Via.who c.in-Some.ensures) ∙ sym c.in-Via.is,
  );
  joins = inl refl;
  refused = tt;
}

pub returns-in-Some-entity_number : goal.returns-in-Some-entity_number
returns-in-Some-entity_number c = record {
  kept = (
    (c.in-Via.who, c.in-Some-entity_number.ensures, c.in-None.ensures),
    ap port.Via (entity_is c.args.nodes.now c.in-Some-entity_number.k c.in-Via.who c.in-Some-entity_number.ensures) ∙ sym c.in-Via.is,
  );
  joins = inl refl;
  refused = tt;
}

pub returns-in_ok-add-in-None-entity_number : goal.returns-in_ok-add-in-None-entity_number
returns-in_ok-add-in-None-entity_number c =
    let at : slice_get c.add.new.self c.in_ok-add-in-None-entity_number.field-0 ≡ Some (Ent c.in-Via.who) =
    rw (c.in_ok-add-in-None-entity_number.ensures.added, c.in_ok-add-in-None-entity_number.ensures.number) (slice_get_pushed c.args.strangers.now (Ent c.in-Via.who)) in
    record {
      kept = (
        (c.in-Via.who, at),
        ap port.Via (entity_is c.add.new.self c.in_ok-add-in-None-entity_number.field-0 c.in-Via.who at) ∙ sym c.in-Via.is,
      );
      joins = inr (c.in-Via.who, c.in-None-entity_number.ensures, c.in-None.ensures, c.in_ok-add-in-None-entity_number.ensures.added);
      refused = tt;
    }

pub returns-in_err-add-in-None-entity_number : goal.returns-in_err-add-in-None-entity_number
returns-in_err-add-in-None-entity_number c = record {
  kept = IfOk-from_err c.from_residual.result _ c.from_residual.ensures.0;
  joins = inl c.in_err-add-in-None-entity_number.ensures.unchanged;
  refused = on_err c.from_residual.result (λ p is same. not_kept c.args.nodes.now c.args.strangers.now c.in-Via.who c.in-None-entity_number.ensures c.in-None.ensures p is (same ∙ c.in-Via.is));
}

pub returns-in-Body : goal.returns-in-Body
returns-in-Body c = record { kept = (tt, sym c.in-Body.is); joins = inl refl; refused = tt }

pub returns-in-Base : goal.returns-in-Base
returns-in-Base c = record { kept = (tt, sym c.in-Base.is); joins = inl refl; refused = tt }

pub returns-in-Part : goal.returns-in-Part
returns-in-Part c = record { kept = (tt, sym c.in-Part.is); joins = inl refl; refused = tt }

pub add-requires : goal.add-requires
add-requires c = c.in-None.ensures
