use Rattle.std.proofs.Common.{◌≡◌, Some, OnSome, remove, slice_index_or, sym, ap, subst, ◌∙◌, arith}
use Rattle.std.proofs.lemmas.Option.{slice_get-get_or}
use Rattle.scholten_core.specs.declared.parents.Parent.TheVariants.{Neutral}
use Rattle.scholten_core.proofs.signals.take.Goals as goal
use Rattle.scholten_core.proofs.signals.take.Goals.{then-place-eq0, else-place-eq0}

pub returns-clause-signal : goal.returns-clause-signal
returns-clause-signal c =
    let items = c.args.signals.now.items in
    let taken : c.if-place-eq0.taken ≡ Some (slice_index_or items c.args.place Neutral) =
    elim c.if-place-eq0.branch [
      | then-place-eq0 w ↦
          w.taken-is ∙ w.pop_front-taken.ensures.value Neutral (omega (arith, c.requires))
          ∙ ap (λ n. Some (slice_index_or items n Neutral)) (sym w.if-place-eq0.true)
      | else-place-eq0 w ↦ w.taken-is ∙ w.remove-taken.ensures.succeeds Neutral c.requires
    ] in
    slice_get-get_or items c.args.place Neutral (omega (arith, c.requires, c.args.signals.now.ok.0))
    ∙ sym taken ∙ c.unwrap.ensures

pub returns-clause-rest : goal.returns-clause-rest
returns-clause-rest c =
    let items = c.args.signals.now.items in
    elim c.if-place-eq0.branch [
      | then-place-eq0 w ↦
          ap (λ q. q.items) w.signals-is ∙ w.pop_front-taken.ensures.rest ∙ ap (remove items) (sym w.if-place-eq0.true)
      | else-place-eq0 w ↦
          ap (λ q. q.items) w.signals-is
          ∙ subst (λ o. OnSome o (w.remove-taken.new.self.items ≡ remove items c.args.place))
          (w.remove-taken.ensures.succeeds Neutral c.requires) w.remove-taken.ensures.items
    ]
