-- The text is cut where the byte stands first.
use Rattle.std.proofs.Common.{◌==◌, sym, ◌∙◌, refl, arith}
use Rattle.names.proofs.Positions.{none_passes, first_passes, list_any-inside, list_any-outside}
use Rattle.names.proofs.PieceLemmas.{before_place, after_place, pieces_place, whole_place, before_none, pieces_nowhere}
use Rattle.names.proofs.texts.cut.Goals as goal

pub returns-in-Some : goal.returns-in-Some
returns-in-Some c =
    let byte = c.args.byte in
    let text = c.args.text.now in
    let place = c.in-Some.place in
    let at = first_passes (λ b. b == byte) text place (sym c.in-Some.ensures) in
    record {
      found = (λ _. list_any-inside (λ b. b == byte) text (omega (arith, at.0, at.1)), λ _. refl);
      before = before_place byte text place at.0 at.1;
      after = after_place byte text place at.0 at.1;
      pieces = pieces_place byte text place at.0 at.1;
      whole = whole_place byte text place at.0 at.1;
    }

pub returns-in-None : goal.returns-in-None
returns-in-None c =
    let byte = c.args.byte in
    let text = c.args.text.now in
    let none = none_passes (λ b. b == byte) text (sym c.in-None.ensures) in
    record {
      found = (λ no. cc, λ some. sym (list_any-outside (λ b. b == byte) text none) ∙ some);
      before = before_none byte text none;
      after = tt;
      pieces = pieces_nowhere byte text none;
      whole = refl;
    }
