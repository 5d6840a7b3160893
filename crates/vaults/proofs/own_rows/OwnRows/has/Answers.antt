use Rattle.std.proofs.Common.{List, length, ◌∙◌, sym, ap, refl, subst}
use Rattle.std.proofs.lemmas.Option.{slice_get_read}
use Rattle.credential_text.specs.declared.credentials.Credential.{Credential}
use Rattle.credential_text.specs.Credential.{credential_order}
use Rattle.vaults.specs.Blocks.{IsSpot}
use Rattle.vaults.proofs.Elements.{has}
use Rattle.vaults.proofs.Parts.{has_at_spot}
use Rattle.vaults.proofs.own_rows.OwnRows.has.Goals as goal

pub returns : goal.returns
returns c =
    let spot : IsSpot c.args.credential.now c.spot_of.result c.self.inside.blocks.items =
    subst (IsSpot c.args.credential.now c.spot_of.result) c.deref.ensures.value c.spot_of.ensures in
    c.has.ensures
    ∙ sym (has_at_spot c.self.inside.blocks.items c.spot_of.result c.args.credential.now c.index.result.now c.self.invariant.in_order spot
    (slice_get_read c.self.inside.blocks.items (length c.self.inside.blocks.items) c.spot_of.result c.index.result.now refl spot.within c.index.ensures))
    ∙ ap (λ (l : List Credential). has credential_order l c.args.credential.now) c.self.view_is
