use Rattle.std.proofs.Common.{List, [], ◌<◌, ◌∙◌, suc, arith, get_or, drop, length, sym, ap, subst}
use Rattle.std.proofs.lemmas.Option.{slice_get-get_or}
use Rattle.credential_text.specs.declared.credentials.Credential.{Credential}
use Rattle.vaults.specs.Blocks.{rows_in}
use Rattle.vaults.proofs.Holders.{length-starts, start_told}
use Rattle.vaults.proofs.versions.Rows.start.Goals as goal

pub start_at-requires : goal.start_at-requires
start_at-requires c =
    omega (arith, ap length c.self.invariant.start, length-starts c.self.inside.blocks.now, subst (λ (l : List (List Credential)). c.args.spot < length l) (sym c.self.view_is) c.requires)

pub returns : goal.returns
returns c =
    start_told c.self.inside.blocks.now c.self.inside.starts.now c.args.spot c.start_at.result (get_or c.self.inside.blocks.now c.args.spot []) c.self.invariant.start c.start_at.ensures
    (slice_get-get_or c.self.inside.blocks.now c.args.spot [] (subst (λ (l : List (List Credential)). c.args.spot < length l) (sym c.self.view_is) c.requires))
    ∙ ap (λ (l : List (List Credential)). length (rows_in (drop (suc c.args.spot) l))) c.self.view_is
