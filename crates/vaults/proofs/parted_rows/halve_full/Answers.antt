use Rattle.std.proofs.Common.{Bool, cond, List, arith, rules, length, insert, set, ◌<◌, ◌∙◌, ap, refl}
use Rattle.std.proofs.lemmas.Option.{slice_get_read}
use Rattle.std.specs.Result.{IsOk}
use Rattle.credential_text.specs.declared.credentials.Credential.{Credential}
use Rattle.vaults.specs.Blocks.{rows_in}
use Rattle.vaults.proofs.Parts.{behind_halved}
use Rattle.vaults.proofs.parted_rows.halve_full.Goals as goal

pub returns : goal.returns
returns c =
    let within : c.args.spot < length c.try_reserve.new.self.items = omega (arith, c.requires.within, ap length c.in_ok-try_reserve.ensures.items) in
    let done : IsOk c.insert.result = search rules in
    let parted : List (List Credential) = set c.try_reserve.new.self.items c.args.spot c.split_off.new.self in
    ap rows_in (c.insert.ensures.items ∙ ap (λ (b : Bool). cond b (insert parted c.args.spot c.in_ok-rest.rest) parted) done)
    ∙ behind_halved c.try_reserve.new.self.items c.args.spot c.index_mut.result.now c.split_off.new.self c.in_ok-rest.rest within
    (slice_get_read c.try_reserve.new.self.items (length c.try_reserve.new.self.items) c.args.spot c.index_mut.result.now refl within c.index_mut.ensures.value) c.in_ok-rest.ensures.parted
    ∙ ap rows_in c.in_ok-try_reserve.ensures.items
