use Rattle.std.proofs.Common.{ℕ, true, false, not, List, [], ◌∷◌, ◌++◌, ◌≡◌, ◌<◌, ◌∙◌, arith, length, sym, ap, refl, subst, set, nat_eq}
use Rattle.std.specs.List.{list_any}
use Rattle.std.specs.Ordering.{eq_by_cmp}
use Rattle.std.specs.BTreeSet.{insert_key}
use Rattle.std.proofs.lemmas.Bool.Decides.{nat_tests}
use Rattle.std.proofs.lemmas.Option.{slice_get_read}
use Rattle.credential_text.specs.declared.credentials.Credential.{Credential}
use Rattle.credential_text.specs.Credential.{credential_order}
use Rattle.vaults.specs.Blocks.{rows_in, IsSpot}
use Rattle.vaults.proofs.Outcomes.{on_err}
use Rattle.vaults.proofs.Parts.{put_at_spot, has_at_spot}
use Rattle.vaults.proofs.parted_rows.put_row.Goals as goal

-- the test of a count
is_nothing : (n : ℕ) → true ≡ nat_eq n 0 → n ≡ 0
is_nothing n e = grind (arith, nat_tests)

is_something : (n : ℕ) → false ≡ nat_eq n 0 → 0 < n
is_something n e = grind (arith, nat_tests)

none : (blocks : List (List Credential)) → length blocks ≡ 0 → blocks ≡ []
none [] _ = refl
none (b ∷ bs) e = absurd (omega (arith, e))

has_none : (blocks : List (List Credential)) (x : Credential) → length blocks ≡ 0 → list_any (eq_by_cmp credential_order x) (rows_in blocks) ≡ false
has_none blocks x e = ap (λ (l : List (List Credential)). list_any (eq_by_cmp credential_order x) (rows_in l)) (none blocks e)

put_first : (blocks more : List (List Credential)) (block : List Credential) (x : Credential) → length blocks ≡ 0 → more ≡ blocks ++ block ∷ [] → block ≡ x ∷ [] →
    rows_in more ≡ insert_key credential_order (rows_in blocks) x
put_first blocks more block x e pushed made =
    ap rows_in pushed
    ∙ ap (λ (l : List (List Credential)). rows_in (l ++ block ∷ [])) (none blocks e)
    ∙ made
    ∙ sym (ap (λ (l : List (List Credential)). insert_key credential_order (rows_in l) x) (none blocks e))

pub returns-in_err-block-clause-growth : goal.returns-in_err-block-clause-growth
returns-in_err-block-clause-growth c =
    on_err c.from_residual.result (has_none c.args.blocks.now.items c.args.credential.now (omega (arith, is_nothing c.args.blocks.now.len (sym c.if-is_empty.true ∙ c.is_empty.ensures), c.args.blocks.now.ok.0)))

pub returns-in_err-push-clause-unchanged : goal.returns-in_err-push-clause-unchanged
returns-in_err-push-clause-unchanged c = on_err c.from_residual-in_err-push.result (ap rows_in c.in_err-push.ensures.items)

pub returns-in_err-push-clause-growth : goal.returns-in_err-push-clause-growth
returns-in_err-push-clause-growth c =
    on_err c.from_residual-in_err-push.result (has_none c.args.blocks.now.items c.args.credential.now (omega (arith, is_nothing c.args.blocks.now.len (sym c.if-is_empty.true ∙ c.is_empty.ensures), c.args.blocks.now.ok.0)))

pub returns-then-is_empty-clause-put : goal.returns-then-is_empty-clause-put
returns-then-is_empty-clause-put c =
    put_first c.args.blocks.now.items c.push.new.self.items c.in_ok-block.block c.args.credential.now (omega (arith, is_nothing c.args.blocks.now.len (sym c.if-is_empty.true ∙ c.is_empty.ensures), c.args.blocks.now.ok.0)) c.in_ok-push.ensures.items c.in_ok-block.ensures

pub returns-then-is_empty-clause-missed : goal.returns-then-is_empty-clause-missed
returns-then-is_empty-clause-missed c = sym (ap not (has_none c.args.blocks.now.items c.args.credential.now (omega (arith, is_nothing c.args.blocks.now.len (sym c.if-is_empty.true ∙ c.is_empty.ensures), c.args.blocks.now.ok.0))))

pub spot_of-spot-requires : goal.spot_of-spot-requires
spot_of-spot-requires c =
    omega (arith, ap length c.deref.ensures.value, is_something c.args.blocks.now.len (sym c.if-is_empty.false ∙ c.is_empty.ensures), c.args.blocks.now.ok.0)

pub returns-in_err-missed-clause-growth : goal.returns-in_err-missed-clause-growth
returns-in_err-missed-clause-growth c =
    let spot : IsSpot c.args.credential.now c.spot_of-spot.result c.args.blocks.now.items =
    subst (IsSpot c.args.credential.now c.spot_of-spot.result) c.deref.ensures.value c.spot_of-spot.ensures in
    on_err c.from_residual-in_err-missed.result
    (has_at_spot c.args.blocks.now.items c.spot_of-spot.result c.args.credential.now c.index_mut.result.now c.requires spot
    (slice_get_read c.args.blocks.now.items (length c.args.blocks.now.items) c.spot_of-spot.result c.index_mut.result.now refl spot.within c.index_mut.ensures.value)
    ∙ c.in_err-missed.ensures.growth)

pub returns-clause-put : goal.returns-clause-put
returns-clause-put c =
    let spot : IsSpot c.args.credential.now c.spot_of-spot.result c.args.blocks.now.items =
    subst (IsSpot c.args.credential.now c.spot_of-spot.result) c.deref.ensures.value c.spot_of-spot.ensures in
    c.halve_full-halved.ensures
    ∙ ap (λ b. rows_in (set c.args.blocks.now.items c.spot_of-spot.result b)) c.in_ok-missed.ensures.put
    ∙ put_at_spot c.args.blocks.now.items c.spot_of-spot.result c.args.credential.now c.index_mut.result.now c.requires spot spot.within
    (slice_get_read c.args.blocks.now.items (length c.args.blocks.now.items) c.spot_of-spot.result c.index_mut.result.now refl spot.within c.index_mut.ensures.value)

pub returns-clause-missed : goal.returns-clause-missed
returns-clause-missed c =
    let spot : IsSpot c.args.credential.now c.spot_of-spot.result c.args.blocks.now.items =
    subst (IsSpot c.args.credential.now c.spot_of-spot.result) c.deref.ensures.value c.spot_of-spot.ensures in
    c.in_ok-missed.ensures.missed
    ∙ ap not (sym (has_at_spot c.args.blocks.now.items c.spot_of-spot.result c.args.credential.now c.index_mut.result.now c.requires spot
    (slice_get_read c.args.blocks.now.items (length c.args.blocks.now.items) c.spot_of-spot.result c.index_mut.result.now refl spot.within c.index_mut.ensures.value)))
