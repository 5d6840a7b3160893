use Rattle.std.proofs.Common.{Bool, true, false, not, List, ◌∙◌, ◌≡◌, arith, sym, ap, refl, subst, length}
use Rattle.std.specs.List.Sorted.{IsStrictlySortedBy}
use Rattle.credential_text.specs.declared.credentials.Credential.{Credential}
use Rattle.credential_text.specs.Credential.{credential_order}
use Rattle.vaults.specs.Blocks.{rows_in, AreOwnRows}
use Rattle.vaults.proofs.Elements.{has, sorted-insert_key}
use Rattle.vaults.proofs.Orders.{credentials_exact}
use Rattle.vaults.proofs.Places.{insert_key-present}
use Rattle.vaults.proofs.Parts.{length-put}
use Rattle.vaults.proofs.own_rows.OwnRows.put.Goals as goal

is_false : (b : Bool) → not b ≡ true → b ≡ false
is_false true e = cc
is_false false e = refl

is_true : (b : Bool) → not b ≡ false → b ≡ true
is_true true e = refl
is_true false e = cc

pub returns-then-has-clause-put : goal.returns-then-has-clause-put
returns-then-has-clause-put c =
    insert_key-present credentials_exact c.args.self.now c.args.credential.now (subst (IsStrictlySortedBy credential_order) c.self.view_is c.self.invariant.in_order) (sym c.has.ensures ∙ c.if-has.true)

pub returns-else-missed-clause-same : goal.returns-else-missed-clause-same
returns-else-missed-clause-same c = λ none.
    c.in_ok-missed.ensures.put
    ∙ sym (insert_key-present credentials_exact (rows_in c.self.inside.blocks.items) c.args.credential.now c.self.invariant.in_order
    (is_true (has credential_order (rows_in c.self.inside.blocks.items) c.args.credential.now) (sym c.in_ok-missed.ensures.missed ∙ none)))
    ∙ c.self.view_is

pub invariant_of-self-then-missed : goal.invariant_of-self-then-missed
invariant_of-self-then-missed c =
    let rows : List Credential = rows_in c.self.inside.blocks.items in
    let absent : has credential_order rows c.args.credential.now ≡ false = is_false (has credential_order rows c.args.credential.now) (sym c.in_ok-missed.ensures.missed ∙ c.if-missed.true) in
    record {
      in_order = subst (IsStrictlySortedBy credential_order) (sym c.in_ok-missed.ensures.put) (sorted-insert_key credentials_exact rows c.args.credential.now c.self.invariant.in_order);
      counted = omega (arith, ap length c.in_ok-missed.ensures.put, length-put rows c.args.credential.now absent, c.self.invariant.counted);
    }

pub invariant_of-self-else-missed : goal.invariant_of-self-else-missed
invariant_of-self-else-missed c =
    let rows : List Credential = rows_in c.self.inside.blocks.items in
    let there : has credential_order rows c.args.credential.now ≡ true = is_true (has credential_order rows c.args.credential.now) (sym c.in_ok-missed.ensures.missed ∙ c.if-missed.false) in
    subst (λ (l : List Credential). AreOwnRows l c.self.inside.count)
    (insert_key-present credentials_exact rows c.args.credential.now c.self.invariant.in_order there ∙ sym c.in_ok-missed.ensures.put) c.self.invariant
