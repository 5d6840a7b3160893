use Rattle.std.proofs.Common.{ℕ, List, [], Option, unwrap_or, is_some, ◌≡◌, ◌⊎◌, inl, inr, sym, ap}
use Rattle.vaults.specs.declared.changes.Change.{Change}
use Rattle.vaults.specs.declared.changes.Change.TheVariants.{Grant, Revoke, GrantAll, RevokeAll}
use Rattle.vaults.specs.Journal.{gift}
use Rattle.vaults.proofs.Granting.{granting_dropped, public_dropped, reader_ended, all_ended}
use Rattle.vaults.proofs.books.end_gift.Goals as goal

of_all : (change : Change) → (change ≡ GrantAll) ⊎ (change ≡ RevokeAll) → gift change ≡ GrantAll
of_all change (inl is) = ap gift is
of_all change (inr is) = ap gift is

of_reader : (change : Change) (reader : List ℕ) → (change ≡ Grant reader) ⊎ (change ≡ Revoke reader) → gift change ≡ Grant reader
of_reader change reader (inl is) = ap gift is
of_reader change reader (inr is) = ap gift is

pub returns-in-GrantAll : goal.returns-in-GrantAll
returns-in-GrantAll c =
    all_ended c.args.owner c.args.change.now c.args.granting.now _ _ (of_all _ c.in-GrantAll.is) (public_dropped _ _ _ c.remove.ensures)

pub returns-in-Some : goal.returns-in-Some
returns-in-Some c =
    let after = c.get_mut.follows.lender c.remove-in-Some.new.self in
    reader_ended c.args.owner c.args.change.now c.in-Grant.reader c.args.granting.now after _ (of_reader _ _ c.in-Grant.is)
    (granting_dropped c.args.owner c.in-Grant.reader c.in-Some.owners.now c.remove-in-Some.new.self c.args.granting.now after
    (ap (λ (l : Option (List (List ℕ))). unwrap_or l []) c.in-Some.ensures.value) c.remove-in-Some.ensures
    ((c.get_mut.follows.holds c.remove-in-Some.new.self).3 (ap is_some (sym c.in-Some.ensures.value))).0)
