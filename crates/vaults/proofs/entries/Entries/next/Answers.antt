use Rattle.std.proofs.Common.{[], ◌≡◌, ◌∙◌, sym, refl}
use Rattle.vaults.specs.KeptOnce.{same_entries}
use Rattle.vaults.proofs.Keeping.{kept_first, kept_none, told_next}
use Rattle.vaults.proofs.entries.Entries.next.Goals as goal

pub returns-in_default-clause-next : goal.returns-in_default-clause-next
returns-in_default-clause-next c =
    let none : c.args.self.now ≡ [] =
    sym c.self.view_is ∙ kept_none c.self.inside.bytes.now c.self.inside.kept c.in_default.ensures.entry in
    (none, none)

pub invariant_of-self-inside : goal.invariant_of-self-inside
invariant_of-self-inside c =
    let first : _ =
    kept_first c.self.inside.bytes.now c.self.inside.kept _ _ _ _ _ c.in-Ok.entry c.in-Some.ensures.nothing c.in-Some.ensures.entry c.in-Ok.ensures in
    ((first.1, first.4), tt)

pub returns-in-Ok-clause-next : goal.returns-in-Ok-clause-next
returns-in-Ok-clause-next c =
    let first : _ =
    kept_first c.self.inside.bytes.now c.self.inside.kept _ _ _ _ _ c.in-Ok.entry c.in-Some.ensures.nothing c.in-Some.ensures.entry c.in-Ok.ensures in
    told_next _ _ _ first.0 first.1 first.2 (sym c.self.view_is ∙ first.3) (same_entries _ _ _ _ first.4 c.self-in-Ok-1.given.0.1 refl)
