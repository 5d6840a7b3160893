-- The row of the line is added, where a roster may have it there.
use Rattle.std.proofs.Common.{◌<◌, List, ◌∷◌, ◌++◌, length, arith, inl, refl, sym, Err}
use Rattle.std.specs.Result.{result_or}
use Rattle.service.specs.declared.faults.ScriptFault.TheVariants.{Memory}
use Rattle.service.specs.Roster.{RosterLine, IsRow, IsRoster}
use Rattle.service.proofs.RosterLemmas.{same_row, IsRow-named, IsRoster-many, IsRoster-twice, AddsRow-added, AddsRow-none, AddsRow-fault, AddsRow-pushed}
use Rattle.service.proofs.rosters.add_row.Goals as goal
use Rattle.service.proofs.rosters.add_row.Goals.{then-len-ge-MOST_TENANTS-via-then-len-ge-MOST_TENANTS, then-len-ge-MOST_TENANTS-via-else-len-ge-MOST_TENANTS+then-is_named}

pub returns-in_default : goal.returns-in_default
returns-in_default c = record { added = tt; none = λ refused row more is roster. c.in_default.ensures.none row is; fault = inl refl }

pub returns-then-len-ge-MOST_TENANTS : goal.returns-then-len-ge-MOST_TENANTS
returns-then-len-ge-MOST_TENANTS c =
    let rows = c.args.rows.now.items in
    let none : (row : RosterLine) (more : List RosterLine) → IsRow c.args.text.now row → IsRoster (rows ++ row ∷ more) → ⊥ = λ row more is roster.
    elim c.then-len-ge-MOST_TENANTS.branch [
      | then-len-ge-MOST_TENANTS-via-then-len-ge-MOST_TENANTS w ↦
          IsRoster-many rows row more (omega (arith, w.if-len-ge-MOST_TENANTS.true, c.len.ensures, c.args.rows.now.ok.0)) roster
      | then-len-ge-MOST_TENANTS-via-else-len-ge-MOST_TENANTS+then-is_named w ↦
          let named = rw w.deref.ensures.value at (sym w.if-is_named.ensures) in
          let same = IsRow-named c.args.text.now _ row c.in-Some.ensures.some is in
          IsRoster-twice rows row more named same roster
    ] in
    record { added = tt; none = λ refused. none; fault = inl refl }

pub returns : goal.returns
returns c =
    let rows = c.args.rows.now.items in
    let named = rw c.deref.ensures.value at (sym c.if-is_named.ensures) in
    let few : length rows < 1000 = omega (arith, c.if-len-ge-MOST_TENANTS.false, c.len.ensures, c.args.rows.now.ok.0) in
    let tried = result_or c.push.result (Err Memory) in
    let adds = AddsRow-pushed c.push.result rows c.push.new.self.items c.args.text.now _ c.in-Some.ensures.some c.push.ensures.items
    (same_row _ _ refl c.in_ok-word.ensures.items refl) few named refl in
    rw c.or.ensures (record {
      added = AddsRow-added rows c.push.new.self.items c.args.text.now tried adds;
      none = AddsRow-none rows c.push.new.self.items c.args.text.now tried adds;
      fault = AddsRow-fault rows c.push.new.self.items c.args.text.now tried adds;
    })
