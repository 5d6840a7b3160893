-- What the table hears is heard. Who was told nothing wasn't told this.
use Rattle.std.proofs.Common.{◌≡◌, refl, ℕ, List, Option, Box, ◌∙◌, [], ◌∷◌, ap, sym, subst, true≢false, Contains}
use Rattle.std.specs.FinSet as set
use Rattle.std.specs.Map.{keys_of}
use Rattle.std.specs.declared.alloc.Global.{Global}
use Rattle.std.proofs.lemmas.List.Elements.{Contains-append_right}
use Rattle.std.proofs.lemmas.Result.{err_from_is_err_and, on_err_weaker}
use Rattle.monitors.specs.Made.{made_or}
use Rattle.monitors.specs.MeetMonitor.{told_order, MeetLines, IsUntold, HasKeysOf, lines_of, pairs_of, named}
use Rattle.monitors.specs.declared.keyed_meets.MeetTable.{MeetTable}
use Rattle.monitors.specs.declared.tellers.Tellers.{Tellers}
use Rattle.monitors.proofs.KeyLemmas.{seen_still}
use Rattle.monitors.proofs.keyed_meets.KeyedMeet.part_told.Given.{Over}
use Rattle.monitors.proofs.keyed_meets.KeyedMeet.part_told.Goals as goal
use Rattle.monitors.proofs.keyed_meets.KeyedMeet.part_told.Goals.{After-make, After-deref_mut}

nothing_told : {K : Type 0} (m : MeetLines K) (part : ℕ) (who : K) → m.lines ≡ [] → IsUntold m part who
nothing_told m part who none = record {
  untold = λ name apart told.
      true≢false (sym told ∙ ap (λ lines. set.contains {R = told_order} (set.from_list (pairs_of (named name lines))) (part, name who)) none ∙ set.contains-empty told_order (part, name who));
}

keys_still : {K : Type 0} (old new : MeetLines K) (who : K) → new ≡ old → HasKeysOf old new who
keys_still old new who same = record { known = λ k there. Contains-append_right (who ∷ []) (keys_of old.lines) k (subst (λ (m : MeetLines _). Contains (keys_of m.lines) k) same there) }

-- what the monitor holds is seen as these lines
abbrev lines_in : {K : Type 0} → Option (Box (MeetTable K) Global) → List (K × Tellers)
lines_in = made_or [] (λ t. t.lines.entries)

still : (g : Over) (c : After-make g) → lines_in c.make.new.place ≡ lines_in c.self.inside.told
still g c = seen_still [] (λ (t : MeetTable g.row.K.Denot). t.lines.entries) (λ t. t.lines.entries ≡ []) (λ t none. none) c.self.inside.told c.make.new.place c.make.ensures.begins

pub invariant_of-self : goal.invariant_of-self
invariant_of-self g c = rw (still g (goal.at.invariant_of-self g c).After-make) c.self.invariant

pub returns-in_err-make : goal.returns-in_err-make
returns-in_err-make g c =
    let same = ap (lines_of c.self.inside.parts) (still g (goal.at.returns-in_err-make g c).After-make) ∙ c.self.view_is in
    let none = ap (λ (m : MeetLines g.row.K.Denot). m.lines) (sym c.self.view_is) ∙ ap lines_in c.in_err-make.ensures.lacking in
    let p = err_from_is_err_and c.from_residual.result c.from_residual.ensures.1 in
    rw p.1 (record {
      ok = tt;
      keys = keys_still c.args.self.now _ c.args.who same;
      parts = ap (λ (m : MeetLines g.row.K.Denot). m.parts) same;
      growth = nothing_told c.args.self.now c.args.part c.args.who none;
      unchanged = same;
    })

was : (g : Over) (c : After-deref_mut g) → c.deref_mut.result.now.lines.entries ≡ lines_in c.self.inside.told
was g c = ap (λ (t : MeetTable g.row.K.Denot). t.lines.entries) c.deref_mut.ensures.value ∙ ap lines_in (sym c.in-Some.is) ∙ seen_still [] (λ (t : MeetTable g.row.K.Denot). t.lines.entries) (λ t. t.lines.entries ≡ []) (λ t none. none) c.self.inside.told c.make.new.place c.in_ok-make.ensures.begins

pub hear-requires : goal.hear-requires
hear-requires g c =
    let is = was g (goal.at.hear-requires g c).After-deref_mut in
    record { table = rw is c.self.invariant; part = rw (← c.self.view_is) at c.requires }

pub returns : goal.returns
returns g c =
    let is = was g (goal.at.returns g c).After-deref_mut in
    let before = ap (lines_of c.self.inside.parts) is ∙ c.self.view_is in
    rw (← before) (record {
      ok = c.hear.ensures.ok;
      keys = c.hear.ensures.keys;
      parts = refl;
      growth = c.hear.ensures.growth;
      unchanged = on_err_weaker c.hear.result (ap (lines_of c.self.inside.parts)) c.hear.ensures.unchanged;
    })
