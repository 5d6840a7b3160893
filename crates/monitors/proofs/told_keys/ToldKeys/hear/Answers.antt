-- A set that is made for the key begins with no key.
use Rattle.std.proofs.Common.{◌≡◌, [], Bool, Contains, List, ap, ◌∙◌, sym, arith}
use Rattle.std.proofs.lemmas.Result.{IfOk-weaker, err_from_is_err_and}
use Rattle.monitors.specs.LinkMonitor.{AddsKey}
use Rattle.monitors.specs.Made.{keys_in}
use Rattle.monitors.proofs.KeyLemmas.{now_told, seen_still}
use Rattle.monitors.proofs.told_keys.ToldKeys.hear.Given.{Over}
use Rattle.monitors.proofs.told_keys.ToldKeys.hear.Goals as goal
use Rattle.monitors.proofs.told_keys.ToldKeys.hear.Goals.{After-make}

still : (g : Over) (c : After-make g) → keys_in c.make.new.place ≡ keys_in c.self.inside.keys
still g c = seen_still [] (λ (keys : List g.row.K.Denot). keys) (λ keys. keys ≡ []) (λ keys none. none) c.self.inside.keys c.make.new.place c.make.ensures.begins

pub returns-in_err-make : goal.returns-in_err-make
returns-in_err-make g c =
    let p = err_from_is_err_and c.from_residual.result c.from_residual.ensures.1 in
    rw (p.1, ← c.self.view_is) (record {
      ok = tt;
      told = tt;
      growth = rw c.in_err-make.ensures.lacking (λ there. omega (arith, there.1));
      unchanged = still g (goal.at.returns-in_err-make g c).After-make;
    })

pub returns : goal.returns
returns g c =
    let new = c.insert.new.self in
    let was = c.deref_mut.ensures.value ∙ ap keys_in (sym c.in-Some.is) ∙ still g (goal.at.returns g c).After-make in
    let told = IfOk-weaker c.insert.result (AddsKey c.deref_mut.result.now new c.args.key) (λ (is_new : Bool). Contains new c.args.key) (now_told c.deref_mut.result.now new c.args.key) c.insert.ensures.ok in
    rw (← c.self.view_is, ← was) (record { ok = c.insert.ensures.ok; told = told; growth = c.insert.ensures.growth; unchanged = c.insert.ensures.unchanged })
