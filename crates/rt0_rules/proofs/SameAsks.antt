-- What `==` finds of the program's asks.
use Rattle.std.proofs.Common.{◌≡◌, ◌↔◌, ◌&&◌, ◌∙◌, List, Bool, true, ap, sym, rules}
use Rattle.std.specs.Bool.{Decides}
use Rattle.std.specs.List.{Contains, list_any}
use Rattle.std.proofs.lemmas.Bool.{and_parts, and_from}
use Rattle.rt0_rules.proofs.Adding.{is_among, found_among}
use Rattle.credential_text.specs.Equality.{exprs_decided}
use Rattle.rt0_rules.specs.declared.asks.Ask.{Ask}
use Rattle.rt0_rules.specs.declared.asks.Why.{Why}
use Rattle.rt0_rules.specs.declared.asks.Why.TheVariants.{Body, Base, Via, Part}
use Rattle.credential_text.specs.contracts.exprs.ExprPartialEq.TheImpl as expr
use Rattle.rt0_rules.specs.contracts.asks.WhyPartialEq.TheImpl as why
use Rattle.rt0_rules.specs.contracts.asks.AskPartialEq.TheImpl as ask

-- two reasons are found the same exactly where they are equal
pub whys_decided : (v w : Why) → Decides (why.ghosts.eq v w) (v ≡ w)
whys_decided Body Body = search rules
whys_decided Base Base = search rules
whys_decided (Via b) (Via c) = search rules
whys_decided (Part i) (Part j) = search rules
whys_decided v w = search rules

-- two asks are found the same exactly where they are equal
pub asks_decided : (x y : Ask) → Decides (ask.ghosts.eq x y) (x ≡ y)
asks_decided x y = (
  λ found.
      let outer : (expr.ghosts.eq x.asker y.asker ≡ true) × ((why.ghosts.eq x.why y.why && expr.ghosts.eq x.asked y.asked) ≡ true) = and_parts _ _ found in
      let inner : (why.ghosts.eq x.why y.why ≡ true) × (expr.ghosts.eq x.asked y.asked ≡ true) = and_parts _ _ outer.1 in
      λ i. record {
        asker = (exprs_decided x.asker y.asker).0 outer.0 i;
        why = (whys_decided x.why y.why).0 inner.0 i;
        asked = (exprs_decided x.asked y.asked).0 inner.1 i;
      },
  λ same.
      and_from _ _ ((exprs_decided x.asker y.asker).1 (ap (λ (a : Ask). a.asker) same))
      (and_from _ _ ((whys_decided x.why y.why).1 (ap (λ (a : Ask). a.why) same)) ((exprs_decided x.asked y.asked).1 (ap (λ (a : Ask). a.asked) same))),
)

-- a search finds the ask where it stands
pub found_where_among : (xs : List Ask) (x : Ask) (found : Bool) → found ≡ list_any (λ y. ask.ghosts.eq y x) xs → (found ≡ true) ↔ Contains xs x
found_where_among xs x found is = (
  λ there. is_among ask.ghosts.eq asks_decided xs x (sym is ∙ there),
  λ among. is ∙ found_among ask.ghosts.eq asks_decided xs x among,
)
