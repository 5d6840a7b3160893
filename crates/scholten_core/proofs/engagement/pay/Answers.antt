use Rattle.std.proofs.Common.{◌≡◌, ◌-◌, None, Some, option_map, refl, sym, ap, ◌∙◌, arith}
use Rattle.std.proofs.lemmas.List.{get_or-set_other, get_or-set_same, get_or_read, length-set}
use Rattle.scholten_core.specs.declared.engagement.Engagement.{Engagement}
use Rattle.scholten_core.specs.Kept.{engagement_of}
use Rattle.scholten_core.proofs.Delivered.{count_of, engaged_within}
use Rattle.scholten_core.proofs.engagement.pay.Goals as goal
use Rattle.scholten_core.proofs.engagement.pay.Goals.{In-Some}

found : (c : In-Some) → Some c.in-Some.engaged ≡ engagement_of c.args.nodes.now.items c.args.node
found c = sym c.in-Some.is ∙ get_or_read c.args.nodes.now.items c.args.node c.index_mut.result.now (engaged_within c.args.nodes.now.items c.args.node c.requires) c.index_mut.ensures.value None

pub returns : goal.returns
returns c =
    let nodes = c.args.nodes.now.items in
    let n = c.args.node in
    let found = found (goal.at.returns c).In-Some in record {
      same = λ m other. get_or-set_other _ n m None None other ∙ get_or-set_other nodes n m _ None other;
      paid = λ e there more. absurd (omega (arith, more, ap count_of (found ∙ there), c.if-engaged-gt1.false));
      gone = λ e there one. (ap (option_map (λ (x : Engagement). x.parent)) (found ∙ there), get_or-set_same _ n None None (omega (arith, engaged_within nodes n c.requires, length-set nodes n (Some c.in-Some.engaged))));
    }

pub returns-then-engaged-gt1 : goal.returns-then-engaged-gt1
returns-then-engaged-gt1 c =
    let nodes = c.args.nodes.now.items in
    let found = found (goal.at.returns-then-engaged-gt1 c).In-Some in record {
      same = λ m other. get_or-set_other nodes c.args.node m _ None other;
      paid = λ e there more. (refl, get_or-set_same nodes c.args.node _ None (engaged_within nodes c.args.node c.requires) ∙ ap (option_map (λ (x : Engagement). record x { deficit = x.deficit - 1 })) (found ∙ there));
      gone = λ e there one. absurd (omega (arith, one, ap count_of (found ∙ there), c.if-engaged-gt1.true));
    }
