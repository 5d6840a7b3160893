use Rattle.std.proofs.Common.{◌≡◌, ◌+◌, ◌<◌, None, Some, length, option_map, set, refl, sym, ap, ◌∙◌, arith}
use Rattle.std.proofs.lemmas.List.{get_or-set_other, get_or-set_same, get_or_read, set-get_or}
use Rattle.std.proofs.Math.ListN.{get_or-eq_default}
use Rattle.std.proofs.lemmas.Option.{none-some}
use Rattle.scholten_core.specs.declared.engagement.Engagement.{Engagement}
use Rattle.scholten_core.specs.Kept.{engagement_of}
use Rattle.scholten_core.proofs.engagement.receive.Goals as goal
use Rattle.scholten_core.proofs.engagement.receive.Goals.{then-place-len+in_default, else-place-len}

pub returns : goal.returns
returns c =
    let old = c.args.nodes.now.items in
    let (neutral, stays) : (None ≡ engagement_of old c.args.to) × (c.if-place-len.nodes.items ≡ old) =
    elim c.if-place-len.branch [
      | then-place-len+in_default w ↦ (sym w.in_default.is ∙ get_or_read old c.args.to w.index_mut.result.now (omega (arith, w.if-place-len.true, c.len.ensures, c.args.nodes.now.ok.0)) w.index_mut.ensures.value None, ap (λ v. v.items) w.nodes-is ∙ ap (set old c.args.to) w.index_mut.ensures.value ∙ set-get_or old c.args.to w.index_mut.result.now)
      | else-place-len w ↦ (sym (get_or-eq_default old None (omega (arith, w.if-place-len.false, c.len.ensures, c.args.nodes.now.ok.0))), ap (λ v. v.items) w.nodes-is)
    ] in record {
      received = record {
        same = λ n other. get_or-set_other c.make_place.new.nodes.items c.args.to n _ None other ∙ c.in_ok-make_place.ensures.same n ∙ ap (λ ns. engagement_of ns n) stays;
        engaged = λ e there. absurd (none-some e (neutral ∙ there));
        anew = λ none some. (refl, get_or-set_same c.make_place.new.nodes.items c.args.to _ None (omega (arith, c.in_ok-make_place.ensures.place, c.make_place.new.nodes.ok.0)));
        idle = λ none nothing. absurd (omega (arith, nothing, c.if-count-eq0.false));
      };
      growth = tt;
      unchanged = tt;
    }

pub returns-in-Some : goal.returns-in-Some
returns-in-Some c =
    let nodes = c.args.nodes.now.items in
    let within : c.args.to < length nodes = omega (arith, c.if-place-len.true, c.len.ensures, c.args.nodes.now.ok.0) in
    let found : Some c.in-Some.engaged ≡ engagement_of nodes c.args.to = sym c.in-Some.is ∙ get_or_read nodes c.args.to c.index_mut.result.now within c.index_mut.ensures.value None in record {
      received = record {
        same = λ n other. get_or-set_other nodes c.args.to n _ None other;
        engaged = λ e there. (refl, get_or-set_same nodes c.args.to _ None within ∙ ap (option_map (λ (x : Engagement). record x { deficit = x.deficit + c.args.count })) (found ∙ there));
        anew = λ none some. absurd (none-some c.in-Some.engaged (sym none ∙ sym found));
        idle = λ none nothing. absurd (none-some c.in-Some.engaged (sym none ∙ sym found));
      };
      growth = tt;
      unchanged = tt;
    }
