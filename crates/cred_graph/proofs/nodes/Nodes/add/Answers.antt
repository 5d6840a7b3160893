use Rattle.std.proofs.Common.{◌≤◌, ◌<◌, ◌^◌, ◌≡◌, ◌∙◌, ap, arith, refl, List, [], ◌∷◌, ◌++◌, length}
use Rattle.std.proofs.lemmas.List.{length_push}
use Rattle.std.proofs.lemmas.Result.{IfOk-from_err}
use Rattle.credential_text.specs.Equality.{exprs_decided}
use Rattle.credential_text.specs.declared.exprs.Expr.{Expr}
use Rattle.credential_text.specs.contracts.exprs.ExprPartialEq.TheImpl as expr
use Rattle.indexmap.specs.IndexSet.{insert_key}
use Rattle.cred_graph.proofs.NodeListLemmas.{on_err}
use Rattle.cred_graph.proofs.Lookups.{insert_key-absent}
use Rattle.cred_graph.proofs.nodes.Nodes.add.Goals as goal
use Rattle.cred_graph.proofs.nodes.Nodes.add.Goals.{In_ok-_is_new}

short_pushed : (exprs after : List Expr) (e : Expr) → length exprs < 2 ^ 32 → after ≡ exprs ++ e ∷ [] → length after ≤ 2 ^ 32
short_pushed exprs after e room is = omega (arith, ap length is, length_push exprs e)

pushed : (c : In_ok-_is_new) → c.insert.new.self.keys ≡ c.self.inside.exprs.keys ++ c.args.expr.now ∷ []
pushed c =
    let absent = rw (← c.self.view_is) at c.requires in
    c.in_ok-_is_new.ensures.keys
    ∙ ap (insert_key expr.ghosts.eq c.self.inside.exprs.keys) c.in_ok-keep.ensures.same
    ∙ insert_key-absent expr.ghosts.eq exprs_decided c.self.inside.exprs.keys c.args.expr.now absent

pub invariant_of-self-2 : goal.invariant_of-self-2
invariant_of-self-2 c = short_pushed c.self.inside.exprs.keys _ c.args.expr.now (rw (← c.len-number.ensures.len) c.if-number-ge-MOST.false) (pushed c)

pub returns : goal.returns
returns c = record {
  number = c.len-number.ensures.len ∙ ap length c.self.view_is;
  added = rw (← c.self.view_is) (pushed c);
  range = c.in_ok-keep.ensures.range;
  unchanged = tt;
}

pub returns-then-number-ge-MOST : goal.returns-then-number-ge-MOST
returns-then-number-ge-MOST c = record { number = tt; added = tt; range = tt; unchanged = refl }

pub invariant_of-self : goal.invariant_of-self
invariant_of-self c = c.self.invariant

pub returns-in_err-keep : goal.returns-in_err-keep
returns-in_err-keep c = record {
  number = IfOk-from_err c.from_residual.result _ c.from_residual.ensures.0;
  added = IfOk-from_err c.from_residual.result _ c.from_residual.ensures.0;
  range = IfOk-from_err c.from_residual.result _ c.from_residual.ensures.0;
  unchanged = on_err c.from_residual.result c.self.view_is;
}

pub invariant_of-self-in_err-_is_new : goal.invariant_of-self-in_err-_is_new
invariant_of-self-in_err-_is_new c = rw c.in_err-_is_new.ensures.err c.self.invariant

pub returns-in_err-_is_new : goal.returns-in_err-_is_new
returns-in_err-_is_new c = record {
  number = IfOk-from_err c.from_residual-in_err-_is_new.result _ c.from_residual-in_err-_is_new.ensures.0;
  added = IfOk-from_err c.from_residual-in_err-_is_new.result _ c.from_residual-in_err-_is_new.ensures.0;
  range = IfOk-from_err c.from_residual-in_err-_is_new.result _ c.from_residual-in_err-_is_new.ensures.0;
  unchanged = on_err c.from_residual-in_err-_is_new.result (c.in_err-_is_new.ensures.err ∙ c.self.view_is);
}
