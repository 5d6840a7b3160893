use Rattle.std.proofs.Common.{◌≡◌, Some, sym, subst, slice_get}
use Rattle.cred_graph.specs.Graph.{IsNode}
use Rattle.proof_trees.specs.Draft.{DraftState}
use Rattle.proof_trees.specs.Proof.{Claims}
use Rattle.proof_trees.proofs.Numbered.{at_position}
use Rattle.proof_trees.proofs.DraftLemmas.{claims_found}
use Rattle.proof_trees.proofs.drafts.Draft.number.Goals as goal

pub returns-in-Some-get_index_of : goal.returns-in-Some-get_index_of
returns-in-Some-get_index_of c =
    record {
      claims = λ e node.
          let (stands, same_node, same_who) = c.in-Some.ensures in
          let at = at_position c.self.inside.places.keys c.in-Some.found.place c.in-Some-get_index_of.number c.in-Some-get_index_of.ensures.index in
          let there = subst (λ (d : DraftState). slice_get d.places c.in-Some-get_index_of.number ≡ Some c.in-Some.found.place) c.self.view_is at in
          subst (λ w. Claims c.args.self.now.steps c.in-Some-get_index_of.number w e) same_who
          (claims_found c.args.graph.now c.args.self.now c.requires.draft c.in-Some-get_index_of.number c.in-Some.found e stands
          (subst (λ n. IsNode c.args.graph.now n e) (sym same_node) node) there);
      missing = tt;
    }
