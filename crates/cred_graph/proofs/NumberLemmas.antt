-- Entities, ports and reasons by number, where nodes are added.
use Rattle.std.proofs.Common.{ℕ, ◌≡◌, ◌∙◌, ap, refl, sym, List, ◌++◌, Some, slice_get}
use Rattle.std.proofs.lemmas.List.Elements.{Contains-append_left}
use Rattle.credential_text.specs.declared.exprs.Expr.{Expr}
use Rattle.credential_text.specs.declared.exprs.Expr.TheVariants.{Ent}
use Rattle.cred_graph.specs.declared.listeners.Port.{Port}
use Rattle.cred_graph.specs.declared.listeners.Port.TheVariants as port
use Rattle.cred_graph.specs.declared.solutions.Reason.{Reason}
use Rattle.cred_graph.specs.declared.solutions.Reason.TheVariants as reason
use Rattle.cred_graph.specs.Numbers.{IsEntity, entity_of, entity_at, port_at, IsPort, IsNamed, reason_at, IsReason}
use Rattle.cred_graph.proofs.NodeListLemmas.{Contains-at_place, slice_get_stays}

-- the entity that a node is
pub entity_is : (nodes : List Expr) (k : ℕ) (who : List ℕ) → slice_get nodes k ≡ Some (Ent who) → entity_at nodes k ≡ who
entity_is nodes k who at = ap entity_of at

pub entity_stands : (nodes : List Expr) (k : ℕ) → IsEntity nodes k → slice_get nodes k ≡ Some (Ent (entity_at nodes k))
entity_stands nodes k (who, at) = at ∙ ap (λ (x : List ℕ). Some (Ent x)) (sym (entity_is nodes k who at))

module _ (nodes more : List Expr) where
  pub entity_goes_on : (k : ℕ) → IsEntity nodes k → IsEntity (nodes ++ more) k
  entity_goes_on k (who, at) = (who, slice_get_stays nodes more k (Ent who) at)

  pub entity_stays : (k : ℕ) → IsEntity nodes k → entity_at (nodes ++ more) k ≡ entity_at nodes k
  entity_stays k (who, at) = entity_is (nodes ++ more) k who (slice_get_stays nodes more k (Ent who) at) ∙ sym (entity_is nodes k who at)

  pub port_goes_on : (p : Port ℕ) → IsPort nodes p → IsPort (nodes ++ more) p
  port_goes_on (port.Via k) is = entity_goes_on k is
  port_goes_on _ is = tt

  pub port_stays : (p : Port ℕ) → IsPort nodes p → port_at (nodes ++ more) p ≡ port_at nodes p
  port_stays (port.Via k) is = ap port.Via (entity_stays k is)
  port_stays _ is = refl

  pub named_goes_on : (p : Port (List ℕ)) → IsNamed nodes p → IsNamed (nodes ++ more) p
  named_goes_on (port.Via b) is = Contains-append_left nodes more (Ent b) is
  named_goes_on _ is = tt

  pub reason_goes_on : (r : Reason ℕ ℕ) → IsReason nodes r → IsReason (nodes ++ more) r
  reason_goes_on (reason.Via k) is = entity_goes_on k is
  reason_goes_on _ is = tt

  pub reason_stays : (r : Reason ℕ ℕ) → IsReason nodes r → reason_at (nodes ++ more) r ≡ reason_at nodes r
  reason_stays (reason.Via k) is = ap reason.Via (entity_stays k is)
  reason_stays _ is = refl

-- a port of a number names somebody who has a node
pub port_named : (nodes : List Expr) (p : Port ℕ) → IsPort nodes p → IsNamed nodes (port_at nodes p)
port_named nodes (port.Via k) is = Contains-at_place nodes k (Ent (entity_at nodes k)) (entity_stands nodes k is)
port_named nodes _ is = tt
