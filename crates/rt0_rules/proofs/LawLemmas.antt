-- Membership depends on which credentials there are, and a role has one list of members.
use Rattle.std.proofs.Common.{ℕ, List, [], ◌∷◌, ◌≡◌}
use Rattle.std.specs.List.{Contains}
use Rattle.std.specs.List.Sorted.{IsStrictlySortedBy}
use Rattle.std.specs.BTreeSet.{BTreeSet, contains}
use Rattle.std.proofs.lemmas.Bool.Decides.{same_from_decides}
use Rattle.std.proofs.lemmas.Cmp.{nat_list_cmp_total}
use Rattle.std.proofs.lemmas.Map.Lookups.{btree_set_from_contains}
use Rattle.names.specs.Name.{name_order}
use Rattle.names.proofs.OrderLemmas.{name_order_tied}
use Rattle.credential_text.specs.declared.credentials.Credential.{Credential}
use Rattle.credential_text.specs.declared.exprs.Expr.{Expr}
use Rattle.credential_text.specs.declared.exprs.Expr.TheVariants.{Ent, Rol, Link, Meet}
use Rattle.credential_text.specs.declared.intersections.Part.{Part}
use Rattle.credential_text.specs.Expr.{part_expr}
use Rattle.rt0_rules.specs.Derivation.{Derives, DerivesEach, leaf, credential, link, meet, last, more}
use Rattle.rt0_rules.specs.Laws.{MembersAreOne, MoreCredentialsKeepMembers, OrderAndRepeatsDontMatter}
use Rattle.rt0_rules.proofs.Listed.{listed_iff}

mutual
  -- what some credentials derive, more credentials derive too
  pub widen : (C D : List Credential) → ((c : Credential) → Contains C c → Contains D c) → (d : List ℕ) (e : Expr) → Derives C d e → Derives D d e
  widen C D wider d (Ent w) leaf = leaf
  widen C D wider d (Rol r) (credential c among head der) = credential c (wider c among) head (widen C D wider d c.body der)
  widen C D wider d (Link base n) (link b in_base in_role) =
      link b (widen C D wider b (Rol base) in_base) (widen C D wider d (Rol (record { owner = b; name = n })) in_role)
  widen C D wider d (Meet ps) (meet ders) = meet (widen_each C D wider d ps ders)

  widen_each : (C D : List Credential) → ((c : Credential) → Contains C c → Contains D c) → (d : List ℕ) (ps : List Part) → DerivesEach C d ps → DerivesEach D d ps
  widen_each C D wider d (p ∷ []) (last der) = last (widen C D wider d (part_expr p) der)
  widen_each C D wider d (p ∷ q ∷ ps) (more der ders) = more (widen C D wider d (part_expr p) der) (widen_each C D wider d (q ∷ ps) ders)

-- two lists in order with the same elements are one
pub same_sorted : (ds es : List (List ℕ)) → IsStrictlySortedBy name_order ds → IsStrictlySortedBy name_order es →
    ((d : List ℕ) → Contains ds d → Contains es d) → ((d : List ℕ) → Contains es d → Contains ds d) → ds ≡ es
same_sorted ds es ds_in_order es_in_order forth back =
    let in_ds : BTreeSet (List ℕ) = record { keys = ds } in
    let in_es : BTreeSet (List ℕ) = record { keys = es } in
    btree_set_from_contains nat_list_cmp_total in_ds in_es ds_in_order es_in_order
    (λ d. same_from_decides (contains name_order in_ds d) (contains name_order in_es d) (listed_iff in_ds d)
    (λ found. back d ((listed_iff in_es d).0 found), λ among. (listed_iff in_es d).1 (forth d among)))
    name_order_tied

pub members_are_one : MembersAreOne
members_are_one C role ds es of_ds of_es =
    same_sorted ds es of_ds.in_order of_es.in_order
    (λ d among. (of_es.exact d).1 ((of_ds.exact d).0 among)) (λ d among. (of_ds.exact d).1 ((of_es.exact d).0 among))

pub more_keep_members : MoreCredentialsKeepMembers
more_keep_members C D wider d role member = widen C D wider d (Rol role) member

pub order_and_repeats : OrderAndRepeatsDontMatter
order_and_repeats C D same d role =
    (more_keep_members C D (λ c. (same c).0) d role, more_keep_members D C (λ c. (same c).1) d role)
