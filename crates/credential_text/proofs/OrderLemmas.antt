-- Two expressions or credentials are tied only where they are equal.
use Rattle.std.proofs.Common.{◌≡◌, ap}
use Rattle.std.specs.declared.cmp.Ordering.TheVariants.{Equal}
use Rattle.std.specs.Cmp.{IsTotalOrder}
use Rattle.std.specs.Ordering.{nat_cmp, on, then_cmp}
use Rattle.std.specs.Cmp.Lexicographic.{slice_cmp}
use Rattle.std.specs.FinMap.{IsAntisymmetric, nat_cmp-IsAntisymmetric}
use Rattle.std.proofs.lemmas.Cmp.{nat_cmp_total, nat_list_cmp_total, lists_total, then_total, on_total}
use Rattle.names.specs.Name.{name_order}
use Rattle.names.specs.Role.{role_order}
use Rattle.names.proofs.OrderLemmas.{order_from, both_tied, role_order_tied}
use Rattle.credential_text.specs.declared.exprs.Expr.{Expr}
use Rattle.credential_text.specs.declared.exprs.Expr.TheVariants.{Ent, Rol, Link, Meet}
use Rattle.credential_text.specs.Part.{parts_order}
use Rattle.credential_text.specs.PartOrder.{name_lists_tied, parts_order_total, parts_order_tied}
use Rattle.credential_text.specs.Expr.{expr_kind, plain_names, met_parts, expr_order}
use Rattle.credential_text.specs.Credential.{credential_order}
use Rattle.credential_text.proofs.Same.{same_credential}
use Rattle.credential_text.specs.Laws.{ExprsInOrder, CredentialsInOrder}

-- expressions of the same kind, names and parts are the same
exprs_tell : (e f : Expr) → expr_kind e ≡ expr_kind f → plain_names e ≡ plain_names f → met_parts e ≡ met_parts f → e ≡ f
exprs_tell (Ent e) (Ent f) kind names parts = cc
exprs_tell (Ent e) (Rol f) kind names parts = cc
exprs_tell (Ent e) (Link f n) kind names parts = cc
exprs_tell (Ent e) (Meet qs) kind names parts = cc
exprs_tell (Rol e) (Ent f) kind names parts = cc
exprs_tell (Rol e) (Rol f) kind names parts =
    let owner : e.owner ≡ f.owner = cc in
    let name : e.name ≡ f.name = cc in
    λ i. Rol (record { owner = owner i; name = name i })
exprs_tell (Rol e) (Link f n) kind names parts = cc
exprs_tell (Rol e) (Meet qs) kind names parts = cc
exprs_tell (Link e m) (Ent f) kind names parts = cc
exprs_tell (Link e m) (Rol f) kind names parts = cc
exprs_tell (Link e m) (Link f n) kind names parts =
    let owner : e.owner ≡ f.owner = cc in
    let name : e.name ≡ f.name = cc in
    let last : m ≡ n = cc in
    λ i. Link (record { owner = owner i; name = name i }) (last i)
exprs_tell (Link e m) (Meet qs) kind names parts = cc
exprs_tell (Meet ps) (Ent f) kind names parts = cc
exprs_tell (Meet ps) (Rol f) kind names parts = cc
exprs_tell (Meet ps) (Link f n) kind names parts = cc
exprs_tell (Meet ps) (Meet qs) kind names parts = ap Meet parts

role_order_total : IsTotalOrder role_order
role_order_total = then_total (on_total (λ r. r.owner) nat_list_cmp_total) (on_total (λ r. r.name) nat_list_cmp_total)

expr_order_total : IsTotalOrder expr_order
expr_order_total =
    then_total (on_total expr_kind nat_cmp_total) (then_total (on_total plain_names (lists_total nat_list_cmp_total)) (on_total met_parts parts_order_total))

pub expr_order_tied : IsAntisymmetric expr_order
expr_order_tied e f tied =
    let outer : (nat_cmp (expr_kind e) (expr_kind f) ≡ Equal) × (then_cmp (on plain_names (slice_cmp name_order)) (on met_parts parts_order) e f ≡ Equal) = both_tied _ _ tied in
    let inner : (slice_cmp name_order (plain_names e) (plain_names f) ≡ Equal) × (parts_order (met_parts e) (met_parts f) ≡ Equal) = both_tied _ _ outer.1 in
    exprs_tell e f (nat_cmp-IsAntisymmetric (expr_kind e) (expr_kind f) outer.0) (name_lists_tied (plain_names e) (plain_names f) inner.0) (parts_order_tied (met_parts e) (met_parts f) inner.1)

credential_order_tied : IsAntisymmetric credential_order
credential_order_tied c d tied =
    let both : (role_order c.head d.head ≡ Equal) × (expr_order c.body d.body ≡ Equal) = both_tied _ _ tied in
    same_credential c d (role_order_tied c.head d.head both.0) (expr_order_tied c.body d.body both.1)

pub exprs_in_order : ExprsInOrder
exprs_in_order = order_from expr_order_total expr_order_tied

pub credentials_in_order : CredentialsInOrder
credentials_in_order = order_from (then_total (on_total (λ c. c.head) role_order_total) (on_total (λ c. c.body) expr_order_total)) credential_order_tied
