-- Views in order, and where an owner's vault stands in one.
use Rattle.std.proofs.Common.{ℕ, Bool, true, false, cond, List, [], ◌∷◌, ◌++◌, ◌≡◌, ◌∙◌, sym, ap, refl, subst, ◌+◌, ◌<◌, ◌≤◌, length, take, map, filter, get_or, arith, Option, Some, None}
use Rattle.std.specs.List.{slice_get, All, AllByRecursion}
use Rattle.std.specs.List.Sorted.{IsPartitionedBy, IsStrictlySortedBy}
use Rattle.std.specs.declared.cmp.Ordering.{Ordering}
use Rattle.std.specs.declared.cmp.Ordering.TheVariants.{Less, Equal, Greater}
use Rattle.std.specs.Ordering.{is_lt, is_eq}
use Rattle.std.proofs.lemmas.List.{append-nil, take_all}
use Rattle.std.proofs.lemmas.List.Elements.{Contains-get_or}
use Rattle.std.proofs.lemmas.Option.{slice_get_within, get_or_from_slice_get, slice_get_read}
use Rattle.names.specs.declared.roles.Role.{Role}
use Rattle.names.specs.Name.{is_same, name_order}
use Rattle.names.proofs.OrderLemmas.{names_in_order}
use Rattle.credential_text.specs.declared.credentials.Credential.{Credential}
use Rattle.credential_text.specs.Credential.{credential_order}
use Rattle.vaults.specs.declared.changes.Entry.{Entry}
use Rattle.vaults.specs.declared.marks.Seen.{Seen}
use Rattle.vaults.specs.Journal.{vault, marked_names, Vault, view, credentials}
use Rattle.vaults.proofs.Exactness.{with_vault, sorted-names_seen, views_of_names_read, vaults_exact}
use Rattle.vaults.proofs.Elements.{turned}
use Rattle.names.proofs.SameNames.{is_same_tied}
use Rattle.vaults.proofs.Orders.{names_exact}
use Rattle.snapshots.specs.declared.spans.Span.{Span}
use Rattle.snapshots.specs.declared.spans.Cut.TheVariants.{Through}
use Rattle.snapshots.specs.Span.{how_many, is_below, is_owned, place_of, rows_of, is_before, is_through, role_rows, span_of}
use Rattle.snapshots.specs.Snapshot.{owner_of, IsOrdered}
use Rattle.snapshots.proofs.Counting.{parted_from_sorted, point_at}
use Rattle.snapshots.proofs.Cuts.{parted_rows, row_between}

-- vaults in the order of their owners
abbrev by_owner : Vault → Vault → Ordering
by_owner v w = name_order v.owner w.owner

owners_behind : (v : Vault) (ws : List Vault) → AllByRecursion (λ (n : List ℕ). name_order v.owner n ≡ Less) (map owner_of ws) → AllByRecursion (λ (w : Vault). by_owner v w ≡ Less) ws
owners_behind v [] all = tt
owners_behind v (w ∷ ws) all = (all.0, owners_behind v ws all.1)

pub vaults_sorted : (vs : List Vault) → IsStrictlySortedBy name_order (map owner_of vs) → IsStrictlySortedBy by_owner vs
unfolding IsStrictlySortedBy
vaults_sorted [] sorted = tt
vaults_sorted (v ∷ vs) sorted = (owners_behind v vs sorted.0, vaults_sorted vs sorted.1)

below_down : (owner : List ℕ) (v w : Vault) → by_owner v w ≡ Less → is_below owner w ≡ true → is_below owner v ≡ true
below_down owner v w less passes = by (name_order w.owner owner) refl passes
  where
    by : (o : Ordering) → name_order w.owner owner ≡ o → is_lt o ≡ true → is_lt (name_order v.owner owner) ≡ true
    by Less e passes = ap is_lt (names_in_order.transitive v.owner w.owner owner less e)
    by Equal e passes = cc
    by Greater e passes = cc

-- the vaults before an owner's come first
pub parted_vaults : (owner : List ℕ) (vs : List Vault) → IsOrdered vs → IsPartitionedBy (is_below owner) vs
parted_vaults owner vs ordered = parted_from_sorted by_owner (is_below owner) vs (vaults_sorted vs ordered.owners) (below_down owner)

-- a vault behind one that isn't before the owner's is behind the owner's
behind : (owner : List ℕ) (v w : Vault) (o : Ordering) → name_order v.owner owner ≡ o → is_lt o ≡ false → by_owner v w ≡ Less → name_order w.owner owner ≡ Greater
behind owner v w Less e apart less = cc
behind owner v w Equal e apart less =
    turned names_exact owner w.owner Less (subst (λ (n : List ℕ). name_order n w.owner ≡ Less) ((names_in_order.tied v.owner owner).0 e) less)
behind owner v w Greater e apart less =
    turned names_exact owner w.owner Less (names_in_order.transitive owner v.owner w.owner (turned names_exact v.owner owner Greater e) less)

none_behind : (owner : List ℕ) (p : Vault → Bool) → ((w : Vault) → name_order w.owner owner ≡ Greater → p w ≡ false) →
    (v : Vault) (o : Ordering) → name_order v.owner owner ≡ o → is_lt o ≡ false → (ws : List Vault) → AllByRecursion (λ (w : Vault). by_owner v w ≡ Less) ws → filter p ws ≡ []
none_behind owner p fails v o e apart [] all = refl
none_behind owner p fails v o e apart (w ∷ ws) all =
    ap (λ (b : Bool). cond b (w ∷ filter p ws) (filter p ws)) (fails w (behind owner v w o e apart all.0)) ∙ none_behind owner p fails v o e apart ws all.1

-- the rows of a vault that is the owner's
abbrev pub own_rows : List ℕ → Option Vault → List Credential
own_rows owner None = []
own_rows owner (Some v) = cond (is_owned owner v) v.rows []

-- the owner's vault stands at its place, if it stands anywhere
placed : (owner : List ℕ) (vs : List Vault) → IsStrictlySortedBy by_owner vs → own_rows owner (slice_get vs (place_of vs owner)) ≡ rows_of vs owner
unfolding IsStrictlySortedBy
placed owner [] sorted = refl
placed owner (v ∷ vs) sorted = by (name_order v.owner owner) refl (placed owner vs sorted.1)
  where
    by : (o : Ordering) → name_order v.owner owner ≡ o → own_rows owner (slice_get vs (place_of vs owner)) ≡ rows_of vs owner →
        own_rows owner (slice_get (v ∷ vs) (length (cond (is_lt o) (v ∷ filter (is_below owner) vs) (filter (is_below owner) vs)))) ≡ credentials (cond (is_eq o) (v ∷ filter (is_owned owner) vs) (filter (is_owned owner) vs))
    by Less e rest = rest
    by Equal e rest =
        ap (λ (ws : List Vault). own_rows owner (slice_get (v ∷ vs) (length ws))) (none_behind owner (is_below owner) (λ w greater. ap is_lt greater) v Equal e refl vs sorted.0)
        ∙ ap (λ (o : Ordering). cond (is_eq o) v.rows []) e
        ∙ sym (append-nil v.rows)
        ∙ ap (λ (ws : List Vault). v.rows ++ credentials ws) (sym (none_behind owner (is_owned owner) (λ w greater. ap is_eq greater) v Equal e refl vs sorted.0))
    by Greater e rest =
        ap (λ (ws : List Vault). own_rows owner (slice_get (v ∷ vs) (length ws))) (none_behind owner (is_below owner) (λ w greater. ap is_lt greater) v Greater e refl vs sorted.0)
        ∙ ap (λ (o : Ordering). cond (is_eq o) v.rows []) e
        ∙ ap credentials (sym (none_behind owner (is_owned owner) (λ w greater. ap is_eq greater) v Greater e refl vs sorted.0))

pub placed_rows : (owner : List ℕ) (vs : List Vault) (place : ℕ) (there : Option Vault) → IsOrdered vs → place ≡ place_of vs owner → slice_get vs place ≡ there → own_rows owner there ≡ rows_of vs owner
placed_rows owner vs place there ordered at is =
    ap (own_rows owner) (sym is ∙ ap (slice_get vs) at) ∙ placed owner vs (vaults_sorted vs ordered.owners)

-- a view is in order
pub ordered_view : (journal : List Entry) (who : List ℕ) → IsOrdered (view journal who)
ordered_view journal who = record {
  owners = subst (IsStrictlySortedBy name_order) (sym (views_of_names_read journal who).0) (sorted-names_seen journal who);
  own = λ v among. subst (All (λ (c : Credential). c.head.owner ≡ v.owner)) (sym ((views_of_names_read journal who).1 v among)) (λ k d within.
      (((vaults_exact journal v.owner).exact (get_or (vault journal v.owner) k d)).0 (Contains-get_or (vault journal v.owner) k d within)).0);
  rows = λ v among. subst (IsStrictlySortedBy credential_order) (sym ((views_of_names_read journal who).1 v among)) (vaults_exact journal v.owner).in_order;
}

-- what was taken of all names that are seen is the view
pub view_taken : (journal : List Entry) (who : List ℕ) (seen : List Seen) (vs : List Vault) (k : ℕ) → vs ≡ map (with_vault journal) (take k seen) → length seen ≤ k →
    seen ≡ marked_names journal who → vs ≡ view journal who
unfolding view
view_taken journal who seen vs k taken whole read =
    taken ∙ ap (map (with_vault journal)) (take_all k seen whole ∙ read)

-- where a span has a row, the owner's vault stands at its place
pub row_vault : (vs : List Vault) (role : Role) (i : ℕ) → IsOrdered vs → how_many (is_before role) (rows_of vs role.owner) + i < how_many (is_through role) (rows_of vs role.owner) →
    (v : Vault) × (slice_get vs (place_of vs role.owner) ≡ Some v) × (v.rows ≡ rows_of vs role.owner)
row_vault vs role i ordered within = by (slice_get vs (place_of vs role.owner)) refl
  where
    nowhere : [] ≡ rows_of vs role.owner → (v : Vault) × (slice_get vs (place_of vs role.owner) ≡ Some v) × (v.rows ≡ rows_of vs role.owner)
    nowhere none = let no : how_many (is_through role) (rows_of vs role.owner) ≡ 0 = ap (how_many (is_through role)) (sym none) in absurd (omega (arith, no, within))

    found : (v : Vault) → slice_get vs (place_of vs role.owner) ≡ Some v → (b : Bool) → is_owned role.owner v ≡ b → cond b v.rows [] ≡ rows_of vs role.owner →
        (w : Vault) × (slice_get vs (place_of vs role.owner) ≡ Some w) × (w.rows ≡ rows_of vs role.owner)
    found v at true own rows = (v, at, rows)
    found v at false own rows = nowhere rows

    by : (there : Option Vault) → slice_get vs (place_of vs role.owner) ≡ there → (v : Vault) × (slice_get vs (place_of vs role.owner) ≡ Some v) × (v.rows ≡ rows_of vs role.owner)
    by None is = nowhere (placed_rows role.owner vs (place_of vs role.owner) None ordered refl is)
    by (Some v) is = found v is (is_owned role.owner v) refl (placed_rows role.owner vs (place_of vs role.owner) (Some v) ordered refl is)

none_sorted : IsStrictlySortedBy credential_order []
unfolding IsStrictlySortedBy
none_sorted = tt

-- the rows of an owner are in order
pub sorted_rows_of : (owner : List ℕ) (vs : List Vault) → IsOrdered vs → IsStrictlySortedBy credential_order (rows_of vs owner)
sorted_rows_of owner vs ordered = by (slice_get vs (place_of vs owner)) refl
  where
    own : (v : Vault) (b : Bool) → IsStrictlySortedBy credential_order v.rows → IsStrictlySortedBy credential_order (cond b v.rows [])
    own v true sorted = sorted
    own v false sorted = none_sorted

    by : (there : Option Vault) → slice_get vs (place_of vs owner) ≡ there → IsStrictlySortedBy credential_order (rows_of vs owner)
    by None is = subst (IsStrictlySortedBy credential_order) (placed_rows owner vs (place_of vs owner) None ordered refl is) none_sorted
    by (Some v) is = subst (IsStrictlySortedBy credential_order) (placed_rows owner vs (place_of vs owner) (Some v) ordered refl is)
        (own v (is_owned owner v) (ordered.rows v (place_of vs owner, slice_get_within vs (place_of vs owner) v is, get_or_from_slice_get vs (place_of vs owner) v v is)))

-- and all of them are the owner's
pub own_rows_of : (owner : List ℕ) (vs : List Vault) → IsOrdered vs → All (λ c. c.head.owner ≡ owner) (rows_of vs owner)
own_rows_of owner vs ordered = by (slice_get vs (place_of vs owner)) refl
  where
    same : (v : Vault) (o : Ordering) → name_order v.owner owner ≡ o → is_eq o ≡ true → v.owner ≡ owner
    same v Less e tied = cc
    same v Equal e tied = (names_in_order.tied v.owner owner).0 e
    same v Greater e tied = cc

    own : (v : Vault) (b : Bool) → is_owned owner v ≡ b → All (λ (c : Credential). c.head.owner ≡ v.owner) v.rows → All (λ (c : Credential). c.head.owner ≡ owner) (cond b v.rows [])
    own v true tied all = λ k d within. all k d within ∙ same v (name_order v.owner owner) refl tied
    own v false apart all = λ k d within. absurd (omega (arith, within))

    by : (there : Option Vault) → slice_get vs (place_of vs owner) ≡ there → All (λ (c : Credential). c.head.owner ≡ owner) (rows_of vs owner)
    by None is = subst (All (λ (c : Credential). c.head.owner ≡ owner)) (placed_rows owner vs (place_of vs owner) None ordered refl is) (λ k d within. absurd (omega (arith, within)))
    by (Some v) is = subst (All (λ (c : Credential). c.head.owner ≡ owner)) (placed_rows owner vs (place_of vs owner) (Some v) ordered refl is)
        (own v (is_owned owner v) refl (ordered.own v (place_of vs owner, slice_get_within vs (place_of vs owner) v is, get_or_from_slice_get vs (place_of vs owner) v v is)))

-- what a look at the place tells: rows are those of the vault there, if it is the owner's, and else there are none
pub rows_there : (owner : List ℕ) (vs : List Vault) (place : ℕ) (v : Vault) (name : List ℕ) (same : Bool) (rows : List Credential) → IsOrdered vs → place ≡ place_of vs owner →
    place < length vs → v ≡ get_or vs place v → name ≡ v.owner → same ≡ is_same name owner → rows ≡ cond same v.rows [] → rows ≡ rows_of vs owner
rows_there owner vs place v name same rows ordered at within stands named asked are =
    are
    ∙ ap (λ (b : Bool). cond b v.rows []) (asked ∙ sym (is_same_tied name owner) ∙ ap (λ (n : List ℕ). is_eq (name_order n owner)) named)
    ∙ placed_rows owner vs place (Some v) ordered at (slice_get_read vs (length vs) place v refl within stands)

-- the same at a span that has a row
pub span_vault : (vs : List Vault) (span : Span) (i : ℕ) (role : Role) → IsOrdered vs → span ≡ span_of vs role → span.lo + i < span.hi →
    (v : Vault) × (slice_get vs span.vault ≡ Some v) × (v.rows ≡ rows_of vs role.owner)
span_vault vs span i role ordered is within =
    subst (λ (s : Span). s.lo + i < s.hi → (v : Vault) × (slice_get vs s.vault ≡ Some v) × (v.rows ≡ rows_of vs role.owner)) (sym is) (row_vault vs role i ordered) within

pub span_rows : (vs : List Vault) (span : Span) (i : ℕ) (role : Role) (w : Vault) (rows : List Credential) → IsOrdered vs → span ≡ span_of vs role → span.lo + i < span.hi →
    w ≡ get_or vs span.vault w → rows ≡ w.rows → rows ≡ rows_of vs role.owner
span_rows vs span i role w rows ordered is within stands are =
    let there : (v : Vault) × (slice_get vs span.vault ≡ Some v) × (v.rows ≡ rows_of vs role.owner) = span_vault vs span i role ordered is within in
    are ∙ ap (λ (v : Vault). v.rows) (stands ∙ get_or_from_slice_get vs span.vault there.0 w there.1) ∙ there.2

pub span_within : (vs : List Vault) (span : Span) (i : ℕ) (role : Role) → IsOrdered vs → span ≡ span_of vs role → span.lo + i < span.hi → span.lo + i < length (rows_of vs role.owner)
span_within vs span i role ordered is within =
    let high : span.hi ≤ length (rows_of vs role.owner) =
    subst (λ (s : Span). s.hi ≤ length (rows_of vs role.owner)) (sym is) (point_at (is_through role) (rows_of vs role.owner) (parted_rows Through role (rows_of vs role.owner) (sorted_rows_of role.owner vs ordered))).0 in
    omega (arith, high, within)

pub span_row : (vs : List Vault) (span : Span) (i : ℕ) (role : Role) (x : Credential) → IsOrdered vs → span ≡ span_of vs role → span.lo + i < span.hi →
    slice_get (rows_of vs role.owner) (span.lo + i) ≡ Some x → slice_get (role_rows vs role) i ≡ Some x
span_row vs span i role x ordered is within at =
    row_between role (rows_of vs role.owner) i x (sorted_rows_of role.owner vs ordered)
    (subst (λ (s : Span). s.lo + i < s.hi) is within) (subst (λ (s : Span). slice_get (rows_of vs role.owner) (s.lo + i) ≡ Some x) is at)
