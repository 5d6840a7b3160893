-- Whether an entity is a member is decided where a search is completed: by the work of it, as the entity is told to the role or not.
use Rattle.std.proofs.Common.{◌≡◌, ◌∙◌, ◌⊎◌, ◌&&◌, inl, inr, ℕ, Bool, true, false, true≢false, List, refl, sym, ap, subst}
use Rattle.std.specs.List.{list_any, Contains}
use Rattle.std.proofs.lemmas.Bool.{and_parts, and_from}
use Rattle.std.proofs.lemmas.List.Folds.{Any-from_list_any, list_any_at}
use Rattle.names.specs.declared.roles.Role.{Role}
use Rattle.names.specs.Name.{is_same}
use Rattle.names.proofs.SameNames.{same_from_is_same, is_same_itself}
use Rattle.credential_text.specs.declared.credentials.Credential.{Credential}
use Rattle.credential_text.specs.declared.exprs.Expr.{Expr}
use Rattle.credential_text.specs.declared.exprs.Expr.TheVariants.{Rol}
use Rattle.credential_text.specs.contracts.exprs.ExprPartialEq.TheImpl as expr
use Rattle.credential_text.specs.Equality.{exprs_decided}
use Rattle.rt0_rules.specs.Derivation.{Derives, credential}
use Rattle.rt0_rules.specs.Membership.{IsMember}
use Rattle.rt0_rules.specs.Asks.{Why, for_body, Asks, asks_body, asked_role as asked_itself}
use Rattle.rt0_rules.specs.Work.{Tell, IsTell, WorkIs}
use Rattle.search.specs.declared.queries.Query.{Query}
use Rattle.search.specs.Ending.{Settled, Nothing, asked_role, MaySettle, answers, spends, breaks}
use Rattle.search.specs.Search.{SearchState, rows_of, settled_of, IsAnswered, status_of}
use Rattle.hall.specs.declared.calls.requests.Request.{Request}
use Rattle.hall.specs.declared.calls.requests.Request.TheVariants.{Poll, Proof}
use Rattle.hall.specs.declared.calls.replies.Reply.{Reply}
use Rattle.hall.specs.Hall.{HallState, known, IsSound}
use Rattle.hall.specs.Work.{IsCompletedAt}
use Rattle.hall.proofs.Completed.{answer_completed}
use Rattle.hall.proofs.laws.HallChanges.{tenant_of}
use Rattle.pool.specs.Histories.{ReadsIn, IsReadOff}
use Rattle.pool.proofs.Admitting.{poll_admits, proof_admits}

-- it is, or it is not
abbrev pub IsDecided : Type 0 → Type 0
IsDecided P = P ⊎ (P → ⊥)

-- who is in what a role asks is in the role
by_ask : (C : List Credential) (role : Role) (why : Why) (asked : Expr) (d : List ℕ) → Asks C (Derives C) (Rol role) why asked → Derives C d asked →
    Derives C d (Rol role)
by_ask C role _ _ d (asks_body c among head) has = credential c among head has

module _ (C : List Credential) (role : Role) (d : List ℕ) where
  -- the entity is told to the role
  test : Tell → Bool
  test t = is_same t.who d && expr.ghosts.eq t.ask.asker (Rol role)

  of_tell : (t : Tell) → IsTell C role t → test t ≡ true → IsMember C d role
  unfolding test
  of_tell t tell found =
      let both : (is_same t.who d ≡ true) × (expr.ghosts.eq t.ask.asker (Rol role) ≡ true) = and_parts _ _ found in
      let root : t.ask.asker ≡ Rol role = (exprs_decided t.ask.asker (Rol role)).0 both.1 in
      subst (λ (x : List ℕ). IsMember C x role) (same_from_is_same t.who d both.0)
      (by_ask C role t.ask.why t.ask.asked t.who (subst (λ (e : Expr). Asks C (Derives C) e t.ask.why t.ask.asked) root tell.0.1) tell.1)

  tell_of : IsMember C d role → (t : Tell) × IsTell C role t × (test t ≡ true)
  unfolding test
  tell_of (credential c among head derives) = (
    record { ask = record { asker = Rol role; why = for_body; asked = c.body }; who = d },
    ((asked_itself, asks_body c among head), derives),
    and_from _ _ (is_same_itself d d refl) ((exprs_decided (Rol role) (Rol role)).1 refl),
  )

  pub decided_by_work : (work : ℕ) → WorkIs C role work → IsDecided (IsMember C d role)
  decided_by_work work is = by (list_any test is.tells) refl
    where
      by : (b : Bool) → list_any test is.tells ≡ b → IsDecided (IsMember C d role)
      by true found = let at = Any-from_list_any test is.tells found in inl (of_tell at.1 ((is.tells_are.exact at.1).0 (at.0, at.2, at.3)) at.4)
      by false none = inr (λ member.
          let (t, tell, holds) = tell_of member in
          let among : Contains is.tells t = (is.tells_are.exact t).1 tell in
          true≢false (sym (list_any_at test is.tells among.0 t among.1 (ap test among.2 ∙ holds)) ∙ none))

-- a search that may have come to this ended with an answer only within its work
decided_by_end : (limit : ℕ) (C : List Credential) (query : Query) (end : Settled) (d : List ℕ) → IsAnswered (status_of end) → MaySettle limit C query Nothing end →
    IsDecided (IsMember C d (asked_role query))
decided_by_end limit C query end d answer (inl is) = absurd (subst (λ (x : Settled). IsAnswered (status_of x)) is answer)
decided_by_end limit C query end d answer (inr (_, answers work is within truth)) = decided_by_work C (asked_role query) d work is
decided_by_end limit C query end d answer (inr (_, spends is over)) = absurd (subst (λ (x : Settled). IsAnswered (status_of x)) is answer)
decided_by_end limit C query end d answer (inr (_, breaks is)) = absurd (subst (λ (x : Settled). IsAnswered (status_of x)) is answer)

-- a completed search of a sound hall decides who is a member of its role
pub completed_decides : (h : HallState) (who : List ℕ) (k : ℕ) (s : SearchState) (d : List ℕ) → IsSound h → IsCompletedAt h who k s →
    IsDecided (IsMember (rows_of s) d (asked_role s.query))
completed_decides h who k s d sound (r, at, is, completed) =
    let (t, found, there) = tenant_of h who k r at in
    let kept = (sound who t k r found there).2 in
    decided_by_end t.limits.work (rows_of s) s.query (settled_of s) d ((answer_completed s).1 completed)
    (subst (λ (x : SearchState). MaySettle t.limits.work (rows_of x) x.query Nothing (settled_of x)) is kept.settled)

-- something is told of the search that is read
pub reads_admit : (h : HallState) (who : List ℕ) (q : Request) (s : SearchState) → IsSound h → ReadsIn h who q s → (told : Reply) × IsReadOff (known s) q told
reads_admit h who (Poll k) s sound reads = poll_admits k s
reads_admit h who (Proof k member) s sound reads = proof_admits k member s reads.3 (completed_decides h who k s member sound reads)
reads_admit h who _ s sound reads = absurd reads
