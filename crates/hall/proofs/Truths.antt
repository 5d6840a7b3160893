-- What a search comes to, once and again, and what two searches of one query and view may come to.
use Rattle.std.proofs.Common.{ℕ, List, ◌≡◌, ◌≢◌, ◌∙◌, ◌⊎◌, inl, inr, sym, ap, refl, subst}
use Rattle.credential_text.specs.declared.credentials.Credential.{Credential}
use Rattle.rt0_rules.proofs.LawLemmas.{members_are_one}
use Rattle.rt0_rules.proofs.WorkLaws.{within_does_not_exceed}
use Rattle.search.specs.declared.queries.Query.{Query}
use Rattle.search.specs.declared.queries.Query.TheVariants.{Ask, Who}
use Rattle.search.specs.Ending.{Settled, Nothing, Yes, No, Members, Broken, IsTruth, IsEnding, answers, spends, breaks, MaySettle, asked_role}

-- what may happen between two moments may happen twice over
pub settles_twice : (limit : ℕ) (C : List Credential) (q : Query) (a b c : Settled) → MaySettle limit C q a b → MaySettle limit C q b c → MaySettle limit C q a c
settles_twice limit C q a b c (inl e) (inl f) = inl (f ∙ e)
settles_twice limit C q a b c (inl e) (inr f) = inr (sym e ∙ f.0, f.1)
settles_twice limit C q a b c (inr e) (inl f) = inr (e.0, subst (IsEnding limit C q) (sym f) e.1)
settles_twice limit C q a b c (inr e) (inr f) = inr (e.0, f.1)

-- a search that has come to something has come to an end
pub came_to_end : (limit : ℕ) (C : List Credential) (q : Query) (a : Settled) → MaySettle limit C q Nothing a → a ≢ Nothing → IsEnding limit C q a
came_to_end limit C q a (inl e) some = absurd (some e)
came_to_end limit C q a (inr end) some = end.1

-- a query has one truth over some credentials
pub truth_unique : (C : List Credential) (q : Query) (a b : Settled) → IsTruth C q a → IsTruth C q b → a ≡ b
truth_unique C (Ask role who) Yes Yes h k = refl
truth_unique C (Ask role who) Yes No h k = absurd (k h)
truth_unique C (Ask role who) No Yes h k = absurd (h k)
truth_unique C (Ask role who) No No h k = refl
truth_unique C (Who role) (Members names) (Members others) h k = ap Members (members_are_one C role names others h k)
truth_unique C q a b h k = search

-- and within one limit one end, but for want of memory
pub ending_unique : (limit : ℕ) (C : List Credential) (q : Query) (a b : Settled) → IsEnding limit C q a → IsEnding limit C q b → a ≢ Broken → b ≢ Broken → a ≡ b
ending_unique limit C q a b (answers w work within truth) (answers v other below right) whole sound = truth_unique C q a b truth right
ending_unique limit C q a b (answers w work within truth) (spends is exceeds) whole sound = absurd (within_does_not_exceed C (asked_role q) w limit work within exceeds)
ending_unique limit C q a b (answers w work within truth) (breaks is) whole sound = absurd (sound is)
ending_unique limit C q a b (spends is exceeds) (answers w work within truth) whole sound = absurd (within_does_not_exceed C (asked_role q) w limit work within exceeds)
ending_unique limit C q a b (spends is exceeds) (spends also more) whole sound = is ∙ sym also
ending_unique limit C q a b (spends is exceeds) (breaks also) whole sound = absurd (sound also)
ending_unique limit C q a b (breaks is) end whole sound = absurd (whole is)

-- what the two have come to is the same, or each has come to nothing yet or to an end
abbrev pub AreLike : ℕ → List Credential → Query → Settled → Settled → Type 0
AreLike limit C q a b = (a ≡ b) ⊎ (MaySettle limit C q Nothing a × MaySettle limit C q Nothing b)

pub like_settles : (limit : ℕ) (C : List Credential) (q : Query) (a b c d : Settled) → AreLike limit C q a b → MaySettle limit C q a c → MaySettle limit C q b d → AreLike limit C q c d
like_settles limit C q a b c d (inl e) (inl f) (inl g) = inl (f ∙ e ∙ sym g)
like_settles limit C q a b c d (inl e) (inl f) (inr g) = inr (inl (f ∙ e ∙ g.0), inr (refl, g.1))
like_settles limit C q a b c d (inl e) (inr f) (inl g) = inr (inr (refl, f.1), inl (g ∙ sym e ∙ f.0))
like_settles limit C q a b c d (inl e) (inr f) (inr g) = inr (inr (refl, f.1), inr (refl, g.1))
like_settles limit C q a b c d (inr h) f g = inr (settles_twice limit C q Nothing a c h.0 f, settles_twice limit C q Nothing b d h.1 g)
