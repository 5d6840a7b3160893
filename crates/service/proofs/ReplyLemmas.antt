-- Lemmas on the lines of the replies.
use Rattle.std.proofs.Common.{◌≡◌, ℕ, suc, ◌+◌, arith, List, [], ◌∷◌, ◌++◌, map, take, Some, refl, sym, ap, ◌∙◌, inl, inr, append_assoc}
use Rattle.std.specs.List.{flat_map, slice_get}
use Rattle.std.proofs.lemmas.List.Concat.{flat_map-append}
use Rattle.std.proofs.lemmas.List.{append-nil}
use Rattle.credential_text.specs.declared.credentials.Credential.{Credential}
use Rattle.credential_text.specs.Spelling.{canonical}
use Rattle.search.proofs.Tells.{take_next}
use Rattle.hall.specs.declared.calls.replies.Reply.{Reply}
use Rattle.hall.specs.declared.calls.replies.Reply.TheVariants.{Refused}
use Rattle.hall.specs.declared.faults.Fault.TheVariants.{Memory}
use Rattle.service.specs.Reply.{line_after, error_text, reply_texts, lines_after, IsLong, IsFilled}

-- one line
pub one_line : (front text : List ℕ) (reply : Reply) → reply_texts reply ≡ text ∷ [] → line_after front text ≡ lines_after front reply
one_line front text reply is = sym (ap (flat_map (line_after front)) is ∙ append-nil (line_after front text))

-- the lines of the reply
pub IsFilled-whole : (front bytes : List ℕ) (reply : Reply) → bytes ≡ lines_after front reply → IsFilled front reply bytes
IsFilled-whole front bytes reply lines = inl lines

-- a long reply, for which there was no room
pub IsFilled-lacking : (front bytes : List ℕ) (reply : Reply) → IsLong reply → bytes ≡ line_after front (error_text 90) → IsFilled front reply bytes
IsFilled-lacking front bytes reply long line = inr (long, line ∙ one_line front (error_text 90) (Refused Memory) refl)

-- one credential more stands behind the lines of those before
pub credential-next : (front head before fronted spelled after : List ℕ) (xs : List Credential) (k : ℕ) (x : Credential) → slice_get xs k ≡ Some x →
    before ≡ head ++ flat_map (line_after front) (take k (map canonical xs)) → fronted ≡ before ++ front → spelled ≡ fronted ++ canonical x → after ≡ spelled ++ 10 ∷ [] →
    after ≡ head ++ flat_map (line_after front) (take (k + 1) (map canonical xs))
credential-next front head before fronted spelled after xs k x at was fronts spells ends =
    let line = line_after front in
    let told = take k (map canonical xs) in
    let said = canonical x in
    let same : k + 1 ≡ suc k = omega arith in
    let next : take (k + 1) (map canonical xs) ≡ told ++ said ∷ [] = ap (λ n. take n (map canonical xs)) same ∙ take_next canonical xs k x at in
    let lines : flat_map line (take (k + 1) (map canonical xs)) ≡ flat_map line told ++ line said =
    ap (flat_map line) next ∙ flat_map-append line told (said ∷ []) ∙ ap (λ t. flat_map line told ++ t) (append-nil (line said)) in
    ends ∙ ap (λ t. t ++ 10 ∷ []) (spells ∙ ap (λ t. t ++ said) fronts ∙ append_assoc before front said)
    ∙ append_assoc before (front ++ said) (10 ∷ [])
    ∙ ap (λ t. t ++ line said) was ∙ append_assoc head (flat_map line told) (line said) ∙ ap (λ t. head ++ t) (sym lines)
