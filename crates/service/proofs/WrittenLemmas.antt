-- Lemmas on what goes out to a writer.
use Rattle.std.proofs.Common.{ℕ, ◌⊎◌, inl, inr, ◌+◌, ◌-◌, ◌<◌, ◌≡◌, List, [], ◌++◌, length, take, drop, arith, refl, sym, subst, ◌∙◌, ap, append_assoc, Option, None, Some}
use Rattle.std.specs.Io.KnownBytes.{Appends, Keeps}
use Rattle.std.proofs.lemmas.List.{append-nil, length-append, length-drop, take_rest}
use Rattle.std.proofs.Common.{take-append-drop}
use Rattle.std.proofs.Math.Seq.{take-add}
use Rattle.service.specs.declared.lines.NextLine.{NextLine}
use Rattle.service.specs.declared.lines.NextLine.TheVariants.{End, Fault}
use Rattle.service.specs.Line.{Line}
use Rattle.service.specs.LineReader.{Shows}
use Rattle.service.specs.Written.{WroteFront, SendsUpTo}

-- that is what went out of the reply
abbrev pub WritesFront : Option (List ℕ) → Option (List ℕ) → List ℕ → Type 0
WritesFront old new reply = WroteFront reply (Appends old new)

-- one text after another
pub Appends-more : (old mid new : Option (List ℕ)) (xs ys : List ℕ) → Appends old mid xs → Appends mid new ys → Appends old new (xs ++ ys)
Appends-more None mid new xs ys first then = tt
Appends-more (Some xs₀) None new xs ys first then = absurd first
Appends-more (Some xs₀) (Some bs) None xs ys first then = absurd then
Appends-more (Some xs₀) (Some bs) (Some cs) xs ys first then = then ∙ ap (λ t. t ++ ys) first ∙ append_assoc xs₀ xs ys

-- a call that took this many of the bytes that were left
pub Appends-sent : (old mid new : Option (List ℕ)) (reply : List ℕ) (sent count : ℕ) → Appends old mid (take sent reply) → Appends mid new (take count (take (length reply - sent) (drop sent reply))) → Appends old new (take (sent + count) reply)
Appends-sent old mid new reply sent count first then =
    rw (take-add sent count reply) (Appends-more old mid new (take sent reply) (take count (drop sent reply)) first (rw (take_rest reply sent) at then))

-- a call that took nothing changed nothing
pub Keeps-nothing : (old new : Option (List ℕ)) → Appends old new [] → Keeps old new
Keeps-nothing None new nothing = tt
Keeps-nothing (Some xs) None nothing = absurd nothing
Keeps-nothing (Some xs) (Some ys) nothing = nothing ∙ append-nil xs

Appends-kept : (old mid new : Option (List ℕ)) (xs : List ℕ) → Appends old mid xs → Keeps mid new → Appends old new xs
Appends-kept None mid new xs first kept = tt
Appends-kept (Some xs₀) None new xs first kept = absurd first
Appends-kept (Some xs₀) (Some bs) None xs first kept = absurd kept
Appends-kept (Some xs₀) (Some bs) (Some cs) xs first kept = kept ∙ first

-- a call that failed, behind what was sent
pub WritesFront-sent : (old mid new : Option (List ℕ)) (reply : List ℕ) (sent : ℕ) → sent < length reply → Appends old mid (take sent reply) → Keeps mid new → WritesFront old new reply
WritesFront-sent old mid new reply sent within first kept = record {
  front = take sent reply;
  back = drop sent reply;
  parts = sym (take-append-drop sent reply);
  missing = omega (arith, length-drop sent reply);
  out = Appends-kept old mid new (take sent reply) first kept;
}

-- nothing waits, so all went out
pub sent_all : (old new : Option (List ℕ)) (waited waits : List ℕ) → waits ≡ [] → SendsUpTo old new waited waits → Appends old new waited
sent_all old new waited waits none (sent, parted, out) =
    subst (λ (t : List ℕ). Appends old new t) (sym (parted ∙ ap (λ t. sent ++ t) none ∙ append-nil sent)) out

-- all goes out
pub all_sent : (old new : Option (List ℕ)) (waited waits : List ℕ) → waits ≡ [] → Appends old new waited → SendsUpTo old new waited waits
all_sent old new waited waits none sent = subst (λ (t : List ℕ). SendsUpTo old new waited t) (sym none) (waited, sym (append-nil waited), sent)

-- nothing goes out
pub SendsUpTo-kept : (contents : Option (List ℕ)) (waits : List ℕ) → SendsUpTo contents contents waits waits
SendsUpTo-kept None waits = ([], refl, tt)
SendsUpTo-kept (Some bytes) waits = ([], refl, sym (append-nil bytes))

-- nothing was said, and nothing waits
pub SendsUpTo-nothing : (contents : Option (List ℕ)) → SendsUpTo contents contents [] []
SendsUpTo-nothing contents = SendsUpTo-kept contents []

-- an answer that shows a line is no end
pub shown_on : {X : Type 0} (answer : NextLine) (line : Line) → Shows answer line → (answer ≡ End) ⊎ (answer ≡ Fault) → X
shown_on answer line shows (inl is) = absurd (subst (λ (a : NextLine). Shows a line) is shows)
shown_on answer line shows (inr is) = absurd (subst (λ (a : NextLine). Shows a line) is shows)

-- more of what waited goes out
pub SendsUpTo-more : (c0 c1 c2 : Option (List ℕ)) (said waits left : List ℕ) → SendsUpTo c0 c1 said waits → SendsUpTo c1 c2 waits left → SendsUpTo c0 c2 said left
SendsUpTo-more c0 c1 c2 said waits left (sent, parted, out) (more, split, then) =
    (sent ++ more, parted ∙ ap (λ t. sent ++ t) split ∙ sym (append_assoc sent more left), Appends-more c0 c1 c2 sent more out then)

-- a text more, of which some goes out
pub SendsUpTo-said : (c0 c1 c2 : Option (List ℕ)) (said waits reply left : List ℕ) → SendsUpTo c0 c1 said waits → SendsUpTo c1 c2 (waits ++ reply) left →
    SendsUpTo c0 c2 (said ++ reply) left
SendsUpTo-said c0 c1 c2 said waits reply left (sent, parted, out) then =
    SendsUpTo-more c0 c1 c2 (said ++ reply) (waits ++ reply) left (sent, ap (λ t. t ++ reply) parted ∙ append_assoc sent waits reply, out) then

-- all that waited goes out
pub SendsUpTo-all : (c0 c1 c2 : Option (List ℕ)) (said waits : List ℕ) → SendsUpTo c0 c1 said waits → Appends c1 c2 waits → Appends c0 c2 said
SendsUpTo-all c0 c1 c2 said waits (sent, parted, out) then = subst (λ (t : List ℕ). Appends c0 c2 t) (sym parted) (Appends-more c0 c1 c2 sent waits out then)

-- a front of what waited went out, and so a front of all
pub WritesFront-behind : (c0 c1 c2 : Option (List ℕ)) (said waits reply : List ℕ) → SendsUpTo c0 c1 said waits → WritesFront c1 c2 (waits ++ reply) → WritesFront c0 c2 (said ++ reply)
WritesFront-behind c0 c1 c2 said waits reply (sent, parted, out) written = record {
  front = sent ++ written.front;
  back = written.back;
  parts = ap (λ t. t ++ reply) parted ∙ append_assoc sent waits reply ∙ ap (λ t. sent ++ t) written.parts ∙ sym (append_assoc sent written.front written.back);
  missing = written.missing;
  out = Appends-more c0 c1 c2 sent written.front out written.out;
}

-- a front of a text is one of a longer text
pub WritesFront-longer : (old new : Option (List ℕ)) (text more : List ℕ) → WritesFront old new text → WritesFront old new (text ++ more)
WritesFront-longer old new text more written = record {
  front = written.front;
  back = written.back ++ more;
  parts = ap (λ t. t ++ more) written.parts ∙ append_assoc written.front written.back more;
  missing = omega (arith, written.missing, length-append written.back more);
  out = written.out;
}

-- all that waited goes out, and then a reply, so that nothing waits
pub SendsUpTo-long : (c0 c1 c2 : Option (List ℕ)) (said reply left : List ℕ) → Appends c0 c1 said → Appends c1 c2 reply → left ≡ [] → SendsUpTo c0 c2 (said ++ reply) left
SendsUpTo-long c0 c1 c2 said reply left first then none =
    let all = said ++ reply in
    subst (λ (t : List ℕ). SendsUpTo c0 c2 all t) (sym none) (all, sym (append-nil all), Appends-more c0 c1 c2 said reply first then)
