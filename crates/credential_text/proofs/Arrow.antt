-- What stands before and after the first arrow of a text.
use Rattle.std.proofs.Common.{ℕ, true, false, List, [], ◌∷◌, ◌++◌, ◌≡◌, ◌==◌, ◌&&◌, refl, ap, sym, ◌∙◌, inl, inr, Option, Some, None, IfSome, ◌+◌, ◌<◌, ◌≤◌, length, take, drop, get_or}
use Rattle.std.proofs.lemmas.List.{append-nil, drop_more, drop_all, take_more}
use Rattle.std.proofs.lemmas.Bool.{and_parts, and_left, cases_Bool, cond-true, cond-false, eqb-true, false_from_ne_true}
use Rattle.names.proofs.Avoiding.{Avoids}
use Rattle.credential_text.specs.Refusal.{split_arrow, put_before}
use Rattle.names.proofs.Spaces.{avoids_parts}

-- no arrow begins here
pub split_arrow-more : (b c : ℕ) (bs : List ℕ) → ((b == 60) && (c == 45)) ≡ false → split_arrow (b ∷ c ∷ bs) ≡ put_before b (split_arrow (c ∷ bs))
split_arrow-more b c bs other = cond-false ((b == 60) && (c == 45)) (Some ([], bs)) (put_before b (split_arrow (c ∷ bs))) other

split_arrow-other : (b : ℕ) (rest : List ℕ) → (b == 60) ≡ false → split_arrow (b ∷ rest) ≡ put_before b (split_arrow rest)
split_arrow-other b [] other = refl
split_arrow-other b (c ∷ bs) other = split_arrow-more b c bs (and_left (b == 60) (c == 45) other)

-- an arrow with no '<' before it is the first
pub split_arrow_at : (before after : List ℕ) → Avoids 60 before → split_arrow (before ++ 60 ∷ 45 ∷ after) ≡ Some (before, after)
split_arrow_at [] after avoids = refl
split_arrow_at (b ∷ bs) after avoids =
    let both : ((b == 60) ≡ false) × Avoids 60 bs = avoids_parts 60 b bs avoids in
    split_arrow-other b (bs ++ 60 ∷ 45 ∷ after) both.0 ∙ ap (put_before b) (split_arrow_at bs after both.1)

-- the text round an arrow
abbrev pub IsRound : List ℕ → (List ℕ × List ℕ) → Type 0
IsRound text (before, after) = text ≡ before ++ 60 ∷ 45 ∷ after

put_before_round : (b : ℕ) (rest : List ℕ) (o : Option (List ℕ × List ℕ)) → IfSome o (IsRound rest) → IfSome (put_before b o) (IsRound (b ∷ rest))
put_before_round b rest None whole = tt
put_before_round b rest (Some (before, after)) whole = ap (λ (t : List ℕ). b ∷ t) whole

-- the parts of a text round its first arrow
pub split_arrow_parts : (text : List ℕ) → IfSome (split_arrow text) (IsRound text)
split_arrow_parts [] = tt
split_arrow_parts (b ∷ []) = tt
split_arrow_parts (b ∷ c ∷ bs) =
    elim (cases_Bool ((b == 60) && (c == 45))) [
      | inl arrow ↦
          let both : ((b == 60) ≡ true) × ((c == 45) ≡ true) = and_parts (b == 60) (c == 45) arrow in
          rw (cond-true ((b == 60) && (c == 45)) (Some ([], bs)) (put_before b (split_arrow (c ∷ bs))) arrow) (rw (eqb-true b 60 both.0, eqb-true c 45 both.1) refl)
      | inr other ↦ rw (split_arrow-more b c bs other) (put_before_round b (c ∷ bs) (split_arrow (c ∷ bs)) (split_arrow_parts (c ∷ bs)))
    ]

-- bytes before what stands before the arrow
abbrev pub put_all : List ℕ → Option (List ℕ × List ℕ) → Option (List ℕ × List ℕ)
put_all [] o = o
put_all (b ∷ bs) o = put_before b (put_all bs o)

pub put_all-push : (bs : List ℕ) (b : ℕ) (o : Option (List ℕ × List ℕ)) → put_all (bs ++ b ∷ []) o ≡ put_all bs (put_before b o)
put_all-push [] b o = refl
put_all-push (c ∷ bs) b o = ap (put_before c) (put_all-push bs b o)

pub put_all-none : (bs : List ℕ) → put_all bs None ≡ None
put_all-none [] = refl
put_all-none (b ∷ bs) = ap (put_before b) (put_all-none bs)

pub put_all-some : (bs before after : List ℕ) → put_all bs (Some (before, after)) ≡ Some (bs ++ before, after)
put_all-some [] before after = refl
put_all-some (b ∷ bs) before after = ap (put_before b) (put_all-some bs before after)

arrow_not_first : (b : ℕ) (rest : List ℕ) → ((after : List ℕ) → b ∷ rest ≡ 60 ∷ 45 ∷ after → ⊥) → split_arrow (b ∷ rest) ≡ put_before b (split_arrow rest)
arrow_not_first b [] none = refl
arrow_not_first b (c ∷ bs) none =
    split_arrow-more b c bs (false_from_ne_true ((b == 60) && (c == 45)) (λ (arrow : ((b == 60) && (c == 45)) ≡ true).
    let both : ((b == 60) ≡ true) × ((c == 45) ≡ true) = and_parts (b == 60) (c == 45) arrow in
    let first : b ≡ 60 = eqb-true b 60 both.0 in
    let second : c ≡ 45 = eqb-true c 45 both.1 in
    none bs (rw (first, second) refl)))

-- an arrow at place i, with none before it
pub arrow_here : (text : List ℕ) (i : ℕ) (after : List ℕ) → split_arrow text ≡ put_all (take i text) (split_arrow (drop i text)) → drop i text ≡ 60 ∷ 45 ∷ after → split_arrow text ≡ Some (take i text, after)
arrow_here text i after so_far here =
    so_far ∙ ap (λ (t : List ℕ). put_all (take i text) (split_arrow t)) here ∙ put_all-some (take i text) [] after
    ∙ ap (λ (t : List ℕ). Some (t, after)) (append-nil (take i text))

-- no arrow at place i, and none before it
pub arrow_later : (text : List ℕ) (i : ℕ) → i < length text → split_arrow text ≡ put_all (take i text) (split_arrow (drop i text)) → ((after : List ℕ) → drop i text ≡ 60 ∷ 45 ∷ after → ⊥) →
    split_arrow text ≡ put_all (take (i + 1) text) (split_arrow (drop (i + 1) text))
arrow_later text i within so_far none =
    let b : ℕ = get_or text i 0 in
    let rest : List ℕ = drop (i + 1) text in
    let here : drop i text ≡ b ∷ rest = drop_more text i 0 within in
    so_far
    ∙ ap (λ (t : List ℕ). put_all (take i text) (split_arrow t)) here
    ∙ ap (put_all (take i text)) (arrow_not_first b rest (λ (after : List ℕ) (e : b ∷ rest ≡ 60 ∷ 45 ∷ after). none after (here ∙ e)))
    ∙ sym (put_all-push (take i text) b (split_arrow rest))
    ∙ ap (λ (t : List ℕ). put_all t (split_arrow rest)) (sym (take_more text i 0 within))

-- no arrow up to the end
pub arrow_nowhere : (text : List ℕ) (i : ℕ) → length text ≤ i → split_arrow text ≡ put_all (take i text) (split_arrow (drop i text)) → split_arrow text ≡ None
arrow_nowhere text i past so_far =
    so_far ∙ ap (λ (t : List ℕ). put_all (take i text) (split_arrow t)) (drop_all i text past) ∙ put_all-none (take i text)
