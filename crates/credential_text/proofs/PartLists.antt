-- Lists of parts.
use Rattle.std.proofs.Common.{ℕ, List, [], ◌∷◌, ◌++◌, ◌+◌, ◌<◌, ◌≤◌, ◌≡◌, ◌∙◌, ap, sym, refl, length, take, drop, get_or, append_assoc, length-append, codes, arith}
use Rattle.std.proofs.lemmas.List.{drop_all, length-drop, length-take, take_more}
use Rattle.std.specs.Ordering.{nat_cmp}
use Rattle.std.proofs.lemmas.Bool.Decides.{nat_tests}
use Rattle.credential_text.specs.declared.intersections.Part.{Part}
use Rattle.credential_text.specs.Part.{part_text, parts_order}
use Rattle.credential_text.specs.Expr.{parts_text}

-- a list that has come to its end stands before a longer one
pub order_ended : (qs : List Part) (n : ℕ) → parts_order [] qs ≡ nat_cmp n (n + length qs)
order_ended [] n = grind (arith, nat_tests)
order_ended (q ∷ qs) n = grind (arith, nat_tests)

-- two lists that are tied up to the end of the first are ordered by their lengths
pub order_by_length : (ps qs : List Part) (i : ℕ) → length ps ≤ i → i ≤ length qs → i ≤ length ps → parts_order ps qs ≡ parts_order (drop i ps) (drop i qs) → nat_cmp (length ps) (length qs) ≡ parts_order ps qs
order_by_length ps qs i past within_qs within so_far =
    let ends : i + length (drop i qs) ≡ length qs = omega (arith, length-drop i qs) in
    let at : length ps ≡ i = omega arith in
    sym (so_far ∙ ap (λ (xs : List Part). parts_order xs (drop i qs)) (drop_all i ps past) ∙ order_ended (drop i qs) i ∙ ap (nat_cmp i) ends ∙ ap (λ (n : ℕ). nat_cmp n (length qs)) (sym at))

joined : (p s x q : List ℕ) → p ++ s ++ (x ++ s ++ q) ≡ (p ++ s ++ x) ++ s ++ q
joined p s x q = simp append_assoc

-- the text of one part more
pub parts_text-push : (ps : List Part) (q : Part) → 0 < length ps → parts_text (ps ++ q ∷ []) ≡ parts_text ps ++ codes " & " ++ part_text q
parts_text-push [] q some = absurd (omega arith)
parts_text-push (p ∷ []) q some = refl
parts_text-push (p ∷ r ∷ ps) q some =
    ap (λ (t : List ℕ). part_text p ++ codes " & " ++ t) (parts_text-push (r ∷ ps) q (omega arith)) ∙ joined (part_text p) (codes " & ") (parts_text (r ∷ ps)) (part_text q)

-- the first parts of a list behind others
pub take_behind : (front others : List Part) (i : ℕ) (q : Part) → i < length others → q ≡ get_or others i q → front ++ take (i + 1) others ≡ (front ++ take i others) ++ q ∷ []
take_behind front others i q within is =
    ap (λ (ps : List Part). front ++ ps) (take_more others i q within ∙ ap (λ (p : Part). take i others ++ p ∷ []) (sym is)) ∙ sym (append_assoc front (take i others) (q ∷ []))

pub some_front : (ps others more : List Part) → ps ≡ take 1 ps ++ others → 0 < length others → 0 < length (take 1 ps ++ more)
some_front ps others more whole some =
    omega (arith, ap length whole, length-append (take 1 ps) others, length-append (take 1 ps) more, length-take 1 ps)

-- three writes in a row
pub written_more : (old t s q a b n : List ℕ) → a ≡ old ++ t → b ≡ a ++ s → n ≡ b ++ q → n ≡ old ++ (t ++ s ++ q)
written_more old t s q a b n first second third =
    third ∙ ap (λ (x : List ℕ). x ++ q) (second ∙ ap (λ (x : List ℕ). x ++ s) first) ∙ simp append_assoc
