-- The accepted changes of each name add up to all.
use Rattle.std.proofs.Common.{◌≡◌, ◌≢◌, ◌∙◌, ◌+◌, ◌-◌, ◌<◌, ◌≤◌, ℕ, zero, suc, List, [], ◌∷◌, ◌++◌, length, length-append, ap, sym, refl, arith, inl, inr, subst}
use mathlib.Core.List.{IsPrefix}
use Rattle.std.specs.List.{fold, range_with_len, sum_by}
use Rattle.std.proofs.lemmas.List.Sums.{sum_by-append}
use Rattle.std.proofs.lemmas.Bool.Decides.{eqb_tells}
use Rattle.vaults.specs.declared.changes.Entry.{Entry}
use Rattle.hall.specs.declared.calls.requests.Request.TheVariants as request
use Rattle.hall.specs.declared.calls.replies.Reply.TheVariants.{Counted}
use Rattle.pool.specs.declared.turns.Item.{Item}
use Rattle.pool.specs.declared.turns.Item.TheVariants as item
use Rattle.pool.specs.Histories.{name_of, own_of, entered_by}
use Rattle.pool.specs.Rules.{AreNamed}
use Rattle.pool.specs.Passes.{accepted_in, SharesAddUp}
use Rattle.pool.proofs.Weaving.{own_here, own_elsewhere}

-- an item enters as many changes, whatever was entered before
entered_longer : (journal : List Entry) (i : Item) → length (entered_by journal i) ≡ length journal + length (entered_by [] i)
entered_longer journal (item.Told name who (request.Alter change) (Counted n)) = length-append journal (record { tenant = who; change = change } ∷ [])
entered_longer journal (item.Told name who q told) = omega arith
entered_longer journal (item.Read name who q s) = omega arith
entered_longer journal (item.Stopped name) = omega arith

journal_longer : (journal : List Entry) (items : List Item) → length (fold entered_by journal items) ≡ length journal + accepted_in items
journal_longer journal [] = omega arith
journal_longer journal (i ∷ items) =
    let a = journal_longer (entered_by journal i) items in
    let b = journal_longer (entered_by [] i) items in
    let c = entered_longer journal i in
    omega (arith, a, b, c)

-- one item more, first
pub accepted_first : (i : Item) (items : List Item) → accepted_in (i ∷ items) ≡ accepted_in (i ∷ []) + accepted_in items
accepted_first i items = journal_longer (entered_by [] i) items

-- and so at the end, as a pass's share goes on
pub accepted_append : (xs ys : List Item) → accepted_in (xs ++ ys) ≡ accepted_in xs + accepted_in ys
accepted_append [] ys = omega arith
accepted_append (i ∷ xs) ys = omega (arith, accepted_first i (xs ++ ys), accepted_first i xs, accepted_append xs ys)

-- of a beginning it is no more
pub seen_accepted : (xs ys : List Item) → IsPrefix xs ys → accepted_in xs ≤ accepted_in ys
seen_accepted xs ys begins = omega (arith, ap accepted_in begins.1, accepted_append xs begins.0)

-- what the journal grew by
pub more_accepted : (before after : ℕ) (told : List Item) (i : Item) → before ≡ accepted_in told → after ≡ accepted_in (told ++ i ∷ []) → after ≡ before + accepted_in (i ∷ [])
more_accepted before after told i was is = omega (arith, was, is, accepted_append told (i ∷ []))

-- is what one more item of one's own adds to the share
pub share_grown : (amount before after : ℕ) (own new : List Item) (i j : Item) → amount ≡ accepted_in own → new ≡ own ++ i ∷ [] → i ≡ j → after ≡ before + accepted_in (j ∷ []) →
    amount + (after - before) ≡ accepted_in new
share_grown amount before after own new i j share is same more =
    omega (arith, share, ap accepted_in is, accepted_append own (i ∷ []), ap (λ (x : Item). accepted_in (x ∷ [])) same, more)

-- the numbers of the names below this one, added up
abbrev sum_below : (ℕ → ℕ) → ℕ → ℕ
sum_below f zero = 0
sum_below f (suc n) = sum_below f n + f n

range_push : (a n : ℕ) → range_with_len a (suc n) ≡ range_with_len a n ++ (a + n) ∷ []
range_push a zero = ap (λ (k : ℕ). k ∷ []) (omega arith)
range_push a (suc n) =
    ap (λ (ks : List ℕ). a ∷ ks) (range_push (a + 1) n ∙ ap (λ (k : ℕ). range_with_len (a + 1) n ++ k ∷ []) (omega arith))

sum_is : (f : ℕ → ℕ) (n : ℕ) → sum_by f (range_with_len 0 n) ≡ sum_below f n
sum_is f zero = refl
sum_is f (suc n) =
    let pushed = ap (sum_by f) (range_push 0 n) ∙ sum_by-append f (range_with_len 0 n) ((0 + n) ∷ []) in
    let last : f (0 + n) ≡ f n = ap f (omega arith) in
    omega (arith, pushed, last, sum_is f n)

sum_same : (f g : ℕ → ℕ) (n : ℕ) → ((k : ℕ) → k < n → f k ≡ g k) → sum_below f n ≡ sum_below g n
sum_same f g zero same = refl
sum_same f g (suc n) same = omega (arith, sum_same f g n (λ k below. same k (omega (arith, below))), same n (omega arith))

-- one of the numbers is greater
sum_more : (f g : ℕ → ℕ) (name more : ℕ) (n : ℕ) → name < n → f name ≡ g name + more → ((k : ℕ) → k ≢ name → f k ≡ g k) →
    sum_below f n ≡ sum_below g n + more
sum_more f g name more zero below here elsewhere = absurd (omega (arith, below))
sum_more f g name more (suc n) below here elsewhere = elim (eqb_tells n name) [
  | inl e ↦ let now : f n ≡ g n + more = subst (λ (k : ℕ). f k ≡ g k + more) (sym e.1) here in
      let before : sum_below f n ≡ sum_below g n = sum_same f g n (λ k less. elsewhere k (λ same. omega (arith, less, same, e.1))) in
      omega (arith, now, before)
  | inr e ↦ let now : f n ≡ g n = elsewhere n e.1 in
      let before : sum_below f n ≡ sum_below g n + more = sum_more f g name more n (less below e.1) here elsewhere in
      omega (arith, now, before)
]
  where
    less : name < suc n → n ≢ name → name < n
    less below other = omega (arith, below, λ (same : name ≡ n). other (sym same))

sum_none : (n : ℕ) → sum_below (λ _. 0) n ≡ 0
sum_none zero = refl
sum_none (suc n) = omega (arith, sum_none n)

-- the name of an item was drawn
first_drawn : (drawn : ℕ) (i : Item) (items : List Item) → AreNamed drawn (i ∷ items) → drawn ≤ name_of i → ⊥
first_drawn drawn i items named past = let none = sym (own_here i items (name_of i) refl) ∙ named (name_of i) past in cc

rest_named : (drawn : ℕ) (i : Item) (items : List Item) → AreNamed drawn (i ∷ items) → AreNamed drawn items
rest_named drawn i items named name past =
    sym (own_elsewhere i items name (λ same. first_drawn drawn i items named (subst (λ n. drawn ≤ n) (sym same) past))) ∙ named name past

shares_below : (drawn : ℕ) (items : List Item) → AreNamed drawn items → sum_below (λ name. accepted_in (own_of name items)) drawn ≡ accepted_in items
shares_below drawn [] named = sum_none drawn
shares_below drawn (i ∷ items) named =
    let more = sum_more (λ name. accepted_in (own_of name (i ∷ items))) (λ name. accepted_in (own_of name items)) (name_of i) (accepted_in (i ∷ [])) drawn
    (drawn_below (first_drawn drawn i items named))
    (ap accepted_in (own_here i items (name_of i) refl) ∙ turned _ _ _ (accepted_first i (own_of (name_of i) items)))
    (λ k other. ap accepted_in (own_elsewhere i items k (λ same. other (sym same)))) in
    let others = shares_below drawn items (rest_named drawn i items named) in
    omega (arith, more, others, accepted_first i items)
  where
    drawn_below : (drawn ≤ name_of i → ⊥) → name_of i < drawn
    drawn_below never = omega (arith, never)

    turned : (a b c : ℕ) → a ≡ b + c → a ≡ c + b
    turned a b c is = omega (arith, is)

pub shares_add_up : SharesAddUp
shares_add_up drawn items named = sum_is (λ name. accepted_in (own_of name items)) drawn ∙ shares_below drawn items named
