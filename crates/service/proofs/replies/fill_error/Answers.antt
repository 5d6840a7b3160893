-- The text is the one of the number, or none.
use Rattle.std.proofs.Common.{◌≡◌, ◌∙◌, ℕ, List, [], ◌∷◌, ◌++◌, codes, rules, ap, append_assoc, unwrap_or}
use Rattle.std.specs.Fmt.{decimal}
use Rattle.service.specs.Refusal.{refusal_of}
use Rattle.service.specs.Reply.{front_of}
use Rattle.service.proofs.replies.fill_error.Goals as goal

-- what stands in front of the parts of a line stands in front of the line
joined : (front a b c d end : List ℕ) → front ++ a ++ b ++ c ++ d ++ end ≡ front ++ (a ++ b ++ c ++ d) ++ end
joined front a b c d end =
    let three = ap (λ t. t ++ c ++ d) (append_assoc front a b) ∙ ap (λ t. t ++ d) (append_assoc front (a ++ b) c) in
    ap (λ t. t ++ end) (three ∙ append_assoc front (a ++ b ++ c) d)

pub returns : goal.returns
returns c =
    let text : c.unwrap_or.result.now ≡ unwrap_or (refusal_of c.args.number) [] = search rules in
    let front = rw (c.append_number.ensures.digits, c.append.ensures, c.begin.ensures.items) at c.append-2.ensures in
    rw (c.append-3.ensures, front, c.as_bytes.ensures.value, text) at c.append-4.ensures
    ∙ joined (front_of c.args.who.now) (codes "error ") (decimal c.args.number) (codes " ") (unwrap_or (refusal_of c.args.number) []) (10 ∷ [])
