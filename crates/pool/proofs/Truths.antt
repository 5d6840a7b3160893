-- Each reply of a legal history is right.
use Rattle.std.proofs.Common.{◌≡◌, ◌∙◌, Bool, cond, List, [], ◌∷◌, ◌++◌, Option, ap, refl, subst}
use Rattle.std.specs.List.{fold}
use Rattle.names.proofs.SameNames.{is_same_itself}
use Rattle.hall.specs.Answers.{Account}
use Rattle.hall.specs.Run.{Told, entered, told_to, any_time, IsRunOf}
use Rattle.hall.proofs.laws.HallTurns.{turn_at}
use Rattle.hall.proofs.laws.RightAnswers.{answers_true}
use Rattle.pool.specs.Laws.{HistoriesAreTrue}
use Rattle.pool.proofs.GoOn.{told_append}

-- what a tenant was told, up to its own turn and after
pub own_turn : (before after : List Told) (t : Told) →
    told_to t.tenant [] (before ++ t ∷ after)
    ≡ told_to t.tenant [] before ++ turn_at t.tenant (fold entered [] before) t ∷ told_to t.tenant (entered (fold entered [] before) t) after
own_turn before after t =
    told_append t.tenant [] before (t ∷ after)
    ∙ ap (λ (b : Bool). told_to t.tenant [] before ++ (cond b (turn_at t.tenant (fold entered [] before) t ∷ []) [] ++ told_to t.tenant (entered (fold entered [] before) t) after))
    (is_same_itself t.tenant t.tenant refl)

pub histories_true : HistoriesAreTrue
histories_true roster items told before after t limits legal are split start =
    let (end, run) = legal.runs told are t.tenant in
    let (last, is, turns) = subst (λ (o : Option Account). IsRunOf any_time t.tenant o (told_to t.tenant [] told) end) start run in
    answers_true any_time t.tenant limits (told_to t.tenant [] told) (told_to t.tenant [] before)
    (told_to t.tenant (entered (fold entered [] before) t) after) last (turn_at t.tenant (fold entered [] before) t) turns
    (ap (told_to t.tenant []) split ∙ own_turn before after t)
