-- What became of the same lines is the same but for the replies, and so by its replies.
use Rattle.std.proofs.Common.{◌≡◌, ◌≢◌, ℕ, Bool, true, false, cond, List, [], ◌∷◌, ◌++◌, map, refl, sym, ap, ◌∙◌, subst₂, Result, Ok, Err, inl, inr}
use Rattle.std.specs.List.{AllZip, AllByRecursion}
use Rattle.names.specs.Name.{is_same}
use Rattle.vaults.specs.declared.changes.Entry.{Entry}
use Rattle.hall.specs.declared.calls.replies.Reply.{Reply}
use Rattle.hall.specs.Answers.{sight}
use Rattle.hall.specs.Run.{Deed, request_of, Told, entered, Turn, told_to, any_time, at_waits}
use Rattle.hall.specs.Run.{Agree, same, proofs, first_early, second_early, IsSameDeed}
use Rattle.service.specs.declared.commands.Command.{Command}
use Rattle.service.specs.declared.refusals.Refusal.{Refusal}
use Rattle.service.specs.declared.refusals.Refusal.TheVariants as refusal
use Rattle.service.specs.Command.{form_of, Reads}
use Rattle.service.specs.Outcome.{Outcome, nobody, refused, served, outcome_text, IsSaid, deed_of, told_in}
use Rattle.service.specs.Laws.{own_outcomes, turns_of, ArePrintedAlike}
use Rattle.service.proofs.CommandLemmas.{one_reading}

-- lists that are related place by place
zip_mapped : {X Y V W : Type 0} (R : X → Y → Type 0) (S : V → W → Type 0) (f : X → V) (g : Y → W) → ((x : X) (y : Y) → R x y → S (f x) (g y)) →
    (xs : List X) (ys : List Y) → AllZip R xs ys → AllZip S (map f xs) (map g ys)
zip_mapped R S f g over [] [] zip = tt
zip_mapped R S f g over [] (y ∷ ys) zip = absurd zip
zip_mapped R S f g over (x ∷ xs) [] zip = absurd zip
zip_mapped R S f g over (x ∷ xs) (y ∷ ys) zip = (over x y zip.0, zip_mapped R S f g over xs ys zip.1)

-- the same but for the reply
abbrev pub AreOneLine : Outcome → Outcome → Type 0
AreOneLine (refused who why) (refused other also) = (who ≡ other) × (why ≡ also)
AreOneLine (served who command reply) (served other also told) = (who ≡ other) × (command ≡ also)
AreOneLine _ _ = ⊥

-- what is no want of memory
lacks : (tenant who : List ℕ) (why : Refusal) → who ≡ tenant → refused who why ≢ refused tenant refusal.Memory → ◌≢◌ {A = Result Command Refusal} (Err why) (Err refusal.Memory)
lacks tenant who why to other is = other (cc)

found : (command : Command) → ◌≢◌ {A = Result Command Refusal} (Ok command) (Err refusal.Memory)
found command is = cc

-- a text is read in one way
abbrev reads_same : (said : List ℕ) (one two : Result Command Refusal) → one ≢ Err refusal.Memory → two ≢ Err refusal.Memory →
    Reads (form_of said) one → Reads (form_of said) two → one ≡ two
reads_same said = one_reading (form_of said)

-- to read the tenant's line no memory lacked
abbrev IsRead : List ℕ → Outcome → Type 0
IsRead tenant outcome = outcome ≢ refused tenant refusal.Memory

-- so are two that one text may become, where memory didn't lack
one_line : (tenant said : List ℕ) (one two : Outcome) → IsSaid tenant (form_of said) one → IsSaid tenant (form_of said) two → IsRead tenant one → IsRead tenant two → AreOneLine one two
one_line tenant said (nobody why) two is also memory more = absurd is
one_line tenant said (refused who why) (nobody other) is also memory more = absurd also
one_line tenant said (refused who why) (refused name other) is also memory more =
    let same = reads_same said (Err why) (Err other) (lacks tenant who why is.0 memory) (lacks tenant name other also.0 more) is.1 also.1 in (is.0 ∙ sym also.0, cc)
one_line tenant said (refused who why) (served name command reply) is also memory more =
    let same = reads_same said (Err why) (Ok command) (lacks tenant who why is.0 memory) (found command) is.1 also.1 in cc
one_line tenant said (served who command reply) (nobody other) is also memory more = absurd also
one_line tenant said (served who command reply) (refused name why) is also memory more =
    let same = reads_same said (Ok command) (Err why) (found command) (lacks tenant name why also.0 more) is.1 also.1 in cc
one_line tenant said (served who command reply) (served name other told) is also memory more =
    let same = reads_same said (Ok command) (Ok other) (found command) (found other) is.1 also.1 in (is.0 ∙ sym also.0, cc)

pub one_lines : (tenant : List ℕ) (texts : List (List ℕ)) (first second : List Outcome) → AllZip (λ said outcome. IsSaid tenant (form_of said) outcome) texts first →
    AllZip (λ said outcome. IsSaid tenant (form_of said) outcome) texts second → AllByRecursion (λ outcome. outcome ≢ refused tenant refusal.Memory) first →
    AllByRecursion (λ outcome. outcome ≢ refused tenant refusal.Memory) second → AllZip AreOneLine first second
one_lines tenant [] [] [] are also memory more = tt
one_lines tenant [] [] (two ∷ second) are also memory more = absurd also
one_lines tenant [] (one ∷ first) second are also memory more = absurd are
one_lines tenant (said ∷ texts) [] second are also memory more = absurd are
one_lines tenant (said ∷ texts) (one ∷ first) [] are also memory more = absurd also
one_lines tenant (said ∷ texts) (one ∷ first) (two ∷ second) are also memory more =
    (one_line tenant said one two are.0 also.0 memory.0 more.0, one_lines tenant texts first second are.1 also.1 memory.1 more.1)

-- what the tenant did and was told, by its own outcomes
told_own : {X : Type 0} (tenant : List ℕ) (part : Deed → Reply → X) (journal : List Entry) (outcomes : List Outcome) →
    map (λ (t : Turn). part t.deed t.reply) (told_to tenant journal (told_in outcomes)) ≡ map (λ (t : Told). part t.deed t.reply) (told_in (own_outcomes tenant outcomes))
told_own tenant part journal [] = refl
told_own tenant part journal (nobody why ∷ outcomes) = told_own tenant part journal outcomes
told_own {X} tenant part journal (refused who why ∷ outcomes) = told_own tenant part journal outcomes ∙ by (is_same who tenant)
  where
    by : (own : Bool) → map (λ (t : Told). part t.deed t.reply) (told_in (own_outcomes tenant outcomes))
        ≡ map (λ (t : Told). part t.deed t.reply) (told_in (cond own (refused who why ∷ own_outcomes tenant outcomes) (own_outcomes tenant outcomes)))
    by true = refl
    by false = refl
told_own {X} tenant part journal (served who command reply ∷ outcomes) = by (is_same who tenant) (told_own tenant part (entered journal told) outcomes)
  where
    told : Told
    told = record { tenant = who; deed = deed_of command; reply = reply }

    turn : Turn
    turn = record { sees = sight journal tenant (request_of (deed_of command)); deed = deed_of command; reply = reply }

    later : List Turn
    later = told_to tenant (entered journal told) (told_in outcomes)

    by : (own : Bool) → map (λ (t : Turn). part t.deed t.reply) later ≡ map (λ (t : Told). part t.deed t.reply) (told_in (own_outcomes tenant outcomes)) →
        map (λ (t : Turn). part t.deed t.reply) (cond own (turn ∷ []) [] ++ later)
        ≡ map (λ (t : Told). part t.deed t.reply) (told_in (cond own (served who command reply ∷ own_outcomes tenant outcomes) (own_outcomes tenant outcomes)))
    by true rest = ap (λ (l : List X). part (deed_of command) reply ∷ l) rest
    by false rest = rest

-- what was told in these outcomes
abbrev pub replies_in : List Outcome → List Reply
replies_in outcomes = map (λ (t : Told). t.reply) (told_in outcomes)

-- what was done in them
abbrev deeds_in : List Outcome → List Deed
deeds_in outcomes = map (λ (t : Told). t.deed) (told_in outcomes)

-- lines that are the same but for the replies have the same deeds
lines_deeds : (first second : List Outcome) → AllZip AreOneLine first second → deeds_in first ≡ deeds_in second
lines_deeds [] [] are = refl
lines_deeds [] (two ∷ second) are = absurd are
lines_deeds (one ∷ first) [] are = absurd are
lines_deeds (nobody why ∷ first) (two ∷ second) are = absurd are.0
lines_deeds (refused who why ∷ first) (nobody other ∷ second) are = absurd are.0
lines_deeds (refused who why ∷ first) (refused other also ∷ second) are = lines_deeds first second are.1
lines_deeds (refused who why ∷ first) (served other also told ∷ second) are = absurd are.0
lines_deeds (served who command reply ∷ first) (nobody other ∷ second) are = absurd are.0
lines_deeds (served who command reply ∷ first) (refused other also ∷ second) are = absurd are.0
lines_deeds (served who command reply ∷ first) (served other also told ∷ second) are =
    ap (λ (c : Command). deed_of c ∷ deeds_in first) are.0.1 ∙ ap (λ (l : List Deed). deed_of also ∷ l) (lines_deeds first second are.1)

-- turns with the same in sight and the same deeds
same_deeds : (first second : List Turn) → map (λ (t : Turn). t.sees) first ≡ map (λ (t : Turn). t.sees) second → map (λ (t : Turn). t.deed) first ≡ map (λ (t : Turn). t.deed) second →
    AllZip IsSameDeed first second
same_deeds [] [] sees deeds = tt
same_deeds [] (two ∷ second) sees deeds = cc
same_deeds (one ∷ first) [] sees deeds = cc
same_deeds (one ∷ first) (two ∷ second) sees deeds =
    let in_sight : one.sees ≡ two.sees = cc in
    let later : map (λ (t : Turn). t.sees) first ≡ map (λ (t : Turn). t.sees) second = cc in
    let deed : one.deed ≡ two.deed = cc in
    let others : map (λ (t : Turn). t.deed) first ≡ map (λ (t : Turn). t.deed) second = cc in
    ((in_sight, deed), same_deeds first second later others)

-- so where the tenant has the same in sight, its turns are the same but for the replies
pub same_turns : (tenant : List ℕ) (first second : List Outcome) → AllZip AreOneLine (own_outcomes tenant first) (own_outcomes tenant second) → map (λ (t : Turn). t.sees) (turns_of tenant first) ≡ map (λ (t : Turn). t.sees) (turns_of tenant second) →
    AllZip IsSameDeed (told_to tenant [] (told_in first)) (told_to tenant [] (told_in second))
same_turns tenant first second are sees =
    same_deeds (turns_of tenant first) (turns_of tenant second) sees
    (own first ∙ lines_deeds (own_outcomes tenant first) (own_outcomes tenant second) are ∙ sym (own second))
  where
    own : (outcomes : List Outcome) → map (λ (t : Turn). t.deed) (turns_of tenant outcomes) ≡ deeds_in (own_outcomes tenant outcomes)
    own outcomes = told_own tenant (λ deed reply. deed) [] outcomes

-- and where the replies of the turns agree, so do those of its own outcomes
pub replies_agree : (tenant : List ℕ) (first second : List Outcome) →
    AllZip (λ (s t : Turn). Agree at_waits s.reply t.reply) (told_to tenant [] (told_in first)) (told_to tenant [] (told_in second)) →
    AllZip (Agree at_waits) (replies_in (own_outcomes tenant first)) (replies_in (own_outcomes tenant second))
replies_agree tenant first second agree =
    subst₂ (AllZip (Agree at_waits)) (own first) (own second)
    (zip_mapped (λ (s t : Turn). Agree at_waits s.reply t.reply) (Agree at_waits) (λ (t : Turn). t.reply) (λ (t : Turn). t.reply) (λ s t same. same) (turns_of tenant first) (turns_of tenant second) agree)
  where
    own : (outcomes : List Outcome) → map (λ (t : Turn). t.reply) (turns_of tenant outcomes) ≡ replies_in (own_outcomes tenant outcomes)
    own outcomes = told_own tenant (λ deed reply. reply) [] outcomes

refusal_same : (who other : List ℕ) (why also : Refusal) → who ≡ other → why ≡ also → outcome_text (refused who why) ≡ outcome_text (refused other also)
refusal_same who other why also to is = ap (λ (name : List ℕ). outcome_text (refused name why)) to ∙ ap (λ (r : Refusal). outcome_text (refused other r)) is

at_any_time : at_waits ≡ any_time → ⊥
at_any_time is = cc

-- one command is answered alike where its replies agree
served_alike : (who other : List ℕ) (command also : Command) (reply told : Reply) → who ≡ other → command ≡ also → Agree at_waits reply told → ArePrintedAlike (served who command reply) (served other also told)
served_alike who other command also reply _ to is same = inl (ap (λ (name : List ℕ). outcome_text (served name command reply)) to)
served_alike who other command also _ _ to is (proofs prove) = inr (to, is, prove)
served_alike who other command also reply told to is (first_early any early) = absurd (at_any_time any)
served_alike who other command also reply told to is (second_early any early) = absurd (at_any_time any)

-- lines that are the same but for the replies are printed alike where these agree
pub printed_alike : (first second : List Outcome) → AllZip AreOneLine first second → AllZip (Agree at_waits) (replies_in first) (replies_in second) → AllZip ArePrintedAlike first second
printed_alike [] [] are told = tt
printed_alike [] (two ∷ second) are told = absurd are
printed_alike (one ∷ first) [] are told = absurd are
printed_alike (nobody why ∷ first) (two ∷ second) are told = absurd are.0
printed_alike (refused who why ∷ first) (nobody other ∷ second) are told = absurd are.0
printed_alike (refused who why ∷ first) (refused other also ∷ second) are told = (inl (refusal_same who other why also are.0.0 are.0.1), printed_alike first second are.1 told)
printed_alike (refused who why ∷ first) (served other also reply ∷ second) are told = absurd are.0
printed_alike (served who command reply ∷ first) (nobody other ∷ second) are told = absurd are.0
printed_alike (served who command reply ∷ first) (refused other also ∷ second) are told = absurd are.0
printed_alike (served who command reply ∷ first) (served other also more ∷ second) are told =
    (served_alike who other command also reply more are.0.0 are.0.1 told.0, printed_alike first second are.1 told.1)
