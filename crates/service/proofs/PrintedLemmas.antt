-- A reply that memory lacked for is one that the hall may have given.
use Rattle.std.proofs.Common.{◌≡◌, ◌⊎◌, ℕ, List, refl, sym, ◌∙◌, subst, Option, Some, None, inl, inr}
use Rattle.hall.specs.declared.faults.Fault.TheVariants.{Memory}
use Rattle.hall.specs.declared.calls.requests.Request.{Request}
use Rattle.hall.specs.declared.calls.requests.Request.TheVariants as request
use Rattle.hall.specs.declared.calls.answers.Answer.{Answer}
use Rattle.hall.specs.declared.calls.answers.Answer.TheVariants as answer
use Rattle.hall.specs.declared.calls.replies.Reply.{Reply}
use Rattle.hall.specs.declared.calls.replies.Reply.TheVariants as reply
use Rattle.hall.specs.Answers.{Account, Sight, answer_of, Answers, Grants, MayLack}
use Rattle.hall.specs.Run.{Deed, asks, waits}
use Rattle.hall.specs.Hall.{HallState, account_of, hall_after, AnswersTo, IsServed, CarriesOut}
use Rattle.hall.proofs.Members.{members_lack}
use Rattle.service.specs.Reply.{IsLong}

-- a long answer lists members
long_members : (a : Answer) → IsLong (reply.Answered a) → (names : List (List ℕ)) × (a ≡ answer.Members names)
long_members answer.Working long = absurd long
long_members answer.Yes long = absurd long
long_members answer.No long = absurd long
long_members (answer.Members names) long = (names, refl)
long_members answer.Spent long = absurd long
long_members answer.Broken long = absurd long

-- another reply is as long
long_as : (told r : Reply) → IsLong told → told ≡ r → IsLong r
long_as told r long is = subst IsLong is long

-- where a long reply is given, memory may lack, and the hall is the same after it
module _ (h : HallState) (name : List ℕ) where
  abbrev IsLeft : Request → Reply → Type 0
  IsLeft q told = hall_after h name q told ≡ hall_after h name q (reply.Refused Memory)

  lacks-granted : (sees : Sight) (a b : Account) (q : Request) (told : Reply) → IsLong told → Grants name sees a q told b → MayLack a q × (b ≡ a) × IsLeft q told
  lacks-granted sees a b (request.Alter change) told long given = absurd (long_as told _ long given.0)
  lacks-granted sees a b (request.Seek query) told long given = absurd (long_as told _ long given.0)
  lacks-granted sees a b (request.Poll k) told long given =
      let members = long_members (answer_of given.0.settled) (long_as told _ long given.2) in
      (members_lack a k given.0 members.0 given.1 members.1, given.3, refl)
  lacks-granted sees a b (request.Close k) told long given = absurd (long_as told _ long given.0)
  lacks-granted sees a b request.Vault told long given = (tt, given.1, refl)
  lacks-granted sees a b request.Sees told long given = (tt, given.1, refl)
  lacks-granted sees a b (request.Proof k member) told long given = (tt, given.5, refl)

  lacks-answered : (sees : Sight) (a b : Account) (q : Request) (told : Reply) → IsLong told → Answers name sees a q told b → Answers name sees a q (reply.Refused Memory) b × IsLeft q told
  lacks-answered sees a b q told long (Answers.refuses f due) = absurd long
  lacks-answered sees a b q told long (Answers.grants clear given) =
      let may = lacks-granted sees a b q told long given in
      (subst (λ (c : Account). Answers name sees a q (reply.Refused Memory) c) (sym may.1) (Answers.lacks clear may.0), may.2)
  lacks-answered sees a b q told long (Answers.lacks clear may) = absurd long

  lacks-told : (o after : Option Account) (q : Request) (told : Reply) → IsLong told → AnswersTo h name o q told after → AnswersTo h name o q (reply.Refused Memory) after × IsLeft q told
  lacks-told None after q told long is = absurd (long_as told _ long is.0)
  lacks-told (Some a) after q told long is =
      let may = lacks-answered _ a is.0 q told long is.2 in
      ((is.0, is.1, may.0), may.1)

lacks-served : (old new : HallState) (name : List ℕ) (q : Request) (told : Reply) → IsLong told → IsServed old name q told new → IsServed old name q (reply.Refused Memory) new
lacks-served old new name q told long served =
    let may = lacks-told old name (account_of old name) (account_of new name) q told long served.answers in
    record { answers = may.0; after = served.after ∙ may.1 }

lacks-done : (old new : HallState) (name : List ℕ) (deed : Deed) (told : Reply) → IsLong told → CarriesOut old name deed told new → CarriesOut old name deed (reply.Refused Memory) new
lacks-done old new name (asks q) told long served = lacks-served old new name q told long served
lacks-done old new name (waits k) told long done = (done.0, done.1, lacks-served done.0 new name (request.Poll k) told long done.2)

-- what is printed is what the hall may have told
pub printed_done : (old new : HallState) (name : List ℕ) (deed : Deed) (told printed : Reply) → CarriesOut old name deed told new → (printed ≡ told) ⊎ (IsLong told × (printed ≡ reply.Refused Memory)) → CarriesOut old name deed printed new
printed_done old new name deed told printed done (inl same) = subst (λ (r : Reply). CarriesOut old name deed r new) (sym same) done
printed_done old new name deed told printed done (inr lacks) = subst (λ (r : Reply). CarriesOut old name deed r new) (sym lacks.1) (lacks-done old new name deed told lacks.0 done)
