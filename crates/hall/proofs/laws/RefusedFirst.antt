-- A refusal that is due is told in any case.
use Rattle.std.proofs.Common.{◌≡◌, List, ℕ, ap, refl}
use Rattle.hall.specs.declared.{faults.Fault.Fault, calls.requests.Request.Request}
use Rattle.hall.specs.declared.calls.replies.Reply.{Reply, TheVariants.Refused}
use Rattle.hall.specs.Answers.{Account, Sight, Refuses, Answers, refuses, grants, lacks}
use Rattle.hall.proofs.laws.AccountReplies.{refused_once}

pub refused_first : (tenant : List ℕ) (sees : Sight) (a b : Account) (q : Request) (f : Fault) (told : Reply) → Refuses tenant a q f →
    Answers tenant sees a q told b → (told ≡ Refused f) × (b ≡ a)
refused_first tenant sees a _ q f _ due (refuses g other) = (ap Refused (refused_once tenant a q g f other due), refl)
refused_first tenant sees a b q f told due (grants clear granted) = absurd (clear f due)
refused_first tenant sees a _ q f _ due (lacks clear may) = absurd (clear f due)
