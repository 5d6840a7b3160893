-- Two histories tell a tenant what agrees.
use Rattle.std.proofs.Common.{◌≡◌, ℕ, List, [], ◌∷◌, sym, subst, subst₂, Option, Some, None}
use Rattle.std.specs.List.{AllZip, AllByRecursion}
use Rattle.hall.specs.declared.faults.Fault.TheVariants.{NoTenant}
use Rattle.hall.specs.declared.calls.replies.Reply.TheVariants.{Refused}
use Rattle.hall.specs.Answers.{Account, start_of}
use Rattle.hall.specs.Run.{Turn, told_to, any_time, IsRun, IsRunOf}
use Rattle.hall.specs.Run.{Agree, same, HasMemory, IsSameDeed}
use Rattle.hall.proofs.laws.Worlds.{two_worlds}
use Rattle.pool.specs.Laws.{HistoriesAgree}

pub histories_agree : HistoriesAgree
histories_agree tenant roster others items more told said legal are also were start deeds memory has =
    let (end, run) = legal.runs told are tenant in
    let (other_end, other_run) = also.runs said were tenant in
    two_worlds any_time tenant (start_of tenant roster) end other_end (told_to tenant [] told) (told_to tenant [] said) run
    (subst (λ (o : Option Account). IsRunOf any_time tenant o (told_to tenant [] said) other_end) (sym start) other_run) deeds memory has
