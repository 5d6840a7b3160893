-- A line without a colon, or with no tenant's name before it, is answered to nobody.
use Rattle.std.proofs.Common.{◌≡◌, ◌∙◌, Bool, true, false, arith, ap, refl, sym}
use Rattle.std.specs.Prelude.{◌&&◌, is_some}
use Rattle.std.specs.FinMap.{get}
use Rattle.names.specs.Name.{is_name}
use Rattle.hall.specs.Hall.{account_of}
use Rattle.std.proofs.lemmas.Grind.{common_steps}
use Rattle.std.specs.List.{list_any}
use Rattle.service.specs.declared.refusals.Refusal.TheVariants as refusal
use Rattle.service.specs.Outcome.{nobody, speaks}
use Rattle.service.specs.Words.{is_colon}
use Rattle.service.proofs.SpeakerLemmas.{has_account}
use Rattle.service.proofs.OutcomeLemmas.{IsOutcome-no_colon, IsOutcome-stranger, IsOutcome-tenant}
use Rattle.service.proofs.scripts.HallHost.answer.Goals as goal

pub returns-in_default : goal.returns-in_default
returns-in_default c =
    let none : list_any is_colon c.trim_start.result.now ≡ false = grind (arith, common_steps) in (
      record {
        outcome = nobody refusal.Command;
        allowed = IsOutcome-no_colon (speaks (account_of c.args.self.now)) c.args.line.now (rw c.trim_start.ensures at none);
        done = refl;
        text = sym (rw c.number.ensures at c.fill_error.ensures);
      },
      refl,
    )

pub returns-in-Ok : goal.returns-in-Ok
returns-in-Ok c =
    let said = c.answer_tenant.ensures in
    let colon : list_any is_colon c.trim_start.result.now ≡ true = c.cut.ensures.found.0 (rw c.in-Some.is refl) in
    let has : (is_name c.cut.result.0.now && is_some (get c.args.self.now.tenants c.cut.result.0.now)) ≡ true = grind (arith, common_steps) in
    let speaker = ap (λ (b : Bool). is_name c.cut.result.0.now && b) (has_account c.args.self.now c.cut.result.0.now) ∙ has in (
      record {
        outcome = said.outcome;
        allowed =
            IsOutcome-tenant (speaks (account_of c.args.self.now)) c.args.line.now c.cut.result.0.now c.in-Some.said.now c.in-Ok.who said.outcome
            (rw c.trim_start.ensures at colon) (rw c.trim_start.ensures at c.cut.ensures.before) (rw (c.in-Some.is, c.trim_start.ensures) at c.cut.ensures.after)
            (c.in-Ok.ensures.entity, speaker) said.allowed;
        done = said.done;
        text = said.text;
      },
      refl,
    )

pub returns-in_default-read : goal.returns-in_default-read
returns-in_default-read c =
    let colon : list_any is_colon c.trim_start.result.now ≡ true = c.cut.ensures.found.0 (rw c.in-Some.is refl) in
    let none : (is_name c.cut.result.0.now && is_some (get c.args.self.now.tenants c.cut.result.0.now)) ≡ false = grind (arith, common_steps) in
    let stranger = ap (λ (b : Bool). is_name c.cut.result.0.now && b) (has_account c.args.self.now c.cut.result.0.now) ∙ none in (
      record {
        outcome = nobody refusal.BadHello;
        allowed =
            IsOutcome-stranger (speaks (account_of c.args.self.now)) c.args.line.now c.cut.result.0.now (rw c.trim_start.ensures at colon)
            (rw c.trim_start.ensures at c.cut.ensures.before) stranger;
        done = refl;
        text = sym (rw c.number-in_default-read.ensures at c.fill_error-in_default-read.ensures);
      },
      refl,
    )
