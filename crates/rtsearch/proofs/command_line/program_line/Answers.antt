-- Both subcommands.
use Rattle.std.proofs.Common.{ap, ap₂, codes, sym, true, ◌≡◌, ◌∙◌}
use Rattle.std.proofs.lemmas.Result.{IfOk-weaker}
use Rattle.clap.specs.Words.{App, app_of, new_app, with_subcommand}
use Rattle.clap.specs.Simple.{app_of_fields}
use Rattle.rtsearch.specs.CommandLine.{rtsearch}
use Rattle.rtsearch.proofs.ErrandLemmas.{third_is_false}
use Rattle.rtsearch.proofs.command_line.program_line.Goals as goal

abbrev requiring : App → App
requiring a = record { top = record a.top { subcommand_required = true }; subs = a.subs }

abbrev versioned : App → App
versioned a = record { top = record a.top { has_version = true }; subs = a.subs }

pub returns : goal.returns
returns c =
    let script_is : app_of c.about-script.result ≡ new_app (codes "script") = ap app_of_fields c.about-script.ensures ∙ c.new.ensures.app in
    let serve_is = c.in_ok-serve.ensures in
    let bare_is : app_of c.subcommand_required.result ≡ rtsearch = ap app_of_fields c.subcommand_required.ensures
    ∙ ap requiring (ap app_of_fields c.version.ensures ∙ ap versioned (ap app_of_fields c.about.ensures ∙ c.new-2.ensures.app)) in
    let local = third_is_false _ _ _ _ (ap (λ (a : App). a.top.is_plain) serve_is) in
    IfOk-weaker c.subcommands.result _ _
    (λ command adds.
    let turns = rw c.in_ok-subcommands.ensures.items at adds in
    let one = turns.1.shape (third_is_false _ _ _ _ (ap (λ (a : App). a.top.is_plain) script_is)) ∙ ap₂ with_subcommand bare_is (ap (λ (a : App). a.top) script_is) in
    sym (ap app_of turns.2.2) ∙ turns.2.1.shape local ∙ ap₂ with_subcommand one (ap (λ (a : App). a.top) serve_is))
    c.subcommands.ensures
