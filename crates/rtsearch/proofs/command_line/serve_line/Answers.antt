-- Each option in turn.
use Rattle.std.proofs.Common.{ap, ap₂, codes, sym, ◌≡◌, ◌∙◌}
use Rattle.std.proofs.lemmas.Result.{IfOk-weaker}
use Rattle.clap.specs.Words.{app_of, rule_of, with_rule}
use Rattle.clap.specs.Simple.{app_of_fields}
use Rattle.rtsearch.specs.CommandLine.{accept_test, idle_test, number_rule, port_test, threads_test, usually}
use Rattle.rtsearch.proofs.command_line.serve_line.Goals as goal

pub returns : goal.returns
returns c =
    let port_is : rule_of c.usual_option.result ≡ usually (codes "0") (number_rule (codes "port") port_test) =
    c.usual_option.ensures.rule ∙ ap (λ test. usually (codes "0") (number_rule (codes "port") test)) c.value_parser.ensures in
    let workers_is : rule_of c.usual_option-2.result ≡ usually (codes "4") (number_rule (codes "workers") threads_test) =
    c.usual_option-2.ensures.rule ∙ ap (λ test. usually (codes "4") (number_rule (codes "workers") test)) c.unsigned-threads.ensures in
    let sessions_is : rule_of c.usual_option-3.result ≡ usually (codes "8") (number_rule (codes "sessions") threads_test) =
    c.usual_option-3.ensures.rule ∙ ap (λ test. usually (codes "8") (number_rule (codes "sessions") test)) c.unsigned-threads.ensures in
    let accept_is : rule_of c.number_option.result ≡ number_rule (codes "accept") accept_test =
    c.number_option.ensures.rule ∙ ap (number_rule (codes "accept")) c.unsigned-connections.ensures in
    let idle_is : rule_of c.number_option-2.result ≡ number_rule (codes "idle") idle_test =
    c.number_option-2.ensures.rule ∙ ap (number_rule (codes "idle")) c.unsigned-seconds.ensures in
    let bare = ap app_of_fields c.about.ensures ∙ c.new.ensures.app in
    IfOk-weaker c.args-2.result _ _
    (λ command adds.
    let turns = rw c.in_ok-options.ensures.items at adds in
    let more = turns.2 in
    let others = more.2 in
    let numbers = others.2 in
    let last = numbers.2 in
    let one = turns.1.shape c.usual_option.ensures.local ∙ ap₂ with_rule bare port_is in
    let two = more.1.shape c.usual_option-2.ensures.local ∙ ap₂ with_rule one workers_is in
    let three = others.1.shape c.usual_option-3.ensures.local ∙ ap₂ with_rule two sessions_is in
    let four = numbers.1.shape c.number_option.ensures.local ∙ ap₂ with_rule three accept_is in
    sym (ap app_of last.2) ∙ last.1.shape c.number_option-2.ensures.local ∙ ap₂ with_rule four idle_is)
    c.args-2.ensures
