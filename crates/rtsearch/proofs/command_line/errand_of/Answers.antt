-- The subcommand that was found is `serve`, with its options, or it isn't.
use Rattle.std.proofs.Common.{◌≡◌, false, true, Option, refl, sym, subst, codes}
use Rattle.clap.specs.Words.{Text, found_of, subcommand_rows_of}
use Rattle.rtsearch.specs.CommandLine.{HasValue, IsGiven, IsValue, MayHaveValue, accept_test, idle_test, port_test, threads_test}
use Rattle.rtsearch.proofs.ErrandLemmas.{serve_by_name, other_by_name, text_of}
use Rattle.rtsearch.proofs.command_line.errand_of.Goals as goal

pub port_of-requires : goal.port_of-requires
port_of-requires c =
    let same = text_of (subcommand_rows_of c.args.matches.now) (found_of c.in-Some.serve.now) c.in-Some.ensures.rows (codes "port") in
    subst (HasValue port_test) (sym same) (c.requires (serve_by_name _ _ _ (c.in-Some.ensures.found.0 refl))).0

pub options_of-requires-clause-workers : goal.options_of-requires-clause-workers
options_of-requires-clause-workers c =
    let same = text_of (subcommand_rows_of c.args.matches.now) (found_of c.in-Some.serve.now) c.in-Some.ensures.rows (codes "workers") in
    subst (HasValue threads_test) (sym same) (c.requires (serve_by_name _ _ _ (c.in-Some.ensures.found.0 refl))).1

pub options_of-requires-clause-sessions : goal.options_of-requires-clause-sessions
options_of-requires-clause-sessions c =
    let same = text_of (subcommand_rows_of c.args.matches.now) (found_of c.in-Some.serve.now) c.in-Some.ensures.rows (codes "sessions") in
    subst (HasValue threads_test) (sym same) (c.requires (serve_by_name _ _ _ (c.in-Some.ensures.found.0 refl))).2

pub options_of-requires-clause-accept : goal.options_of-requires-clause-accept
options_of-requires-clause-accept c =
    let same = text_of (subcommand_rows_of c.args.matches.now) (found_of c.in-Some.serve.now) c.in-Some.ensures.rows (codes "accept") in
    subst (MayHaveValue accept_test) (sym same) (c.requires (serve_by_name _ _ _ (c.in-Some.ensures.found.0 refl))).3

pub options_of-requires-clause-idle : goal.options_of-requires-clause-idle
options_of-requires-clause-idle c =
    let same = text_of (subcommand_rows_of c.args.matches.now) (found_of c.in-Some.serve.now) c.in-Some.ensures.rows (codes "idle") in
    subst (MayHaveValue idle_test) (sym same) (c.requires (serve_by_name _ _ _ (c.in-Some.ensures.found.0 refl))).4

pub returns-in-Some : goal.returns-in-Some
returns-in-Some c =
    let same = text_of (subcommand_rows_of c.args.matches.now) (found_of c.in-Some.serve.now) c.in-Some.ensures.rows in
    let options = c.options_of in (
      serve_by_name _ _ _ (c.in-Some.ensures.found.0 refl),
      subst (λ (t : Option Text). IsValue t c.port_of.result) (same (codes "port")) c.port_of.ensures,
      (subst (λ (t : Option Text). IsValue t options.result.workers) (same (codes "workers")) options.ensures.workers.0, options.ensures.workers.1),
      (subst (λ (t : Option Text). IsValue t options.result.sessions) (same (codes "sessions")) options.ensures.sessions.0, options.ensures.sessions.1),
      subst (λ (t : Option Text). IsGiven t options.result.accept) (same (codes "accept")) options.ensures.accept,
      subst (λ (t : Option Text). IsGiven t options.result.idle_seconds) (same (codes "idle")) options.ensures.idle,
    )

pub returns-in-None : goal.returns-in-None
returns-in-None c = other_by_name _ _ _ (λ named. let no : false ≡ true = c.in-None.ensures.found.1 named in cc)
