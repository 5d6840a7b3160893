-- What the conversation wrote.
use Rattle.std.proofs.Common.{rules}
use Rattle.service.proofs.SessionLemmas.{SessionWrote-known}
use Rattle.service.proofs.sessions.answer_session.Goals as goal
use Rattle.service.proofs.sessions.answer_session.Goals.{in-Some, in-None}

pub returns : goal.returns
returns g c =
    SessionWrote-known g.L.Naming.roster c.args.roster.now _ _ (g.I.Read.remaining c.args.reader) _ c.converse-end.result c.converse-end.new.host c.in-Ok.ensures.source
    (elim c.match-session.branch [
      | in-Some w ↦ search rules
      | in-None w ↦ search rules
    ])
    c.converse-end.ensures
