use Rattle.std.proofs.Common.{◌≤◌, length, vec_capacity}
use Rattle.hall.proofs.Runs.{RunsSoFar}
use Rattle.hall.proofs.halls.Hall.run.Given as goal

-- the events so far have happened, each has its reply, and there is room for those of the others
abbrev pub invariant-loop-event : goal.invariant-loop-event
invariant-loop-event l = record {
  so_far : RunsSoFar l.initial.self l.events l.event-index l.replies.items l.self;
  room : length l.events ≤ vec_capacity l.replies;
}
