-- The world stays empty, and what the follower leaves.
use Rattle.std.specs.FinMap.{len-empty}
use Rattle.replay_model.specs.Play.{nothing_played}
use Rattle.holders.proofs.Rooming.{nothing_held}
use Rattle.run_model.proofs.Ongoing.{followed_on}
use Rattle.session.proofs.Plans.{follow_stopped}
use Rattle.session.proofs.records.follow_records.Goals as goal

pub set_limit-requires : goal.set_limit-requires
set_limit-requires g c = record { records = rw c.requires.world (len-empty _ _); all = c.requires.lean }

pub returns-in-Err-clause-ending : goal.returns-in-Err-clause-ending
returns-in-Err-clause-ending g c = follow_stopped _ _ _ _ _ c.status.ensures.stops (record { why = c.in-Err.why; is = c.from.ensures; stopped = c.in-Err.ensures.err }) c.follow.ensures.taken

pub returns-in-Ok-clause-ending : goal.returns-in-Ok-clause-ending
returns-in-Ok-clause-ending g c = record { outcome = c.in-Ok.ensures.ok; taken = c.follow.ensures.taken }

pub returns-in-Ok-clause-held : goal.returns-in-Ok-clause-held
returns-in-Ok-clause-held g c = rw (c.set_limit.ensures, c.requires.world) (nothing_held _ nothing_played.records _ (len-empty _ _))

pub returns-in-Err-clause-held : goal.returns-in-Err-clause-held
returns-in-Err-clause-held g c = rw (c.set_limit.ensures, c.requires.world) (nothing_held _ nothing_played.records _ (len-empty _ _))

pub returns-in-Ok-clause-further : goal.returns-in-Ok-clause-further
returns-in-Ok-clause-further g c = followed_on g.S.Source g.R.Revisions g.K.Sink g.F.Snapshots c.args.ports.now _ _ c.follow.ensures.later c.follow.ensures.most (record { faults = c.follow.ensures.written; most = c.follow.ensures.most_written })

pub returns-in-Err-clause-further : goal.returns-in-Err-clause-further
returns-in-Err-clause-further g c = followed_on g.S.Source g.R.Revisions g.K.Sink g.F.Snapshots c.args.ports.now _ _ c.follow.ensures.later c.follow.ensures.most (record { faults = c.follow.ensures.written; most = c.follow.ensures.most_written })
