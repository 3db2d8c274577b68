-- What is read from a text is just the time that its parts write.
use Rattle.std.proofs.Common.{◌∙◌}
use Rattle.event_line.proofs.TimeReading.{sound_answer, time_complete}
use Rattle.event_line.proofs.time.microseconds.Goals as goal

pub returns-clause-sound : goal.returns-clause-sound
returns-clause-sound c = sound_answer _ c.with_zone.result c.with_zone.ensures

pub returns-clause-complete : goal.returns-clause-complete
returns-clause-complete c time is = c.with_zone.ensures ∙ time_complete _ time is
