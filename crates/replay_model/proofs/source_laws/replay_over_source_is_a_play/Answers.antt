-- The steps that keep a replay explained.
use Rattle.replay_model.proofs.Explaining.{Explained-is, Explained-fetches, Explained-source, Explained-source_fetches, Explained-start, Explained-event, Explained-event_rests, Explained-mark, Explained-ask, Explained-end, Explained-next, Explained-ask, Explained-mapping}
use Rattle.replay_model.proofs.source_laws.replay_over_source_is_a_play.Goals as goal

pub returns-clause-some_replies : goal.returns-clause-some_replies
returns-clause-some_replies c unfit known play_of fetches_of made w x none = (Explained-is unfit known play_of fetches_of made w x none, Explained-fetches unfit known play_of fetches_of made w x none)

pub returns-clause-source : goal.returns-clause-source
returns-clause-source c unfit known play_of fetches_of made w x none contents is = (Explained-source unfit known play_of fetches_of made w x none contents is, Explained-source_fetches unfit known play_of fetches_of made w x none contents is)

pub returns-clause-start : goal.returns-clause-start
returns-clause-start c = Explained-start

pub returns-clause-event : goal.returns-clause-event
returns-clause-event c = Explained-event

pub returns-clause-event_rests : goal.returns-clause-event_rests
returns-clause-event_rests c = Explained-event_rests

pub returns-clause-watermark : goal.returns-clause-watermark
returns-clause-watermark c = Explained-mark

pub returns-clause-the_end : goal.returns-clause-the_end
returns-clause-the_end c = Explained-end

pub returns-clause-next : goal.returns-clause-next
returns-clause-next c unfit known play_of fetches_of made w e reply x some honest fits = (Explained-next unfit known play_of fetches_of made w e reply x some honest fits).explained

pub returns-clause-ask : goal.returns-clause-ask
returns-clause-ask c = Explained-ask

pub returns-clause-mapping : goal.returns-clause-mapping
returns-clause-mapping c = Explained-mapping
