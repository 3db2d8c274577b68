-- What is kept, and what is answered by it.
use Rattle.reorder_buffer.specs.Watermarks.{floor}
use Rattle.replay_model.specs.Acceptance.{events, mark}
use Rattle.replay_model.proofs.Floors.{has-kept}
use Rattle.replay_model.proofs.Horizons.{answer-following}
use Rattle.replay_model.proofs.horizon_laws.buffer_answers_by_deliveries.Goals as goal

pub returns-clause-kept : goal.returns-clause-kept
returns-clause-kept c h replies ds e = has-kept (floor h (mark ds)) e (events ds)

pub returns-clause-answers : goal.returns-clause-answers
returns-clause-answers c = answer-following
