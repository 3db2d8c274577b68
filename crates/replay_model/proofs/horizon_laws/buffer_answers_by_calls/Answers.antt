-- What each call keeps, and what is answered by it.
use Rattle.replay_model.proofs.Taking.{has_taken-start, has_taken-take, has_taken-raise, has_taken-close, has_taken-drop, has_taken-answers}
use Rattle.replay_model.proofs.horizon_laws.buffer_answers_by_calls.Goals as goal

pub returns-clause-start : goal.returns-clause-start
returns-clause-start c = has_taken-start

pub returns-clause-take : goal.returns-clause-take
returns-clause-take c = has_taken-take

pub returns-clause-raise : goal.returns-clause-raise
returns-clause-raise c = has_taken-raise

pub returns-clause-close : goal.returns-clause-close
returns-clause-close c = has_taken-close

pub returns-clause-drop : goal.returns-clause-drop
returns-clause-drop c = has_taken-drop

pub returns-clause-answers : goal.returns-clause-answers
returns-clause-answers c = has_taken-answers
