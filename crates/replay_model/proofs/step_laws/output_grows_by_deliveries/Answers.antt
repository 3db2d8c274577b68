-- The arrivals grow by the last delivery.
use Rattle.replay_model.proofs.Printing.{said-push}
use Rattle.replay_model.proofs.step_laws.output_grows_by_deliveries.Goals as goal

pub returns : goal.returns
returns c = said-push
