-- What is sound and complete is what the text is.
use Rattle.entity_model.proofs.IdReading.{id_of-value}
use Rattle.entity_model.proofs.id.EntityId.read.Goals as goal

pub returns-clause-value : goal.returns-clause-value
returns-clause-value c = id_of-value c.args.text.now c.parse.result c.parse.ensures.sound c.parse.ensures.complete
