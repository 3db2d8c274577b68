-- By the outcome of the bytes.
use Rattle.entity_json.proofs.Fitness.{documents}
use Rattle.entity_json.proofs.laws.documents_are_pages.Goals as goal

pub returns : goal.returns
returns c = documents
