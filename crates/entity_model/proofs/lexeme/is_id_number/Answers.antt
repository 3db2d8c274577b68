-- There is a number exactly where the digits write one.
use Rattle.std.proofs.Common.{◌∙◌}
use Rattle.entity_model.proofs.PartIds.{number_told}
use Rattle.entity_model.proofs.lexeme.is_id_number.Goals as goal

pub returns : goal.returns
returns c = c.is_some.ensures ∙ number_told c.args.digits.now c.read_number.result c.read_number.ensures.sound c.read_number.ensures.complete
