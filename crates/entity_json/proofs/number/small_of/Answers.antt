-- What is sound and complete is what the text spells.
use Rattle.entity_json.proofs.SmallNumbers.{small-value}
use Rattle.entity_json.proofs.number.small_of.Goals as goal

pub returns : goal.returns
returns c = small-value c.args.text.now c.read_small.result c.read_small.ensures.sound c.read_small.ensures.complete
