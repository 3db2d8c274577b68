-- What nests at most 64 levels is shallow to the scan.
use Rattle.json_spell.proofs.Levels.{reads_low}
use Rattle.json_spell.proofs.laws.nesting_to_64_is_not_deep.Goals as goal

pub returns : goal.returns
returns c = reads_low
