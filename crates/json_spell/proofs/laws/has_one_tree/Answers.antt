-- Completeness of the reader gives it.
use Rattle.json_spell.proofs.Complete.{one_tree}
use Rattle.json_spell.proofs.laws.has_one_tree.Goals as goal

pub returns : goal.returns
returns c = one_tree
