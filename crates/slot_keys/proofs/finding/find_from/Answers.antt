use Rattle.sorted_sets.proofs.Sorting.{found}
use Rattle.slot_keys.specs.Keys.{key_cmp-total}
use Rattle.slot_keys.proofs.finding.find_from.Goals as goal

pub returns-clause-there : goal.returns-clause-there
returns-clause-there c = found key_cmp-total c.args.keys.now c.args.key c.binary_search.result c.requires c.binary_search.ensures.bound c.binary_search.ensures.position
