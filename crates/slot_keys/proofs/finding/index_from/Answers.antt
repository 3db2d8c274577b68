-- A binary search finds the key where it is there.
use Rattle.std.proofs.Common.{is_ok, ap}
use Rattle.slot_keys.proofs.Searching.{search_found, search_none}
use Rattle.slot_keys.proofs.finding.index_from.Goals as goal

pub returns-in-Ok-clause-found : goal.returns-in-Ok-clause-found
returns-in-Ok-clause-found c = search_found c.args.keys.now c.args.key c.binary_search.result c.in-Ok.index c.binary_search.ensures.bound c.binary_search.ensures.position c.in-Ok.is

pub returns-in-Err-clause-none : goal.returns-in-Err-clause-none
returns-in-Err-clause-none c = search_none c.args.keys.now c.args.key c.binary_search.result c.requires c.binary_search.ensures.bound c.binary_search.ensures.position (ap is_ok c.in-Err.is)
