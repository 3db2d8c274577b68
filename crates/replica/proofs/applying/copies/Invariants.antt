-- The list has those of the triples so far.
use Rattle.std.proofs.Common.{◌≡◌, filter, take}
use Rattle.std.specs.FinMap as map
use Rattle.triple_store.specs.StoreState.{counts_in}
use Rattle.replica.specs.Replica.{is_at_side}
use Rattle.replica.proofs.applying.copies.Given as goal

abbrev pub invariant-loop-triple : goal.invariant-loop-triple
invariant-loop-triple l = l.list ≡ filter (is_at_side (map.keys (counts_in l.store)) l.stored) (take l.triple-index l.triples)
