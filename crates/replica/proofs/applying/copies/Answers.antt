-- Some of a rising list rise.
use Rattle.std.proofs.Common.{◌≡◌, arith, take}
use Rattle.std.proofs.lemmas.List.{take_all}
use Rattle.sorted_sets.proofs.Filtering.{IsRising-filter}
use Rattle.rdf_term.specs.Order.{triple_cmp}
use Rattle.replica.proofs.applying.copies.Goals as goal

pub from_rising-requires : goal.from_rising-requires
from_rising-requires c =
    let all : take c.loop-triple.triple-index c.args.triples.now ≡ c.args.triples.now = take_all _ _ (omega arith) in
    rw (c.loop-triple.invariant, all) (IsRising-filter triple_cmp _ _ c.requires.rising)
