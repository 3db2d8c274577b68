-- The triples so far have one owner less.
use Rattle.std.proofs.Common.{take}
use Rattle.std.specs.FinMap as map
use Rattle.triple_catalog.specs.{Costs.Costs, Moves.Loses}
use Rattle.triple_catalog.proofs.catalog.Catalog.remove_all.Given as goal

abbrev pub invariant-loop-triple : goal.invariant-loop-triple
invariant-loop-triple g l = record {
  loses : Loses l.initial.self l.initial.region l.self l.region (take l.triple-index l.triples);
  cost : Costs (map.len l.initial.self.index) (map.len l.self.index) 0 l.triple-index (g.C.StepCounter.total l.initial.steps) (g.C.StepCounter.total l.steps);
}
