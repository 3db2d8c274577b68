-- None of the keys so far.
use Rattle.std.proofs.Common.{◌≡◌, [], take}
use Rattle.std.specs.FinMap as map
use Rattle.triple_catalog.specs.{Costs.Costs, Lines.sole}
use Rattle.triple_catalog.proofs.catalog.Catalog.has_sole.Given as goal

abbrev pub invariant-loop-key : goal.invariant-loop-key
invariant-loop-key g l = record {
  none : [] ≡ sole l.self (take l.key-index l.keys) l.others;
  cost : Costs (map.len l.self.index) (map.len l.self.index) 0 l.key-index (g.C.StepCounter.total l.initial.steps) (g.C.StepCounter.total l.steps);
}
