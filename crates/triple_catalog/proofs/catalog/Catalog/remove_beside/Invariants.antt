use Rattle.std.proofs.Common.{take}
use Rattle.std.specs.FinMap as map
use Rattle.sorted_sets.specs.Rising.{difference}
use Rattle.slot_keys.specs.Keys.{key_cmp}
use Rattle.triple_catalog.specs.{Costs.Costs, Moves.Removes}
use Rattle.triple_catalog.proofs.catalog.Catalog.remove_beside.Given as goal

abbrev pub invariant-loop-key : goal.invariant-loop-key
invariant-loop-key g l = record {
  removes : Removes l.initial.self l.initial.region l.self l.region (difference key_cmp (take l.key-index l.keys) l.others);
  cost : Costs (map.len l.initial.self.index) (map.len l.self.index) 0 l.key-index (g.C.StepCounter.total l.initial.steps) (g.C.StepCounter.total l.steps);
}
