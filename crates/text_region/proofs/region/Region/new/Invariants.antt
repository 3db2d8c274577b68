use Rattle.text_region.proofs.Fresh.{AreFresh}
use Rattle.text_region.proofs.region.Region.new.Given as goal

abbrev pub invariant-loop-class : goal.invariant-loop-class
invariant-loop-class l = AreFresh l.shelves.items l.class
