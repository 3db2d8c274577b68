-- Each text lies in a block of its class.
use Rattle.std.proofs.Common.{subst}
use Rattle.text_region.specs.Region.{AreInTheirClass}
use Rattle.text_region.proofs.region.Region.live.Goals as goal

pub returns-clause-classes : goal.returns-clause-classes
returns-clause-classes c = subst AreInTheirClass c.self.view_is c.self.invariant.classes
