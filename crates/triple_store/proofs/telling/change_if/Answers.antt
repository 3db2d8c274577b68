-- Triples came or are gone exactly where keys did.
use Rattle.std.proofs.Common.{◌∙◌}
use Rattle.triple_catalog.specs.Lines.{sole}
use Rattle.triple_store.proofs.Somes.{some_change}
use Rattle.triple_store.proofs.telling.change_if.Goals as goal

pub returns-in-Whether-clause-lines : goal.returns-in-Whether-clause-lines
returns-in-Whether-clause-lines g c = rw c.in-Whether.is (c.is_change.ensures.some ∙ some_change c.args.catalog.now c.args.region.now (sole c.args.catalog.now c.args.sides.new.now c.args.sides.old.now) (sole c.args.catalog.now c.args.sides.old.now c.args.sides.new.now))
