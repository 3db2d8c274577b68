-- The terms so far have their texts.
use Rattle.triple_catalog.specs.Ranks.{AreTextsOf}
use Rattle.triple_catalog.proofs.catalog.Catalog.terms_by_text.Given as goal

abbrev pub invariant-loop-slot : goal.invariant-loop-slot
invariant-loop-slot l = AreTextsOf l.self.pool l.region l.terms.items
