-- The texts of the triples so far.
use Rattle.std.proofs.Common.{◌≡◌, take}
use Rattle.std.specs.Prelude.{map as mapped}
use Rattle.std.specs.List.{All}
use Rattle.triple_catalog.specs.Slots.{HasCanonicalTexts, triple_at, triple_of}
use Rattle.triple_catalog.proofs.catalog.Catalog.texts_of.Given as goal

abbrev pub invariant-loop-key : goal.invariant-loop-key
invariant-loop-key l = (mapped triple_of l.rows.items ≡ mapped (triple_at l.self.pool l.region) (take l.key-index l.keys)) × All HasCanonicalTexts l.rows.items
