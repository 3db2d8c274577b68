-- Lines of triples, and the keys of the triples that have one owner.
use Rattle.std.specs.Prelude.{◌≡◌, ◌==◌, List, length, filter}
use Rattle.std.specs.List.{flat_map}
use Rattle.sorted_sets.specs.Rising.{difference}
use Rattle.rdf_term.specs.{declared.triple.Triple.Triple, Text.triple_text}
use Rattle.slot_keys.specs.{declared.key.Key.Key, Keys.key_cmp}
use Rattle.slot_index.specs.Counts as keyed
use Rattle.triple_catalog.specs.{declared.catalog.Catalog.Catalog, declared.lines.TripleLines.TripleLines}

-- the lines of the triples, and how many they are
pub record AreLinesOf (lines : TripleLines) (triples : List Triple) : Type 0 where
  pub count : lines.count ≡ length triples
  pub text : lines.text.items ≡ flat_map triple_text triples

-- the keys with one owner, but for those that are among others
abbrev pub sole : Catalog → List Key → List Key → List Key
sole store keys others = filter (λ key. keyed.count_of store.index key == 1) (difference key_cmp keys others)
